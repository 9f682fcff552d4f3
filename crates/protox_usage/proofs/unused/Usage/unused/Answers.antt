use Rattle.std.proofs.Common.{◌≡◌, ◌∙◌, ℕ, Bool, false, List, None, Option, Some, Vec, Global, ap, filter, get_or, length, replicate, subst, sym}
use Rattle.std.specs.Prelude.{slice_get}
use Rattle.std.specs.List.{range_with_len}
use Rattle.std.proofs.lemmas.Option.{slice_get-get_or}
use Rattle.std.proofs.lemmas.Result.{IfOk-weaker}
use Rattle.protox_descriptor.specs.declared.descriptor.FileDescriptorProto.{FileDescriptorProto}
use Rattle.protox_imports.specs.declared.imports.Imports.{Imports}
use Rattle.protox_link.specs.Known.{IsKnownOf}
use Rattle.protox_link.specs.Resolver.{IsOfFile}
use Rattle.protox_name_tree.specs.Tree.{IsNameTree}
use Rattle.protox_symbols.specs.Symbols.{Table}
use Rattle.protox_symbols.specs.Things.{table_of}
use Rattle.protox_usage.proofs.Telling.{none_of_none, told}
use Rattle.protox_usage.proofs.Uses.{AreFound, all_noted, found_unused, named_in_rows}
use Rattle.protox_usage.specs.Known.{is_not_found}
use Rattle.protox_usage.specs.Lookups.{lookups_in_file}
use Rattle.protox_usage.specs.Unused.{AreUnused, is_unused}
use Rattle.protox_views.specs.FilesOf.{seen_packages}
use Rattle.protox_usage.proofs.unused.Usage.unused.Goals as goal

pub returns-then-is_empty : goal.returns-then-is_empty
returns-then-is_empty c =
    let files = c.self.inside.files.now in
    let names = c.in-Some-2.names in
    let known : IsKnownOf files c.resolver-resolver.result.now = subst (IsKnownOf files) (sym c.resolver-resolver.ensures) c.self.invariant.known_of in
    let of_file : IsOfFile files c.args.number names = rw c.in-Some-2.is at (c.in_ok-names.ensures files known) in
    let packages = seen_packages names.sees names.packages.now in
    let file = c.in-Some.file.now in
    let there : slice_get files c.args.number ≡ Some file = slice_get-get_or files c.args.number file c.in-Some.ensures.lookup.3.0 ∙ ap Some (sym c.in-Some.ensures.lookup.1) in
    subst (λ (fs : List FileDescriptorProto). AreUnused fs c.args.number c.new-then-is_empty.result.items) c.self.view_is
    (told files c.args.number file c.new-then-is_empty.result.items there (record {
      order = c.self.invariant.order;
      sees = names.sees;
      packages = packages;
      in_order = c.self.invariant.in_order;
      seen_by = of_file.seen;
      are = c.new-then-is_empty.ensures.items ∙ none_of_none (is_unused files c.self.invariant.order names.sees packages file) file.dependency c.is_empty.result c.is_empty.ensures c.if-is_empty.true;
    }))

pub returns : goal.returns
returns c =
    let files = c.self.inside.files.now in
    let names = c.in-Some-2.names in
    let known : IsKnownOf files c.resolver-resolver.result.now = subst (IsKnownOf files) (sym c.resolver-resolver.ensures) c.self.invariant.known_of in
    let of_file : IsOfFile files c.args.number names = rw c.in-Some-2.is at (c.in_ok-names.ensures files known) in
    let packages = seen_packages names.sees names.packages.now in
    let file = c.in-Some.file.now in
    let there : slice_get files c.args.number ≡ Some file = slice_get-get_or files c.args.number file c.in-Some.ensures.lookup.3.0 ∙ ap Some (sym c.in-Some.ensures.lookup.1) in
    let order = c.self.invariant.order in
    let first = c.self.inside.first.items in
    let found = c.in_ok-found.found in
    let view = c.view-view.result in
    let lookups = lookups_in_file file in
    let none = replicate (length files) false in
    let are : AreFound files order names.sees packages first file found = record {
      tree = subst (λ (t : Table). IsNameTree t.names) of_file.table c.len-count.ensures.tree;
      are_first = c.self.invariant.are_first;
      used =
          c.in_ok-found.ensures.used
          ∙ ap (λ (t : Table). all_noted t view.sees.now view.packages (λ m. get_or c.as_slice.result.now m None) none lookups) (c.view-view.ensures.table ∙ of_file.table)
          ∙ ap (λ (s : List Bool). all_noted (table_of files) s view.packages (λ m. get_or c.as_slice.result.now m None) none lookups) c.view-view.ensures.sees
          ∙ ap (λ (p : List Bool). all_noted (table_of files) names.sees p (λ m. get_or c.as_slice.result.now m None) none lookups) c.view-view.ensures.packages
          ∙ ap (λ (f : List (Option ℕ)). all_noted (table_of files) names.sees packages (λ m. get_or f m None) none lookups) c.as_slice.ensures.value;
      guesses = c.in_ok-found.ensures.guesses;
    } in
    IfOk-weaker c.not_found.result _ _ (λ (unused : Vec ℕ Global) is.
    subst (λ (fs : List FileDescriptorProto). AreUnused fs c.args.number unused.items) c.self.view_is
    (told files c.args.number file unused.items there (record {
      order = order;
      sees = names.sees;
      packages = packages;
      in_order = c.self.invariant.in_order;
      seen_by = of_file.seen;
      are = found_unused files order names.sees packages first file found c.named.result.now unused.items are
          (c.named.ensures ∙ named_in_rows files c.imports.result.now.files c.args.number file (ap (λ (i : Imports). i.files) c.imports.ensures ∙ known.rows) there)
          (is ∙ ap (λ (fs : List FileDescriptorProto). filter (is_not_found fs file c.named.result.now found) (range_with_len 0 (length c.named.result.now))) (sym c.self.view_is));
    })))
    c.not_found.ensures

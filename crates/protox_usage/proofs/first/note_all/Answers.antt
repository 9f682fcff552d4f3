use Rattle.std.proofs.Common.{◌≡◌, ◌∙◌, ◌<◌, ℕ, Option, None, Some, ap, cond, get_or, length, sym}
use Rattle.std.specs.Prelude.{slice_get}
use Rattle.std.specs.Option.{option_or}
use Rattle.std.proofs.lemmas.Bool.{ltb-false}
use Rattle.std.proofs.lemmas.List.{get_or_default}
use Rattle.std.proofs.lemmas.Option.{slice_get-get_or, slice_get_past}
use Rattle.protox_descriptor.specs.declared.descriptor.FileDescriptorProto.{FileDescriptorProto}
use Rattle.protox_name_tree.specs.Tree.{number_of}
use Rattle.protox_symbols.specs.Symbols.{Table}
use Rattle.protox_symbols.specs.Things.{table_of}
use Rattle.protox_usage.proofs.Packages.{no_file, one_file}
use Rattle.protox_views.specs.Packages.{is_on_the_way}
use Rattle.protox_walk.specs.Declarations.{text_of}
use Rattle.protox_usage.proofs.first.note_all.Goals.{in-Some, in_default}
use Rattle.protox_usage.proofs.first.note_all.Goals as goal

pub loop-number-preserved : goal.loop-number-preserved
loop-number-preserved c =
    let files = c.args.files.now in
    let order = c.args.order.now in
    let i = c.loop-number.number-index in
    let x = get_or order i 0 in
    let here : x ≡ get_or order i x = get_or_default order i 0 x c.loop-number-test.true in
    let there : (file : FileDescriptorProto) → x < length files → file ≡ get_or files x file → slice_get files x ≡ Some file = λ file below is. slice_get-get_or files x file below ∙ ap Some (sym is) in
    elim c.match-get.branch [
      | in-Some w ↦
          let named : w.find-package.result ≡ number_of (table_of files).names (text_of w.in-Some.file.now.«package») =
          w.find-package.ensures
          ∙ ap (number_of c.args.symbols.now.names) (w.text_of.ensures ∙ ap text_of w.as_ref.ensures.value)
          ∙ ap (λ (t : Table). number_of t.names (text_of w.in-Some.file.now.«package»)) c.requires.table in
          rw w.first-is (one_file files order i x c.loop-number.first w.in-Some.file.now w.note.new.first c.loop-number-test.true here (there w.in-Some.file.now w.in-Some.ensures.lookup.3.0 w.in-Some.ensures.lookup.1) c.loop-number.invariant w.note.ensures.len
          (λ n below. w.note.ensures.noted n below
          ∙ ap (λ (t : Table). option_or (get_or c.loop-number.first n None) (cond (is_on_the_way t.names n w.find-package.result) (Some x) None)) c.requires.table
          ∙ ap (λ (o : Option ℕ). option_or (get_or c.loop-number.first n None) (cond (is_on_the_way (table_of files).names n o) (Some x) None)) named))
      | in_default w ↦ rw w.first-is (no_file files order i x c.loop-number.first c.loop-number-test.true here (slice_get_past files x (ltb-false x (length files) (sym w.in_default.ensures.lookup.0))) c.loop-number.invariant)
    ]

-- Two views of what a file sees show the same.
use Rattle.std.proofs.Common.{◌≡◌, ℕ, Bool, List, ◌∙◌, subst, sym}
use Rattle.protox_descriptor.specs.declared.descriptor.FileDescriptorProto.{FileDescriptorProto}
use Rattle.protox_file_options.proofs.Lemmas.{ShowTheSame}
use Rattle.protox_link.proofs.Lemmas.{same_marks, same_packages}
use Rattle.protox_link.specs.Seen.{IsSeenBy}
use Rattle.protox_set_options.specs.Read.{IsViewOf}
use Rattle.protox_views.specs.FilesOf.{seen_packages}
use Rattle.protox_views.specs.declared.view.View.{View}

pub same_views : (files : List FileDescriptorProto) (number : ℕ) (here there : View) → IsViewOf files number here → IsViewOf files number there
    → ShowTheSame here there
same_views files number here there a b =
    let mine = seen_packages a.names.sees a.names.packages.now in
    let theirs = seen_packages b.names.sees b.names.packages.now in
    let marks : a.names.sees ≡ b.names.sees = same_marks files number a.names.sees b.names.sees mine theirs a.of_file.seen b.of_file.seen in
    record {
      symbols = a.table ∙ (a.of_file.table ∙ sym (b.table ∙ b.of_file.table));
      sees = a.sees ∙ (marks ∙ sym b.sees);
      packages = a.packages
          ∙ (same_packages files number b.names.sees mine theirs (subst (λ (sees : List Bool). IsSeenBy files number sees mine) marks a.of_file.seen)
          b.of_file.seen a.of_file.as_many b.of_file.as_many ∙ sym b.packages);
    }

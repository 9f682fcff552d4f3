-- Linking keeps all that it doesn't set, of each file.
use Rattle.std.proofs.Common.{◌+◌, ◌∙◌, ℕ, List, [], ◌∷◌, ap, map}
use Rattle.protox_descriptor.specs.declared.descriptor.FileDescriptorProto.{FileDescriptorProto}
use Rattle.protox_link.proofs.Seeing.{split_linked}
use Rattle.protox_link.specs.Files.{AreLinked}
use Rattle.protox_link.specs.Link.{AreKept}
use Rattle.protox_linked.proofs.Lemmas.{file_is_kept}
use Rattle.protox_linked.specs.Kept.{file_kept}
use Rattle.protox_symbols.specs.Things.{table_of}
use Rattle.protox_views.specs.Views.{meaning}

module _ (all : List FileDescriptorProto) where
  pub are_kept : (files : List FileDescriptorProto) (n : ℕ) (made : List FileDescriptorProto) → AreLinked all n files made → AreKept files made
  are_kept [] n made linked = ap (map file_kept) (split_linked all n [] made linked)
  are_kept (file ∷ more) n made linked =
      let parts = split_linked all n (file ∷ more) made linked in
      ap (map file_kept) parts.5
      ∙ (λ i. file_is_kept (meaning (table_of all) parts.0 parts.1) file i ∷ are_kept more (n + 1) parts.2 parts.4 i)

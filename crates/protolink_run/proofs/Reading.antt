-- One file more that was read.
use Rattle.std.proofs.Common.{◌≡◌, ℕ, List, [], ◌∷◌, ◌++◌, sym, subst}
use Rattle.std.proofs.lemmas.List.Elements.{All-push}
use Rattle.std.specs.Prelude.{All}
use Rattle.protox_descriptor.specs.declared.descriptor.FileDescriptorProto.{FileDescriptorProto}
use Rattle.protox_parse.specs.Files.{IsTranslation}
use Rattle.protolink_run.specs.Outcomes.{IsReadFile}

module _ {H : Type 0} (holds : H → List ℕ → List ℕ → Type 0) (host : H) where
  pub one_more : (files more : List FileDescriptorProto) (file : FileDescriptorProto) (name path text : List ℕ) → All (IsReadFile holds host) files
      → more ≡ files ++ file ∷ [] → holds host path text → IsTranslation name text file → All (IsReadFile holds host) more
  one_more files more file name path text read is held translated =
      let last : IsReadFile holds host file = (name, record { path = path; text = text; held = held; translated = translated }) in
      subst (All (IsReadFile holds host)) (sym is) (All-push (IsReadFile holds host) files file read last)

-- What is said of the translation of a syntax tree is said of the tree that it is of.
use Rattle.std.proofs.Common.{◌≡◌, ℕ, List, [], ◌∷◌, length, Result, Ok, Err, IfOk, MatchResult, refl, ap, sym, subst, ◌∙◌}
use Rattle.std.proofs.lemmas.Result.{IfOk-weaker}
use Rattle.std.specs.Prelude.{◌≢◌}
use Rattle.protox_ast.specs.Accepted.{IsAccepted, IsFileOf}
use Rattle.protox_ast.specs.Ast as ast
use Rattle.protox_ast.specs.Keywords.{Each}
use Rattle.protox_ast.specs.Places.{Place}
use Rattle.protox_ast.specs.Tree as t
use Rattle.protox_ast.specs.declared.ast.File.{File}
use Rattle.protox_descriptor.specs.declared.descriptor.FileDescriptorProto.{FileDescriptorProto}
use Rattle.protox_checks.specs.Checks.{AreListed}
use Rattle.protox_checks.specs.Faults.{IsFaultless, Wrong}
use Rattle.protox_generate.specs.File.{AreListedAll, file_descriptor}
use Rattle.protox_fault.specs.declared.error.ParseErrorKind.{ParseErrorKind}
use Rattle.protox_fault.specs.declared.error.SyntaxFailure.{SyntaxFailure}
use Rattle.protox_fault.specs.declared.error.SyntaxFailure.TheVariants as failure
use Rattle.protox_parse.specs.Failures.{IsOutOfMemory}
use Rattle.protox_parse.specs.FaultLists.{AreListedOf, HasFaultsOf}
use Rattle.protox_parse.specs.Files.{IsTranslation}
use Rattle.protox_parse.specs.declared.failure.ParseFailure.{ParseFailure}
use Rattle.protox_parse.specs.declared.failure.ParseFailure.TheVariants.{Refused, OutOfMemory}
use Rattle.protox_syntax.proofs.Lemmas.{one-accepted}

-- the file of a source is that of each tree with which it is accepted
pub same_file : (source : List ℕ) (file : File) (f : t.File Place) → IsFileOf source file → IsAccepted source f → file ≡ ast.file (length source) f
same_file source file f is accepted = is.2 ∙ ap (ast.file (length source)) (one-accepted source is.0 f is.1 accepted)

abbrev Translated : List ℕ → List ℕ → File → FileDescriptorProto → Type 0
Translated name source file d = IsFaultless file × (d ≡ file_descriptor name source file)

-- `whole` is the descriptor that an answer stands for.
module _ {A : Type 0} (whole : A → FileDescriptorProto) (name source : List ℕ) (file : File) (r : Result A ParseFailure) (of_source : IsFileOf source file) where
  translation : (x : A) → Translated name source file (whole x) → IsTranslation name source (whole x)
  translation x h = (of_source.0, of_source.1, subst IsFaultless of_source.2 h.0, h.1 ∙ ap (file_descriptor name source) of_source.2)

  pub found : IfOk r (λ x. Translated name source file (whole x)) → IfOk r (λ x. IsTranslation name source (whole x))
  found = IfOk-weaker r (λ x. Translated name source file (whole x)) (λ x. IsTranslation name source (whole x)) translation

abbrev Only : {A : Type 0} → (A → FileDescriptorProto) → List ℕ → List ℕ → File → Result A ParseFailure → Type 0
Only whole name source file r = MatchResult r (λ x. whole x ≡ file_descriptor name source file) IsOutOfMemory

pub only : {A : Type 0} (whole : A → FileDescriptorProto) (name source : List ℕ) (file same : File) (r : Result A ParseFailure) → IsFileOf source file → file ≡ same → IsFaultless same
    → IfOk r (λ x. Translated name source file (whole x)) → (IsFaultless file → Only whole name source file r) → MatchResult r (λ x. IsTranslation name source (whole x)) IsOutOfMemory
only whole name source file same (Err e) its is none ok h = h (subst IsFaultless (sym is) none)
only whole name source file same (Ok x) its is none ok h = found whole name source file (Ok x) its ok

-- A file with which nothing is wrong has no list of what is.
pub none-wrong : (file : File) (faults : List ParseErrorKind) → faults ≢ [] → Each (Wrong file) faults → IsFaultless file → ⊥
none-wrong file [] some each none = some refl
none-wrong file (wrong ∷ more) some each none = none wrong each.0

-- A refusal that has the faults of a failure has those of the file.
pub has_listed : (file : File) (e : SyntaxFailure) (r : ParseFailure) → HasFaultsOf e r → AreListedAll file e → AreListedOf file r
has_listed file e OutOfMemory same h = tt
has_listed file failure.OutOfMemory (Refused x) same h = absurd same
has_listed file (failure.Faults v) (Refused x) same h = subst (AreListed file) (sym same) h

-- What is said of the faults of a failure is said of the refusal for it; and of the generator's faults, and that the source is too large.
use Rattle.std.proofs.Common.{◌≡◌, Bool, false, inl, inr, ℕ, List, [], ◌∷◌, Option, Some, None, refl, sym, subst}
use Rattle.std.proofs.lemmas.Bool.{false≢true}
use Rattle.std.specs.Prelude.{IfSome, IsTrue}
use Rattle.protox_fault.specs.declared.error.ParseErrorKind.{ParseErrorKind}
use Rattle.protox_fault.specs.declared.error.ParseErrorKind.TheVariants.{FileTooLarge}
use Rattle.protox_fault.specs.declared.error.SyntaxFailure.{SyntaxFailure}
use Rattle.protox_fault.specs.declared.error.SyntaxFailure.TheVariants as failure
use Rattle.protox_lexeme.specs.Lexemes.{cut}
use Rattle.protox_ast.specs.Accepted.{Fits, IsFileOf}
use Rattle.protox_ast.specs.Basics.{Each, first_of}
use Rattle.protox_ast.specs.FaultList.{AreFaultsOf, StandIn}
use Rattle.protox_ast.specs.FirstFault.{IsFirstFault}
use Rattle.protox_ast.specs.declared.ast.File.{File}
use Rattle.protox_checks.specs.Faults.{Wrong}
use Rattle.protox_checks.proofs.Lemmas.{all-plain, plain-stand}
use Rattle.protox_parse.specs.Answers.{HasFailureLaws}
use Rattle.protox_parse.specs.Failures.{AreWrongOf, IsOutOfMemory, IsRefusalOf}
use Rattle.protox_parse.specs.FaultLists.{AreAllFound, AreLexicalAlone, AreListedOf, AreStanding, ExpectsTruly, HasFaultsOf, NoCheckIsLost}
use Rattle.protox_parse.specs.FirstFault.{BeginsWithFirst, IsFirstOfSource}
use Rattle.protox_parse.specs.Refusal.{Refusal}
use Rattle.protox_parse.specs.declared.failure.ParseFailure.{ParseFailure}
use Rattle.protox_parse.specs.declared.failure.ParseFailure.TheVariants.{Refused, OutOfMemory}
use Rattle.protox_syntax.specs.AllFaults.{AreAllFaults}
use Rattle.protox_syntax.specs.ExpectedWords as words
use Rattle.protox_syntax.specs.FirstFaults as syntax
use Rattle.protox_syntax.specs.FoundFaults as found
use Rattle.protox_syntax.specs.LostChecks as lost
use Rattle.protox_syntax.specs.LostChecks.{NoneIsLost}
use Rattle.protox_syntax.specs.LexicalFaults as lexical
use Rattle.protox_syntax.specs.StandingFaults as standing

if-more : {A : Type 0} (P Q : A → Type 0) (o : Option A) → ((x : A) → P x → Q x) → IfSome o P → IfSome o Q
if-more P Q None h k = tt
if-more P Q (Some x) h k = h x k

-- ---- whether a source fits

pub not_fitting : (fits : Bool) (source : List ℕ) → (Fits source → IsTrue fits) → fits ≡ false → Fits source → ⊥
not_fitting fits source says none it = false≢true (subst IsTrue none (says it))

-- ---- all faults of a syntax tree

-- Where memory ran out there is no list.
pub none_listed : (file : File) (e : ParseFailure) → IsOutOfMemory e → AreListedOf file e
none_listed file OutOfMemory h = tt
none_listed file (Refused e) h = absurd h

-- what reading says of its faults
pub record FaultLaws (source : List ℕ) (e : SyntaxFailure) : Type 0 where
  pub first : syntax.BeginsWithFirst source e
  pub stands : standing.AreStanding source e
  pub lexical : lexical.AreLexicalAlone source e
  pub all_found : found.AreAllFound source e
  pub no_check_lost : lost.NoCheckIsLost source e
  pub words : words.ExpectsTruly source e

module _ (source : List ℕ) where
  -- ---- the faults of reading

  read-first : (e : SyntaxFailure) (r : ParseFailure) → HasFaultsOf e r → syntax.BeginsWithFirst source e → BeginsWithFirst source r
  read-first e OutOfMemory same h = tt
  read-first failure.OutOfMemory (Refused x) same h = absurd same
  read-first (failure.Faults v) (Refused x) same h =
      subst (λ errors. IfSome (first_of errors) (IsFirstOfSource source)) (sym same) (if-more (IsFirstFault (cut 0 source)) (IsFirstOfSource source) (first_of v.items) (λ f k. inr (inl k)) h)

  read-stand : (e : SyntaxFailure) (r : ParseFailure) → HasFaultsOf e r → standing.AreStanding source e → AreStanding source r
  read-stand e OutOfMemory same h = tt
  read-stand failure.OutOfMemory (Refused x) same h = absurd same
  read-stand (failure.Faults v) (Refused x) same h = subst (StandIn (cut 0 source)) (sym same) h

  read-lexical : (e : SyntaxFailure) (r : ParseFailure) → HasFaultsOf e r → lexical.AreLexicalAlone source e → AreLexicalAlone source r
  read-lexical e OutOfMemory same h = tt
  read-lexical failure.OutOfMemory (Refused x) same h = absurd same
  read-lexical (failure.Faults v) (Refused x) same h = λ fits f spelled deep nothing valid unclean. subst (AreFaultsOf (cut 0 source)) (sym same) (h f spelled deep nothing valid)

  read-all : (e : SyntaxFailure) (r : ParseFailure) → HasFaultsOf e r → found.AreAllFound source e → AreAllFound source r
  read-all e OutOfMemory same h = tt
  read-all failure.OutOfMemory (Refused x) same h = absurd same
  read-all (failure.Faults v) (Refused x) same h = λ fits none. subst (AreAllFaults source) (sym same) h

  read_lost : (e : SyntaxFailure) (r : ParseFailure) → HasFaultsOf e r → lost.NoCheckIsLost source e → NoCheckIsLost source r
  read_lost e OutOfMemory same h = tt
  read_lost failure.OutOfMemory (Refused x) same h = absurd same
  read_lost (failure.Faults v) (Refused x) same h = λ fits none. subst (NoneIsLost (cut 0 source)) (sym same) h

  read-words : (e : SyntaxFailure) (r : ParseFailure) → HasFaultsOf e r → words.ExpectsTruly source e → ExpectsTruly source r
  read-words e OutOfMemory same h = tt
  read-words failure.OutOfMemory (Refused x) same h = absurd same
  read-words (failure.Faults v) (Refused x) same h = λ fits none. subst (λ errors. IfSome (first_of errors) (words.HasTrueWords (cut 0 source))) (sym same) h

  -- what is said of a source that the parser refuses
  pub unread : (name : List ℕ) (e : SyntaxFailure) (r : ParseFailure) → HasFaultsOf e r → IsRefusalOf name source r
      → FaultLaws source e → HasFailureLaws name source r
  unread name e r same refusal laws = record {
    refused = refusal;
    first = read-first e r same laws.first;
    stands = read-stand e r same laws.stands;
    lexical = read-lexical e r same laws.lexical;
    all_found = read-all e r same laws.all_found;
    no_check_lost = read_lost e r same laws.no_check_lost;
    words = read-words e r same laws.words;
  }

  pub no_memory : (name : List ℕ) → HasFailureLaws name source OutOfMemory
  no_memory name = record {
    refused = tt;
    first = tt;
    stands = tt;
    lexical = tt;
    all_found = tt;
    no_check_lost = tt;
    words = tt;
  }

  -- ---- those of the generator

  first-wrong : (file : File) (errors : List ParseErrorKind) → Each (Wrong file) errors → IfSome (first_of errors) (Wrong file)
  first-wrong file [] h = tt
  first-wrong file (x ∷ xs) h = h.0

  its-tree : (file : File) → IsFileOf source file → (errors : List ParseErrorKind) → Each (Wrong file) errors → IfSome (first_of errors) (IsFirstOfSource source)
  its-tree file is errors h =
      if-more (Wrong file) (IsFirstOfSource source) (first_of errors) (λ wrong w. inr (inr (is.0, is.1, subst (λ u. Wrong u wrong) is.2 w))) (first-wrong file errors h)

  -- what is said of a source in whose tree the generator finds faults
  pub unmade : (name : List ℕ) (file : File) → IsFileOf source file → (r : ParseFailure) → IsRefusalOf name source r → AreWrongOf file r → HasFailureLaws name source r
  unmade name file is OutOfMemory refusal h = no_memory name
  unmade name file is (Refused e) refusal h = record {
    refused = refusal;
    first = its-tree file is e.errors h;
    stands = plain-stand (cut 0 source) e.errors (all-plain file e.errors h);
    lexical = λ fits f spelled deep nothing valid unclean. absurd (unclean is.1.clean);
    all_found = λ fits none. absurd (none is.0 is.1);
    no_check_lost = λ fits none. absurd (none is.0 is.1);
    words = λ fits none. absurd (none is.0 is.1);
  }

  -- ---- that the source is too large

  pub too_large : (name : List ℕ) → (Fits source → ⊥) → (e : Refusal) → e.file ≡ name → e.source ≡ [] → e.errors ≡ FileTooLarge ∷ [] → HasFailureLaws name source (Refused e)
  too_large name large e named no_text alone = record {
    refused = (named, inr (large, no_text, alone));
    first = subst (λ errors. IfSome (first_of errors) (IsFirstOfSource source)) (sym alone) (inl (large, refl));
    stands = subst (StandIn (cut 0 source)) (sym alone) (plain-stand (cut 0 source) (FileTooLarge ∷ []) (refl, tt));
    lexical = λ fits f spelled deep nothing valid unclean. absurd (large fits);
    all_found = λ fits none. absurd (large fits);
    no_check_lost = λ fits none. absurd (large fits);
    words = λ fits none. absurd (large fits);
  }

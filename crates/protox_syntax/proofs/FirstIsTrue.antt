-- The first fault of a source is true of it.
use Rattle.std.proofs.Common.{◌≡◌, inl, inr, ℕ, suc, List, [], ◌∷◌, ◌++◌, Some, sym, ap, subst}
use Rattle.protox_fault.specs.Faults.{Span, span_from}
use Rattle.protox_fault.specs.declared.error.ParseErrorKind.{ParseErrorKind}
use Rattle.protox_fault.specs.declared.error.ParseErrorKind.TheVariants as fault
use Rattle.protox_lexeme.proofs.Lemmas.{IsOwnKind, IsRowKind, kinds-of}
use Rattle.protox_lexeme.specs.Lexemes.{Lexeme, cut}
use Rattle.protox_lexeme.specs.Shapes.{Shape, Ident, Int, Float, Str, Mark, LineComment, BlockComment, Newline, Invalid}
use Rattle.protox_lexeme.specs.Table.{invalid_faults, row_faults}
use Rattle.protox_ast.specs.Basics.{Each, first_of}
use Rattle.protox_ast.specs.FirstFault.{IsFirstFault, IsFirstOfLexemes}
use Rattle.protox_ast.specs.Truth.{IsFirstOfLexeme, IsInvalidThere, IsTrueOf}
use Rattle.protox_grammar.proofs.Lemmas.{Holds, holds-any, holds-right}
use Rattle.protox_syntax.proofs.FirstFaults.{AreOfKinds, each-here}

abbrev Faults : Type 0
Faults = List ParseErrorKind

-- a list that has a first begins with it
first-begins : (fs : Faults) (f : ParseErrorKind) → first_of fs ≡ Some f → (more : Faults) × (fs ≡ f ∷ more)
first-begins [] f e = absurd cc
first-begins (g ∷ fs) f e = let same : g ≡ f = cc in (fs, ap (λ u. u ∷ fs) same)

-- the first of a row, if the lexeme isn't invalid for it
own-first : (fs : Faults) (s : Shape) (span : Span) (f : ParseErrorKind) (more : Faults) → fs ++ invalid_faults s span ≡ f ∷ more → IsOwnKind f → first_of fs ≡ Some f
own-first (g ∷ fs) s span f more e own = let same : g ≡ f = cc in ap Some same
own-first [] Invalid span f more e own = let same : fault.InvalidToken span ≡ f = cc in absurd (subst IsOwnKind (sym same) own)
own-first [] (Ident t) span f more e own = absurd cc
own-first [] (Int n) span f more e own = absurd cc
own-first [] (Float t) span f more e own = absurd cc
own-first [] (Str t) span f more e own = absurd cc
own-first [] (Mark b) span f more e own = absurd cc
own-first [] (LineComment t) span f more e own = absurd cc
own-first [] (BlockComment t) span f more e own = absurd cc
own-first [] Newline span f more e own = absurd cc

module _ (lexemes : List Lexeme) (kinds : Each AreOfKinds lexemes) where
  module _ (f : ParseErrorKind) (t : IsFirstOfLexemes lexemes f) where
    own : (more : Faults) × (row_faults t.here ≡ f ∷ more)
    own = first-begins (row_faults t.here) f t.is_first

    kind : IsRowKind t.here f
    kind = (subst (λ fs. Each (IsRowKind t.here) fs) own.1 (each-here AreOfKinds t.before t.here t.behind (subst (Each AreOfKinds) t.parts kinds))).0

    own-is-first : IsOwnKind f → first_of t.here.faults ≡ Some f
    own-is-first h = own-first t.here.faults t.here.shape (span_from t.here.start t.here.stop) f own.0 own.1 h

    of-lexeme : IsOwnKind f → IsFirstOfLexeme lexemes f
    of-lexeme h =
        let P : Lexeme → Type 0 = λ y. first_of y.faults ≡ Some f in
        holds-any P lexemes (subst (Holds P) (sym t.parts) (holds-right P t.before (t.here ∷ t.behind) (inl (own-is-first h))))

  invalid-there : (span : Span) → IsFirstOfLexemes lexemes (fault.InvalidToken span) → IsInvalidThere lexemes span
  invalid-there span t =
      let P : Lexeme → Type 0 = λ y. (y.shape ≡ Invalid) × (span ≡ span_from y.start y.stop) in
      holds-any P lexemes (subst (Holds P) (sym t.parts) (holds-right P t.before (t.here ∷ t.behind) (inl (kind _ t))))

  is-true : (f : ParseErrorKind) → IsFirstFault lexemes f → IsTrueOf lexemes f
  is-true (fault.InvalidToken span) t = invalid-there span t
  is-true (fault.IntegerOutOfRange span) t = of-lexeme _ t (kind _ t)
  is-true (fault.InvalidStringCharacters span) t = of-lexeme _ t (kind _ t)
  is-true (fault.UnterminatedString span) t = of-lexeme _ t (kind _ t)
  is-true (fault.InvalidStringEscape span) t = of-lexeme _ t (kind _ t)
  is-true (fault.NestedBlockComment span) t = of-lexeme _ t (kind _ t)
  is-true (fault.NoSpaceBetweenIntAndIdent span) t = of-lexeme _ t (kind _ t)
  is-true (fault.HashCommentOutsideTextFormat span) t =
      record { before = t.0.before; here = t.0.here; behind = t.0.behind; parts = t.0.parts; is_first = own-is-first _ t.0 (kind _ t.0); outside = t.1 }
  is-true (fault.FloatSuffixOutsideTextFormat span) t =
      record { before = t.0.before; here = t.0.here; behind = t.0.behind; parts = t.0.parts; is_first = own-is-first _ t.0 (kind _ t.0); outside = t.1 }
  is-true (fault.UnexpectedToken span expected found) t = (t.number, t.unexpected, t.place, t.text, t.significant)
  is-true (fault.UnexpectedEof expected) (inl t) = inl (t.0, of-lexeme _ t.1 (kind _ t.1))
  is-true (fault.UnexpectedEof expected) (inr t) = inr (t.0, t.1.ended)
  is-true (fault.UnknownSyntax span value) t = (suc t.number, t.is_wrong)
  is-true (fault.InvalidUtf8String span) t = (suc t.number, t.is_wrong)
  is-true (fault.InvalidImport span) t = (suc t.number, t.is_wrong)
  is-true (fault.InvalidIdentifier span) t = (suc t.number, t.is_wrong)
  is-true (fault.InvalidGroupName span) t = (suc t.number, t.is_wrong)
  is-true (fault.DuplicatePackage first second) t = (suc t.number, t.is_wrong)
  is-true (fault.MessageNestingTooDeep span) t = (suc t.number, t.is_wrong)
  is-true _ t = absurd t

pub first_faults_are_true : (source : List ℕ) (wrong : ParseErrorKind) → IsFirstFault (cut 0 source) wrong → IsTrueOf (cut 0 source) wrong
first_faults_are_true source wrong h = is-true (cut 0 source) (kinds-of source) wrong h

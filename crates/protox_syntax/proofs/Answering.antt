-- What is answered of a source that is read part by part.
use Rattle.std.proofs.Common.{◌≡◌, ℕ, true, List, [], ◌∷◌, ◌++◌, length, Option, None, Some, Result, Ok, Err, inl, refl, sym, ap, subst, ◌∙◌, append-nil, append_assoc}
use Rattle.std.specs.List.{FoldsTo}
use Rattle.std.specs.Prelude.{IfErr, IfOk, MatchResult}
use Rattle.std.specs.Str.{IsUtf8}
use Rattle.std.specs.Global.{Vec}
use Rattle.protox_fault.specs.declared.error.ParseErrorKind.{ParseErrorKind}
use Rattle.protox_fault.specs.declared.error.SyntaxFailure.{SyntaxFailure}
use Rattle.protox_fault.specs.declared.error.SyntaxFailure.TheVariants.{Faults}
use Rattle.protox_ast.specs.Accepted.{Fits, IsAccepted, IsFileOf, IsOutOfMemory}
use Rattle.protox_ast.specs.Ast as ast
use Rattle.protox_ast.specs.Places.{Place}
use Rattle.protox_ast.specs.Tree as tree
use Rattle.protox_ast.specs.declared.ast.File.{File}
use Rattle.protox_ast.specs.declared.ast.FileItem.{FileItem}
use Rattle.protox_ast.specs.declared.ast.Syntax.{Syntax}
use Rattle.protox_lexeme.specs.Lexemes.{cut}
use Rattle.protox_fault.specs.Faults.{Span}
use Rattle.protox_syntax.proofs.AllFound.{invalid-all}
use Rattle.protox_syntax.proofs.Invalid.{invalid-parsed}
use Rattle.protox_syntax.proofs.Accepts.{one-accepted, parsed-found, parsed-only}
use Rattle.protox_syntax.proofs.Opening.{fresh}
use Rattle.protox_syntax.proofs.RightFiles.{right-begun}
use Rattle.protox_syntax.specs.NextStatement.{IsNextSyntax}
use Rattle.protox_syntax.specs.TakenItems.{IsTakenFrom}
use Rattle.protox_syntax.specs.declared.parts.Progress.{Progress}
use Rattle.protox_syntax.specs.inner.Front.{IsRefusedFirst}
use Rattle.protox_syntax.specs.inner.OnWay.{table_in}
use Rattle.protox_syntax.specs.inner.ParsedTable.{IsTableOf, ParsesTable, RefusesTable}
use Rattle.protox_syntax.specs.inner.Parts.{IsAll, IsBetween, no_file}
use Rattle.protox_syntax.specs.inner.ReadInto.{IsReadInto}
use Rattle.protox_syntax.specs.inner.SoFar.{IsRightSoFar, begun}
use Rattle.protox_syntax.specs.inner.Statements.{statements_seen}

-- ---- before the first part

-- no syntax statement, where nothing is left
no-syntax : IsNextSyntax [] [] None
no-syntax = record { it = None; rows = refl; seen = refl; fine = λ keyword. tt; no_package = refl; absent = λ none begins. absurd cc }

right : IsRightSoFar None (begun None)
unfolding no-syntax
right = right-begun [] [] None no-syntax

pub between-none : (source : List ℕ) → IsBetween source (record { start = length source; last = None }) [] no_file
between-none source = record {
  f = begun None;
  first = true;
  read = [];
  left = cut 0 source;
  all = refl;
  flawless = tt;
  whole = refl;
  reached = record { right = right; syntax_span = refl; held = record { syntax_is = refl; package_is = refl; imports = refl; options = refl; items = refl } };
  noted = inl (refl, refl, refl, refl, refl);
}

-- ---- the items that are handed over

-- a fold behind another
pub folds-append : {V X : Type 0} (gives : V → X → V → Type 0) (a : V) (xs : List X) (b : V) (ys : List X) (c : V) → FoldsTo gives a xs b → FoldsTo gives b ys c → FoldsTo gives a (xs ++ ys) c
folds-append {V = V} gives a [] b ys c p q = subst (λ (v : V). FoldsTo gives v ys c) (sym p) q
folds-append gives a (x ∷ xs) b ys c p q = (p.0, p.1, folds-append gives p.0 xs b ys c p.2 q)

parted : {A : Type 0} (xs ys : List A) → xs ++ ys ≡ [] → xs ≡ []
parted [] ys e = refl
parted (x ∷ xs) ys e = absurd cc

module _ {T : Type 0} (takes : Syntax → T → FileItem → T → Type 0) where
  none-taken : (a b : Syntax) (old : T) (gone : List FileItem) (new : T) → gone ≡ [] → FoldsTo (takes a) old gone new → FoldsTo (takes b) old gone new
  none-taken a b old [] new none folds = folds
  none-taken a b old (x ∷ gone) new none folds = absurd cc

  -- a part more is handed over
  pub taken-more : (source : List ℕ) (progress : Progress) (gone : List FileItem) (head now : File) (start old new : T) → IsBetween source progress gone head → ((progress.last ≡ None → ⊥) → now.syntax ≡ head.syntax)
      → FoldsTo (takes head.syntax) start gone old → FoldsTo (takes now.syntax) old now.items new → FoldsTo (takes now.syntax) start (gone ++ now.items) new
  taken-more source progress gone head now start old new between same before more =
      folds-append (takes now.syntax) start gone old now.items new (by progress.last refl) more
    where
      by : (o : Option Span) → progress.last ≡ o → FoldsTo (takes now.syntax) start gone old
      by None none =
          let f = (fresh source progress gone head between none).1 in
          let items = between.reached.held.items in
          none-taken head.syntax now.syntax start gone old (parted gone head.items (sym items ∙ ap (λ (g : tree.File Place). (statements_seen g.statements).items) f)) before
      by (Some span) some = subst (λ s. FoldsTo (takes s) start gone old) (sym (same (λ none. let e = sym some ∙ none in absurd cc))) before

  pub read-into : (source : List ℕ) (gone : List FileItem) (head : File) (start new : T) → IsAll source gone head → FoldsTo (takes head.syntax) start (gone ++ head.items) new → IsReadInto takes source (record head { items = [] }) start new
  read-into source gone head start new all folds = record {
    f = all.0;
    whole = all.1;
    head_is = ap (λ (h : File). record h { items = [] }) all.2;
    taken = subst (λ l. FoldsTo (takes head.syntax) start l new) (ap (λ (h : File). h.items) all.2) folds;
  }

-- The items that were handed over are gone from the head.
pub between-handed : (source : List ℕ) (progress : Progress) (gone : List FileItem) (head : File) → IsBetween source progress gone head → IsBetween source progress (gone ++ head.items) (record head { items = [] })
between-handed source progress gone head b =
    let held = b.reached.held in
    record {
      f = b.f;
      first = b.first;
      read = b.read;
      left = b.left;
      all = b.all;
      flawless = b.flawless;
      whole = b.whole;
      reached = record {
        right = b.reached.right;
        syntax_span = b.reached.syntax_span;
        held = record { syntax_is = held.syntax_is; package_is = held.package_is; imports = held.imports; options = held.options; items = held.items ∙ sym (append-nil (gone ++ head.items)) };
      };
      noted = b.noted;
    }

-- ---- answers

module _ (source : List ℕ) where
  -- What holds of each refusal that parsing gives holds of this one.
  pub refused-by : (r : Result File SyntaxFailure) (P : SyntaxFailure → Type 0) → IfErr r (RefusesTable (table_in source) (length source)) → ((r : Result File SyntaxFailure) → ParsesTable (table_in source) (length source) r → IfErr r P) → IfErr r P
  refused-by (Ok head) P h by = tt
  refused-by (Err e) P h by = by (Err e) h

  module _ {T : Type 0} (takes : Syntax → T → FileItem → T → Type 0) (old new : T) where
    pub taken-from : Fits source → (r : Result File SyntaxFailure) → IfOk r (λ head. IsReadInto takes source head old new) → IfOk r (λ head. IsTakenFrom takes source head old new)
    taken-from short (Err e) h = tt
    taken-from short (Ok head) h = record {
      file = ast.file (length source) h.f;
      of_source = parsed-found source short (Ok (ast.file (length source) h.f)) (h.f, h.whole, refl);
      head_is = h.head_is;
      taken = h.taken;
    }

    pub only-head : (r : Result File SyntaxFailure) → IfOk r (λ head. IsReadInto takes source head old new) → IfErr r (RefusesTable (table_in source) (length source)) → (f : tree.File Place) → IsAccepted source f
        → MatchResult r (λ head. head ≡ record (ast.file (length source) f) { items = [] }) IsOutOfMemory
    only-head (Err e) h refused f accepted = parsed-only source (Err e) refused f accepted
    only-head (Ok head) h refused f accepted = h.head_is ∙ ap (λ (v : File). record v { items = [] }) (parsed-only source (Ok (ast.file (length source) h.f)) (h.f, h.whole, refl) f accepted)

-- ---- items in a list

abbrev Pushes : Syntax → List FileItem → FileItem → List FileItem → Type 0
Pushes syntax old item new = new ≡ old ++ item ∷ []

pub listed : (syntax : Syntax) (old items new : List FileItem) → FoldsTo (Pushes syntax) old items new → new ≡ old ++ items
listed syntax old [] new folds = sym folds ∙ sym (append-nil old)
listed syntax old (x ∷ items) new folds = listed syntax folds.0 items new folds.2 ∙ ap (λ l. l ++ items) folds.1 ∙ append_assoc old (x ∷ []) items

-- A source that begins with an invalid character is refused there.
pub front-refused : (source : List ℕ) → IsUtf8 source → Fits source → (v : Vec ParseErrorKind) → IsRefusedFirst (table_in source) v.items → RefusesTable (table_in source) (length source) (Faults v)
front-refused source u short v front =
    let tab : IsTableOf (length source) (table_in source) = (source, u, refl, refl, short) in
    let j = invalid-parsed (table_in source) (length source) tab _ _ v.items refl refl front.0 front.1 in
    (j.0, j.1, j.2, j.3, invalid-all (table_in source) _ _ v.items refl refl front.0 front.1)

module _ (source : List ℕ) (head : File) (start new : List FileItem) (none : start ≡ []) (h : IsTakenFrom Pushes source head start new) where
  whole-is : record head { items = new } ≡ h.file
  whole-is = (λ i. record (h.head_is i) { items = new }) ∙ ap (λ l. record h.file { items = l }) (listed head.syntax start h.file.items new h.taken ∙ ap (λ l. l ++ h.file.items) none)

  -- The head with the items of the list is the syntax tree.
  pub listed-file : IsFileOf source (record head { items = new })
  listed-file = subst (IsFileOf source) (sym whole-is) h.of_source

  pub listed-only : (f : tree.File Place) → IsAccepted source f → record head { items = new } ≡ ast.file (length source) f
  listed-only f accepted = whole-is ∙ h.of_source.2 ∙ ap (ast.file (length source)) (one-accepted source h.of_source.0 f h.of_source.1 accepted)

pub if-ok : {X E : Type 0} {P Q : X → Type 0} → ((x : X) → P x → Q x) → (r : Result X E) → IfOk r P → IfOk r Q
if-ok f (Ok x) h = f x h
if-ok f (Err e) h = tt

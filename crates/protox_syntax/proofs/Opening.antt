-- How a part begins.
use Rattle.std.proofs.Common.{◌≡◌, inl, inr, ℕ, true, false, List, [], ◌∷◌, ◌++◌, length, Option, Some, None, refl, sym, ap, subst, ◌∙◌, append_assoc, arith, true≢false}
use Rattle.std.specs.Option.{is_none}
use Rattle.protox_fault.specs.Faults.{Span}
use Rattle.protox_lexeme.specs.Lexemes.{Lexeme, cut}
use Rattle.protox_lexeme.specs.Shapes.{Row, Rows}
use Rattle.protox_lexeme.specs.Table.{gaps_of, is_gap, rows_of, table_of}
use Rattle.protox_ast.specs.AstParts.{rows_span}
use Rattle.protox_ast.specs.Basics.{Each}
use Rattle.protox_ast.specs.Places.{Place, placed}
use Rattle.protox_ast.specs.Spelling as s
use Rattle.protox_ast.specs.Tree as tree
use Rattle.protox_ast.specs.declared.ast.File.{File}
use Rattle.protox_ast.specs.declared.ast.FileItem.{FileItem}
use Rattle.protox_ast.proofs.Lemmas.{as-many, each-front}
use Rattle.protox_syntax.specs.declared.parts.Part.{Part}
use Rattle.protox_syntax.specs.declared.parts.Progress.{Progress}
use Rattle.protox_syntax.specs.inner.Parts.{IsBetween, IsFlawless, IsInPart, IsNoted, IsOpen, IsPartOf, IsReached, lexemes_from, places, rows}
use Rattle.protox_syntax.specs.inner.SoFar.{begun}
use Rattle.protox_syntax.proofs.Noting.{row-count}
use Rattle.protox_syntax.proofs.Rows.{heads, row-first, source-from}

pub none-is : (o : Option Span) → is_none o ≡ true → o ≡ None
none-is None e = refl
none-is (Some x) e = absurd cc

pub some-is : (o : Option Span) → is_none o ≡ false → o ≡ None → ⊥
some-is None e h = absurd cc
some-is (Some x) e h = absurd cc

-- The last token read, with the lexemes before it, and those behind it.
pub record IsBehindToken (source : List ℕ) (progress : Progress) (f : tree.File Place) (left : List Lexeme) : Type 0 where
  pub front : List Lexeme
  pub last : Lexeme
  pub all : cut 0 source ≡ front ++ last ∷ left
  pub row : is_gap last.shape ≡ false
  pub flawless : Each IsFlawless (front ++ last ∷ [])
  pub from : lexemes_from source progress.last ≡ last ∷ left
  pub whole : rows source ≡ s.spell f ++ places false left
  pub start : progress.start ≡ (rows_span (length source) (rows source)).start

module _ (source : List ℕ) (progress : Progress) (gone : List FileItem) (head : File) (between : IsBetween source progress gone head) where
  abbrev Fresh : Type 0
  Fresh = (between.read ≡ []) × (between.f ≡ begun None)

  pub fresh : progress.last ≡ None → Fresh
  fresh none = by between.noted
    where
      by : IsNoted source between.first between.read between.f progress → Fresh
      by (inl n) = (n.1, n.2)
      by (inr n) = let same = sym none ∙ n.5 in absurd cc

  pub fresh-reached : progress.last ≡ None → IsReached (begun None) gone head
  fresh-reached none = subst (λ (f : tree.File Place). IsReached f gone head) (fresh none).1 between.reached

  pub behind-token : (progress.last ≡ None → ⊥) → IsBehindToken source progress between.f between.left
  behind-token some = by between.noted
    where
      by : IsNoted source between.first between.read between.f progress → IsBehindToken source progress between.f between.left
      by (inl n) = absurd (some n.3)
      by (inr n) =
          let all : cut 0 source ≡ n.1 ++ n.2 ∷ between.left = between.all ∙ ap (λ l. l ++ between.left) n.3 ∙ append_assoc n.1 (n.2 ∷ []) between.left in
          record {
            front = n.1;
            last = n.2;
            all = all;
            row = n.4;
            flawless = subst (Each IsFlawless) n.3 between.flawless;
            from = ap (lexemes_from source) n.5 ∙ source-from source n.1 n.2 between.left all;
            whole = between.whole ∙ ap (λ b. s.spell between.f ++ places b between.left) n.0;
            start = n.6;
          }

  -- a token has been read, so something has
  pub some-read : (progress.last ≡ None → ⊥) → between.f.syntax ≡ None → between.f.statements ≡ [] → ⊥
  some-read some syntax statements =
      let k = behind-token some in
      let bare : rows source ≡ places false between.left = k.whole ∙ (λ i. (s.maybe s.syntax (syntax i) ++ s.many s.statement (statements i)) ++ places false between.left) in
      let all = as-many true (rows_of (cut 0 source)) (gaps_of (cut 0 source)) in
      let left_over = as-many false (rows_of between.left) (gaps_of between.left) in
      let counted = row-count k.front k.last between.left k.row in
      absurd (omega (arith, all, ap length bare, left_over, counted, ap (λ l. length (rows_of l)) k.all))

  -- ---- a part without a fault of a lexeme

  module _ (part : Part) (p : IsPartOf (lexemes_from source progress.last) part) (flawless : Each IsFlawless p.inside) where
    pub first-part : progress.last ≡ None → part.begins ≡ true → (i : IsInPart source part (placed part.table) gone head) × (i.first ≡ true)
    first-part none begins = (
      record {
        f = begun None;
        first = true;
        outside = [];
        read = [];
        left = p.inside;
        behind = p.behind;
        all = ap (lexemes_from source) (sym none) ∙ p.split;
        table_is = p.table_is;
        begun_here = λ e. refl;
        flawless_before = tt;
        flawless = flawless;
        rows_are = ap placed p.table_is;
        whole = ap (places true) (ap (lexemes_from source) (sym none) ∙ p.split);
        reached = fresh-reached none;
        last = inl (refl, begins, refl, refl);
      },
      refl,
    )

    module _ (some : progress.last ≡ None → ⊥) (later : part.begins ≡ false) where
      abbrev k : IsBehindToken source progress between.f between.left
      k = behind-token some

      from-inside : (inside : List Lexeme) → part.table ≡ table_of inside → k.last ∷ between.left ≡ inside ++ p.behind → Each IsFlawless inside → (r : Row Place) (left : Rows Place) → placed part.table ≡ r ∷ left → IsInPart source part left gone head
      from-inside [] table split fine r left rest = let same = sym rest ∙ ap placed table in absurd cc
      from-inside (x ∷ inside) table split fine r left rest =
          let h = heads k.last x between.left (inside ++ p.behind) split in
          let table_is : part.table ≡ table_of (k.last ∷ inside) = table ∙ ap (λ (y : Lexeme). table_of (y ∷ inside)) (sym h.0) in
          record {
            f = between.f;
            first = false;
            outside = k.front;
            read = k.last ∷ [];
            left = inside;
            behind = p.behind;
            all = k.all ∙ ap (λ l. k.front ++ k.last ∷ l) h.1;
            table_is = table_is;
            begun_here = λ e. absurd (true≢false (sym e ∙ later));
            flawless_before = each-front IsFlawless k.front (k.last ∷ []) k.flawless;
            flawless = subst (λ (y : Lexeme). Each IsFlawless (y ∷ inside)) (sym h.0) fine;
            rows_are = (heads r _ left (places false inside) (sym rest ∙ ap placed table_is ∙ row-first true k.last inside k.row)).1;
            whole = k.whole ∙ ap (λ l. s.spell between.f ++ places false l) h.1;
            reached = between.reached;
            last = inr (refl, [], k.last, refl, k.row);
          }

      pub later-part : (r : Row Place) (left : Rows Place) → placed part.table ≡ r ∷ left → IsInPart source part left gone head
      later-part r left rest = from-inside p.inside p.table_is (sym k.from ∙ p.split) flawless r left rest

  pub open-at : (part : Part) → part.begins ≡ is_none progress.last → IsOpen source part.begins progress
  open-at part begins = subst (λ b. IsOpen source b progress) (sym begins) (by between.noted)
    where
      by : IsNoted source between.first between.read between.f progress → IsOpen source (is_none progress.last) progress
      by (inl n) = subst (λ b. IsOpen source b progress) (sym (ap is_none n.3)) (n.3, n.4)
      by (inr n) = subst (λ b. IsOpen source b progress) (sym (ap is_none n.5)) n.6

pub is-some : (o : Option Span) → (o ≡ None → ⊥) → is_none o ≡ false
is-some None h = absurd (h refl)
is-some (Some x) h = refl

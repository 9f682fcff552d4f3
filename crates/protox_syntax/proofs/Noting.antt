-- What is noted of a part, once some of its rows are read.
use Rattle.std.proofs.Common.{◌≡◌, inl, inr, ℕ, suc, ◌+◌, true, false, List, [], ◌∷◌, ◌++◌, length, Some, None, refl, sym, ap, subst, ◌∙◌, append_assoc, true≢false}
use Rattle.std.specs.Prelude.{slice_index_or}
use Rattle.std.proofs.lemmas.List.{length-append}
use Rattle.protox_fault.specs.Faults.{Span, span_from}
use Rattle.protox_lexeme.specs.Lexemes.{Lexeme, cut}
use Rattle.protox_lexeme.specs.Shapes.{Row, Rows}
use Rattle.protox_lexeme.specs.Table.{gaps_of, is_gap, rows_of, table_of}
use Rattle.protox_ast.specs.AstParts.{last_place, rows_span}
use Rattle.protox_ast.specs.Places.{Place}
use Rattle.protox_ast.specs.declared.ast.File.{File}
use Rattle.protox_ast.proofs.Lemmas.{as-many, each-append, each-front}
use Rattle.protox_ast.specs.declared.ast.FileItem.{FileItem}
use Rattle.protox_rows.specs.Rows.{bare_row}
use Rattle.protox_syntax.proofs.Spans.{placed-span}
use Rattle.protox_syntax.specs.inner.ParsedTable.{bare_span}
use Rattle.protox_syntax.specs.declared.parts.Progress.{Progress}
use Rattle.protox_syntax.specs.declared.parts.Part.{Part}
use Rattle.protox_syntax.specs.inner.Parts.{IsFlawless}
use Rattle.protox_syntax.specs.inner.Parts.{IsBetween, IsInPart, IsLast, IsNoted, IsOpen, rows}
use Rattle.protox_syntax.proofs.Rows.{row_of, rows-before}

-- ---- the rows around one

at-front : (a : Rows Span) (r : Row Span) (b : Rows Span) (d : Row Span) → slice_index_or (a ++ r ∷ b) (length a) d ≡ r
at-front [] r b d = refl
at-front (x ∷ a) r b d = at-front a r b d

first-start : (size : ℕ) (a : Rows Span) (r : Row Span) (b c : Rows Span) (d : Row Span) → (slice_index_or (a ++ r ∷ b) 0 d).at.start ≡ (bare_span size (a ++ r ∷ c)).start
first-start size [] r b c d = refl
first-start size (x ∷ a) r b c d = refl

last-at : (span : Span) (a : Rows Span) (r : Row Span) → last_place (λ (x : Row Span). x.at) span (a ++ r ∷ []) ≡ r.at
last-at span [] r = refl
last-at span (x ∷ a) r = last-at x.at a r

-- The row of a lexeme stands behind those of the lexemes in front of it.
pub row-at : (front : List Lexeme) (last : Lexeme) (left : List Lexeme) → is_gap last.shape ≡ false → slice_index_or (rows_of (front ++ last ∷ left)) (length (rows_of front)) bare_row ≡ row_of last
row-at front last left row = ap (λ l. slice_index_or l (length (rows_of front)) bare_row) (rows-before front last left row) ∙ at-front (rows_of front) (row_of last) (rows_of left) bare_row

pub row-count : (front : List Lexeme) (last : Lexeme) (left : List Lexeme) → is_gap last.shape ≡ false → length (rows_of (front ++ last ∷ left)) ≡ length (rows_of front) + suc (length (rows_of left))
row-count front last left row = ap length (rows-before front last left row) ∙ length-append (rows_of front) (row_of last ∷ rows_of left)

-- ---- within a part

module _ (source : List ℕ) (part : Part) (left : Rows Place) (gone : List FileItem) (head : File) (i : IsInPart source part left gone head) where
  pub none-read : i.first ≡ true → length left ≡ length part.table.rows
  none-read at_start = by i.last
    where
      by : IsLast part.begins i.first i.read i.f → length left ≡ length part.table.rows
      by (inl n) = ap length i.rows_are ∙ as-many i.first (rows_of i.left) (gaps_of i.left) ∙ ap (λ l. length (rows_of (l ++ i.left))) (sym n.2) ∙ ap (λ t. length t.rows) (sym i.table_is)
      by (inr n) = absurd (true≢false (sym at_start ∙ n.0))

  abbrev IsAt : List Lexeme → Lexeme → Type 0
  IsAt front last = part.table ≡ table_of (front ++ last ∷ i.left)

  pub table-at : (front : List Lexeme) (last : Lexeme) → i.read ≡ front ++ last ∷ [] → IsAt front last
  table-at front last is = i.table_is ∙ ap table_of (ap (λ l. l ++ i.left) is ∙ append_assoc front (last ∷ []) i.left)

  pub left-count : length left ≡ length (rows_of i.left)
  left-count = ap length i.rows_are ∙ as-many i.first (rows_of i.left) (gaps_of i.left)

  all-at : (front : List Lexeme) (last : Lexeme) → i.read ≡ front ++ last ∷ [] → cut 0 source ≡ (i.outside ++ front) ++ last ∷ (i.left ++ i.behind)
  all-at front last is =
      i.all ∙ ap (λ l. i.outside ++ (l ++ (i.left ++ i.behind))) is ∙ ap (λ l. i.outside ++ l) (append_assoc front (last ∷ []) (i.left ++ i.behind)) ∙ sym (append_assoc i.outside front (last ∷ (i.left ++ i.behind)))

  rows-at : (front : List Lexeme) (last : Lexeme) → i.read ≡ front ++ last ∷ [] → is_gap last.shape ≡ false → rows_of (cut 0 source) ≡ rows_of (i.outside ++ front) ++ row_of last ∷ rows_of (i.left ++ i.behind)
  rows-at front last is row = ap rows_of (all-at front last is) ∙ rows-before (i.outside ++ front) last (i.left ++ i.behind) row

  span-is : rows_span (length source) (rows source) ≡ bare_span (length source) (rows_of (cut 0 source))
  span-is = placed-span (length source) (rows_of (cut 0 source)) (gaps_of (cut 0 source))

  -- where the first row of the part begins, the first row of the source does
  pub start-is : (front : List Lexeme) (last : Lexeme) → part.begins ≡ true → i.read ≡ front ++ last ∷ [] → is_gap last.shape ≡ false → (slice_index_or part.table.rows 0 bare_row).at.start ≡ (rows_span (length source) (rows source)).start
  start-is front last begins is row =
      let none = i.begun_here begins in
      ap (λ t. (slice_index_or t.rows 0 bare_row).at.start) (table-at front last is)
      ∙ ap (λ (l : Rows Span). (slice_index_or l 0 bare_row).at.start) (rows-before front last i.left row)
      ∙ first-start (length source) (rows_of front) (row_of last) (rows_of i.left) (rows_of (i.left ++ i.behind)) bare_row
      ∙ ap (λ l. (bare_span (length source) (rows_of (l ++ front) ++ row_of last ∷ rows_of (i.left ++ i.behind))).start) (sym none)
      ∙ ap (λ (v : Span). v.start) (sym (ap (bare_span (length source)) (rows-at front last is row)) ∙ sym span-is)

  -- Nothing is read: nothing is noted.
  pub noted-none : (progress : Progress) → IsOpen source part.begins progress → i.first ≡ true → IsNoted source i.first (i.outside ++ i.read) i.f progress
  noted-none progress opens at_start = by i.last
    where
      by : IsLast part.begins i.first i.read i.f → IsNoted source i.first (i.outside ++ i.read) i.f progress
      by (inl n) =
          let o : (progress.last ≡ None) × (progress.start ≡ length source) = subst (λ b. IsOpen source b progress) n.1 opens in
          inl (n.0, ap (λ l. l ++ i.read) (i.begun_here n.1) ∙ n.2, n.3, o.0, o.1)
      by (inr n) = absurd (true≢false (sym at_start ∙ n.0))

  pub noted-some : (progress : Progress) (front : List Lexeme) (last : Lexeme) → i.first ≡ false → i.read ≡ front ++ last ∷ [] → is_gap last.shape ≡ false → progress.last ≡ Some (span_from last.start last.stop)
      → progress.start ≡ (rows_span (length source) (rows source)).start → IsNoted source i.first (i.outside ++ i.read) i.f progress
  noted-some progress front last not_first is row noted start =
      inr (not_first, i.outside ++ front, last, ap (λ l. i.outside ++ l) is ∙ sym (append_assoc i.outside front (last ∷ [])), row, noted, start)

  -- ---- what follows from that

  pub between-of : (progress : Progress) → IsNoted source i.first (i.outside ++ i.read) i.f progress → IsBetween source progress gone head
  between-of progress noted = record {
    f = i.f;
    first = i.first;
    read = i.outside ++ i.read;
    left = i.left ++ i.behind;
    all = i.all ∙ sym (append_assoc i.outside i.read (i.left ++ i.behind));
    flawless = each-append IsFlawless i.outside i.read i.flawless_before (each-front IsFlawless i.read i.left i.flawless);
    whole = i.whole;
    reached = i.reached;
    noted = noted;
  }

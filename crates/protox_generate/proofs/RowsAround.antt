-- Each row of a source has a lexeme's number, and the numbers of the comments at its place stand
-- around that number.
use Rattle.std.proofs.Common.{◌≡◌, ℕ, suc, ◌+◌, Bool, true, false, if◌then◌else◌, List, [], ◌∷◌, ◌++◌, length, Some, refl, ap, sym, subst, append_assoc, ◌∙◌, arith}
use Rattle.std.proofs.lemmas.List.{append-nil}
use Rattle.protox_fault.specs.Faults.{Span, span_from}
use Rattle.protox_lexeme.specs.Lexemes.{Lexeme}
use Rattle.protox_lexeme.specs.Shapes.{Shape, LineComment, BlockComment, Newline, Row, Rows}
use Rattle.protox_lexeme.specs.Table.{in_front, gaps_of, is_gap, rows_of}
use Rattle.protox_ast.specs.Keywords.{Each}
use Rattle.protox_ast.specs.Places.{Place, next_gap, next_shape, place_of, placed_from}
use Rattle.protox_generate.specs.Commented.{lexeme_at, AreGap, AreNeighbours, Rise, Leads, Trails}
use Rattle.protox_generate.proofs.InGaps.{flat, Has, IsGapAt, GapFrom, gap-append, are-gap, gap-before, gap-trails}
use Rattle.protox_generate.proofs.NumberedComments.{with_number, numbered, text_or}

-- ---- lists of gaps

join-gaps : (a b : List Shape) (gaps : List (List Shape)) → in_front a (in_front b gaps) ≡ in_front (a ++ b) gaps
join-gaps a b [] = refl
join-gaps a b (gap ∷ gaps) = ap (λ g. g ∷ gaps) (sym (append_assoc a b gap))

no-gap : (gaps : List (List Shape)) → in_front [] gaps ≡ gaps
no-gap [] = refl
no-gap (gap ∷ gaps) = refl

module _ (lexemes : List Lexeme) where
  -- ---- the lexemes from a number on

  abbrev From : ℕ → List Lexeme → Type 0
  From k xs = (i : ℕ) → lexeme_at lexemes (k + i) ≡ lexeme_at xs i

  from-next : (k : ℕ) (x : Lexeme) (xs : List Lexeme) → From k (x ∷ xs) → From (suc k) xs
  from-next k x xs h i = let e : suc k + i ≡ k + suc i = omega arith in ap (lexeme_at lexemes) e ∙ h (suc i)

  from-here : (k : ℕ) (x : Lexeme) (xs : List Lexeme) → From k (x ∷ xs) → lexeme_at lexemes k ≡ Some x
  from-here k x xs h = let e : k ≡ k + 0 = omega arith in ap (lexeme_at lexemes) e ∙ h 0

  gap-at : (k : ℕ) (x : Lexeme) (xs : List Lexeme) → From k (x ∷ xs) → is_gap x.shape ≡ true → IsGapAt lexemes k
  gap-at k x xs h gap = (x, from-here k x xs h, gap)

  -- The gap before the first row has the numbers from here on.
  front-shape : (k : ℕ) (x : Lexeme) (xs : List Lexeme) (s : Shape) → x.shape ≡ s → From k (x ∷ xs) → (gaps : List (List Shape)) → GapFrom lexemes (suc k) (next_gap gaps)
      → GapFrom lexemes k (next_gap (if is_gap (with_number k s) then in_front (with_number k s ∷ []) gaps else [] ∷ gaps))
  front-shape k x xs (LineComment text) is h [] f = tt
  front-shape k x xs (LineComment text) is h (gap ∷ gaps) f = (refl, gap-at k x xs h (ap is_gap is), f)
  front-shape k x xs (BlockComment text) is h [] f = tt
  front-shape k x xs (BlockComment text) is h (gap ∷ gaps) f = (refl, gap-at k x xs h (ap is_gap is), f)
  front-shape k x xs Newline is h [] f = tt
  front-shape k x xs Newline is h (gap ∷ gaps) f = ((x, from-here k x xs h, is), gap-at k x xs h (ap is_gap is), f)
  front-shape k x xs other is h gaps f = tt

  front-gap : (k : ℕ) (xs : List Lexeme) → From k xs → GapFrom lexemes k (next_gap (gaps_of (numbered k xs)))
  front-gap k [] h = tt
  front-gap k (x ∷ xs) h = front-shape k x xs x.shape refl h (gaps_of (numbered (suc k) xs)) (front-gap (suc k) xs (from-next k x xs h))

  -- ---- rows

  -- the lexeme of a row, and the numbers around it
  pub record IsAround (r : Row Place) : Type 0 where
    pub number : ℕ
    pub lexeme : Lexeme
    pub there : lexeme_at lexemes number ≡ Some lexeme
    pub start : lexeme.start ≡ r.at.span.start
    pub stop : lexeme.stop ≡ r.at.span.end
    pub shape : lexeme.shape ≡ r.shape
    pub from : ℕ
    pub gap : AreGap lexemes from number
    pub before : Rise from number (flat r.at.detached ++ text_or lexemes r.at.leading)
    pub leads : Leads lexemes (text_or lexemes r.at.leading) number
    pub trails : Trails lexemes number (text_or lexemes r.at.trailing)
    pub leading : AreNeighbours (text_or lexemes r.at.leading)
    pub trailing : AreNeighbours (text_or lexemes r.at.trailing)
    pub detached : Each AreNeighbours r.at.detached

  -- a row behind a gap from this number on, before other gaps and rows
  row-around : (j k : ℕ) (x : Lexeme) (xs : List Lexeme) (s : Shape) (first : Bool) (gap : List Shape) (gaps : List (List Shape)) (rows : Rows Span)
      → x.shape ≡ s → From k (x ∷ xs) → GapFrom lexemes j gap → k ≡ j + length gap → GapFrom lexemes (suc k) (next_gap gaps)
      → IsAround (record { shape = s; at = place_of first (record { shape = s; at = span_from x.start x.stop }) gap gaps rows })
  row-around j k x xs s first gap gaps rows is h front e next =
      let b = gap-before lexemes j gap first (Some s) front in
      let t = gap-trails lexemes k (next_gap gaps) (next_shape rows) next in
      record {
        number = k;
        lexeme = x;
        there = from-here k x xs h;
        start = refl;
        stop = refl;
        shape = is;
        from = j;
        gap = subst (AreGap lexemes j) (sym e) (are-gap lexemes j gap front);
        before = subst (λ n. Rise j n (flat (place_of first (record { shape = s; at = span_from x.start x.stop }) gap gaps rows).detached ++ text_or lexemes (place_of first (record { shape = s; at = span_from x.start x.stop }) gap gaps rows).leading)) (sym e) b.rise;
        leads = subst (Leads lexemes (text_or lexemes (place_of first (record { shape = s; at = span_from x.start x.stop }) gap gaps rows).leading)) (sym e) b.leads;
        trails = t.0;
        leading = b.leading;
        trailing = t.1;
        detached = b.detached;
      }

  -- the rows of these lexemes, with a gap before them
  abbrev Placed : Bool → List Shape → ℕ → List Lexeme → Type 0
  Placed first gap k xs = Each IsAround (placed_from first (rows_of xs) (in_front gap (gaps_of (numbered k xs))))

  abbrev Later : ℕ → List Lexeme → Type 0
  Later k xs = (j : ℕ) (gap : List Shape) (first : Bool) → GapFrom lexemes j gap → k ≡ j + length gap → Placed first gap k xs

  in-gap : (j k : ℕ) (gap : List Shape) (s : Shape) (first : Bool) (xs : List Lexeme) → GapFrom lexemes j gap → k ≡ j + length gap → Has lexemes k s → IsGapAt lexemes k → Later (suc k) xs
      → Each IsAround (placed_from first (rows_of xs) (in_front gap (in_front (s ∷ []) (gaps_of (numbered (suc k) xs)))))
  in-gap j k gap s first xs front e has is later =
      subst (λ gaps. Each IsAround (placed_from first (rows_of xs) gaps)) (sym (join-gaps gap (s ∷ []) (gaps_of (numbered (suc k) xs))))
      (later j (gap ++ s ∷ []) first (gap-append lexemes j gap s front (subst (λ n. Has lexemes n s) e has) (subst (IsGapAt lexemes) e is)) (omega (arith, e, length-more gap)))
    where
      length-more : (gap : List Shape) → length (gap ++ s ∷ []) ≡ suc (length gap)
      length-more [] = refl
      length-more (y ∷ gap) = ap suc (length-more gap)

  in-row : (j k : ℕ) (gap : List Shape) (x : Lexeme) (xs : List Lexeme) (s : Shape) (first : Bool) → x.shape ≡ s → From k (x ∷ xs) → GapFrom lexemes j gap → k ≡ j + length gap → Later (suc k) xs
      → let gaps = gaps_of (numbered (suc k) xs) in Each IsAround (placed_from first (record { shape = s; at = span_from x.start x.stop } ∷ rows_of xs) (in_front gap ([] ∷ gaps)))
  in-row j k gap x xs s first is h front e later =
      let gaps = gaps_of (numbered (suc k) xs) in
      let row : Row Span = record { shape = s; at = span_from x.start x.stop } in
      let here = row-around j k x xs s first gap gaps (rows_of xs) is h front e (front-gap (suc k) xs (from-next k x xs h)) in
      let rest = subst (λ g. Each IsAround (placed_from false (rows_of xs) g)) (no-gap gaps) (later (suc k) [] false tt (omega arith)) in
      subst (λ g. Each IsAround (placed_from first (row ∷ rows_of xs) (g ∷ gaps))) (sym (append-nil gap)) (here, rest)

  in-shape : (j k : ℕ) (gap : List Shape) (x : Lexeme) (xs : List Lexeme) (s : Shape) (first : Bool) → x.shape ≡ s → From k (x ∷ xs) → GapFrom lexemes j gap → k ≡ j + length gap → Later (suc k) xs
      → let gaps = gaps_of (numbered (suc k) xs) in
      Each IsAround (placed_from first (if is_gap s then rows_of xs else record { shape = s; at = span_from x.start x.stop } ∷ rows_of xs) (in_front gap (if is_gap (with_number k s) then in_front (with_number k s ∷ []) gaps else [] ∷ gaps)))
  in-shape j k gap x xs (LineComment text) first is h front e later = in-gap j k gap (LineComment (k ∷ [])) first xs front e refl (gap-at k x xs h (ap is_gap is)) later
  in-shape j k gap x xs (BlockComment text) first is h front e later = in-gap j k gap (BlockComment (k ∷ [])) first xs front e refl (gap-at k x xs h (ap is_gap is)) later
  in-shape j k gap x xs Newline first is h front e later = in-gap j k gap Newline first xs front e (x, from-here k x xs h, is) (gap-at k x xs h (ap is_gap is)) later
  in-shape j k gap x xs other first is h front e later = in-row j k gap x xs other first is h front e later

  from-on : (k : ℕ) (xs : List Lexeme) → From k xs → Later k xs
  from-on k [] h j gap first front e = tt
  from-on k (x ∷ xs) h j gap first front e = in-shape j k gap x xs x.shape first refl h front e (from-on (suc k) xs (from-next k x xs h))

  -- Each row of the lexemes has its gap around it.
  pub rows-around : Each IsAround (placed_from true (rows_of lexemes) (gaps_of (numbered 0 lexemes)))
  rows-around =
      subst (λ gaps. Each IsAround (placed_from true (rows_of lexemes) gaps)) (no-gap (gaps_of (numbered 0 lexemes)))
      (from-on 0 lexemes (λ i. let e : 0 + i ≡ i = omega arith in ap (lexeme_at lexemes) e) 0 [] true tt (omega arith))

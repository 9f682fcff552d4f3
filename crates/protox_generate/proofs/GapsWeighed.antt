-- The attribution gives each comment at most once. This holds by any measure of texts that does not
-- grow when texts are joined.
use Rattle.std.proofs.Common.{◌≡◌, ℕ, ◌+◌, ◌≤◌, Bool, true, false, if◌then◌else◌, List, [], ◌∷◌, ◌++◌, Option, Some, None, refl, subst, arith}
use Rattle.protox_fault.specs.Faults.{Span}
use Rattle.protox_lexeme.specs.Gaps.{Item, block, blank, begins_line, joined, items, blocks, last_block, all_but_last, Attribution, may_lead, led_by, unless_leading, trailed_by, unless_trailing, among, attribution}
use Rattle.protox_lexeme.specs.Lexemes.{Lexeme}
use Rattle.protox_lexeme.specs.Shapes.{Shape, LineComment, BlockComment, Newline, Rows}
use Rattle.protox_lexeme.specs.Table.{in_front, gaps_of, is_gap}
use Rattle.protox_ast.specs.Places.{next_gap, later_gaps, next_shape, place_of, placed_from}
use Rattle.protox_generate.proofs.Taking.{Weights, weigh, behind-zero}

module _ (e : List ℕ → ℕ) where
  abbrev pub of_text : Option (List ℕ) → ℕ
  of_text None = 0
  of_text (Some text) = e text

  abbrev pub of_texts : List (List ℕ) → ℕ
  of_texts [] = 0
  of_texts (text ∷ texts) = e text + of_texts texts

  abbrev pub of_items : List Item → ℕ
  of_items [] = 0
  of_items (block text ∷ its) = e text + of_items its
  of_items (blank ∷ its) = of_items its

  abbrev pub of_shape : Shape → ℕ
  of_shape (LineComment text) = e text
  of_shape (BlockComment text) = e text
  of_shape other = 0

  abbrev pub of_gap : List Shape → ℕ
  of_gap [] = 0
  of_gap (x ∷ gap) = of_shape x + of_gap gap

  abbrev pub of_gaps : List (List Shape) → ℕ
  of_gaps [] = 0
  of_gaps (gap ∷ gaps) = of_gap gap + of_gaps gaps

  abbrev pub of_lexemes : List Lexeme → ℕ
  of_lexemes [] = 0
  of_lexemes (x ∷ xs) = of_shape x.shape + of_lexemes xs

  abbrev pub of_attribution : Attribution → ℕ
  of_attribution a = of_text a.trailing + of_texts a.detached + of_text a.leading

  -- the comments before a row, and the one behind it
  abbrev pub weights : Weights
  weights = record { first = λ p. of_text p.leading + of_texts p.detached; last = λ p. of_text p.trailing; mark = λ s p. 0; both = λ p q. 0 }

  -- ---- among the items

  blocks-sum : (its : List Item) → of_texts (blocks its) ≡ of_items its
  blocks-sum [] = refl
  blocks-sum (block text ∷ its) = omega (arith, blocks-sum its)
  blocks-sum (blank ∷ its) = blocks-sum its

  last-split : (its : List Item) → of_text (last_block its) + of_items (all_but_last its) ≡ of_items its
  last-split [] = omega arith
  last-split (block text ∷ []) = omega arith
  last-split (blank ∷ []) = omega arith
  last-split (block text ∷ (y ∷ its)) = omega (arith, last-split (y ∷ its))
  last-split (blank ∷ (y ∷ its)) = omega (arith, last-split (y ∷ its))

  leading-split : (its : List Item) (o : Option (List ℕ)) → o ≡ last_block its → of_text o + of_items (unless_leading its o) ≤ of_items its
  leading-split its None is = omega arith
  leading-split its (Some text) is =
      let k : of_text (Some text) ≡ of_text (last_block its) = subst (λ o. of_text (Some text) ≡ of_text o) is refl in
      omega (arith, last-split its, k)

  led-split : (its : List Item) (may : Bool) → of_text (if may then last_block its else None) + of_items (unless_leading its (if may then last_block its else None)) ≤ of_items its
  led-split its true = leading-split its (last_block its) refl
  led-split its false = omega arith

  trailed-split : (may : Bool) (its : List Item) → of_text (trailed_by may its) + of_texts (blocks (unless_trailing its (trailed_by may its))) ≤ of_items its
  trailed-split false its = omega (arith, blocks-sum its)
  trailed-split true [] = omega arith
  trailed-split true (block text ∷ its) = omega (arith, blocks-sum its)
  trailed-split true (blank ∷ its) = omega (arith, blocks-sum its)

  among-within : (may : Bool) (its : List Item) (next : Option Shape) → of_attribution (among may its next) ≤ of_items its
  among-within may its next = omega (arith, led-split its (may_lead next), trailed-split may (unless_leading its (led_by its next)))

  among-none : (its : List Item) (next : Option Shape) → of_texts (among false its next).detached + of_text (among false its next).leading ≤ of_items its
  among-none its next = omega (arith, led-split its (may_lead next), blocks-sum (unless_leading its (led_by its next)))

  module _ (grows : (a b : List ℕ) → e (a ++ b) ≤ e a + e b) where
    joined-within : (text : List ℕ) (its : List Item) → of_items (joined text its) ≤ e text + of_items its
    joined-within text [] = omega arith
    joined-within text (block more ∷ its) = omega (arith, grows text more)
    joined-within text (blank ∷ its) = omega arith

    line-within : (b : Bool) (text : List ℕ) (its : List Item) → of_items (if b then joined text its else block text ∷ its) ≤ e text + of_items its
    line-within true text its = joined-within text its
    line-within false text its = omega arith

    items-within : (gap : List Shape) → of_items (items gap) ≤ of_gap gap
    items-within [] = omega arith
    items-within (LineComment text ∷ gap) = omega (arith, line-within (begins_line gap) text (items gap), items-within gap)
    items-within (BlockComment text ∷ (Newline ∷ gap)) = omega (arith, items-within gap)
    items-within (BlockComment text ∷ gap) = omega (arith, items-within gap)
    items-within (Newline ∷ gap) = omega (arith, items-within gap)
    items-within (other ∷ gap) = omega (arith, items-within gap)

    attribution-within : (gap : List Shape) (first : Bool) (next : Option Shape) → of_attribution (attribution gap first next) ≤ of_gap gap
    attribution-within gap true next = omega (arith, among-within false (items gap) next, items-within gap)
    attribution-within (LineComment text ∷ gap) false next = omega (arith, among-none (items gap) next, items-within gap)
    attribution-within (Newline ∷ gap) false next = omega (arith, among-within true (items gap) next, items-within gap)
    attribution-within (BlockComment text ∷ (Newline ∷ gap)) false next =
        omega (arith, among-within true (items (BlockComment text ∷ (Newline ∷ gap))) next, items-within (BlockComment text ∷ (Newline ∷ gap)))
    attribution-within gap false next = omega arith

    -- ---- the places of rows

    gaps-split : (gaps : List (List Shape)) → of_gap (next_gap gaps) + of_gaps (later_gaps gaps) ≡ of_gaps gaps
    gaps-split [] = omega arith
    gaps-split (gap ∷ gaps) = refl

    rows-within : (first : Bool) (rows : Rows Span) (gaps : List (List Shape))
        → of_text (attribution (next_gap gaps) first (next_shape rows)).trailing + weigh weights (placed_from first rows gaps) ≤ of_gaps gaps
    rows-within first [] gaps = omega (arith, attribution-within (next_gap gaps) first None, gaps-split gaps)
    rows-within first (row ∷ rows) gaps = omega (
      arith,
      attribution-within (next_gap gaps) first (Some row.shape),
      gaps-split gaps,
      behind-zero weights (λ p q. omega arith) (place_of first row (next_gap gaps) (later_gaps gaps) rows) (placed_from false rows (later_gaps gaps)),
      rows-within false rows (later_gaps gaps),
    )

    in_front-within : (x : Shape) (gaps : List (List Shape)) → of_gaps (in_front (x ∷ []) gaps) ≤ of_shape x + of_gaps gaps
    in_front-within x [] = omega arith
    in_front-within x (gap ∷ gaps) = omega arith

    gap-within : (b : Bool) (x : Shape) (gaps : List (List Shape)) → of_gaps (if b then in_front (x ∷ []) gaps else [] ∷ gaps) ≤ of_shape x + of_gaps gaps
    gap-within true x gaps = in_front-within x gaps
    gap-within false x gaps = omega arith

    pub gaps-within : (xs : List Lexeme) → of_gaps (gaps_of xs) ≤ of_lexemes xs
    gaps-within [] = omega arith
    gaps-within (x ∷ xs) = omega (arith, gap-within (is_gap x.shape) x.shape (gaps_of xs), gaps-within xs)

    -- All rows together have at most the weight of the comments of the lexemes.
    pub all-within : (rows : Rows Span) (xs : List Lexeme) → weigh weights (placed_from true rows (gaps_of xs)) ≤ of_lexemes xs
    all-within rows xs = omega (arith, rows-within true rows (gaps_of xs), gaps-within xs)

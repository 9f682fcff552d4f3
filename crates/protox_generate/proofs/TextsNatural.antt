-- If the texts of comments are made of others, piece by piece, then the texts that the attribution
-- gives are made so too.
use Rattle.std.proofs.Common.{◌≡◌, ℕ, Bool, true, false, if◌then◌else◌, List, [], ◌∷◌, ◌++◌, map, Option, Some, None, refl, ap, sym, ◌∙◌}
use Rattle.std.specs.Prelude.{option_map}
use Rattle.protox_fault.specs.Faults.{Span}
use Rattle.protox_lexeme.specs.Gaps.{Item, block, blank, begins_line, joined, items, blocks, last_block, all_but_last, Attribution, may_lead, led_by, unless_leading, trailed_by, unless_trailing, among, attribution}
use Rattle.protox_lexeme.specs.Shapes.{Shape, LineComment, BlockComment, Newline, Row, Rows}
use Rattle.protox_ast.specs.Places.{Place, next_gap, later_gaps, next_shape, placed_from}

module _ (made : List ℕ → List ℕ) where
  abbrev pub made_shape : Shape → Shape
  made_shape (LineComment text) = LineComment (made text)
  made_shape (BlockComment text) = BlockComment (made text)
  made_shape other = other

  abbrev pub made_item : Item → Item
  made_item (block text) = block (made text)
  made_item blank = blank

  abbrev pub made_attribution : Attribution → Attribution
  made_attribution a = record { trailing = option_map made a.trailing; detached = map made a.detached; leading = option_map made a.leading }

  abbrev pub made_place : Place → Place
  made_place p = record { span = p.span; detached = map made p.detached; leading = option_map made p.leading; trailing = option_map made p.trailing }

  abbrev pub made_row : Row Place → Row Place
  made_row r = record { shape = r.shape; at = made_place r.at }

  -- ---- among the items

  blocks-made : (its : List Item) → blocks (map made_item its) ≡ map made (blocks its)
  blocks-made [] = refl
  blocks-made (block text ∷ its) = ap (λ l. made text ∷ l) (blocks-made its)
  blocks-made (blank ∷ its) = blocks-made its

  last-made : (its : List Item) → last_block (map made_item its) ≡ option_map made (last_block its)
  last-made [] = refl
  last-made (block text ∷ []) = refl
  last-made (blank ∷ []) = refl
  last-made (block text ∷ (y ∷ its)) = last-made (y ∷ its)
  last-made (blank ∷ (y ∷ its)) = last-made (y ∷ its)

  but_last-made : (its : List Item) → all_but_last (map made_item its) ≡ map made_item (all_but_last its)
  but_last-made [] = refl
  but_last-made (x ∷ []) = refl
  but_last-made (x ∷ (y ∷ its)) = ap (λ l. made_item x ∷ l) (but_last-made (y ∷ its))

  unless_leading-made : (its : List Item) (o : Option (List ℕ)) → unless_leading (map made_item its) (option_map made o) ≡ map made_item (unless_leading its o)
  unless_leading-made its None = refl
  unless_leading-made its (Some text) = but_last-made its

  led-made : (its : List Item) (may : Bool) → (if may then last_block (map made_item its) else None) ≡ option_map made (if may then last_block its else None)
  led-made its true = last-made its
  led-made its false = refl

  trailed-made : (may : Bool) (its : List Item) → trailed_by may (map made_item its) ≡ option_map made (trailed_by may its)
  trailed-made false its = refl
  trailed-made true [] = refl
  trailed-made true (block text ∷ its) = refl
  trailed-made true (blank ∷ its) = refl

  unless_trailing-made : (may : Bool) (its : List Item) → blocks (unless_trailing (map made_item its) (trailed_by may (map made_item its))) ≡ map made (blocks (unless_trailing its (trailed_by may its)))
  unless_trailing-made false its = blocks-made its
  unless_trailing-made true [] = refl
  unless_trailing-made true (block text ∷ its) = blocks-made its
  unless_trailing-made true (blank ∷ its) = blocks-made its

  -- the texts of the others and of the leading comment
  abbrev given : Bool → List Item → Option (List ℕ) → Attribution
  given may others leading = record { trailing = trailed_by may others; detached = blocks (unless_trailing others (trailed_by may others)); leading = leading }

  given-made : (may : Bool) (others : List Item) (leading : Option (List ℕ)) → given may (map made_item others) (option_map made leading) ≡ made_attribution (given may others leading)
  given-made may others leading =
      ap (λ x. record { trailing = x; detached = blocks (unless_trailing (map made_item others) (trailed_by may (map made_item others))); leading = option_map made leading }) (trailed-made may others)
      ∙ ap (λ x. record { trailing = option_map made (trailed_by may others); detached = x; leading = option_map made leading }) (unless_trailing-made may others)

  among-made : (may : Bool) (its : List Item) (next : Option Shape) → among may (map made_item its) next ≡ made_attribution (among may its next)
  among-made may its next =
      ap (λ o. given may (unless_leading (map made_item its) o) o) (led-made its (may_lead next))
      ∙ ap (λ others. given may others (option_map made (led_by its next))) (unless_leading-made its (led_by its next))
      ∙ given-made may (unless_leading its (led_by its next)) (led_by its next)

  module _ (joins : (a b : List ℕ) → made (a ++ b) ≡ made a ++ made b) where
    joined-made : (text : List ℕ) (its : List Item) → joined (made text) (map made_item its) ≡ map made_item (joined text its)
    joined-made text [] = refl
    joined-made text (block more ∷ its) = ap (λ x. block x ∷ map made_item its) (sym (joins text more))
    joined-made text (blank ∷ its) = refl

    line-made : (b : Bool) (text : List ℕ) (its : List Item)
        → (if b then joined (made text) (map made_item its) else block (made text) ∷ map made_item its) ≡ map made_item (if b then joined text its else block text ∷ its)
    line-made true text its = joined-made text its
    line-made false text its = refl

    begins-made : (gap : List Shape) → begins_line (map made_shape gap) ≡ begins_line gap
    begins-made [] = refl
    begins-made (LineComment text ∷ gap) = refl
    begins-made (other ∷ gap) = refl

    items-made : (gap : List Shape) → items (map made_shape gap) ≡ map made_item (items gap)
    items-made [] = refl
    items-made (LineComment text ∷ gap) =
        ap (λ b. if b then joined (made text) (items (map made_shape gap)) else block (made text) ∷ items (map made_shape gap)) (begins-made gap)
        ∙ ap (λ its. if begins_line gap then joined (made text) its else block (made text) ∷ its) (items-made gap)
        ∙ line-made (begins_line gap) text (items gap)
    items-made (BlockComment text ∷ (Newline ∷ gap)) = ap (λ its. block (made text) ∷ its) (items-made gap)
    items-made (BlockComment text ∷ []) = refl
    items-made (BlockComment text ∷ (other ∷ gap)) = ap (λ its. block (made text) ∷ its) (items-made (other ∷ gap))
    items-made (Newline ∷ gap) = ap (λ its. blank ∷ its) (items-made gap)
    items-made (other ∷ gap) = items-made gap

    among-gap : (may : Bool) (gap : List Shape) (next : Option Shape) → among may (items (map made_shape gap)) next ≡ made_attribution (among may (items gap) next)
    among-gap may gap next = ap (λ its. among may its next) (items-made gap) ∙ among-made may (items gap) next

    attribution-made : (gap : List Shape) (first : Bool) (next : Option Shape) → attribution (map made_shape gap) first next ≡ made_attribution (attribution gap first next)
    attribution-made gap true next = among-gap false gap next
    attribution-made (LineComment text ∷ gap) false next = ap (λ (a : Attribution). record { trailing = Some (made text); detached = a.detached; leading = a.leading }) (among-gap false gap next)
    attribution-made (Newline ∷ gap) false next = among-gap true gap next
    attribution-made (BlockComment text ∷ (Newline ∷ gap)) false next = among-gap true (BlockComment text ∷ (Newline ∷ gap)) next
    attribution-made [] false next = refl
    attribution-made (BlockComment text ∷ []) false next = refl
    attribution-made (BlockComment text ∷ (other ∷ gap)) false next = refl
    attribution-made (other ∷ gap) false next = refl

    -- ---- the places of rows

    next-made : (gaps : List (List Shape)) → next_gap (map (map made_shape) gaps) ≡ map made_shape (next_gap gaps)
    next-made [] = refl
    next-made (gap ∷ gaps) = refl

    later-made : (gaps : List (List Shape)) → later_gaps (map (map made_shape) gaps) ≡ map (map made_shape) (later_gaps gaps)
    later-made [] = refl
    later-made (gap ∷ gaps) = refl

    abbrev seen : Row Span → Attribution → Attribution → Row Place
    seen row before behind = record { shape = row.shape; at = record { span = row.at; detached = before.detached; leading = before.leading; trailing = behind.trailing } }

    attributed : (gaps : List (List Shape)) (first : Bool) (next : Option Shape) → attribution (next_gap (map (map made_shape) gaps)) first next ≡ made_attribution (attribution (next_gap gaps) first next)
    attributed gaps first next = ap (λ gap. attribution gap first next) (next-made gaps) ∙ attribution-made (next_gap gaps) first next

    pub placed-made : (first : Bool) (rows : Rows Span) (gaps : List (List Shape)) → placed_from first rows (map (map made_shape) gaps) ≡ map made_row (placed_from first rows gaps)
    placed-made first [] gaps = refl
    placed-made first (row ∷ rows) gaps =
        ap (λ later. seen row (attribution (next_gap (map (map made_shape) gaps)) first (Some row.shape)) (attribution (next_gap later) false (next_shape rows)) ∷ placed_from false rows later) (later-made gaps)
        ∙ ap (λ a. seen row a (attribution (next_gap (map (map made_shape) (later_gaps gaps))) false (next_shape rows)) ∷ placed_from false rows (map (map made_shape) (later_gaps gaps))) (attributed gaps first (Some row.shape))
        ∙ ap (λ a. seen row (made_attribution (attribution (next_gap gaps) first (Some row.shape))) a ∷ placed_from false rows (map (map made_shape) (later_gaps gaps))) (attributed (later_gaps gaps) false (next_shape rows))
        ∙ ap (λ more. seen row (made_attribution (attribution (next_gap gaps) first (Some row.shape))) (made_attribution (attribution (next_gap (later_gaps gaps)) false (next_shape rows))) ∷ more) (placed-made false rows (later_gaps gaps))

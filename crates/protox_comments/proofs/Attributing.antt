-- The comments of a gap, one after another.
use Rattle.std.proofs.Common.{◌≡◌, ℕ, zero, suc, ◌+◌, ◌<◌, length, get_or, drop, map, arith, Bool, true, false, inl, inr, List, [], ◌∷◌, ◌++◌, refl, sym, ap, ◌∙◌, subst, append_assoc, Option, Some, None}
use Rattle.std.specs.declared.alloc.Global.{Global}
use Rattle.std.specs.declared.borrow.CowStr.{CowStr}
use Rattle.std.proofs.lemmas.Bool.{cases_Bool, and_parts}
use Rattle.std.proofs.lemmas.List.{at_drop_more}
use Rattle.std.specs.List.{list_all}
use Rattle.std.specs.Option.{option_or}
use Rattle.std.specs.Prelude.{if◌then◌else◌}
use Rattle.protox_comments.specs.inner.Attributing.{Lines, Newlines, begins_newline, behind, pending, outcome_of, outcome}
use Rattle.protox_comments.specs.CommentState.{CommentState, placed, flushed, with_block, with_line, empty}
use Rattle.protox_comments.specs.declared.comments.Block.{Block}
use Rattle.protox_lexeme.specs.Gaps.{Attribution, Item, block, blank, begins_line, joined, items, nothing, may_lead, led_by, unless_leading, among, attribution, IsGap}
use Rattle.protox_lexeme.specs.Table.{is_gap}
use Rattle.protox_lexeme.specs.Tokens.{shape_of}
use Rattle.protox_lexeme.specs.declared.token.Token.{Token}
use Rattle.protox_lexeme.specs.declared.token.Token.TheVariants as token
use Rattle.protox_lexeme.specs.Shapes.{Shape, LineComment, BlockComment, Newline}

-- ---- one item in front

others_front : (item y : Item) (rest : List Item) (leading : Option (List ℕ)) → unless_leading (item ∷ (y ∷ rest)) leading ≡ item ∷ unless_leading (y ∷ rest) leading
others_front (block t) y rest None = refl
others_front (block t) y rest (Some l) = refl
others_front blank y rest None = refl
others_front blank y rest (Some l) = refl

-- A block in front of others is finished. The rest is as if nothing might trail.
among_block : (m : Bool) (t : List ℕ) (y : Item) (rest : List Item) (next : Option Shape)
    → among m (block t ∷ (y ∷ rest)) next
    ≡ record { trailing = if m then Some t else None; detached = (if m then [] else t ∷ []) ++ (among false (y ∷ rest) next).detached; leading = (among false (y ∷ rest) next).leading }
among_block true t y rest next = rw (others_front (block t) y rest (led_by (y ∷ rest) next)) refl
among_block false t y rest next = rw (others_front (block t) y rest (led_by (y ∷ rest) next)) refl

-- A blank in front of others is left out. From then on nothing may trail.
pub among_blank : (m : Bool) (ys : List Item) (next : Option Shape) → among m (blank ∷ ys) next ≡ among false ys next
among_blank true [] next = elim (cases_Bool (may_lead next)) [ inl e ↦ rw e refl | inr e ↦ rw e refl ]
among_blank false [] next = elim (cases_Bool (may_lead next)) [ inl e ↦ rw e refl | inr e ↦ rw e refl ]
among_blank true (y ∷ rest) next = rw (others_front blank y rest (led_by (y ∷ rest) next)) refl
among_blank false (y ∷ rest) next = rw (others_front blank y rest (led_by (y ∷ rest) next)) refl

-- ---- finishing the open block

-- A finished block, and what is to come after it.
placed_same : (detached : List (List ℕ)) (trailing : Option (List ℕ)) (m : Bool) (t : List ℕ) (y : Item) (rest : List Item) (next : Option Shape)
    → outcome_of (if m then detached else detached ++ t ∷ []) (if m then Some t else trailing) false (y ∷ rest) next ≡ outcome_of detached trailing m (block t ∷ (y ∷ rest)) next
placed_same detached trailing true t y rest next = sym (ap (behind detached trailing) (among_block true t y rest next))
placed_same detached trailing false t y rest next =
    let a = among false (y ∷ rest) next in
    ap (λ ds. behind [] trailing (record a { detached = ds })) (append_assoc detached (t ∷ []) a.detached) ∙ sym (ap (behind detached trailing) (among_block false t y rest next))

module _ (s : CommentState) (t : List ℕ) where
  -- the fields of the state after it
  placed_detached : (placed t s).detached ≡ (if s.may_trail then s.detached else s.detached ++ t ∷ [])
  placed_detached = elim (cases_Bool s.may_trail) [ inl e ↦ rw e refl | inr e ↦ rw e refl ]

  placed_trailing : (placed t s).trailing ≡ (if s.may_trail then Some t else s.trailing)
  placed_trailing = elim (cases_Bool s.may_trail) [ inl e ↦ rw e refl | inr e ↦ rw e refl ]

  placed_trails : (placed t s).may_trail ≡ false
  placed_trails = elim (cases_Bool s.may_trail) [ inl e ↦ rw e refl | inr e ↦ rw e refl ]

  placed_outcome : (y : Item) (rest : List Item) (next : Option Shape)
      → outcome_of (placed t s).detached (placed t s).trailing (placed t s).may_trail (y ∷ rest) next ≡ outcome_of s.detached s.trailing s.may_trail (block t ∷ (y ∷ rest)) next
  placed_outcome y rest next = rw (placed_detached, placed_trailing, placed_trails) (placed_same s.detached s.trailing s.may_trail t y rest next)

-- ---- one comment or newline

module _ (s : CommentState) (t : List ℕ) where
  placed_open : (placed t s).open_block ≡ None
  placed_open = elim (cases_Bool s.may_trail) [ inl e ↦ rw e refl | inr e ↦ rw e refl ]

  -- the rest is as if a blank stood in front of it
  placed_blank : (its : List Item) (next : Option Shape)
      → outcome_of (placed t s).detached (placed t s).trailing (placed t s).may_trail its next ≡ outcome_of s.detached s.trailing s.may_trail (block t ∷ (blank ∷ its)) next
  placed_blank its next =
      let P : Bool → Type 0 = λ m. among m its next ≡ among m (blank ∷ its) next in
      let none = subst P (sym (placed_trails s t)) (sym (among_blank false its next)) in
      ap (behind (placed t s).detached (placed t s).trailing) none ∙ placed_outcome s t blank its next

-- An open block, in front of items that don't begin with a line comment.
pending_front : (b : Block) (gap : List Shape) → begins_line gap ≡ false → pending (Some b) gap ≡ block b.text ∷ items gap
pending_front b gap h = elim (cases_Bool b.of_lines) [ inl e ↦ rw (e, h) refl | inr e ↦ rw e refl ]

pub flush_turn : (s : CommentState) (gap : List Shape) (next : Option Shape) → outcome (flushed s) gap next ≡ outcome s (Newline ∷ gap) next
flush_turn s gap next = go s.open_block refl where
  go : (o : Option Block) → s.open_block ≡ o → outcome (flushed s) gap next ≡ outcome s (Newline ∷ gap) next
  go None e = rw e (ap (behind s.detached s.trailing) (sym (among_blank s.may_trail (items gap) next)))
  go (Some b) e = rw (e, placed_open s b.text, pending_front b (Newline ∷ gap) refl) (placed_blank s b.text (items gap) next)

pub block_turn : (s : CommentState) (t : List ℕ) (gap rest : List Shape) (next : Option Shape) → items (BlockComment t ∷ gap) ≡ block t ∷ items rest
    → outcome (with_block t s) rest next ≡ outcome s (BlockComment t ∷ gap) next
block_turn s t gap rest next h = go s.open_block refl where
  go : (o : Option Block) → s.open_block ≡ o → outcome (with_block t s) rest next ≡ outcome s (BlockComment t ∷ gap) next
  go None e = rw (e, h) refl
  go (Some b) e = rw (e, pending_front b (BlockComment t ∷ gap) refl, h) (placed_outcome s b.text (block t) (items rest) next)

joined_twice : (t u : List ℕ) (its : List Item) → joined (t ++ u) its ≡ joined t (joined u its)
joined_twice t u [] = refl
joined_twice t u (blank ∷ its) = refl
joined_twice t u (block v ∷ its) = ap (λ x. block x ∷ its) (append_assoc t u v)

-- a run of line comments goes on
line_more : (t u : List ℕ) (gap : List Shape) → items (LineComment (t ++ u) ∷ gap) ≡ items (LineComment t ∷ (LineComment u ∷ gap))
line_more t u gap = elim (cases_Bool (begins_line gap)) [ inl e ↦ rw e (joined_twice t u (items gap)) | inr e ↦ rw e refl ]

-- a line comment begins with an item
joined_some : (t : List ℕ) (its : List Item) → (y : Item) × (rest : List Item) × (joined t its ≡ y ∷ rest)
joined_some t [] = (block t, [], refl)
joined_some t (blank ∷ its) = (block t, blank ∷ its, refl)
joined_some t (block u ∷ its) = (block (t ++ u), its, refl)

line_some : (t : List ℕ) (gap : List Shape) → (y : Item) × (rest : List Item) × (items (LineComment t ∷ gap) ≡ y ∷ rest)
line_some t gap = elim (cases_Bool (begins_line gap)) [
  | inl e ↦ rw e (joined_some t (items gap))
  | inr e ↦ rw e (block t, items gap, refl)
]

pub line_turn : (s : CommentState) (t : List ℕ) (gap : List Shape) (next : Option Shape) → outcome (with_line t s) gap next ≡ outcome s (LineComment t ∷ gap) next
line_turn s t gap next = go s.open_block refl where
  go : (o : Option Block) → s.open_block ≡ o → outcome (with_line t s) gap next ≡ outcome s (LineComment t ∷ gap) next
  go None e = rw e refl
  go (Some b) e = elim (cases_Bool b.of_lines) [
    | inl lines ↦ rw (e, lines) (ap (λ its. outcome_of s.detached s.trailing s.may_trail its next) (line_more b.text t gap))
    | inr other ↦
        let (y, rest, same) = line_some t gap in
        rw (e, other, same) (placed_outcome s b.text y rest next)
  ]

-- ---- the tokens of a gap

-- the shapes from a place on
pub shapes_at : (gap : List Token) (at : ℕ) (x : Token) → at < length gap → x ≡ get_or gap at x → map shape_of (drop at gap) ≡ shape_of x ∷ map shape_of (drop (at + 1) gap)
shapes_at gap at x h e = at_drop_more (map shape_of) gap at x h ∙ ap (λ y. shape_of y ∷ map shape_of (drop (at + 1) gap)) (sym e)

pub gap_at : (gap : List Token) (at : ℕ) (x : Token) → at < length gap → x ≡ get_or gap at x → IsGap (map shape_of gap) → is_gap (shape_of x) ≡ true
gap_at [] at x h e g = absurd (omega arith)
gap_at (y ∷ gap) zero x h e g = ap (λ z. is_gap (shape_of z)) e ∙ (and_parts (is_gap (shape_of y)) (list_all is_gap (map shape_of gap)) g).0
gap_at (y ∷ gap) (suc at) x h e g = gap_at gap at x (omega arith) e (and_parts (is_gap (shape_of y)) (list_all is_gap (map shape_of gap)) g).1

-- Nothing else stands in a gap.
pub no_other : (x : Token) → ((t : CowStr Global) → x ≡ token.LineComment t → ⊥) → ((t : CowStr Global) → x ≡ token.BlockComment t → ⊥) → (x ≡ token.Newline → ⊥) → is_gap (shape_of x) ≡ true → ⊥
no_other (token.LineComment t) a b c h = a t refl
no_other (token.BlockComment t) a b c h = b t refl
no_other token.Newline a b c h = c refl
no_other other a b c h = absurd (cc)

-- neither kind of comment
pub is_newline : (x : Token) → ((t : CowStr Global) → x ≡ token.LineComment t → ⊥) → ((t : CowStr Global) → x ≡ token.BlockComment t → ⊥) → is_gap (shape_of x) ≡ true → shape_of x ≡ Newline
is_newline (token.LineComment t) a b h = absurd (a t refl)
is_newline (token.BlockComment t) a b h = absurd (b t refl)
is_newline token.Newline a b h = refl
is_newline other a b h = absurd (cc)

-- ---- the front of a gap

or_none : (o : Option (List ℕ)) → option_or o None ≡ o
or_none None = refl
or_none (Some t) = refl

pub empty_outcome : (m : Bool) (gap : List Shape) (next : Option Shape) → outcome (empty m) gap next ≡ among m (items gap) next
empty_outcome m gap next = let a = among m (items gap) next in ap (λ t. record a { trailing = t }) (or_none a.trailing)

pub attribution_alone : (t : List ℕ) (gap : List Shape) (next : Option Shape) → begins_newline gap ≡ false → attribution (BlockComment t ∷ gap) false next ≡ nothing
attribution_alone t [] next h = refl
attribution_alone t (Newline ∷ gap) next h = absurd (cc)
attribution_alone t (other ∷ gap) next h = refl

pub attribution_block : (t : List ℕ) (gap : List Shape) (next : Option Shape) → begins_newline gap ≡ true → attribution (BlockComment t ∷ gap) false next ≡ among true (items (BlockComment t ∷ gap)) next
attribution_block t [] next h = absurd (cc)
attribution_block t (Newline ∷ gap) next h = refl
attribution_block t (other ∷ gap) next h = absurd (cc)

-- ---- newlines alone

blanks_alone : (gap : List Shape) → Newlines gap → (m : Bool) (next : Option Shape) → among m (items gap) next ≡ nothing
blanks_alone [] h true next = elim (cases_Bool (may_lead next)) [ inl e ↦ rw e refl | inr e ↦ rw e refl ]
blanks_alone [] h false next = elim (cases_Bool (may_lead next)) [ inl e ↦ rw e refl | inr e ↦ rw e refl ]
blanks_alone (x ∷ gap) h m next = rw h.0 (among_blank m (items gap) next ∙ blanks_alone gap h.1 false next)

-- they hold no comment
pub newlines_alone : (gap : List Shape) → Newlines gap → (at_start : Bool) (next : Option Shape) → attribution gap at_start next ≡ nothing
newlines_alone gap h true next = blanks_alone gap h false next
newlines_alone [] h false next = refl
newlines_alone (x ∷ gap) h false next = rw h.0 (blanks_alone gap h.1 true next)

-- ---- one side of a gap

-- a run of line comments is one block
one-block : (t : List ℕ) (gap : List Shape) → Lines gap → (u : List ℕ) × (items (LineComment t ∷ gap) ≡ block u ∷ [])
one-block t [] h = (t, refl)
one-block t (LineComment v ∷ gap) h =
    let (u, same) = one-block v gap h in
    (t ++ u, ap (joined t) same)
one-block t (other ∷ gap) h = absurd h

led-by-block : (u : List ℕ) (next : Option Shape) → may_lead next ≡ true → (among true (block u ∷ []) next).trailing ≡ None
led-by-block u next h = rw h refl

nothing-alone : (next : Option Shape) → (among true [] next).trailing ≡ None
nothing-alone next = elim (cases_Bool (may_lead next)) [ inl e ↦ rw e refl | inr e ↦ rw e refl ]

-- line comments that lead don't trail
pub lines-lead : (gap : List Shape) (next : Option Shape) → Lines gap → may_lead next ≡ true → (among true (items gap) next).trailing ≡ None
lines-lead [] next h lead = nothing-alone next
lines-lead (LineComment t ∷ gap) next h lead =
    let (u, same) = one-block t gap h in
    ap (λ its. (among true its next).trailing) same ∙ led-by-block u next lead
lines-lead (other ∷ gap) next h lead = absurd h

-- a newline, and behind it nothing, another newline, or line comments that lead
pub newline-alone : (next : Option Shape) → (attribution (Newline ∷ []) false next).trailing ≡ None
newline-alone next = nothing-alone next

pub two-newlines : (gap : List Shape) (next : Option Shape) → (attribution (Newline ∷ (Newline ∷ gap)) false next).trailing ≡ None
two-newlines gap next = ap (λ (a : Attribution). a.trailing) (among_blank true (items gap) next)

-- a line comment, and behind it only newlines
pub line-alone : (t : List ℕ) (gap : List Shape) (next : Option Shape) → Newlines gap → attribution (LineComment t ∷ gap) false next ≡ record { trailing = Some t; detached = []; leading = None }
line-alone t gap next h = ap (λ (a : Attribution). record a { trailing = Some t }) (blanks_alone gap h false next)

none-behind : (gap : List Token) → length gap ≡ 1 → map shape_of (drop 1 gap) ≡ []
none-behind [] h = absurd (omega (arith, h))
none-behind (x ∷ []) h = refl
none-behind (x ∷ (y ∷ gap)) h = absurd (omega (arith, h))

module _ (gap : List Token) (next : Option Shape) (front : map shape_of gap ≡ Newline ∷ map shape_of (drop 1 gap)) where
  pub trails-not-alone : length gap ≡ 1 → (attribution (map shape_of gap) false next).trailing ≡ None
  trails-not-alone h = ap (λ g. (attribution g false next).trailing) (front ∙ ap (λ g. Newline ∷ g) (none-behind gap h)) ∙ newline-alone next

  pub trails-not-twice : map shape_of (drop 1 gap) ≡ Newline ∷ map shape_of (drop 2 gap) → (attribution (map shape_of gap) false next).trailing ≡ None
  trails-not-twice h = ap (λ g. (attribution g false next).trailing) (front ∙ ap (λ g. Newline ∷ g) h) ∙ two-newlines (map shape_of (drop 2 gap)) next

  pub trails-not-lines : Lines (map shape_of (drop 1 gap)) → may_lead next ≡ true → (attribution (map shape_of gap) false next).trailing ≡ None
  trails-not-lines h lead = ap (λ g. (attribution g false next).trailing) front ∙ lines-lead (map shape_of (drop 1 gap)) next h lead

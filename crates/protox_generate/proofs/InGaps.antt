-- Where the numbers of a gap's comments stand when the attribution gives them to the declarations
-- around the gap.
use Rattle.std.proofs.Common.{◌≡◌, ℕ, zero, suc, ◌+◌, ◌<◌, ◌≤◌, Bool, true, false, if◌then◌else◌, inl, inr, ◌⊎◌, List, [], ◌∷◌, ◌++◌, length, flat_map, Option, Some, None, refl, ap, sym, subst, append_assoc, arith}
use Rattle.std.proofs.lemmas.List.{append-nil}
use Rattle.protox_lexeme.specs.Gaps.{Item, block, blank, begins_line, joined, items, blocks, last_block, all_but_last, Attribution, may_lead, led_by, unless_leading, trailed_by, unless_trailing, among, attribution}
use Rattle.protox_lexeme.specs.Lexemes.{Lexeme}
use Rattle.protox_lexeme.specs.Shapes.{Shape, LineComment, BlockComment, Newline}
use Rattle.protox_lexeme.specs.Table.{is_gap}
use Rattle.protox_ast.specs.Keywords.{Each}
use Rattle.protox_generate.specs.Commented.{lexeme_at, AreGap, IsNext, AreNeighbours, Rise, Leads, Trails}
use Rattle.protox_generate.proofs.NumberedComments.{text_or}

abbrev pub flat : List (List ℕ) → List ℕ
flat nss = flat_map (λ (ns : List ℕ). ns) nss

-- ---- numbers that rise

pub rise-lower : (low from to : ℕ) (ns : List ℕ) → low ≤ from → Rise from to ns → Rise low to ns
rise-lower low from to [] l h = omega (arith, l, h)
rise-lower low from to (n ∷ ns) l h = (omega (arith, l, h.0), h.1)

meets : (k n : ℕ) → k ≤ n → (k ≡ n) ⊎ (k < n)
meets zero zero l = inl refl
meets zero (suc n) l = inr (omega arith)
meets (suc k) zero l = absurd (omega (arith, l))
meets (suc k) (suc n) l = elim (meets k n (omega (arith, l))) [ inl e ↦ inl (ap suc e) | inr h ↦ inr (omega (arith, h)) ]

no-text : (text : List ℕ) → None ≡ Some text → ⊥
no-text text e = subst (λ (o : Option (List ℕ)). elim o as (λ _. Type 0) [ None ↦ Unit {0} | Some y ↦ ⊥ ]) e tt

the-text : (a b : List ℕ) → Some a ≡ Some b → a ≡ b
the-text a b e = ap (λ (o : Option (List ℕ)). elim o as (λ _. List ℕ) [ None ↦ a | Some y ↦ y ]) e

module _ (lexemes : List Lexeme) where
  -- ---- the shapes of a gap

  abbrev pub IsNewlineAt : ℕ → Type 0
  IsNewlineAt n = (x : Lexeme) × (lexeme_at lexemes n ≡ Some x) × (x.shape ≡ Newline)

  abbrev pub IsGapAt : ℕ → Type 0
  IsGapAt n = (x : Lexeme) × (lexeme_at lexemes n ≡ Some x) × (is_gap x.shape ≡ true)

  -- a comment whose text is its number, or a newline
  abbrev pub Has : ℕ → Shape → Type 0
  Has k (LineComment text) = text ≡ k ∷ []
  Has k (BlockComment text) = text ≡ k ∷ []
  Has k Newline = IsNewlineAt k
  Has k other = ⊥

  -- The gap's shapes have the numbers from this one on.
  abbrev pub GapFrom : ℕ → List Shape → Type 0
  GapFrom k [] = Unit {0}
  GapFrom k (x ∷ gap) = Has k x × IsGapAt k × GapFrom (suc k) gap

  pub gap-append : (k : ℕ) (gap : List Shape) (x : Shape) → GapFrom k gap → Has (k + length gap) x → IsGapAt (k + length gap) → GapFrom k (gap ++ x ∷ [])
  gap-append k [] x h has is = let e : k + 0 ≡ k = omega arith in (subst (λ n. Has n x) e has, subst IsGapAt e is, tt)
  gap-append k (y ∷ gap) x h has is =
      let e : k + length (y ∷ gap) ≡ suc k + length gap = omega arith in
      (h.0, h.1, gap-append (suc k) gap x h.2 (subst (λ n. Has n x) e has) (subst IsGapAt e is))

  pub are-gap : (k : ℕ) (gap : List Shape) → GapFrom k gap → AreGap lexemes k (k + length gap)
  are-gap k [] h n l m = absurd (omega (arith, l, m))
  are-gap k (x ∷ gap) h n l m =
      elim (meets k n l) [
        | inl e ↦ subst IsGapAt e h.1
        | inr above ↦ are-gap (suc k) gap h.2 n (omega (arith, above)) (omega (arith, m))
      ]

  -- ---- runs of numbers, and items in their places

  -- The numbers follow one another from the first one on. The lexeme behind the last of them, or
  -- behind one newline there, has this number.
  abbrev pub Run : ℕ → ℕ → List ℕ → Type 0
  Run low high [] = ⊥
  Run low high (n ∷ []) = (n ≡ low) × IsNext lexemes low high
  Run low high (n ∷ (m ∷ ns)) = (n ≡ low) × Run (suc low) high (m ∷ ns)

  -- The items have the numbers from one to right before another.
  abbrev pub Sit : ℕ → ℕ → List Item → Type 0
  Sit low high [] = low ≡ high
  Sit low high (block text ∷ its) = (mid : ℕ) × Run low mid text × Sit mid high its
  Sit low high (blank ∷ its) = Sit (suc low) high its

  next-is : (k : ℕ) → IsNext lexemes k (suc k)
  next-is k = inl refl

  single : (k high : ℕ) (text : List ℕ) → text ≡ k ∷ [] → IsNext lexemes k high → Run k high text
  single k high text h is = subst (Run k high) (sym h) (refl, is)

  join-sit : (k high : ℕ) (text : List ℕ) (its : List Item) → text ≡ k ∷ [] → Sit (suc k) high its → Sit k high (joined text its)
  join-sit k high text [] e h = (suc k, single k (suc k) text e (next-is k), h)
  join-sit k high text (block [] ∷ its) e h = absurd h.1
  join-sit k high text (block (n ∷ ns) ∷ its) e h = (h.0, subst (λ t. Run k h.0 (t ++ n ∷ ns)) (sym e) (refl, h.1), h.2)
  join-sit k high text (blank ∷ its) e h = (suc k, single k (suc k) text e (next-is k), h)

  line-sit : (b : Bool) (k high : ℕ) (text : List ℕ) (its : List Item) → text ≡ k ∷ [] → Sit (suc k) high its → Sit k high (if b then joined text its else block text ∷ its)
  line-sit true k high text its e h = join-sit k high text its e h
  line-sit false k high text its e h = (suc k, single k (suc k) text e (next-is k), h)

  past : (k : ℕ) (x : Shape) (gap : List Shape) (its : List Item) → Sit (suc k) (suc k + length gap) its → Sit (suc k) (k + length (x ∷ gap)) its
  past k x gap its h = let e : suc k + length gap ≡ k + length (x ∷ gap) = omega arith in subst (λ n. Sit (suc k) n its) e h

  pub sit : (k : ℕ) (gap : List Shape) → GapFrom k gap → Sit k (k + length gap) (items gap)
  sit k [] h = omega arith
  sit k (LineComment text ∷ gap) h = line-sit (begins_line gap) k (k + length (LineComment text ∷ gap)) text (items gap) h.0 (past k (LineComment text) gap (items gap) (sit (suc k) gap h.2))
  sit k (BlockComment text ∷ (Newline ∷ gap)) h =
      let e : suc (suc k) + length gap ≡ k + length (BlockComment text ∷ (Newline ∷ gap)) = omega arith in
      (suc (suc k), single k (suc (suc k)) text h.0 (inr (refl, h.2.0.0, h.2.0.1, h.2.0.2)), subst (λ n. Sit (suc (suc k)) n (items gap)) e (sit (suc (suc k)) gap h.2.2))
  sit k (BlockComment text ∷ []) h = (suc k, single k (suc k) text h.0 (next-is k), omega arith)
  sit k (BlockComment text ∷ (other ∷ gap)) h =
      (suc k, single k (suc k) text h.0 (next-is k), past k (BlockComment text) (other ∷ gap) (items (other ∷ gap)) (sit (suc k) (other ∷ gap) h.2))
  sit k (Newline ∷ gap) h = past k Newline gap (items gap) (sit (suc k) gap h.2)
  sit k (other ∷ gap) h = absurd h.0

  -- ---- runs of numbers, and items

  run-first : (low high n : ℕ) (ns : List ℕ) → Run low high (n ∷ ns) → n ≡ low
  run-first low high n [] h = h.0
  run-first low high n (m ∷ ns) h = h.0

  next-above : (low high : ℕ) → IsNext lexemes low high → suc low ≤ high
  next-above low high (inl e) = omega (arith, e)
  next-above low high (inr e) = let k : high ≡ suc (suc low) = e.0 in omega (arith, k)

  run-neighbours : (low high : ℕ) (ns : List ℕ) → Run low high ns → AreNeighbours ns
  run-neighbours low high [] h = tt
  run-neighbours low high (n ∷ []) h = tt
  run-neighbours low high (n ∷ (m ∷ ns)) h =
      let first : n ≡ low = h.0 in
      let second : m ≡ suc low = run-first (suc low) high m ns h.1 in
      (omega (arith, first, second), run-neighbours (suc low) high (m ∷ ns) h.1)

  run-leads : (low high : ℕ) (ns : List ℕ) → Run low high ns → Leads lexemes ns high
  run-leads low high [] h = tt
  run-leads low high (n ∷ []) h = subst (λ k. IsNext lexemes k high) (sym h.0) h.1
  run-leads low high (n ∷ (m ∷ ns)) h = run-leads (suc low) high (m ∷ ns) h.1

  -- Numbers that rise from the end of a run rise with the run before them.
  run-rise : (low high to : ℕ) (ns more : List ℕ) → Run low high ns → Rise high to more → Rise low to (ns ++ more)
  run-rise low high to [] more h k = absurd h
  run-rise low high to (n ∷ []) more h k =
      let first : n ≡ low = h.0 in
      (omega (arith, first), rise-lower (suc n) high to more (omega (arith, first, next-above low high h.1)) k)
  run-rise low high to (n ∷ (m ∷ ns)) more h k =
      let first : n ≡ low = h.0 in
      let e : suc low ≡ suc n = ap suc (sym first) in
      (omega (arith, first), subst (λ l. Rise l to (m ∷ (ns ++ more))) e (run-rise (suc low) high to (m ∷ ns) more h.1 k))

  blocks-rise : (low mid to : ℕ) (its : List Item) (more : List ℕ) → Sit low mid its → Rise mid to more → Rise low to (flat (blocks its) ++ more)
  blocks-rise low mid to [] more h k = let e : low ≡ mid = h in rise-lower low mid to more (omega (arith, e)) k
  blocks-rise low mid to (block text ∷ its) more h k =
      subst (Rise low to) (sym (append_assoc text (flat (blocks its)) more)) (run-rise low h.0 to text (flat (blocks its) ++ more) h.1 (blocks-rise h.0 mid to its more h.2 k))
  blocks-rise low mid to (blank ∷ its) more h k = rise-lower low (suc low) to (flat (blocks its) ++ more) (omega arith) (blocks-rise (suc low) mid to its more h k)

  blocks-neighbours : (low high : ℕ) (its : List Item) → Sit low high its → Each AreNeighbours (blocks its)
  blocks-neighbours low high [] h = tt
  blocks-neighbours low high (block text ∷ its) h = (run-neighbours low h.0 text h.1, blocks-neighbours h.0 high its h.2)
  blocks-neighbours low high (blank ∷ its) h = blocks-neighbours (suc low) high its h

  -- The last item, if it is a block, is a run up to the end.
  last-sit : (low high : ℕ) (its : List Item) (text : List ℕ) → Sit low high its → last_block its ≡ Some text → (mid : ℕ) × Sit low mid (all_but_last its) × Run mid high text
  last-sit low high [] text h e = absurd (no-text text e)
  last-sit low high (block own ∷ []) text h e = (low, refl, subst (λ n. Run low n text) h.2 (subst (Run low h.0) (the-text own text e) h.1))
  last-sit low high (blank ∷ []) text h e = absurd (no-text text e)
  last-sit low high (block own ∷ (y ∷ its)) text h e = let r = last-sit h.0 high (y ∷ its) text h.2 e in (r.0, (h.0, h.1, r.1), r.2)
  last-sit low high (blank ∷ (y ∷ its)) text h e = let r = last-sit (suc low) high (y ∷ its) text h e in (r.0, r.1, r.2)

  -- ---- the attribution

  -- The leading comment, if there is one, is a run up to the end.
  abbrev LeadsFrom : ℕ → ℕ → Option (List ℕ) → Type 0
  LeadsFrom mid high None = mid ≤ high
  LeadsFrom mid high (Some text) = Run mid high text

  leads-rise : (mid high : ℕ) (leading : Option (List ℕ)) → LeadsFrom mid high leading → Rise mid high (text_or lexemes leading)
  leads-rise mid high None h = h
  leads-rise mid high (Some []) h = absurd h
  leads-rise mid high (Some (n ∷ ns)) h = subst (Rise mid high) (append-nil (n ∷ ns)) (run-rise mid high high (n ∷ ns) [] h (omega arith))

  leads-end : (mid high : ℕ) (leading : Option (List ℕ)) → LeadsFrom mid high leading → Leads lexemes (text_or lexemes leading) high
  leads-end mid high None h = tt
  leads-end mid high (Some text) h = run-leads mid high text h

  leads-neighbours : (mid high : ℕ) (leading : Option (List ℕ)) → LeadsFrom mid high leading → AreNeighbours (text_or lexemes leading)
  leads-neighbours mid high None h = tt
  leads-neighbours mid high (Some text) h = run-neighbours mid high text h

  led-sit : (low high : ℕ) (its : List Item) (leading : Option (List ℕ)) → Sit low high its → leading ≡ last_block its → (mid : ℕ) × Sit low mid (unless_leading its leading) × LeadsFrom mid high leading
  led-sit low high its None h e = (high, h, omega arith)
  led-sit low high its (Some text) h e = last-sit low high its text h (sym e)

  led-by : (low high : ℕ) (its : List Item) (may : Bool) → Sit low high its
      → let leading = if may then last_block its else None in (mid : ℕ) × Sit low mid (unless_leading its leading) × LeadsFrom mid high leading
  led-by low high its true h = led-sit low high its (last_block its) h refl
  led-by low high its false h = (high, h, omega arith)

  -- the comments before a declaration, in a gap with these numbers
  pub record Before (low high : ℕ) (a : Attribution) : Type 0 where
    pub rise : Rise low high (flat a.detached ++ text_or lexemes a.leading)
    pub leads : Leads lexemes (text_or lexemes a.leading) high
    pub leading : AreNeighbours (text_or lexemes a.leading)
    pub detached : Each AreNeighbours a.detached

  -- A text begins with this number.
  abbrev BeginsWith : ℕ → List ℕ → Type 0
  BeginsWith low [] = Unit {0}
  BeginsWith low (n ∷ ns) = n ≡ low

  record Around (low high : ℕ) (a : Attribution) : Type 0 where
    before : Before low high a
    begins : BeginsWith low (text_or lexemes a.trailing)
    trailing : AreNeighbours (text_or lexemes a.trailing)

  run-begins : (low high : ℕ) (ns : List ℕ) → Run low high ns → BeginsWith low ns
  run-begins low high [] h = tt
  run-begins low high (n ∷ ns) h = run-first low high n ns h

  rest-before : (low from mid high : ℕ) (its : List Item) (trailing leading : Option (List ℕ)) → low ≤ from → Sit from mid its → LeadsFrom mid high leading
      → Before low high (record { trailing = trailing; detached = blocks its; leading = leading })
  rest-before low from mid high its trailing leading l h k = record {
    rise = rise-lower low from high (flat (blocks its) ++ text_or lexemes leading) l (blocks-rise from mid high its (text_or lexemes leading) h (leads-rise mid high leading k));
    leads = leads-end mid high leading k;
    leading = leads-neighbours mid high leading k;
    detached = blocks-neighbours from mid its h;
  }

  run-above : (low high : ℕ) (ns : List ℕ) → Run low high ns → low ≤ high
  run-above low high [] h = absurd h
  run-above low high (n ∷ []) h = omega (arith, next-above low high h.1)
  run-above low high (n ∷ (m ∷ ns)) h = omega (arith, run-above (suc low) high (m ∷ ns) h.1)

  given-sit : (may : Bool) (low mid high : ℕ) (others : List Item) (leading : Option (List ℕ)) → Sit low mid others → LeadsFrom mid high leading
      → Around low high (record { trailing = trailed_by may others; detached = blocks (unless_trailing others (trailed_by may others)); leading = leading })
  given-sit false low mid high others leading h k = record { before = rest-before low low mid high others None leading (omega arith) h k; begins = tt; trailing = tt }
  given-sit true low mid high [] leading h k = record { before = rest-before low low mid high [] None leading (omega arith) h k; begins = tt; trailing = tt }
  given-sit true low mid high (block text ∷ its) leading h k = record {
    before = rest-before low h.0 mid high its (Some text) leading (run-above low h.0 text h.1) h.2 k;
    begins = run-begins low h.0 text h.1;
    trailing = run-neighbours low h.0 text h.1;
  }
  given-sit true low mid high (blank ∷ its) leading h k = record { before = rest-before low low mid high (blank ∷ its) None leading (omega arith) h k; begins = tt; trailing = tt }

  among-sit : (may : Bool) (low high : ℕ) (its : List Item) (next : Option Shape) → Sit low high its → Around low high (among may its next)
  among-sit may low high its next h = let r = led-by low high its (may_lead next) h in given-sit may low r.0 high (unless_leading its (led_by its next)) (led_by its next) r.1 r.2

  none-before : (low high : ℕ) → low ≤ high → Before low high (record { trailing = None; detached = []; leading = None })
  none-before low high l = record { rise = l; leads = tt; leading = tt; detached = tt }

  in-gap : (may : Bool) (k : ℕ) (gap : List Shape) (next : Option Shape) → GapFrom k gap → Around k (k + length gap) (among may (items gap) next)
  in-gap may k gap next h = among-sit may k (k + length gap) (items gap) next (sit k gap h)

  -- behind the first of the gap
  behind-first : (trailing : Option (List ℕ)) (k : ℕ) (x : Shape) (gap : List Shape) (a : Attribution) → Before (suc k) (suc k + length gap) a
      → Before k (k + length (x ∷ gap)) (record { trailing = trailing; detached = a.detached; leading = a.leading })
  behind-first trailing k x gap a h =
      let e : suc k + length gap ≡ k + length (x ∷ gap) = omega arith in
      let b = subst (λ n. Before (suc k) n a) e h in
      record { rise = rise-lower k (suc k) (k + length (x ∷ gap)) (flat a.detached ++ text_or lexemes a.leading) (omega arith) b.rise; leads = b.leads; leading = b.leading; detached = b.detached }

  -- What the gap gives to the declaration behind it stands at the gap's end.
  pub gap-before : (k : ℕ) (gap : List Shape) (first : Bool) (next : Option Shape) → GapFrom k gap → Before k (k + length gap) (attribution gap first next)
  gap-before k gap true next h = (in-gap false k gap next h).before
  gap-before k (LineComment text ∷ gap) false next h = behind-first (Some text) k (LineComment text) gap (among false (items gap) next) (in-gap false (suc k) gap next h.2).before
  gap-before k (Newline ∷ gap) false next h = behind-first (among true (items gap) next).trailing k Newline gap (among true (items gap) next) (in-gap true (suc k) gap next h.2).before
  gap-before k (BlockComment text ∷ (Newline ∷ gap)) false next h = (in-gap true k (BlockComment text ∷ (Newline ∷ gap)) next h).before
  gap-before k [] false next h = none-before k (k + 0) (omega arith)
  gap-before k (BlockComment text ∷ []) false next h = none-before k (k + length (BlockComment text ∷ [])) (omega arith)
  gap-before k (BlockComment text ∷ (other ∷ gap)) false next h = none-before k (k + length (BlockComment text ∷ (other ∷ gap))) (omega arith)
  gap-before k (other ∷ gap) false next h = none-before k (k + length (other ∷ gap)) (omega arith)

  trails-next : (last low : ℕ) (ns : List ℕ) → IsNext lexemes last low → BeginsWith low ns → Trails lexemes last ns
  trails-next last low [] is h = tt
  trails-next last low (n ∷ ns) is h = subst (IsNext lexemes last) (sym h) is

  -- What the gap gives to the declaration before it stands at the gap's start.
  pub gap-trails : (last : ℕ) (gap : List Shape) (next : Option Shape) → GapFrom (suc last) gap
      → let ns = text_or lexemes (attribution gap false next).trailing in Trails lexemes last ns × AreNeighbours ns
  gap-trails last (LineComment text ∷ gap) next h = subst (λ ns. Trails lexemes last ns × AreNeighbours ns) (sym h.0) (next-is last, tt)
  gap-trails last (Newline ∷ gap) next h =
      let r = in-gap true (suc (suc last)) gap next h.2 in
      (trails-next last (suc (suc last)) (text_or lexemes (among true (items gap) next).trailing) (inr (refl, h.0.0, h.0.1, h.0.2)) r.begins, r.trailing)
  gap-trails last (BlockComment text ∷ (Newline ∷ gap)) next h =
      let r = in-gap true (suc last) (BlockComment text ∷ (Newline ∷ gap)) next h in
      (trails-next last (suc last) (text_or lexemes (among true (items (BlockComment text ∷ (Newline ∷ gap))) next).trailing) (next-is last) r.begins, r.trailing)
  gap-trails last [] next h = (tt, tt)
  gap-trails last (BlockComment text ∷ []) next h = (tt, tt)
  gap-trails last (BlockComment text ∷ (other ∷ gap)) next h = (tt, tt)
  gap-trails last (other ∷ gap) next h = (tt, tt)

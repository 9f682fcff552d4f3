-- The faults of a table stand in the order of their places, row by row.
use Rattle.std.proofs.Common.{◌≡◌, ℕ, zero, suc, ◌+◌, ◌-◌, ◌≤◌, Bool, true, false, cond, inl, inr, List, [], ◌∷◌, ◌++◌, drop, filter, refl, sym, subst, append-nil, le_refl, arith, Option, Some, None}
use Rattle.std.proofs.lemmas.Bool.{cases_Bool}
use Rattle.std.specs.Prelude.{slice_index_or}
use Rattle.protox_fault.specs.declared.error.ParseErrorKind.{ParseErrorKind}
use Rattle.protox_fault.specs.Faults.{span_from}
use Rattle.protox_lexeme.specs.Lexemes.{Lexeme, IsCut, cut, blanks}
use Rattle.protox_lexeme.specs.Shapes.{Shape, LineComment, BlockComment, Newline}
use Rattle.protox_lexeme.specs.Table.{is_gap, in_front, faults_of, invalid_faults, row_faults}
use Rattle.protox_lexeme.proofs.Cut.{cut_is_cut}
use Rattle.protox_lexeme.proofs.FaultOrder.{twice, key, keys, Rise, RiseWithin, rise_lower, within_joined}
use Rattle.protox_lexeme.proofs.FaultsRise.{row_rises}

-- The places of each list of faults come after those of the list before it.
abbrev pub AreInOrder : ℕ → List (List ParseErrorKind) → Type 0
AreInOrder low [] = Unit {0}
AreInOrder low (fs ∷ fss) = (mid : ℕ) × RiseWithin low mid fs × AreInOrder mid fss

-- where the places of list k begin
abbrev pub place_of : (low : ℕ) (fss : List (List ParseErrorKind)) → AreInOrder low fss → ℕ → ℕ
place_of low [] r k = low
place_of low (fs ∷ fss) r zero = low
place_of low (fs ∷ fss) r (suc k) = place_of r.0 fss r.2 k

place_first : (low : ℕ) (fss : List (List ParseErrorKind)) (r : AreInOrder low fss) → place_of low fss r 0 ≡ low
place_first low [] r = refl
place_first low (fs ∷ fss) r = refl

-- The places of list k come before those of the next list.
pub list_rises : (low : ℕ) (fss : List (List ParseErrorKind)) (r : AreInOrder low fss) (k : ℕ) → RiseWithin (place_of low fss r k) (place_of low fss r (suc k)) (slice_index_or fss k [])
list_rises low [] r k = le_refl low
list_rises low (fs ∷ fss) r zero = let P : ℕ → Type 0 = λ n. RiseWithin low n fs in subst P (sym (place_first r.0 fss r.2)) r.1
list_rises low (fs ∷ fss) r (suc k) = list_rises r.0 fss r.2 k

front_in_order : (low mid : ℕ) (fs : List ParseErrorKind) (fss : List (List ParseErrorKind)) → RiseWithin low mid fs → AreInOrder mid fss → AreInOrder low (in_front fs fss)
front_in_order low mid fs [] h r = tt
front_in_order low mid fs (gs ∷ fss) h r = (r.0, within_joined low mid r.0 fs gs h r.1, r.2)

-- A comment or a newline is no invalid character.
pub gap_faults : (x : Lexeme) → is_gap x.shape ≡ true → row_faults x ≡ x.faults
gap_faults x gap = go x.shape gap where
  go : (shape : Shape) → is_gap shape ≡ true → x.faults ++ invalid_faults shape (span_from x.start x.stop) ≡ x.faults
  go (LineComment text) gap = append-nil x.faults
  go (BlockComment text) gap = append-nil x.faults
  go Newline gap = append-nil x.faults
  go _ gap = absurd (cc)

in_order : (at low : ℕ) (text : List ℕ) (xs : List Lexeme) → IsCut at text xs → low ≤ twice at → AreInOrder low (faults_of xs)
in_order at low text [] is_cut h = (low, le_refl low, tt)
in_order at low text (x ∷ xs) is_cut h =
    let here = row_rises (at + blanks text) (drop (blanks text) text) x is_cut.1 in
    let behind = in_order x.stop (twice x.stop) (drop (x.stop - at) text) xs is_cut.2 (le_refl _) in
    let own = rise_lower low (twice (at + blanks text)) (twice x.stop) (keys (row_faults x)) (omega (arith, h)) here.1 in
    elim (cases_Bool (is_gap x.shape)) [
      | inl gap ↦ let P : List ParseErrorKind → Type 0 = λ fs. RiseWithin low (twice x.stop) fs in rw gap (front_in_order low (twice x.stop) x.faults (faults_of xs) (subst P (gap_faults x gap) own) behind)
      | inr row ↦ rw row (twice x.stop, own, behind)
    ]

-- The faults of the rows of a source's table stand in the order of their places.
pub table_in_order : (source : List ℕ) → AreInOrder 0 (faults_of (cut 0 source))
table_in_order source = in_order 0 0 source (cut 0 source) (cut_is_cut 0 source) (omega arith)

-- ---- fewer faults

-- The order stays if some are left out.
pub filter_rises : (p : ParseErrorKind → Bool) (low high : ℕ) (fs : List ParseErrorKind) → RiseWithin low high fs → RiseWithin low high (filter p fs)
filter_rises p low high [] r = r
filter_rises p low high (f ∷ fs) r = go (p f) (key f) refl r (λ from rest. filter_rises p from high fs rest) where
  go : (b : Bool) (o : Option ℕ) → key f ≡ o → Rise low high (o ∷ keys fs) → ((from : ℕ) → RiseWithin from high fs → RiseWithin from high (filter p fs)) → RiseWithin low high (cond b (f ∷ filter p fs) (filter p fs))
  go true None is r rest = rw is (rest low r)
  go true (Some k) is r rest = rw is (r.0, rest (suc k) r.1)
  go false None is r rest = rest low r
  go false (Some k) is r rest = rise_lower low (suc k) high (keys (filter p fs)) (omega (arith, r.0)) (rest (suc k) r.1)

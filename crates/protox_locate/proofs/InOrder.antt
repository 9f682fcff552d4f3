-- If a file stands in its source, its locations are in order: by path, and for one path by where
-- they start.
use Rattle.std.proofs.Common.{◌≡◌, ℕ, zero, suc, ◌+◌, ◌-◌, ◌<◌, ◌≤◌, true, false, List, [], ◌∷◌, ◌++◌, take, refl, ap, sym, ◌∙◌, arith, subst}
use Rattle.std.specs.Prelude.{pos, if◌then◌else◌, ◌==◌}
use Rattle.std.specs.Ordering.{int_cmp, is_lt, ordering_then}
use Rattle.std.specs.Cmp.Lexicographic.{slice_cmp}
use Rattle.std.proofs.lemmas.Cmp.{tied_itself, int_cmp_total}
use Rattle.protox_fault.specs.Faults.{Span}
use Rattle.protox_ast.specs.Basics.{Each}
use Rattle.protox_ast.specs.Siblings.{FileStands, SiblingsStand}
use Rattle.protox_ast.proofs.Lemmas.{StartsRise, starts-rise}
use Rattle.protox_ast.specs.declared.ast.File.{File}
use Rattle.protox_descriptor.specs.declared.descriptor.source_code_info.Location.{Location}
use Rattle.protox_places.specs.Lines.{newlines, behind_last, line, column, span_numbers}
use Rattle.protox_locate.specs.Locations.{file_locations}
use Rattle.protox_places.specs.Order.{ComesBefore, StartsBefore, InOrder}
use Rattle.protox_locate.proofs.Order.{pos_below}
use Rattle.protox_locate.proofs.OrderLaw.{file-fine}
use Rattle.protox_locate.proofs.Rows.{RiseBy, Standing}

-- ---- a later offset has a later line, or on the same line a later column

data Further (la lb sa sb : ℕ) : Type 0 where
  same_line : la ≡ lb → sa ≡ sb → Further la lb sa sb
  later_line : la < lb → Further la lb sa sb

-- the first m bytes of a text at i, if its line began at d
from-start : (d i m : ℕ) (bs : List ℕ) → Further 0 (newlines (take m bs)) d (behind_last d i (take m bs))
from-start d i zero bs = same_line refl refl
from-start d i (suc m) [] = same_line refl refl
from-start d i (suc m) (b ∷ bs) =
    elim (b == 10) as (λ v. Further 0 (if v then newlines (take m bs) + 1 else newlines (take m bs)) d (if v then behind_last (i + 1) (i + 1) (take m bs) else behind_last d (i + 1) (take m bs))) [
      | true ↦ later_line (omega arith)
      | false ↦ from-start d (i + 1) m bs
    ]

one-more : (la lb sa sb : ℕ) → Further la lb sa sb → Further (la + 1) (lb + 1) sa sb
one-more la lb sa sb (same_line e f) = same_line (ap (λ k. k + 1) e) f
one-more la lb sa sb (later_line l) = later_line (omega (arith, l))

further : (d i n m : ℕ) (bs : List ℕ) → n ≤ m → Further (newlines (take n bs)) (newlines (take m bs)) (behind_last d i (take n bs)) (behind_last d i (take m bs))
further d i zero m bs l = from-start d i m bs
further d i (suc n) zero bs l = absurd (omega (arith, l))
further d i (suc n) (suc m) [] l = same_line refl refl
further d i (suc n) (suc m) (b ∷ bs) l =
    elim (b == 10) as (λ v. Further (if v then newlines (take n bs) + 1 else newlines (take n bs)) (if v then newlines (take m bs) + 1 else newlines (take m bs))
    (if v then behind_last (i + 1) (i + 1) (take n bs) else behind_last d (i + 1) (take n bs)) (if v then behind_last (i + 1) (i + 1) (take m bs) else behind_last d (i + 1) (take m bs))) [
      | true ↦ one-more _ _ _ _ (further (i + 1) (i + 1) n m bs (omega (arith, l)))
      | false ↦ further d (i + 1) n m bs (omega (arith, l))
    ]

-- a line begins no later than any of its bytes
begins : (d i n : ℕ) (bs : List ℕ) → d ≤ i → behind_last d i (take n bs) ≤ i + n
begins d i zero bs l = omega (arith, l)
begins d i (suc n) [] l = omega (arith, l)
begins d i (suc n) (b ∷ bs) l =
    elim (b == 10) as (λ v. (if v then behind_last (i + 1) (i + 1) (take n bs) else behind_last d (i + 1) (take n bs)) ≤ i + suc n) [
      | true ↦ (let h = begins (i + 1) (i + 1) n bs (omega arith) in omega (arith, h))
      | false ↦ (let h = begins d (i + 1) n bs (omega (arith, l)) in omega (arith, h))
    ]

pair-less : (la lb ca cb : ℕ) → la < lb → ComesBefore (pos la ∷ pos ca ∷ []) (pos lb ∷ pos cb ∷ [])
pair-less la lb ca cb l = ap is_lt (ap (λ o. ordering_then o (slice_cmp int_cmp (pos ca ∷ []) (pos cb ∷ []))) (pos_below la lb l))

pair-same : (la ca cb : ℕ) → ca < cb → ComesBefore (pos la ∷ pos ca ∷ []) (pos la ∷ pos cb ∷ [])
pair-same la ca cb l =
    ap is_lt (ap (λ o. ordering_then o (slice_cmp int_cmp (pos ca ∷ []) (pos cb ∷ []))) (tied_itself int_cmp_total (pos la)) ∙ ap (λ o. ordering_then o (slice_cmp int_cmp [] [])) (pos_below ca cb l))

by-further : (a b la lb sa sb : ℕ) → a < b → sa ≤ a → Further la lb sa sb → ComesBefore (pos la ∷ pos (a - sa) ∷ []) (pos lb ∷ pos (b - sb) ∷ [])
by-further a b la lb sa sb l h (same_line e f) =
    subst (λ k. ComesBefore (pos la ∷ pos (a - sa) ∷ []) (pos k ∷ pos (b - sb) ∷ [])) e (pair-same la (a - sa) (b - sb) (omega (arith, l, h, f)))
by-further a b la lb sa sb l h (later_line k) = pair-less la lb (a - sa) (b - sb) k

places-rise : (source : List ℕ) (a b : ℕ) → a < b → ComesBefore (pos (line source a) ∷ pos (column source a) ∷ []) (pos (line source b) ∷ pos (column source b) ∷ [])
places-rise source a b l =
    by-further a b (line source a) (line source b) (behind_last 0 0 (take a source)) (behind_last 0 0 (take b source)) l (let h = begins 0 0 a source (omega arith) in omega (arith, h)) (further 0 0 a b source (omega (arith, l)))

-- the numbers of a span begin with those of its start
front : (source : List ℕ) (x : Span) → take 2 (span_numbers source x) ≡ pos (line source x.start) ∷ pos (column source x.start) ∷ []
front source x = elim (line source x.start == line source x.end) as (λ v. take 2 (if v then pos (line source x.start) ∷ pos (column source x.start) ∷ pos (column source x.end) ∷ []
    else pos (line source x.start) ∷ pos (column source x.start) ∷ pos (line source x.end) ∷ pos (column source x.end) ∷ []) ≡ pos (line source x.start) ∷ pos (column source x.start) ∷ []) [ true ↦ refl | false ↦ refl ]

starts-so : (source : List ℕ) (a b : Location) (x y : Span) → a.span ≡ span_numbers source x → b.span ≡ span_numbers source y → x.start < y.start → StartsBefore a b
starts-so source a b x y e f l =
    subst (λ p. ComesBefore p (take 2 b.span)) (sym (ap (take 2) e ∙ front source x)) (subst (ComesBefore (pos (line source x.start) ∷ pos (column source x.start) ∷ [])) (sym (ap (take 2) f ∙ front source y)) (places-rise source x.start y.start l))

-- ---- trees that stand in a source

rises-too : (xs : List Span) → StartsRise xs → RiseBy (λ a b. a < b) xs
rises-too [] h = tt
rises-too (x ∷ xs) h = (h.0, rises-too xs h.1)

each-front : {A : Type 0} (P : A → Type 0) (xs ys : List A) → Each P (xs ++ ys) → Each P xs
each-front P [] ys h = tt
each-front P (x ∷ xs) ys h = (h.0, each-front P xs ys h.1)

each-back : {A : Type 0} (P : A → Type 0) (xs ys : List A) → Each P (xs ++ ys) → Each P ys
each-back P [] ys h = h
each-back P (x ∷ xs) ys h = each-back P xs ys h.1

in-source : (size : ℕ) → Standing (λ a b. a < b) (Each (SiblingsStand 0 size))
in-source size = record {
  first = λ s ss h. rises-too s.children (starts-rise s.parent.start s.parent.end s.children h.0.parts);
  rest = λ s ss h. h.1;
  front = λ xs ys h. each-front (SiblingsStand 0 size) xs ys h;
  back = λ xs ys h. each-back (SiblingsStand 0 size) xs ys h;
}

pub in-order : (source : List ℕ) (size : ℕ) (file : File) → FileStands size file → InOrder StartsBefore (file_locations (span_numbers source) file)
in-order source size file h = (file-fine (span_numbers source) StartsBefore (λ a b. a < b) (starts-so source) (Each (SiblingsStand 0 size)) (in-source size) size file h).order []

-- Lists, one after another.
use Rattle.std.proofs.Common.{◌≡◌, ℕ, zero, suc, ◌+◌, ◌-◌, ◌<◌, ◌≤◌, List, [], ◌∷◌, ◌++◌, length, take, drop, get_or, refl, sym, ap, ◌∙◌, length-append, length-drop, arith, le_refl, le_trans, Some, None}
use Rattle.std.proofs.lemmas.List.{take-append-le, drop-append-le, length-take-le}
use Rattle.std.specs.List.{All}
use Rattle.std.proofs.Math.Seq.{take-length, drop-length}
use Rattle.std.proofs.lemmas.Option.{slice_get_past}
use Rattle.std.specs.Prelude.{slice_get, slice_range}
use Rattle.protox_lex.specs.inner.Grouping.{split, last_end, EndWithin, grouped, empty_and}

-- The last end is at or after the first beginning, and within the items.
pub last_within : (from size : ℕ) (ends : List ℕ) → EndWithin from size ends → (from ≤ last_end from ends) × (last_end from ends ≤ size)
last_within from size [] h = (le_refl from, h)
last_within from size (end ∷ ends) (low, h) = let (a, b) = last_within end size ends h in (le_trans low a, b)

-- List k lies within the items, whatever stands for a missing end.
group_within : (from size : ℕ) (ends : List ℕ) (k d : ℕ) → EndWithin from size ends → k < length ends → (get_or (from ∷ ends) k 0 ≤ get_or ends k d) × (get_or ends k d ≤ size)
group_within from size [] k d h l = absurd (omega arith)
group_within from size (end ∷ ends) zero d (low, h) l = let (a, b) = last_within end size ends h in (low, le_trans a b)
group_within from size (end ∷ ends) (suc k) d (low, h) l = group_within end size ends k d h (omega arith)

pub group_starts : (size : ℕ) (ends : List ℕ) (k d : ℕ) → EndWithin 0 size ends → k < length ends → get_or (0 ∷ ends) k 0 ≤ get_or ends k d
group_starts size ends k d h l = (group_within 0 size ends k d h l).0

pub group_ends : (size : ℕ) (ends : List ℕ) (k d : ℕ) → EndWithin 0 size ends → k < length ends → get_or ends k d ≤ size
group_ends size ends k d h l = (group_within 0 size ends k d h l).1

pub group_is : {T : Type 0} (from : ℕ) (items : List T) (ends : List ℕ) (k : ℕ) → k < length ends
    → slice_get (split from items ends) k ≡ Some (slice_range items (get_or (from ∷ ends) k 0) (get_or ends k 0))
group_is from items [] k l = absurd (omega arith)
group_is from items (end ∷ ends) zero l = refl
group_is from items (end ∷ ends) (suc k) l = group_is end items ends k (omega arith)

pub length_split : {T : Type 0} (from : ℕ) (items : List T) (ends : List ℕ) → length (split from items ends) ≡ length ends
length_split from items [] = refl
length_split from items (end ∷ ends) = ap suc (length_split end items ends)

pub no_group : {T : Type 0} (items : List T) (ends : List ℕ) (k : ℕ) → length ends ≤ k → slice_get (split 0 items ends) k ≡ None
no_group items ends k h = slice_get_past (split 0 items ends) k (omega (arith, length_split 0 items ends))

-- one more end
pub end_within : (from size : ℕ) (ends : List ℕ) → EndWithin from size ends → EndWithin from size (ends ++ size ∷ [])
end_within from size [] h = (h, le_refl size)
end_within from size (end ∷ ends) (low, h) = (low, end_within end size ends h)

last_end-push : (from size : ℕ) (ends : List ℕ) → last_end from (ends ++ size ∷ []) ≡ size
last_end-push from size [] = refl
last_end-push from size (end ∷ ends) = last_end-push end size ends

split-push : {T : Type 0} (from size : ℕ) (items : List T) (ends : List ℕ) → split from items (ends ++ size ∷ []) ≡ split from items ends ++ slice_range items (last_end from ends) size ∷ []
split-push from size items [] = refl
split-push from size items (end ∷ ends) = ap (λ t. slice_range items from end ∷ t) (split-push end size items ends)

range_to_end : {T : Type 0} (items : List T) (from : ℕ) → slice_range items from (length items) ≡ drop from items
range_to_end items from = ap (λ n. take n (drop from items)) (sym (length-drop from items)) ∙ take-length (drop from items)

pub grouped_end : {T : Type 0} (items : List T) (ends : List ℕ)
    → grouped items (ends ++ length items ∷ []) ≡ record { ended = (grouped items ends).ended ++ (grouped items ends).begun ∷ []; begun = [] }
grouped_end items ends =
    rw (split-push 0 (length items) items ends, last_end-push 0 (length items) ends, range_to_end items (last_end 0 ends), drop-length items) refl

-- more items
pub more_within : (from size more : ℕ) (ends : List ℕ) → EndWithin from size ends → EndWithin from (size + more) ends
more_within from size more [] h = omega arith
more_within from size more (end ∷ ends) (low, h) = (low, more_within end size more ends h)

pub append_within : {T : Type 0} (items more : List T) (ends : List ℕ) → EndWithin 0 (length items) ends → EndWithin 0 (length (items ++ more)) ends
append_within items more ends h = rw (length-append items more) (more_within 0 (length items) (length more) ends h)

range-append : {T : Type 0} (items more : List T) (from to : ℕ) → from ≤ to → to ≤ length items → slice_range (items ++ more) from to ≡ slice_range items from to
range-append items more from to low high =
    ap (take (to - from)) (drop-append-le from items more (omega arith)) ∙ take-append-le (to - from) (drop from items) more (omega (arith, length-drop from items))

split-append : {T : Type 0} (from : ℕ) (items more : List T) (ends : List ℕ) → EndWithin from (length items) ends → split from (items ++ more) ends ≡ split from items ends
split-append from items more [] h = refl
split-append from items more (end ∷ ends) (low, h) =
    let (a, b) = last_within end (length items) ends h in
    rw (range-append items more from end low (le_trans a b), split-append end items more ends h) refl

pub grouped_append : {T : Type 0} (items more : List T) (ends : List ℕ) → EndWithin 0 (length items) ends
    → grouped (items ++ more) ends ≡ record (grouped items ends) { begun = (grouped items ends).begun ++ more }
grouped_append items more ends h =
    let (a, b) = last_within 0 (length items) ends h in
    rw (split-append 0 items more ends h, drop-append-le (last_end 0 ends) items more b) refl

-- ---- whether all are empty

pub start_is_end : (from : ℕ) (ends : List ℕ) → get_or (from ∷ ends) (length ends) 0 ≡ last_end from ends
start_is_end from [] = refl
start_is_end from (end ∷ ends) = start_is_end end ends

range_empty : {T : Type 0} (items : List T) (from to : ℕ) → from ≤ to → to ≤ length items → slice_range items from to ≡ [] → to ≡ from
range_empty items from to low high none =
    let size = length-take-le (to - from) (drop from items) (omega (arith, length-drop from items)) in
    let nothing = ap length none in
    omega arith

-- If the last list ends where the first begins, all are empty.
pub all_empty : {T : Type 0} (from : ℕ) (items : List T) (ends : List ℕ) → EndWithin from (length items) ends → last_end from ends ≡ from → All (λ xs. xs ≡ []) (split from items ends)
all_empty from items [] h e k d l = absurd (omega arith)
all_empty from items (end ∷ ends) (low, h) e zero d l =
    let (a, b) = last_within end (length items) ends h in
    let none : end - from ≡ 0 = omega arith in
    ap (λ n. take n (drop from items)) none
all_empty from items (end ∷ ends) (low, h) e (suc k) d l =
    let (a, b) = last_within end (length items) ends h in
    all_empty end items ends h (omega arith) k d (omega arith)

pub last_of_empty : {T : Type 0} (from : ℕ) (items : List T) (ends : List ℕ) → EndWithin from (length items) ends → All (λ xs. xs ≡ []) (split from items ends) → last_end from ends ≡ from
last_of_empty from items [] h all = refl
last_of_empty from items (end ∷ ends) (low, h) all =
    let (a, b) = last_within end (length items) ends h in
    last_of_empty end items ends h (λ k d l. all (suc k) d (omega arith)) ∙ range_empty items from end low (le_trans a b) (all zero [] (omega arith))

-- ---- after empty lists

pub all_behind : {T : Type 0} (n : ℕ) (xss : List (List T)) → All (λ xs. xs ≡ []) xss → All (λ xs. xs ≡ []) (empty_and n xss)
all_behind zero xss all k d l = all k d l
all_behind (suc n) xss all zero d l = refl
all_behind (suc n) xss all (suc k) d l = all_behind n xss all k d (omega arith)

pub behind_all : {T : Type 0} (n : ℕ) (xss : List (List T)) → All (λ xs. xs ≡ []) (empty_and n xss) → All (λ xs. xs ≡ []) xss
behind_all zero xss all = all
behind_all (suc n) xss all = behind_all n xss (λ k d l. all (suc k) d (omega arith))

pub get_empty : {T : Type 0} (n : ℕ) (xss : List (List T)) (k : ℕ) → k < n → slice_get (empty_and n xss) k ≡ Some []
get_empty zero xss k l = absurd (omega arith)
get_empty (suc n) xss zero l = refl
get_empty (suc n) xss (suc k) l = get_empty n xss k (omega arith)

pub get_behind : {T : Type 0} (n : ℕ) (xss : List (List T)) (k : ℕ) → n ≤ k → slice_get (empty_and n xss) k ≡ slice_get xss (k - n)
get_behind zero xss k l = let same : k ≡ k - 0 = omega arith in ap (λ i. slice_get xss i) same
get_behind (suc n) xss zero l = absurd (omega arith)
get_behind (suc n) xss (suc k) l = get_behind n xss k (omega arith) ∙ (let same : k - n ≡ suc k - suc n = omega arith in ap (λ i. slice_get xss i) same)

next_empty : {T : Type 0} (n : ℕ) → empty_and {T = T} (suc n) [] ≡ empty_and {T = T} n [] ++ [] ∷ []
next_empty zero = refl
next_empty (suc n) = ap (λ xss. [] ∷ xss) (next_empty n)

pub one_more_empty : {T : Type 0} (n : ℕ) → empty_and {T = T} (n + 1) [] ≡ empty_and {T = T} n [] ++ [] ∷ []
one_more_empty n = let more : n + 1 ≡ suc n = omega arith in ap (λ k. empty_and k []) more ∙ next_empty n

pub behind_push : {T : Type 0} (n : ℕ) (xss : List (List T)) (ys : List T) → empty_and n (xss ++ ys ∷ []) ≡ empty_and n xss ++ ys ∷ []
behind_push zero xss ys = refl
behind_push (suc n) xss ys = ap (λ t. [] ∷ t) (behind_push n xss ys)

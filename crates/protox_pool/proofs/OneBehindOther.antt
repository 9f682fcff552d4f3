-- Locations of two pools that become one.
use Rattle.std.proofs.Common.{◌≡◌, ℕ, zero, suc, ◌+◌, ◌-◌, ◌≤◌, List, [], ◌∷◌, ◌++◌, length, take, drop, map, refl, sym, ap, subst, ◌∙◌, length-append, get_or, arith, le_refl, le_trans, ◌<◌}
use Rattle.std.specs.Prelude.{ℤ, slice_get, slice_range}
use Rattle.std.proofs.Math.Seq.{drop-append-add}
use Rattle.std.proofs.lemmas.List.{get_or-append_right, get_or-drop, length-map, length-take-le}
use Rattle.protox_descriptor.specs.Location.{Location}
use Rattle.protox_pool.specs.Pool.{location}
use Rattle.protox_pool.specs.declared.comments.LocationComments.{LocationComments}
use Rattle.protox_pool.specs.declared.ends.Ends.{Ends}
use Rattle.protox_pool.specs.inner.Ends.{AreEnds, comments_at, location_from, locations_from, moved, moved_number}
use Rattle.protox_pool.proofs.Places.{comments_kept, first_within, location_kept, range_kept}

-- ---- the loop that moves ends

pub at_turn : {X : Type 0} (f : X → X) (xs ys : List X) (i : ℕ) (d : X) → i < length xs
    → ys ≡ map f (take i xs) ++ drop i xs → get_or ys i d ≡ get_or xs i d
at_turn f xs ys i d within is =
    let taken : length (map f (take i xs)) ≡ i = length-map (take i xs) f ∙ length-take-le i xs (omega (arith, within)) in
    let same : i + (i - i) ≡ i = omega arith in
    ap (λ l. get_or l i d) is
    ∙ get_or-append_right (map f (take i xs)) (drop i xs) i i d taken (le_refl i)
    ∙ get_or-drop i xs (i - i) d
    ∙ ap (λ n. get_or xs n d) same

-- ---- further behind

range_moved : {X : Type 0} (before items : List X) (from to : ℕ)
    → slice_range (before ++ items) (from + length before) (to + length before) ≡ slice_range items from to
range_moved before items from to =
    let swapped : from + length before ≡ length before + from = omega arith in
    let width : (to + length before) - (from + length before) ≡ to - from = omega arith in
    ap (λ n. take n (drop (from + length before) (before ++ items))) width
    ∙ ap (λ n. take (to - from) (drop n (before ++ items))) swapped
    ∙ ap (take (to - from)) (drop-append-add before items from)

got_moved : {X : Type 0} (before items : List X) (index : ℕ)
    → slice_get (before ++ items) (index + length before) ≡ slice_get items index
got_moved [] items index = let none : index + 0 ≡ index = omega arith in ap (slice_get items) none
got_moved (x ∷ before) items index =
    let more : index + suc (length before) ≡ suc (index + length before) = omega arith in
    ap (slice_get (x ∷ (before ++ items))) more ∙ got_moved before items index

comments_moved : (before comments : List LocationComments) (number : ℕ)
    → comments_at (before ++ comments) (moved_number (length before) number) ≡ comments_at comments number
comments_moved before comments zero = refl
comments_moved before comments (suc index) =
    let more : suc index + length before ≡ suc (index + length before) = omega arith in
    ap (comments_at (before ++ comments)) more ∙ got_moved before comments index

comments_unmoved : (comments others : List LocationComments) (number : ℕ) → number ≤ length comments
    → comments_at (comments ++ others) (moved_number 0 number) ≡ comments_at comments number
comments_unmoved comments others zero few = refl
comments_unmoved comments others (suc index) few =
    let same : suc index + 0 ≡ suc index = omega arith in
    ap (comments_at (comments ++ others)) same ∙ comments_kept comments others (suc index) few

-- Locations whose numbers and comments stand further behind in other lists are the same.
module _ (numbers more : List ℤ) (comments others : List LocationComments) (n c : ℕ)
    (range_same : (from to : ℕ) → from ≤ to → to ≤ length numbers
    → slice_range more (from + n) (to + n) ≡ slice_range numbers from to)
    (comments_same : (number : ℕ) → number ≤ length comments
    → comments_at others (moved_number c number) ≡ comments_at comments number) where
  pub moved_are : (start : ℕ) (ends : List Ends) → AreEnds (length comments) (length numbers) start ends
      → locations_from more others (start + n) (map (moved n c) ends) ≡ locations_from numbers comments start ends
  moved_are start [] are = refl
  moved_are start (end ∷ ends) are =
      let last = first_within (length comments) (length numbers) end.span ends are.3 in
      ap (λ p. location p (slice_range more (end.path + n) (end.span + n)) (comments_at others (moved_number c end.comments))
      ∷ locations_from more others (end.span + n) (map (moved n c) ends))
      (range_same start end.path are.0 (le_trans are.1 last))
      ∙ ap (λ s. location (slice_range numbers start end.path) s (comments_at others (moved_number c end.comments))
      ∷ locations_from more others (end.span + n) (map (moved n c) ends))
      (range_same end.path end.span are.1 last)
      ∙ ap (λ k. location (slice_range numbers start end.path) (slice_range numbers end.path end.span) k
      ∷ locations_from more others (end.span + n) (map (moved n c) ends))
      (comments_same end.comments are.2)
      ∙ ap (λ l. location_from numbers comments start end ∷ l) (moved_are end.span ends are.3)

  pub all_moved : (ends : List Ends) → AreEnds (length comments) (length numbers) 0 ends
      → locations_from more others n (map (moved n c) ends) ≡ locations_from numbers comments 0 ends
  all_moved ends are =
      let none : n ≡ 0 + n = omega arith in
      ap (λ k. locations_from more others k (map (moved n c) ends)) none ∙ moved_are 0 ends are

moved_few : (c count number : ℕ) → number ≤ count → moved_number c number ≤ count + c
moved_few c count zero few = omega arith
moved_few c count (suc index) few = omega (arith, few)

pub moved_ends : (count last n c start : ℕ) (ends : List Ends) → AreEnds count last start ends
    → AreEnds (count + c) (last + n) (start + n) (map (moved n c) ends)
moved_ends count last n c start [] are = ap (λ k. k + n) are
moved_ends count last n c start (end ∷ ends) are =
    (omega (arith, are.0), omega (arith, are.1), moved_few c count end.comments are.2, moved_ends count last n c end.span ends are.3)

pub all_moved_ends : (count last n c : ℕ) (ends : List Ends) → AreEnds count last 0 ends
    → AreEnds (count + c) (last + n) n (map (moved n c) ends)
all_moved_ends count last n c ends are =
    let none : 0 + n ≡ n = omega arith in
    subst (λ k. AreEnds (count + c) (last + n) k (map (moved n c) ends)) none (moved_ends count last n c 0 ends are)

-- ---- one behind the other

pub kept_are : (numbers more : List ℤ) (comments others : List LocationComments) (start : ℕ) (ends : List Ends)
    → AreEnds (length comments) (length numbers) start ends
    → locations_from (numbers ++ more) (comments ++ others) start ends ≡ locations_from numbers comments start ends
kept_are numbers more comments others start [] are = refl
kept_are numbers more comments others start (end ∷ ends) are =
    let last = first_within (length comments) (length numbers) end.span ends are.3 in
    ap (λ l. l ∷ locations_from (numbers ++ more) (comments ++ others) end.span ends)
    (location_kept numbers more comments others start end are.0 are.1 last are.2)
    ∙ ap (λ ls. location_from numbers comments start end ∷ ls)
    (kept_are numbers more comments others end.span ends are.3)

both_are : (numbers : List ℤ) (comments : List LocationComments) (count middle start : ℕ) (xs ys : List Ends)
    → AreEnds count middle start xs
    → locations_from numbers comments start (xs ++ ys)
    ≡ locations_from numbers comments start xs ++ locations_from numbers comments middle ys
both_are numbers comments count middle start [] ys are = ap (λ n. locations_from numbers comments n ys) are
both_are numbers comments count middle start (x ∷ xs) ys are =
    ap (λ l. location_from numbers comments start x ∷ l) (both_are numbers comments count middle x.span xs ys are.3)

both_ends : (count last middle start : ℕ) (xs ys : List Ends) → AreEnds count middle start xs
    → AreEnds count last middle ys → AreEnds count last start (xs ++ ys)
both_ends count last middle start [] ys are then = subst (λ n. AreEnds count last n ys) (sym are) then
both_ends count last middle start (x ∷ xs) ys are then =
    (are.0, are.1, are.2, both_ends count last middle x.span xs ys are.3 then)

more_comments : (count last start more : ℕ) (ends : List Ends) → AreEnds count last start ends
    → AreEnds (count + more) last start ends
more_comments count last start more [] are = are
more_comments count last start more (end ∷ ends) are =
    (are.0, are.1, omega (arith, are.2), more_comments count last end.span more ends are.3)

-- The ends of two pools, of which the first has `numbers` and `comments`.
module _ (numbers more : List ℤ) (comments others : List LocationComments) (ends then : List Ends)
    (are : AreEnds (length comments) (length numbers) 0 ends)
    (are_then : AreEnds (length others) (length more) 0 then) where
  abbrev behind : List Ends
  behind = map (moved (length numbers) (length comments)) then

  pub behind_ends : AreEnds (length (comments ++ others)) (length (numbers ++ more)) 0 (ends ++ behind)
  behind_ends =
      let back = all_moved_ends (length others) (length more) (length numbers) (length comments) then are_then in
      let count : length others + length comments ≡ length comments + length others = omega arith in
      let last : length more + length numbers ≡ length numbers + length more = omega arith in
      rw (length-append comments others, length-append numbers more)
      (both_ends (length comments + length others) (length numbers + length more) (length numbers) 0 ends behind
      (more_comments (length comments) (length numbers) 0 (length others) ends are)
      (subst (λ k. AreEnds k (length numbers + length more) (length numbers) behind) count
      (subst (λ k. AreEnds (length others + length comments) k (length numbers) behind) last back)))

  pub behind_are : locations_from (numbers ++ more) (comments ++ others) 0 (ends ++ behind)
      ≡ locations_from numbers comments 0 ends ++ locations_from more others 0 then
  behind_are =
      both_are (numbers ++ more) (comments ++ others) (length comments) (length numbers) 0 ends behind are
      ∙ ap (λ l. l ++ locations_from (numbers ++ more) (comments ++ others) (length numbers) behind)
      (kept_are numbers more comments others 0 ends are)
      ∙ ap (λ l. locations_from numbers comments 0 ends ++ l)
      (all_moved more (numbers ++ more) others (comments ++ others) (length numbers) (length comments)
      (λ from to order within. range_moved numbers more from to)
      (λ number few. comments_moved comments others number) then are_then)

  -- The comments of the first pool stand behind those of the second.
  abbrev first : List Ends
  first = map (moved 0 (length others)) ends

  abbrev second : List Ends
  second = map (moved (length numbers) 0) then

  pub front_ends : AreEnds (length (others ++ comments)) (length (numbers ++ more)) 0 (first ++ second)
  front_ends =
      let front = all_moved_ends (length comments) (length numbers) 0 (length others) ends are in
      let back = all_moved_ends (length others) (length more) (length numbers) 0 then are_then in
      let count : length comments + length others ≡ length others + length comments = omega arith in
      let middle : length numbers + 0 ≡ length numbers = omega arith in
      let none : length others + 0 ≡ length others = omega arith in
      let last : length more + length numbers ≡ length numbers + length more = omega arith in
      rw (length-append others comments, length-append numbers more)
      (both_ends (length others + length comments) (length numbers + length more) (length numbers) 0 first second
      (subst (λ k. AreEnds k (length numbers) 0 first) count
      (subst (λ k. AreEnds (length comments + length others) k 0 first) middle front))
      (more_comments (length others) (length numbers + length more) (length numbers) (length comments) second
      (subst (λ k. AreEnds k (length numbers + length more) (length numbers) second) none
      (subst (λ k. AreEnds (length others + 0) k (length numbers) second) last back))))

  unmoved : (from to : ℕ) → from ≤ to → to ≤ length numbers
      → slice_range (numbers ++ more) (from + 0) (to + 0) ≡ slice_range numbers from to
  unmoved from to order within =
      let low : from + 0 ≡ from = omega arith in
      let high : to + 0 ≡ to = omega arith in
      ap (λ n. slice_range (numbers ++ more) n (to + 0)) low
      ∙ ap (λ n. slice_range (numbers ++ more) from n) high
      ∙ range_kept numbers more from to order within

  pub front_are : locations_from (numbers ++ more) (others ++ comments) 0 (first ++ second)
      ≡ locations_from numbers comments 0 ends ++ locations_from more others 0 then
  front_are =
      let middle : length numbers + 0 ≡ length numbers = omega arith in
      both_are (numbers ++ more) (others ++ comments) (length comments + length others) (length numbers) 0 first second
      (subst (λ k. AreEnds (length comments + length others) k 0 first) middle
      (all_moved_ends (length comments) (length numbers) 0 (length others) ends are))
      ∙ ap (λ l. l ++ locations_from (numbers ++ more) (others ++ comments) (length numbers) second)
      (all_moved numbers (numbers ++ more) comments (others ++ comments) 0 (length others) unmoved
      (λ number few. comments_moved others comments number) ends are)
      ∙ ap (λ l. locations_from numbers comments 0 ends ++ l)
      (all_moved more (numbers ++ more) others (others ++ comments) (length numbers) 0
      (λ from to order within. range_moved numbers more from to)
      (λ number few. comments_unmoved others comments number few) then are_then)

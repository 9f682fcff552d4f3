-- The numbers of locations that stand behind one another in a list.
use Rattle.std.proofs.Common.{◌≡◌, ℕ, zero, suc, ◌+◌, ◌-◌, ◌<◌, ◌≤◌, List, [], ◌∷◌, ◌++◌, length, take, drop, get_or, refl, sym, ap, subst, ◌∙◌, length-append, length-drop, arith, le_refl, le_trans, Some, None}
use Rattle.std.specs.Prelude.{ℤ, slice_get, slice_range}
use Rattle.std.proofs.lemmas.List.{append_assoc, append-nil, take-append-le, drop-append-le}
use Rattle.std.proofs.Math.Seq.{drop-append_seam, take-length}
use Rattle.std.proofs.lemmas.Option.{slice_get_past}
use Rattle.protox_pool.specs.Pool.{location}
use Rattle.protox_pool.specs.declared.comments.LocationComments.{LocationComments}
use Rattle.protox_pool.specs.declared.ends.Ends.{Ends}
use Rattle.protox_pool.specs.inner.Ends.{Adds, AreEnds, comments_at, location_from, locations_from, start_at}

-- ---- where they begin and end

pub start_behind : (start : ℕ) (ends : List Ends) (index : ℕ) (e : Ends) → index < length ends
    → start_at start ends (suc index) ≡ (get_or ends index e).span
start_behind start [] index e within = absurd (omega arith)
start_behind start (end ∷ ends) zero e within = refl
start_behind start (end ∷ ends) (suc index) e within = start_behind end.span ends index e (omega arith)

pub first_within : (count last start : ℕ) (ends : List Ends) → AreEnds count last start ends → start ≤ last
first_within count last start [] are = omega (arith, are)
first_within count last start (end ∷ ends) are =
    le_trans (le_trans are.0 are.1) (first_within count last end.span ends are.3)

-- the numbers of a location stand between its start and its end, within the list
pub bounds : (count last start : ℕ) (ends : List Ends) → AreEnds count last start ends
    → (index : ℕ) (d : Ends) → index < length ends
    → (start_at start ends index ≤ (get_or ends index d).path)
    × ((get_or ends index d).path ≤ (get_or ends index d).span)
    × ((get_or ends index d).span ≤ last)
bounds count last start [] are index d within = absurd (omega arith)
bounds count last start (end ∷ ends) are zero d within =
    (are.0, are.1, first_within count last end.span ends are.3)
bounds count last start (end ∷ ends) are (suc index) d within =
    bounds count last end.span ends are.3 index d (omega arith)

pub comments_within : (count last start : ℕ) (ends : List Ends) → AreEnds count last start ends
    → (index : ℕ) (d : Ends) → index < length ends → (get_or ends index d).comments ≤ count
comments_within count last start [] are index d within = absurd (omega arith)
comments_within count last start (end ∷ ends) are zero d within = are.2
comments_within count last start (end ∷ ends) are (suc index) d within =
    comments_within count last end.span ends are.3 index d (omega arith)

module _ (count last : ℕ) (ends : List Ends) (are : AreEnds count last 0 ends) (index : ℕ) (d : Ends)
    (within : index < length ends) where
  pub path_within : start_at 0 ends index ≤ (get_or ends index d).path
  path_within = (bounds count last 0 ends are index d within).0

  pub span_within : (get_or ends index d).path ≤ (get_or ends index d).span
  span_within = (bounds count last 0 ends are index d within).1

  pub end_within : (get_or ends index d).span ≤ last
  end_within = (bounds count last 0 ends are index d within).2

module _ (numbers : List ℤ) (comments : List LocationComments) where
  pub count_is : (start : ℕ) (ends : List Ends) → length (locations_from numbers comments start ends) ≡ length ends
  count_is start [] = refl
  count_is start (end ∷ ends) = ap suc (count_is end.span ends)

  pub found : (start : ℕ) (ends : List Ends) (index : ℕ) (d : Ends) → index < length ends
      → slice_get (locations_from numbers comments start ends) index
      ≡ Some (location_from numbers comments (start_at start ends index) (get_or ends index d))
  found start [] index d within = absurd (omega arith)
  found start (end ∷ ends) zero d within = refl
  found start (end ∷ ends) (suc index) d within = found end.span ends index d (omega arith)

  pub not_found : (ends : List Ends) (index : ℕ) → length ends ≤ index
      → slice_get (locations_from numbers comments 0 ends) index ≡ None
  not_found ends index past =
      slice_get_past (locations_from numbers comments 0 ends) index (omega (arith, count_is 0 ends))

-- ---- one more

pub range_kept : {X : Type 0} (items more : List X) (from to : ℕ) → from ≤ to → to ≤ length items
    → slice_range (items ++ more) from to ≡ slice_range items from to
range_kept items more from to low high =
    ap (take (to - from)) (drop-append-le from items more (omega arith))
    ∙ take-append-le (to - from) (drop from items) more (omega (arith, length-drop from items))

range_end : {X : Type 0} (xs ys : List X) → slice_range (xs ++ ys) (length xs) (length (xs ++ ys)) ≡ ys
range_end xs ys =
    ap (take (length (xs ++ ys) - length xs)) (drop-append_seam xs ys)
    ∙ ap (λ n. take n ys) (omega (arith, length-append xs ys))
    ∙ take-length ys

range_middle : {X : Type 0} (xs ys zs : List X)
    → slice_range (xs ++ ys ++ zs) (length xs) (length (xs ++ ys)) ≡ ys
range_middle xs ys zs =
    range_kept (xs ++ ys) zs (length xs) (length (xs ++ ys)) (omega (arith, length-append xs ys)) (le_refl (length (xs ++ ys)))
    ∙ range_end xs ys

pub comments_kept : (comments others : List LocationComments) (number : ℕ) → number ≤ length comments
    → comments_at (comments ++ others) number ≡ comments_at comments number
comments_kept comments others zero le = refl
comments_kept [] others (suc index) le = absurd (omega arith)
comments_kept (c ∷ comments) others (suc zero) le = refl
comments_kept (c ∷ comments) others (suc (suc index)) le =
    comments_kept comments others (suc index) (omega arith)

module _ (numbers more : List ℤ) (comments others : List LocationComments) where
  pub location_kept : (start : ℕ) (e : Ends) → start ≤ e.path → e.path ≤ e.span → e.span ≤ length numbers
      → e.comments ≤ length comments
      → location_from (numbers ++ more) (comments ++ others) start e ≡ location_from numbers comments start e
  location_kept start e low middle high few =
      ap (λ p. location p (slice_range (numbers ++ more) e.path e.span) (comments_at (comments ++ others) e.comments))
      (range_kept numbers more start e.path low (le_trans middle high))
      ∙ ap (λ s. location (slice_range numbers start e.path) s (comments_at (comments ++ others) e.comments))
      (range_kept numbers more e.path e.span middle high)
      ∙ ap (λ c. location (slice_range numbers start e.path) (slice_range numbers e.path e.span) c)
      (comments_kept comments others e.comments few)

  pub kept : (start : ℕ) (ends : List Ends) → AreEnds (length comments) (length numbers) start ends → (e : Ends)
      → locations_from (numbers ++ more) (comments ++ others) start (ends ++ e ∷ [])
      ≡ locations_from numbers comments start ends
      ++ location_from (numbers ++ more) (comments ++ others) (length numbers) e ∷ []
  kept start [] are e =
      ap (λ n. location_from (numbers ++ more) (comments ++ others) n e ∷ []) are
  kept start (end ∷ ends) are e =
      let last = first_within (length comments) (length numbers) end.span ends are.3 in
      ap (λ l. l ∷ locations_from (numbers ++ more) (comments ++ others) end.span (ends ++ e ∷ []))
      (location_kept start end are.0 are.1 last are.2)
      ∙ ap (λ ls. location_from numbers comments start end ∷ ls) (kept end.span ends are.3 e)

pub more_ends : (count others last start : ℕ) (ends : List Ends) (e : Ends) → AreEnds count last start ends
    → last ≤ e.path → e.path ≤ e.span → e.comments ≤ count + others
    → AreEnds (count + others) e.span start (ends ++ e ∷ [])
more_ends count others last start [] e are low high few = (omega (arith, are, low), high, few, refl)
more_ends count others last start (end ∷ ends) e are low high few =
    (are.0, are.1, omega (arith, are.2), more_ends count others last end.span ends e are.3 low high few)

-- ---- one more location

module _ (path span numbers numbers_then : List ℤ) (comments others : List LocationComments)
    (ends ends_then : List Ends) (number : ℕ)
    (are : AreEnds (length comments) (length numbers) 0 ends)
    (adds : Adds path span number numbers ends numbers_then ends_then)
    (few : number ≤ length comments + length others) where
  abbrev added : Ends
  added = record {
    path = length (numbers ++ path);
    span = length (numbers ++ path ++ span);
    comments = number;
  }

  pub pushed_ends : AreEnds (length (comments ++ others)) (length numbers_then) 0 ends_then
  pushed_ends =
      rw (adds.more, adds.end, length-append comments others)
      (more_ends (length comments) (length others) (length numbers) 0 ends added are
      (omega (arith, length-append numbers path)) (omega (arith, length-append (numbers ++ path) span)) few)

  added_is : location_from (numbers ++ (path ++ span)) (comments ++ others) (length numbers) added
      ≡ location path span (comments_at (comments ++ others) number)
  added_is =
      ap (λ (all : List ℤ). location (slice_range all (length numbers) (length (numbers ++ path)))
      (slice_range all (length (numbers ++ path)) (length (numbers ++ path ++ span)))
      (comments_at (comments ++ others) number)) (sym (append_assoc numbers path span))
      ∙ ap (λ p. location p (slice_range (numbers ++ path ++ span) (length (numbers ++ path)) (length (numbers ++ path ++ span)))
      (comments_at (comments ++ others) number)) (range_middle numbers path span)
      ∙ ap (λ s. location path s (comments_at (comments ++ others) number)) (range_end (numbers ++ path) span)

  pub pushed_is : locations_from numbers_then (comments ++ others) 0 ends_then
      ≡ locations_from numbers comments 0 ends
      ++ location path span (comments_at (comments ++ others) number) ∷ []
  pushed_is =
      ap (λ n. locations_from n (comments ++ others) 0 ends_then) (adds.more ∙ append_assoc numbers path span)
      ∙ ap (λ e. locations_from (numbers ++ (path ++ span)) (comments ++ others) 0 e) adds.end
      ∙ kept numbers (path ++ span) comments others 0 ends are added
      ∙ ap (λ l. locations_from numbers comments 0 ends ++ l ∷ []) added_is

at_end : (comments : List LocationComments) (c : LocationComments)
    → slice_get (comments ++ c ∷ []) (length comments) ≡ Some c
at_end [] c = refl
at_end (d ∷ comments) c = at_end comments c

pub last_comments : (comments : List LocationComments) (c : LocationComments)
    → comments_at (comments ++ c ∷ []) (length comments + 1) ≡ Some c
last_comments comments c =
    let next : length comments + 1 ≡ suc (length comments) = omega arith in
    ap (comments_at (comments ++ c ∷ [])) next ∙ at_end comments c

module _ (path span numbers numbers_then : List ℤ) (comments : List LocationComments) (ends ends_then : List Ends)
    (are : AreEnds (length comments) (length numbers) 0 ends) where
  pub bare_ends : Adds path span 0 numbers ends numbers_then ends_then
      → AreEnds (length comments) (length numbers_then) 0 ends_then
  bare_ends adds =
      subst (λ (cs : List LocationComments). AreEnds (length cs) (length numbers_then) 0 ends_then) (append-nil comments)
      (pushed_ends path span numbers numbers_then comments [] ends ends_then 0 are adds (omega arith))

  pub bare_is : Adds path span 0 numbers ends numbers_then ends_then
      → locations_from numbers_then comments 0 ends_then
      ≡ locations_from numbers comments 0 ends ++ location path span None ∷ []
  bare_is adds =
      ap (λ cs. locations_from numbers_then cs 0 ends_then) (sym (append-nil comments))
      ∙ pushed_is path span numbers numbers_then comments [] ends ends_then 0 are adds (omega arith)

  module _ (c : LocationComments) (comments_then : List LocationComments) (number : ℕ)
      (adds : Adds path span number numbers ends numbers_then ends_then)
      (next : number ≡ length comments + 1) (more : comments_then ≡ comments ++ c ∷ []) where
    pub commented_ends : AreEnds (length comments_then) (length numbers_then) 0 ends_then
    commented_ends =
        rw more (pushed_ends path span numbers numbers_then comments (c ∷ []) ends ends_then number are adds
        (omega (arith, next)))

    pub commented_is : locations_from numbers_then comments_then 0 ends_then
        ≡ locations_from numbers comments 0 ends ++ location path span (Some c) ∷ []
    commented_is =
        ap (λ cs. locations_from numbers_then cs 0 ends_then) more
        ∙ pushed_is path span numbers numbers_then comments (c ∷ []) ends ends_then number are adds
        (omega (arith, next))
        ∙ ap (λ o. locations_from numbers comments 0 ends ++ location path span o ∷ [])
        (ap (comments_at (comments ++ c ∷ [])) next ∙ last_comments comments c)

-- ---- lists of usual lengths, number by number

pub none_are : (xs : List ℤ) → length xs ≤ 0 → xs ≡ []
none_are [] low = refl
none_are (a ∷ xs) low = absurd (omega arith)

pub one_is : (xs : List ℤ) (d : ℤ) → 1 ≤ length xs → length xs ≤ 1 → xs ≡ get_or xs 0 d ∷ []
one_is (a ∷ []) d low high = refl
one_is (a ∷ b ∷ xs) d low high = absurd (omega arith)
one_is [] d low high = absurd (omega arith)

pub three_are : (xs : List ℤ) (d : ℤ) → 3 ≤ length xs → length xs ≤ 3
    → xs ≡ get_or xs 0 d ∷ get_or xs 1 d ∷ get_or xs 2 d ∷ []
three_are (a ∷ b ∷ c ∷ []) d low high = refl
three_are (a ∷ b ∷ c ∷ e ∷ xs) d low high = absurd (omega arith)
three_are (a ∷ b ∷ []) d low high = absurd (omega arith)
three_are (a ∷ []) d low high = absurd (omega arith)
three_are [] d low high = absurd (omega arith)

pub four_are : (xs : List ℤ) (d : ℤ) → 4 ≤ length xs → length xs ≤ 4
    → xs ≡ get_or xs 0 d ∷ get_or xs 1 d ∷ get_or xs 2 d ∷ get_or xs 3 d ∷ []
four_are (a ∷ b ∷ c ∷ e ∷ []) d low high = refl
four_are (a ∷ b ∷ c ∷ e ∷ f ∷ xs) d low high = absurd (omega arith)
four_are (a ∷ b ∷ c ∷ []) d low high = absurd (omega arith)
four_are (a ∷ b ∷ []) d low high = absurd (omega arith)
four_are (a ∷ []) d low high = absurd (omega arith)
four_are [] d low high = absurd (omega arith)

abbrev joined : List ℤ → List ℤ → List ℤ → List ℤ
joined path tags span = path ++ tags ++ span

module _ (path tags span : List ℤ) (d : ℤ) (path_low : 4 ≤ length path) (path_high : length path ≤ 4)
    (span_low : 3 ≤ length span) (span_high : length span ≤ 3) where
  abbrev a4 : List ℤ
  a4 = get_or path 0 d ∷ get_or path 1 d ∷ get_or path 2 d ∷ get_or path 3 d ∷ []

  abbrev a3 : List ℤ
  a3 = get_or span 0 d ∷ get_or span 1 d ∷ get_or span 2 d ∷ []

  pub untagged_are : length tags ≤ 0 → path ++ tags ++ span
      ≡ get_or path 0 d ∷ get_or path 1 d ∷ get_or path 2 d ∷ get_or path 3 d
      ∷ get_or span 0 d ∷ get_or span 1 d ∷ get_or span 2 d ∷ []
  untagged_are few =
      ap (λ p. joined p tags span) (four_are path d path_low path_high)
      ∙ ap (λ t. joined a4 t span) (none_are tags few)
      ∙ ap (λ s. joined a4 [] s) (three_are span d span_low span_high)

  pub tagged_are : 1 ≤ length tags → length tags ≤ 1 → path ++ tags ++ span
      ≡ get_or path 0 d ∷ get_or path 1 d ∷ get_or path 2 d ∷ get_or path 3 d ∷ get_or tags 0 d
      ∷ get_or span 0 d ∷ get_or span 1 d ∷ get_or span 2 d ∷ []
  tagged_are some few =
      ap (λ p. joined p tags span) (four_are path d path_low path_high)
      ∙ ap (λ t. joined a4 t span) (one_is tags d some few)
      ∙ ap (λ s. joined a4 (get_or tags 0 d ∷ []) s) (three_are span d span_low span_high)

-- Lists of siblings: each element with those before it, how many pass a test, and at which indices;
-- and a statement about a value that may be absent.
use Rattle.std.specs.Prelude.{ℕ, ◌+◌, Bool, if◌then◌else◌, List, [], ◌∷◌, ◌++◌, Option, Some, None, ℤ, pos}

-- the results for each element, given the elements before it
abbrev pub each_after : {A B : Type 0} → (List A → A → List B) → List A → List A → List B
each_after f before [] = []
each_after f before (x ∷ xs) = f before x ++ each_after f (before ++ x ∷ []) xs

-- how many pass the test
abbrev pub count : {A : Type 0} → (A → Bool) → List A → ℕ
count test [] = 0
count test (x ∷ xs) = (if test x then 1 else 0) + count test xs

-- the indices of those that pass the test; the first element has the index i
abbrev pub places : {A : Type 0} → (A → Bool) → ℕ → List A → List ℤ
places test i [] = []
places test i (x ∷ xs) = if test x then pos i ∷ places test (i + 1) xs else places test (i + 1) xs

-- P holds of the value, if there is one.
abbrev pub Given : {A : Type 0} → (A → Type 0) → Option A → Type 0
Given P None = Unit {0}
Given P (Some x) = P x

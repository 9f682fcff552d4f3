-- Small definitions on lists and spans that the other files share.
use Rattle.std.specs.Prelude.{List, [], ◌∷◌, map, Option, Some, None}
use Rattle.std.specs.List.{AllByRecursion}
use Rattle.protox_fault.specs.Faults.{Span}

-- P holds of each element.
abbrev pub Each : {A : Type 0} → (A → Type 0) → List A → Type 0
Each = AllByRecursion

-- The first element, if there is one.
abbrev pub first_of : {A : Type 0} → List A → Option A
first_of [] = None
first_of (x ∷ xs) = Some x

-- The last of x and the elements after it.
abbrev pub last : {A : Type 0} → A → List A → A
last x [] = x
last x (y ∷ ys) = last y ys

-- The span from the start of one to the end of the other.
abbrev pub join : Span → Span → Span
join a b = record { start = a.start; end = b.end }

-- The span from the start of the one before it, if there is one.
abbrev pub join_if_any : Option Span → Span → Span
join_if_any None span = span
join_if_any (Some before) span = join before span

-- The span of the last element, or the given span if there is no element.
abbrev pub last_place : {A : Type 0} → (A → Span) → Span → List A → Span
last_place place span xs = last span (map place xs)

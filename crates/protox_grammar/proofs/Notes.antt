-- The notes among steps as a plain list, and what follows from it.
use Rattle.std.proofs.Common.{◌≡◌, Bool, true, false, List, [], ◌∷◌, ◌++◌, Option, refl, ap}
use Rattle.protox_ast.specs.inner.AggregateWalk.{Braces}
use Rattle.protox_ast.specs.Keywords.{Each}
use Rattle.protox_ast.specs.Tree as t
use Rattle.protox_grammar.specs.Steps.{Event, ADeepBody, ADeeperBody, AnOpenBrace, ACloseBrace, Token, Note, Steps}
use Rattle.protox_grammar.specs.Noted.{noted_nodes}

abbrev pub notes : {M : Type 0} → Steps M → List (Event M)
notes [] = []
notes (Token r ∷ l) = notes l
notes (Note e ∷ l) = e ∷ notes l

pub notes-append : {M : Type 0} (l k : Steps M) → notes (l ++ k) ≡ notes l ++ notes k
notes-append [] k = refl
notes-append (Token r ∷ l) k = notes-append l k
notes-append (Note e ∷ l) k = ap (λ u. e ∷ u) (notes-append l k)

-- ---- braces of aggregates

-- What is noted of aggregates.
abbrev pub brace_events : {M : Type 0} → Braces M → List (Event M)
brace_events [] = []
brace_events (x ∷ xs) = AnOpenBrace x.0 ∷ (ACloseBrace x.1 ∷ brace_events xs)

pub events-append : {M : Type 0} (xs ys : Braces M) → brace_events (xs ++ ys) ≡ brace_events xs ++ brace_events ys
events-append [] ys = refl
events-append (x ∷ xs) ys = ap (λ u. AnOpenBrace x.0 ∷ (ACloseBrace x.1 ∷ u)) (events-append xs ys)

-- The braces among notes, with whether each opens.
abbrev pub braces_in : {M : Type 0} → List (Event M) → List (Bool × M)
braces_in [] = []
braces_in (AnOpenBrace m ∷ es) = (true, m) ∷ braces_in es
braces_in (ACloseBrace m ∷ es) = (false, m) ∷ braces_in es
braces_in (e ∷ es) = braces_in es

pub braces-append : {M : Type 0} (es fs : List (Event M)) → braces_in (es ++ fs) ≡ braces_in es ++ braces_in fs
braces-append [] fs = refl
braces-append (AnOpenBrace m ∷ es) fs = ap (λ u. (true, m) ∷ u) (braces-append es fs)
braces-append (ACloseBrace m ∷ es) fs = ap (λ u. (false, m) ∷ u) (braces-append es fs)
braces-append (e ∷ es) fs = braces-append es fs

abbrev pub brace_notes : {M : Type 0} → Steps M → List (Bool × M)
brace_notes l = braces_in (notes l)

abbrev pub brace_pairs : {M : Type 0} → Braces M → List (Bool × M)
brace_pairs xs = braces_in (brace_events xs)

-- ---- steps in which no node is noted

abbrev pub IsBrace : {M : Type 0} → Event M → Type 0
IsBrace (AnOpenBrace m) = Unit {0}
IsBrace (ACloseBrace m) = Unit {0}
IsBrace e = ⊥

pub events-braces : {M : Type 0} (xs : Braces M) → Each IsBrace (brace_events xs)
events-braces [] = tt
events-braces (x ∷ xs) = (tt, (tt, events-braces xs))

pub past-braces : {M : Type 0} (p : Option (t.Package M)) (w : M) (l k : Steps M) → Each IsBrace (notes l) → noted_nodes p w (l ++ k) ≡ noted_nodes p w k
past-braces p w [] k h = refl
past-braces p w (Token r ∷ l) k h = past-braces p w l k h
past-braces p w (Note (AnOpenBrace m) ∷ l) k h = past-braces p w l k h.1
past-braces p w (Note (ACloseBrace m) ∷ l) k h = past-braces p w l k h.1
past-braces p w (Note e ∷ l) k h = absurd h.0

-- ---- bodies that are too deep

-- The first of these bodies has level 32.
abbrev pub IsShallow : {M : Type 0} → List (Event M) → Type 0
IsShallow [] = Unit {0}
IsShallow (ADeepBody m ∷ es) = Unit {0}
IsShallow (ADeeperBody m ∷ es) = ⊥
IsShallow (e ∷ es) = IsShallow es

pub shallow-append : {M : Type 0} (es fs : List (Event M)) → IsShallow es → IsShallow fs → IsShallow (es ++ fs)
shallow-append [] fs h g = g
shallow-append (ADeepBody m ∷ es) fs h g = tt
shallow-append (ADeeperBody m ∷ es) fs h g = absurd h
shallow-append (e ∷ es) fs h g = shallow-append es fs h g

pub shallow-front : {M : Type 0} (es fs : List (Event M)) → IsShallow (es ++ fs) → IsShallow es
shallow-front [] fs h = tt
shallow-front (ADeepBody m ∷ es) fs h = tt
shallow-front (ADeeperBody m ∷ es) fs h = absurd h
shallow-front (e ∷ es) fs h = shallow-front es fs h

pub events-shallow : {M : Type 0} (xs : Braces M) → IsShallow (brace_events xs)
events-shallow [] = tt
events-shallow (x ∷ xs) = events-shallow xs

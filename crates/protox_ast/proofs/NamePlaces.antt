-- The span of a name with several parts, by its first and its last part.
use Rattle.std.proofs.Common.{◌≡◌, ◌-◌, ◌≤◌, List, [], ◌∷◌, map, length, get_or, refl, ap, ◌∙◌, arith}
use Rattle.protox_fault.specs.Faults.{Span}
use Rattle.protox_ast.specs.declared.ast.Ident.{Ident}
use Rattle.protox_ast.specs.Basics.{join, last_place}
use Rattle.protox_ast.specs.declared.ast.OptionNamePart.{OptionNamePart}
use Rattle.protox_ast.specs.Names.{name_span}
use Rattle.protox_ast.specs.Spans.{part_span, parts_span}

last_read : {A : Type 0} (place : A → Span) (first : A) (others : List A) (last : A) → last ≡ get_or (first ∷ others) (length others) last → place last ≡ last_place place (place first) others
last_read place first [] last is = ap place is
last_read place first (next ∷ others) last is = last_read place next others last is

-- from the first to the last
ends : {A : Type 0} (place : A → Span) (first : A) (others : List A) (a b : A) → a ≡ get_or (first ∷ others) 0 a → b ≡ get_or (first ∷ others) (length (first ∷ others) - 1) b
    → join (place a) (place b) ≡ join (place first) (last_place place (place first) others)
ends place first others a b is_first is_last =
    let e : length (first ∷ others) - 1 ≡ length others = omega arith in
    let read : b ≡ get_or (first ∷ others) (length others) b = is_last ∙ ap (λ k. get_or (first ∷ others) k b) e in
    ap (λ x. join (place x) (place b)) is_first ∙ ap (join (place first)) (last_read place first others b read)

pub between_ends : (parts : List Ident) (first last : Ident) → 2 ≤ length parts
    → first ≡ get_or parts 0 first → last ≡ get_or parts (length parts - 1) last → join first.span last.span ≡ name_span parts
between_ends [] first last some is_first is_last = absurd (omega arith)
between_ends (part ∷ others) first last some is_first is_last = ends (λ (x : Ident). x.span) part others first last is_first is_last

pub between_parts : (parts : List OptionNamePart) (first last : OptionNamePart) → 2 ≤ length parts
    → first ≡ get_or parts 0 first → last ≡ get_or parts (length parts - 1) last → join (part_span first) (part_span last) ≡ parts_span parts
between_parts [] first last some is_first is_last = absurd (omega arith)
between_parts (part ∷ others) first last some is_first is_last = ends part_span part others first last is_first is_last

-- The last of the values that others give.
pub last-mapped : {A B : Type 0} (f : A → B) (place : B → Span) (span : Span) (xs : List A) → last_place place span (map f xs) ≡ last_place (λ x. place (f x)) span xs
last-mapped f place span [] = refl
last-mapped f place span (x ∷ xs) = last-mapped f place (place (f x)) xs

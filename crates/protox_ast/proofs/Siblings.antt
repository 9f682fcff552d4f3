-- Parts that stand in a source lie in it and start one after another. There are no more of them
-- than bytes.
use Rattle.std.proofs.Common.{ℕ, ◌<◌, ◌≤◌, ◌+◌, List, [], ◌∷◌, ◌++◌, length, map, flat_map, arith}
use Rattle.protox_fault.specs.Faults.{Span, SpanLiesIn}
use Rattle.protox_lexeme.specs.Shapes.{Rows}
use Rattle.protox_ast.specs.declared.ast.OptionBody.{OptionBody}
use Rattle.protox_ast.specs.declared.ast.OptionNamePart.{OptionNamePart}
use Rattle.protox_ast.specs.Keywords.{Each}
use Rattle.protox_ast.specs.Places.{Place}
use Rattle.protox_ast.specs.Siblings.{SpansStand, Siblings, SiblingsStand, siblings}
use Rattle.protox_ast.specs.Spans.{part_span, value_span, body_span, parts_span}
use Rattle.protox_ast.proofs.Standing.{Stand}
use Rattle.protox_ast.proofs.SpansStand.{IsNode, each-append, spans-order}

-- Each starts before those after it.
abbrev pub StartsRise : List Span → Type 0
StartsRise [] = Unit {0}
StartsRise (x ∷ xs) = Each (λ (y : Span). x.start < y.start) xs × StartsRise xs

pub each-lies : (low high size : ℕ) (xs : List Span) → high ≤ size → SpansStand low high xs → Each (SpanLiesIn size) xs
each-lies low high size [] l h = tt
each-lies low high size (x ∷ xs) l h = ((omega (arith, h.1), omega (arith, l, spans-order x.end high xs h.2)), each-lies x.end high size xs l h.2)

pub all-lie : (size : ℕ) (xs : List Siblings) → Each (SiblingsStand 0 size) xs → Each (SpanLiesIn size) (flat_map (λ y. y.children) xs)
all-lie size [] h = tt
all-lie size (x ∷ xs) h = each-append (SpanLiesIn size) x.children (flat_map (λ y. y.children) xs) (each-lies x.parent.start x.parent.end size x.children h.0.to h.0.parts) (all-lie size xs h.1)

starts-behind : (n low high : ℕ) (xs : List Span) → n < low → SpansStand low high xs → Each (λ (y : Span). n < y.start) xs
starts-behind n low high [] l h = tt
starts-behind n low high (x ∷ xs) l h = (omega (arith, l, h.0), starts-behind n x.end high xs (omega (arith, l, h.0, h.1)) h.2)

-- Parts that stand one after another start one after another.
pub starts-rise : (low high : ℕ) (xs : List Span) → SpansStand low high xs → StartsRise xs
starts-rise low high [] h = tt
starts-rise low high (x ∷ xs) h = (starts-behind x.start x.end high xs h.1 h.2, starts-rise x.end high xs h.2)

-- A node lies in the source in which its rows stand.
pub node-lies : {rows : Rows Place} {span : Span} {i : List Siblings} (low high : ℕ) → IsNode rows span i → Stand low high rows → SpanLiesIn high span
node-lies low high f h = let k = (f.hold.stand low high h).spans in (omega (arith, k.1), k.2)

value-behind : (low high : ℕ) (parts : List OptionNamePart) (value : Span) → 1 ≤ length parts → SpansStand low high (map part_span parts ++ value ∷ []) → (parts_span parts).start < value.start
value-behind low high [] value l h = absurd (omega (arith, l))
value-behind low high (x ∷ []) value l h = omega (arith, h.1, h.2.0)
value-behind low high (x ∷ y ∷ parts) value l h =
    let k = value-behind (part_span x).end high (y ∷ parts) value (omega arith) h.2 in
    omega (arith, h.1, h.2.0, k)

-- An option begins before its value. `json_name` is such an option: its two locations have the same
-- path.
pub option-first : (low high : ℕ) (x : OptionBody) → 1 ≤ length x.name → SiblingsStand low high (siblings (body_span x) (map part_span x.name ++ value_span x.value ∷ [])) → (body_span x).start < (value_span x.value).start
option-first low high x l h = value-behind (body_span x).start (body_span x).end x.name (value_span x.value) l h.parts

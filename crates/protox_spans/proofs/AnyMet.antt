-- Whether a span meets any of a list.
use Rattle.std.proofs.Common.{◌≡◌, ℕ, ◌+◌, Bool, true, false, ◌||◌, ◌&&◌, List, [], ◌∷◌, cond, nat_lt, refl, sym, ap, ◌∙◌, rules, count_by}
use Rattle.std.specs.List.{list_any}
use Rattle.protox_spans.specs.Spans.{has_numbers, meets}
use Rattle.protox_spans.specs.declared.span.Span.{Span}
use Rattle.protox_spans.proofs.Counting.{count_cons}

one_more : (b : Bool) (n : ℕ) → nat_lt 0 (cond {A = ℕ} b 1 0 + n) ≡ (b || nat_lt 0 n)
one_more true n = search (rules)
one_more false n = search (rules)

-- Any passes exactly if one or more are counted.
pub any_counted : {X : Type 0} (p : X → Bool) (xs : List X) → nat_lt 0 (count_by p xs) ≡ list_any p xs
any_counted p [] = refl
any_counted p (x ∷ xs) =
    ap (nat_lt 0) (count_cons p x xs)
    ∙ one_more (p x) (count_by p xs)
    ∙ ap (λ b. p x || b) (any_counted p xs)

-- What has no numbers meets none.
pub empty_meets_none : (span : Span) (spans : List Span) → has_numbers span ≡ false → false ≡ list_any (meets span) spans
empty_meets_none span [] h = refl
empty_meets_none span (s ∷ spans) h =
    empty_meets_none span spans h
    ∙ ap (λ b. ((b && has_numbers s) && (nat_lt span.start s.end && nat_lt s.start span.end)) || list_any (meets span) spans) (sym h)

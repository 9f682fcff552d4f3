-- Spans one behind another.
use Rattle.std.proofs.Common.{◌≡◌, ◌<◌, ◌≤◌, ◌+◌, ◌⊎◌, inl, inr, ℕ, List, get_or, length, subst, sym, ap, ◌∙◌, arith}
use Rattle.std.proofs.lemmas.List.{get_or_default}
use Rattle.protox_option_checks.specs.inner.Rising.{AreRising}
use Rattle.protox_spans.specs.declared.span.Span.{Span}

pub none : Span
none = record { start = 0; end = 0 }

-- So it is of the first k spans, which end at this number or before it.
pub record AreRisingTo (spans : List Span) (k least : ℕ) : Type 0 where
  pub ended : (i : ℕ) (d : Span) → i < k → (get_or spans i d).end ≤ least
  pub rising : (i j : ℕ) (d : Span) → i < j → j < k → (get_or spans i d).end ≤ (get_or spans j d).start

last_or_before : (i k : ℕ) → i < k + 1 → (i ≡ k) ⊎ (i < k)
last_or_before i k h = grind (arith, h)

pub none_rising : (spans : List Span) (least : ℕ) → AreRisingTo spans 0 least
none_rising spans least = record {
  ended = λ i d below. absurd (omega (arith, below));
  rising = λ i j d before below. absurd (omega (arith, below));
}

pub one_rising : (spans : List Span) (k least : ℕ) (e : Span) → k < length spans → least ≤ (get_or spans k e).start → (get_or spans k e).start ≤ (get_or spans k e).end
    → AreRisingTo spans k least → AreRisingTo spans (k + 1) (get_or spans k e).end
one_rising spans k least e here from forwards before = record {
  ended = λ i d below. elim (last_or_before i k below) [
    | inl last ↦ subst (λ (s : Span). s.end ≤ (get_or spans k e).end) (get_or_default spans k e d here ∙ ap (λ n. get_or spans n d) (sym last)) (omega arith)
    | inr earlier ↦ omega (arith, before.ended i d earlier, from, forwards)
  ];
  rising = λ i j d first below. elim (last_or_before j k below) [
    | inl last ↦ subst (λ (s : Span). (get_or spans i d).end ≤ s.start) (get_or_default spans k e d here ∙ ap (λ n. get_or spans n d) (sym last))
        (omega (arith, before.ended i d (omega (arith, first, last)), from))
    | inr sooner ↦ before.rising i j d first sooner
  ];
}

pub all_rising : (spans : List Span) (k least : ℕ) → length spans ≤ k → AreRisingTo spans k least → AreRising spans
all_rising spans k least all to = λ i j d first below. to.rising i j d first (omega (arith, below, all))

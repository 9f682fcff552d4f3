-- The later start of two spans that meet is in both.
use Rattle.std.proofs.Common.{◌≡◌, ℕ, ◌<◌, ◌≤◌, max, ◌&&◌, true, nat_lt, arith}
use Rattle.std.proofs.lemmas.Bool.Decides.{nat_tests}
use Rattle.protox_spans.specs.declared.span.Span.{Span}
use Rattle.protox_spans.specs.Spans.{IsIn, meets}
use Rattle.protox_spans.specs.Sharing.{MeetingIsSharing}

module _ (a b c d : ℕ) where
  first_has : ((nat_lt a b && nat_lt c d) && (nat_lt a d && nat_lt c b)) ≡ true → a < b
  first_has h = grind (arith, nat_tests)

  second_has : ((nat_lt a b && nat_lt c d) && (nat_lt a d && nat_lt c b)) ≡ true → c < d
  second_has h = grind (arith, nat_tests)

  first_begins : ((nat_lt a b && nat_lt c d) && (nat_lt a d && nat_lt c b)) ≡ true → a < d
  first_begins h = grind (arith, nat_tests)

  second_begins : ((nat_lt a b && nat_lt c d) && (nat_lt a d && nat_lt c b)) ≡ true → c < b
  second_begins h = grind (arith, nat_tests)

  share : (n : ℕ) → a ≤ n → n < b → c ≤ n → n < d
      → ((nat_lt a b && nat_lt c d) && (nat_lt a d && nat_lt c b)) ≡ true
  share n p q r s = grind (arith, nat_tests)

later : (s t : Span) → meets s t ≡ true → (n : ℕ) × IsIn n s × IsIn n t
later s t h =
    let one = first_has s.start s.end t.start t.end h in
    let two = second_has s.start s.end t.start t.end h in
    let three = first_begins s.start s.end t.start t.end h in
    let four = second_begins s.start s.end t.start t.end h in (
      max s.start t.start,
      record { from = omega arith; before = omega arith },
      record { from = omega arith; before = omega arith },
    )

pub meeting_is_sharing : MeetingIsSharing
meeting_is_sharing s t = (
  later s t,
  λ shared. share s.start s.end t.start t.end shared.0 shared.1.from shared.1.before shared.2.from shared.2.before,
)

use Rattle.std.proofs.Common.{◌≡◌, ◌≢◌, ◌+◌, ◌-◌, ◌<◌, ◌≤◌, ℕ, inl, inr, slice_index, subst, arith}
use Rattle.std.proofs.lemmas.Bool.{cases_lt}
use Rattle.std.proofs.lemmas.List.{get_or_past}
use Rattle.protox_report.proofs.Windows.{no-newline, not-ending, part-length}
use Rattle.protox_report.proofs.excerpt.line_end.Goals as goal
use Rattle.protox_report.proofs.excerpt.line_end.Goals.{else-newline-gt0-via-then-newline-gt0+else-bytes-at-eq13, else-newline-gt0-via-else-newline-gt0}

-- no newline in the part: none behind it either, where the source ends
pub returns-in_default-clause-clean : goal.returns-in_default-clause-clean
returns-in_default-clause-clean c k above below =
    let bytes = c.args.bytes.now in
    let most = c.requires.most in
    let high = c.min.ensures in
    let long = part-length bytes c.args.start c.min.result (omega (arith, high)) in
    let none : (i : ℕ) → c.args.start ≤ i → i < c.min.result → slice_index bytes i ≢ 10 =
    λ i from to. no-newline bytes c.args.start c.min.result 0 _ c.in_default.ensures i (omega (arith, from)) (omega (arith, long, to)) to in
    not-ending bytes k (none k above (omega (arith, below, most, high))) (λ _ is. elim (cases_lt (k + 1) c.min.result) [
      | inl inside ↦ none (k + 1) (omega (arith, above)) inside is
      | inr outside ↦ let past = get_or_past bytes (k + 1) 0 (omega (arith, below, most, high, outside)) in absurd (omega (arith, past, is))
    ])

pub returns-then-bytes-at-eq13-clause-clean : goal.returns-then-bytes-at-eq13-clause-clean
returns-then-bytes-at-eq13-clause-clean c k above below =
    let bytes = c.args.bytes.now in
    let first = c.in-Some.ensures.0 in
    let high = c.min.ensures in
    let long = part-length bytes c.args.start c.min.result (omega (arith, high)) in
    let within = first.high in
    let none : (i : ℕ) → c.args.start ≤ i → i < c.args.start + c.in-Some.newline → slice_index bytes i ≢ 10 =
    λ i from to. no-newline bytes c.args.start c.min.result 0 c.in-Some.newline first.before i (omega (arith, from)) to (omega (arith, long, within, to)) in
    not-ending bytes k (none k above (omega (arith, below))) (λ _ is. none (k + 1) (omega (arith, above)) (omega (arith, below)) is)

pub returns-else-newline-gt0-clause-clean : goal.returns-else-newline-gt0-clause-clean
returns-else-newline-gt0-clause-clean c k above below =
    let bytes = c.args.bytes.now in
    let first = c.in-Some.ensures.0 in
    let high = c.min.ensures in
    let long = part-length bytes c.args.start c.min.result (omega (arith, high)) in
    let within = first.high in
    let none : (i : ℕ) → c.args.start ≤ i → i < c.args.start + c.in-Some.newline → slice_index bytes i ≢ 10 =
    λ i from to. no-newline bytes c.args.start c.min.result 0 c.in-Some.newline first.before i (omega (arith, from)) to (omega (arith, long, within, to)) in
    not-ending bytes k (none k above below) (λ return is. elim (cases_lt (k + 1) (c.args.start + c.in-Some.newline)) [
      | inl inside ↦ none (k + 1) (omega (arith, above)) inside is
      | inr outside ↦ elim c.else-newline-gt0.branch [
        | else-newline-gt0-via-then-newline-gt0+else-bytes-at-eq13 w ↦
            let same : k ≡ c.args.start + c.in-Some.newline - 1 = omega (arith, below, outside) in
            w.if-bytes-at-eq13.false (subst (λ i. slice_index bytes i ≡ 13) same return)
        | else-newline-gt0-via-else-newline-gt0 w ↦ let none_before = w.if-newline-gt0.false in absurd (omega (arith, none_before, above, below))
      ]
    ])

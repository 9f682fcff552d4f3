use Rattle.std.proofs.Common.{subst, sym, ◌∙◌}
use Rattle.protox_numbers.proofs.Lemmas.{none_if_rising}
use Rattle.protox_option_checks.specs.Parts.{spans_of}
use Rattle.protox_option_checks.specs.inner.Rising.{AreRising}
use Rattle.protox_option_checks.proofs.enums.shared_numbers.Goals as goal

pub returns-then-are_rising : goal.returns-then-are_rising
returns-then-are_rising c =
    c.new.ensures.items
    ∙ sym (none_if_rising (spans_of c.args.values.now) (subst AreRising (c.as_slice.ensures.value ∙ c.in_ok-spans.ensures) (c.are_rising.ensures c.if-are_rising.true)))

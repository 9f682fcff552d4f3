use Rattle.std.proofs.Common.{ap, ◌∙◌}
use Rattle.protox_places.specs.Lines.{numbers_at}
use Rattle.protox_places.proofs.LineFacts.{numbers-are}
use Rattle.protox_places.proofs.lines.LineResolver.numbers.Goals as goal

pub returns-clause-numbers : goal.returns-clause-numbers
returns-clause-numbers c source e =
    c.numbers_in.ensures ∙ ap (λ s. numbers_at s c.args.span) (c.deref-3.ensures.value ∙ c.self.view_is) ∙ ap (λ n. n c.args.span) (numbers-are source c.args.self.now e)

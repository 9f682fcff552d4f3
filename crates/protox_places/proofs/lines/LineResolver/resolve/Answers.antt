use Rattle.std.proofs.Common.{◌-◌, ap, ◌∙◌}
use Rattle.std.specs.Prelude.{pos}
use Rattle.protox_places.specs.Lines.{count_le, last_le}
use Rattle.protox_places.proofs.LineFacts.{line-at, column-at}
use Rattle.protox_places.proofs.lines.LineResolver.resolve.Goals as goal

pub returns-clause-line : goal.returns-clause-line
returns-clause-line c source e =
    c.place.ensures.line ∙ ap (λ l. pos (count_le c.args.offset l)) (c.deref-2.ensures.value ∙ c.self.view_is) ∙ ap pos (line-at source c.args.self.now c.args.offset e)

pub returns-clause-column : goal.returns-clause-column
returns-clause-column c source e =
    c.place.ensures.column ∙ ap (λ l. pos (c.args.offset - last_le 0 c.args.offset l)) (c.deref-2.ensures.value ∙ c.self.view_is) ∙ ap pos (column-at source c.args.self.now c.args.offset e)

use Rattle.std.proofs.Common.{◌≡◌, ◌-◌, ◌∷◌, get_or, arith, sym, ap, ◌∙◌}
use Rattle.std.specs.Prelude.{pos}
use Rattle.std.proofs.lemmas.Int.{to_z_pos}
use Rattle.std.specs.Int.{w32}
use Rattle.protox_places.proofs.LineFacts.{count-found, last-found, first-start, later-start}
use Rattle.protox_places.proofs.lines.place.Goals as goal
use Rattle.protox_places.proofs.lines.place.Goals.{then-line-eq0, else-line-eq0}

pub returns-clause-line : goal.returns-clause-line
returns-clause-line c =
    let f = c.requires.found in
    to_z_pos w32 c.args.line (omega arith) ∙ ap pos (sym (count-found c.args.starts.now c.args.offset c.args.line f.within f.below f.above))

pub returns-clause-column : goal.returns-clause-column
returns-clause-column c =
    let f = c.requires.found in
    let start : c.if-line-eq0.start ≡ get_or (0 ∷ c.args.starts.now) c.args.line 0 =
    (elim c.if-line-eq0.branch [
      | then-line-eq0 w ↦ w.start-is ∙ sym (first-start c.args.starts.now c.args.line w.if-line-eq0.true)
      | else-line-eq0 w ↦ w.start-is ∙ sym (later-start c.args.starts.now c.args.line (omega arith))
    ]) in
    to_z_pos w32 (c.args.offset - c.if-line-eq0.start) (omega arith)
    ∙ ap (λ s. pos (c.args.offset - s)) (start ∙ sym (last-found c.args.starts.now 0 c.args.offset c.args.line f.within f.below f.above))

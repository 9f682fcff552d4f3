use Rattle.std.proofs.Common.{◌≡◌, ◌++◌, map, take, ap, sym, ◌∙◌, Some}
use Rattle.std.specs.Prelude.{slice_get}
use Rattle.protox_lexeme.specs.Tokens.{shape_of}
use Rattle.protox_lex.proofs.Sharing.{few_found}
use Rattle.protox_lex.proofs.shared_gaps.SharedGaps.get.Goals as goal

pub returns-then-number-lt-LINES : goal.returns-then-number-lt-LINES
returns-then-number-lt-LINES c =
    let g = c.self.inside in
    let numbers = g.numbers.items ++ g.wide.items in
    let is : slice_get numbers c.args.index ≡ Some c.in_ok-number.number =
    ap (λ ns. slice_get (ns ++ g.wide.items) c.args.index) (sym c.deref.ensures.value) ∙ ap (λ ns. slice_get (c.deref.result.now ++ ns) c.args.index) (sym c.deref-2.ensures.value) ∙ sym c.in_ok-number.ensures in
    ap (λ ls. Some (map shape_of (take c.in_ok-number.number ls))) c.deref-then-number-lt-LINES.ensures.value
    ∙ few_found g.lines.items g.kept.ended numbers c.args.index c.in_ok-number.number c.self.invariant.newlines is c.if-number-lt-LINES.true
    ∙ ap (λ v. slice_get v.ended c.args.index) c.self.view_is

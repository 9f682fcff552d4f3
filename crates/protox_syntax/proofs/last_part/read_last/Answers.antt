use Rattle.std.proofs.Common.{sym, subst, ◌∙◌}
use Rattle.protox_fault.specs.Faults.{Span}
use Rattle.protox_syntax.proofs.LastPart.{span-all}
use Rattle.protox_syntax.specs.inner.Parts.{IsAll}
use Rattle.protox_syntax.proofs.last_part.read_last.Goals as goal

pub read_to_end-requires-clause-on : goal.read_to_end-requires-clause-on
read_to_end-requires-clause-on c = (c.requires.between.0, c.in_ok-rows.ensures.on c.requires.between.0 c.requires.between.1)

pub returns-clause-read : goal.returns-clause-read
returns-clause-read c gone b =
    let source = c.args.source.now in
    let span = c.span_to_end-head.ensures ∙ span-all source c.args.part.now c.args.progress.now gone c.args.head.now b c.requires.part c.requires.ends c.requires.begins in
    subst (λ (v : Span). IsAll source gone (record c.read_to_end.new.head { span = v })) (sym span) (c.in_ok-read_to_end.ensures.read gone (c.in_ok-rows.ensures.on gone b))

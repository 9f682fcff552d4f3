use Rattle.std.proofs.Common.{◌+◌, ◌≤◌, length, arith, refl, subst, sym}
use Rattle.std.proofs.lemmas.Option.{slice_get_read}
use Rattle.protox_spans.specs.declared.span.Span.{Span}
use Rattle.protox_numbers.proofs.Rising.{AreRisingTo, all_rising, one_rising}
use Rattle.protox_numbers.proofs.message.are_rising.Goals as goal

pub loop-field-preserved : goal.loop-field-preserved
loop-field-preserved c =
    let fields = c.args.fields.now in
    let k = c.loop-field.field-index in
    let least = c.loop-field.least in
    subst (λ (span : Span). AreRisingTo fields (k + 1) span.end) (sym c.of_field-span.ensures)
    (one_rising fields k least c.field-item.result
    (slice_get_read fields (length fields) k c.field-item.result refl (omega arith) c.field-item.is)
    (subst (λ (span : Span). least ≤ span.start) c.of_field-span.ensures (omega arith))
    c.loop-field.invariant)

pub returns : goal.returns
returns c is = all_rising c.args.fields.now c.loop-field.field-index c.loop-field.least (omega arith) c.loop-field.invariant

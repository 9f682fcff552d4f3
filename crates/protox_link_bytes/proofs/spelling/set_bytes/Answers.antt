use Rattle.std.proofs.Common.{refl, arith, sym, ◌∙◌}
use Rattle.protox_encode.specs.declared.fault.EncodeError.TheVariants.{NotAFloat, TooLarge}
use Rattle.protox_link_bytes.proofs.Errors.{same_error}
use Rattle.protox_link_bytes.proofs.Sets.{lacks, larger, next, none}
use Rattle.protox_link_bytes.proofs.spelling.set_bytes.Goals as goal

pub loop-number-init : goal.loop-number-init
loop-number-init c = c.new-bytes.ensures.items ∙ sym none

pub returns-in-Err-clause-too_large : goal.returns-in-Err-clause-too_large
returns-in-Err-clause-too_large c = λ is. larger c.args.files.now c.args.order.now c.loop-number.number-index _ (omega arith) refl (c.in-Err.ensures.too_large (same_error c.in-Err.error TooLarge is))

pub returns-in-Err-clause-not_a_float : goal.returns-in-Err-clause-not_a_float
returns-in-Err-clause-not_a_float c = λ is. lacks c.args.files.now c.args.order.now c.loop-number.number-index _ (omega arith) refl (c.in-Err.ensures.not_a_float (same_error c.in-Err.error NotAFloat is))

pub loop-number-preserved : goal.loop-number-preserved
loop-number-preserved c = next c.args.files.now c.args.order.now c.loop-number.number-index _ c.loop-number.bytes.items c.push_file.new.bytes.items (omega arith) refl c.loop-number.invariant c.in_default.ensures.exact

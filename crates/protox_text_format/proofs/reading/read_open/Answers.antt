use Rattle.std.proofs.Common.{◌≡◌, ◌≤◌, ◌<◌, inl, inr, true, false, length, reverse, sym, ◌∙◌, ap, arith}
use Rattle.std.proofs.lemmas.Bool.{cases_lt}
use Rattle.std.proofs.lemmas.List.{length-reverse}
use Rattle.protox_text_format.proofs.Steps.{go_open}
use Rattle.protox_text_format.proofs.Stops.{stuck_deep}
use Rattle.protox_text_format.proofs.reading.read_open.Goals as goal

pub returns-then-is_full-clause-err : goal.returns-then-is_full-clause-err
returns-then-is_full-clause-err c =
    let count = ap length c.deref.ensures.value in
    let full = c.is_full.ensures.0 c.if-is_full.true in
    let many : 100 ≤ length (reverse c.args.frames.now.items) =
    omega (arith, count, full, length-reverse c.args.frames.now.items) in
    stuck_deep c.args.frame.angle c.args.frame.in_list (reverse c.args.frames.now.items) c.args.left.now c.args.more.now
    c.args.items.now.items many c.requires

pub returns-clause-ok : goal.returns-clause-ok
returns-clause-ok c =
    let count = ap length c.deref.ensures.value in
    let few : length (reverse c.args.frames.now.items) < 100 = elim (cases_lt (length c.deref.result.now) 100) [
      | inl h ↦ omega (arith, count, h, length-reverse c.args.frames.now.items)
      | inr h ↦ let no : true ≡ false = sym (c.is_full.ensures.1 h) ∙ c.if-is_full.false in cc
    ] in
    go_open c.args.frame.angle c.args.frame.in_list (reverse c.enter.new.frames.items) (reverse c.args.frames.now.items)
    c.args.left.now c.args.more.now c.args.items.now.items c.add.new.items.items few
    c.in-Ok.ensures c.requires c.in-Ok-add.ensures

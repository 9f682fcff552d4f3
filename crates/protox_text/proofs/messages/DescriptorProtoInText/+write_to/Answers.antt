use Rattle.std.proofs.Common.{ap, sym}
use Rattle.protox_text.proofs.Nesting.{fields_of, message-is}
use Rattle.protox_text.proofs.Written.{then, message, equally}
use Rattle.protox_text.proofs.messages.DescriptorProtoInText.+write_to.Goals as goal

pub returns : goal.returns
returns g t c =
    equally _ _ _ _ _ (sym (message-is c.args.self.now c.args.level.depth c.args.name.now))
    (message _ (fields_of c.args.self.now) _ _ _ _ _ _ _ (ap (λ l. l.depth) c.inner-inner.ensures) c.in_ok-write_open.ensures
    (then _ _ _ _ _ c.in_ok-write_any.ensures
    (then _ _ _ _ _ c.in_ok-write_items.ensures
    (then _ _ _ _ _ c.in_ok-write_items-2.ensures
    (then _ _ _ _ _ c.in_ok-write_middle.ensures c.in_ok-write_end.ensures))))
    c.write_close.ensures)

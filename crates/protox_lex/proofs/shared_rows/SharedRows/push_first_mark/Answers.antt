use Rattle.std.proofs.Common.{length, ap, ◌∙◌}
use Rattle.protox_lex.proofs.Sharing.{shared_more, shared_push, shared_first}
use Rattle.protox_lex.proofs.shared_rows.SharedRows.push_first_mark.Goals as goal

pub invariant_of-self-in_err-push_last : goal.invariant_of-self-in_err-push_last
invariant_of-self-in_err-push_last c = rw (c.in_ok-push.ensures.items, c.in_err-push_last.ensures.err) (shared_more _ _ _ _ _ c.self.invariant c.kept_mark.ensures.class)

pub invariant_of-self-in_default : goal.invariant_of-self-in_default
invariant_of-self-in_default c =
    rw (c.in_ok-push.ensures.items, c.in_ok-push_last.ensures.ok)
    (shared_push _ _ _ _ _ c.args.start c.next_number-number.result c.args.len c.self.invariant (c.next_number-number.ensures ∙ ap length c.deref.ensures.value) c.kept_mark.ensures.len c.requires.fits c.kept_mark.ensures.class)

pub invariant_of-self-in-Ok : goal.invariant_of-self-in-Ok
invariant_of-self-in-Ok c =
    let shared = shared_push _ _ _ _ _ c.args.start c.next_number-number.result c.args.len c.self.invariant (c.next_number-number.ensures ∙ ap length c.deref.ensures.value) c.kept_mark.ensures.len c.requires.fits c.kept_mark.ensures.class in
    rw (c.in_ok-push.ensures.items, c.in_ok-push_last.ensures.ok)
    (shared_first _ _ _ _ _ c.args.byte c.in-Ok.number shared c.self.invariant.marks_are ((c.in-Ok.ensures).1 ∙ c.next_number-number.ensures ∙ ap length c.deref.ensures.value) c.kept_mark.ensures.shape c.ranges.byte.fits)

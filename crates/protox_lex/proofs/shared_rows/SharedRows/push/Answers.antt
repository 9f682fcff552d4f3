use Rattle.std.proofs.Common.{length, ap, ◌∙◌}
use Rattle.protox_lex.proofs.Sharing.{shared_more, shared_push}
use Rattle.protox_lex.proofs.shared_rows.SharedRows.push.Goals as goal

pub invariant_of-self-in_err-push_last : goal.invariant_of-self-in_err-push_last
invariant_of-self-in_err-push_last c = rw (c.in_ok-push.ensures.items, c.in_err-push_last.ensures.err) (shared_more _ _ _ _ _ c.self.invariant c.kept_token.ensures.class)

pub invariant_of-self-2 : goal.invariant_of-self-2
invariant_of-self-2 c =
    rw (c.in_ok-push.ensures.items, c.in_ok-push_last.ensures.ok)
    (shared_push _ _ _ _ _ c.args.start c.next_number-number.result c.args.len c.self.invariant (c.next_number-number.ensures ∙ ap length c.deref.ensures.value) c.kept_token.ensures.len c.requires.fits c.kept_token.ensures.class)

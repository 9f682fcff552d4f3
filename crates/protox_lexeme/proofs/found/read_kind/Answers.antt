use Rattle.std.proofs.Common.{◌∙◌, ap, sym}
use Rattle.protox_lexeme.proofs.Literal.{ok_map}
use Rattle.protox_lexeme.proofs.Modes.{string_in_mode, integer_in_mode, block_in_mode}
use Rattle.protox_lexeme.proofs.found.read_kind.Goals as goal

pub returns-in-Integer-clause-value : goal.returns-in-Integer-clause-value
returns-in-Integer-clause-value c =
    rw c.in-Integer.is (ok_map c.read_integer.result _ _ (λ f h. h ∙ sym (integer_in_mode c.args.text_format c.args.start c.args.text.now c.args.len)) c.read_integer.ensures.value)

pub returns-in-String-clause-value : goal.returns-in-String-clause-value
returns-in-String-clause-value c =
    rw c.in-String.is (ok_map c.read_string.result _ _ (λ f h. h ∙ sym (string_in_mode c.args.text_format c.args.start c.args.text.now)) c.read_string.ensures.value)

pub returns-in-String-clause-free : goal.returns-in-String-clause-free
returns-in-String-clause-free c = rw c.in-String.is (λ b e. c.read_string.ensures.free b (ap (λ x. x.faults) (sym (string_in_mode c.args.text_format c.args.start c.args.text.now)) ∙ e))

pub returns-in-BlockComment-clause-value : goal.returns-in-BlockComment-clause-value
returns-in-BlockComment-clause-value c =
    rw c.in-BlockComment.is (ok_map c.read_block_comment.result _ _ (λ f h. h ∙ sym (block_in_mode c.args.text_format c.args.start c.args.text.now)) c.read_block_comment.ensures.value)

pub returns-in-BlockComment-clause-free : goal.returns-in-BlockComment-clause-free
returns-in-BlockComment-clause-free c = rw c.in-BlockComment.is (λ b e. c.read_block_comment.ensures.free b (ap (λ x. x.faults) (sym (block_in_mode c.args.text_format c.args.start c.args.text.now)) ∙ e))

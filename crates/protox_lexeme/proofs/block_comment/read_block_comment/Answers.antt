use Rattle.std.proofs.Common.{◌≡◌, ℕ, [], take, ◌==◌, ◌+◌, ◌-◌, drop, length, ap, sym, ◌∙◌, subst, arith}
use Rattle.std.specs.Cow.{cow_str_bytes}
use Rattle.std.specs.Option.{option_map}
use Rattle.std.specs.Prelude.{if◌then◌else◌}
use Rattle.std.specs.Str.{IsCharBoundary}
use Rattle.protox_lexeme.specs.BlockComments.{marks_of, ending, len_to, faults_to}
use Rattle.protox_lexeme.specs.Tokens.{is_borrowed_str}
use Rattle.protox_lexeme.proofs.BlockExtent.{found_some, len_boundary}
use Rattle.protox_lexeme.proofs.block_comment.read_block_comment.Goals as goal

pub returns-in_ok-value-in-Some-clause-value : goal.returns-in_ok-value-in-Some-clause-value
returns-in_ok-value-in-Some-clause-value c =
    let v = c.in_ok-value-in-Some.value in
    let m = c.in_ok-mark.ensures in
    let a = c.in_ok-value-in-Some.ensures in
    let bytes = c.as_bytes.ensures.value in
    found_some c.args.start c.in-Some.mark c.blanks_at-blanks.result c.args.text.now (cow_str_bytes v) c.content.result.now (is_borrowed_str v) c.in_ok-mark.faults.items
    (sym c.in-Some.is ∙ m.mark ∙ ap (λ t. option_map (λ e. e.at) (ending (marks_of t))) bytes)
    (m.faults ∙ ap (λ t. faults_to c.args.start (marks_of t) (ending (marks_of t))) bytes)
    (c.content.ensures ∙ ap (λ fs. if length fs == 0 then take (c.in-Some.mark - 2) (drop 2 c.args.text.now) else []) c.deref.ensures.value) a.value a.borrowed c.blanks_at-blanks.ensures.len

pub returns-in_ok-value-in-Some-clause-boundary : goal.returns-in_ok-value-in-Some-clause-boundary
returns-in_ok-value-in-Some-clause-boundary c =
    let P : ℕ → Type 0 = λ k. IsCharBoundary c.args.text.now k in
    let stop = ap (λ x. x.stop) (returns-in_ok-value-in-Some-clause-value c) in
    let place : len_to c.args.text.now (ending (marks_of c.args.text.now)) ≡ c.args.start + c.in-Some.mark + 2 + c.blanks_at-blanks.result - c.args.start = omega arith in
    subst P place (len_boundary c.args.text.now c.utf8.text c.requires.some)

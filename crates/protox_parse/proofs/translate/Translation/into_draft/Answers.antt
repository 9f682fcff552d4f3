use Rattle.std.proofs.Common.{nat_eq, ap, ◌∙◌}
use Rattle.protox_parse.proofs.Making.{empty_none, empty_some, found_listed, found_wrong, taken_of}
use Rattle.protox_parse.proofs.translate.Translation.into_draft.Goals as goal

pub returns-then-not-is_empty-clause-wrong : goal.returns-then-not-is_empty-clause-wrong
returns-then-not-is_empty-clause-wrong c = λ source file read. (
  empty_some c.add_faults_of_head.new.faults.items c.is_empty.result (c.is_empty.ensures ∙ ap (λ n. nat_eq n 0) c.add_faults_of_head.new.faults.ok.0) c.if-not-is_empty.true,
  found_wrong source file c.args.head.now c.args.self read c.add_faults_of_head.new.faults.items c.in_ok-add_faults_of_head.ensures,
)

pub returns-then-not-is_empty-clause-in_order : goal.returns-then-not-is_empty-clause-in_order
returns-then-not-is_empty-clause-in_order c = λ source file read. found_listed source file c.args.head.now c.args.self read c.add_faults_of_head.new.faults.items c.in_ok-add_faults_of_head.ensures

pub returns-clause-taken : goal.returns-clause-taken
returns-clause-taken c = λ source file read.
    let none = empty_none c.add_faults_of_head.new.faults.items c.is_empty.result (c.is_empty.ensures ∙ ap (λ n. nat_eq n 0) c.add_faults_of_head.new.faults.ok.0) c.if-not-is_empty.false in
    taken_of source file c.args.head.now c.args.self read c.add_faults_of_head.new.faults.items c.in_ok-add_faults_of_head.ensures c.in_ok-all_taken.field-0 none c.in_ok-all_taken.ensures

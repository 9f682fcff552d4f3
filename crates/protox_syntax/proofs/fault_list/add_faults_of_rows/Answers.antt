use Rattle.std.proofs.Common.{◌++◌, sym, ap, ◌∙◌, append-nil}
use Rattle.protox_syntax.proofs.Merging.{nothing-faults_of_rows}
use Rattle.protox_syntax.proofs.fault_list.add_faults_of_rows.Goals as goal

pub returns-then-is_faultless : goal.returns-then-is_faultless
returns-then-is_faultless c =
    let errors = c.args.errors.now.items in
    sym (ap (λ fs. errors ++ fs) (nothing-faults_of_rows c.args.text_format c.args.table.now.faults c.args.low c.args.count (c.is_faultless.ensures.0 c.if-is_faultless.true)) ∙ append-nil errors)

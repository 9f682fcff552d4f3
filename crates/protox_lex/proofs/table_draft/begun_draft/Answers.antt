use Rattle.protox_lex.proofs.Tables.{finished_start}
use Rattle.protox_lex.proofs.table_draft.begun_draft.Goals as goal

pub returns : goal.returns
returns c = λ xs. finished_start record { rows = c.in_ok-new.field-0; gaps = c.in_ok-new-2.field-0; faults = c.new-3.result } xs c.in_ok-new.ensures c.in_ok-new-2.ensures c.new-3.ensures

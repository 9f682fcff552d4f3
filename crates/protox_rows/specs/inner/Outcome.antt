-- What a function that reads rows returns, compared with what the grammar's reader
-- gives.
use Rattle.std.specs.Prelude.{◌≡◌, Result, Ok, Err}
use Rattle.protox_lexeme.specs.Shapes.{Rows}
use Rattle.protox_grammar.specs.Reader.{Refusal, Unexpected, Deep}
use Rattle.protox_ast.specs.Places.{Place}
use Rattle.protox_rows.specs.declared.refused.Refused.{Refused}
use Rattle.protox_rows.specs.declared.refused.Refused.TheVariants.{OutOfMemory, At, TooDeep}

-- The reader fails in the same way, unless memory ran out.
abbrev pub Fails : {Y : Type 0} → Refused → Result Y Refusal → Type 0
Fails OutOfMemory read = Unit {0}
Fails (At left expected) read = read ≡ Err (Unexpected left)
Fails (TooDeep left) read = read ≡ Err (Deep left)

-- The reader gives the same value and the same rest of the rows, or fails in the same way.
abbrev pub Gives : {X Y : Type 0} → (X → Y) → Result X Refused → Rows Place → Result (Y × Rows Place) Refusal → Type 0
Gives view (Ok x) left read = read ≡ Ok (view x, left)
Gives view (Err e) left read = Fails e read

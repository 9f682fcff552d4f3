use Rattle.std.proofs.Common.{◌≡◌, drop, fold}
use Rattle.protox_symbols.specs.Things.{entries_from, table_of, with_entry}
use Rattle.protox_symbols.proofs.symbols.Symbols.of.Given as goal

-- what is left completes all
abbrev pub invariant-loop-number : goal.invariant-loop-number
invariant-loop-number l = fold with_entry l.symbols (entries_from l.number (drop l.number l.files)) ≡ table_of l.files

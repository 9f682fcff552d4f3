use Rattle.std.proofs.Common.{◌≡◌, ◌<◌, ◌++◌, ◌==◌, ℕ, List, false, drop, get_or, length}
use Rattle.std.specs.List.{list_any}
use Rattle.protox_link_checks.specs.Imports.{import_faults, import_faults_from}
use Rattle.protox_link_checks.proofs.imports.check_imports.Given as goal

-- The files of the imports so far are marked, and what is left completes the faults.
abbrev pub invariant-loop-index : goal.invariant-loop-index
invariant-loop-index l =
    (length l.marks ≡ l.count)
    × ((earlier : List ℕ)
    × ((n : ℕ) → n < l.count → get_or l.marks n false ≡ list_any (λ e. e == n) earlier)
    × (l.faults.items ++ import_faults_from l.file l.index earlier (drop l.index l.named) ≡ l.initial.faults.items ++ import_faults l.file l.named))

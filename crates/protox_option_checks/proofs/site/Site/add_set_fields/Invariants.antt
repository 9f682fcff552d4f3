use Rattle.std.proofs.Common.{◌≡◌, ◌++◌, drop}
use Rattle.protox_option_checks.specs.Parts.{set_fields_from}
use Rattle.protox_option_checks.proofs.site.Site.add_set_fields.Given as goal

-- The faults of the fields that are left complete those of all.
abbrev pub invariant-loop-index : goal.invariant-loop-index
invariant-loop-index l =
    l.faults.items ++ set_fields_from l.self.number l.path l.index (drop l.index l.fields)
    ≡ l.initial.faults.items ++ set_fields_from l.self.number l.path 0 l.fields

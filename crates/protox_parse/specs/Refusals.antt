-- A `ParseError` as contracts see it.
use Rattle.std.specs.Prelude.{◌<◌, length}
use Rattle.protox_parse.specs.declared.failure.ParseError.TheInside.{Inside}
use Rattle.protox_parse.specs.Refusal.{Refusal}

-- its name, source and faults
abbrev pub refusal_of : Inside → Refusal
refusal_of e = record { file = e.file; source = e.source; errors = e.errors.items }

-- There is at least one fault.
abbrev pub has_fault : Inside → Type 0
has_fault e = 0 < length e.errors.items

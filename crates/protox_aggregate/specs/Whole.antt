-- Steps through a whole message.
use Rattle.std.specs.Prelude.{◌≡◌, List}
use Rattle.protox_message_bytes.specs.Parts.{Parts, steps}
use Rattle.protox_message_bytes.specs.declared.entry.Entry.{Entry}

-- Each message that begins ends, and none ends that didn't begin.
abbrev pub IsWhole : List Entry → Type 0
IsWhole entries = (parts : Parts) × (entries ≡ steps parts)

use Rattle.std.proofs.Common.{◌≡◌, drop, fold, map}
use Rattle.std.specs.Prelude.{string_bytes}
use Rattle.protox_brace_text.specs.Steps.{last_name, naming}
use Rattle.protox_brace_text.proofs.steps.last_name.Given as goal
use Rattle.protox_text_format.specs.Spelling.{seen}

abbrev pub invariant-loop-item : goal.invariant-loop-item
invariant-loop-item l = fold naming (string_bytes l.name) (map seen (drop l.item-index l.items)) ≡ last_name (map seen l.items)

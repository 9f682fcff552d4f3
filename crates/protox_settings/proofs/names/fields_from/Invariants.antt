use Rattle.std.proofs.Common.{◌≡◌, ◌+◌, length}
use Rattle.protox_name_tree.specs.Tree.{name_at}
use Rattle.protox_names.specs.Tree.{name_of_place}
use Rattle.protox_settings.specs.Names.{fields_from}
use Rattle.protox_settings.proofs.Parts.{in_front}
use Rattle.protox_settings.proofs.names.fields_from.Given as goal

-- the parts that are left lead to the rest of the fields
abbrev pub invariant-loop-rest : goal.invariant-loop-rest
invariant-loop-rest l = record {
  found : in_front l.fields.items (fields_from l.files l.view.symbols.now l.view.sees.now l.view.packages (name_of_place (name_at l.view.symbols.now.names) l.scope) l.index l.message l.rest)
      ≡ fields_from l.files l.view.symbols.now l.view.sees.now l.view.packages (name_of_place (name_at l.view.symbols.now.names) l.scope) 0 l.fn.message l.fn.name;
  counted : l.index + length l.rest ≡ length l.fn.name;
}

abbrev pub decreases-loop-rest : goal.decreases-loop-rest
decreases-loop-rest l = length l.rest

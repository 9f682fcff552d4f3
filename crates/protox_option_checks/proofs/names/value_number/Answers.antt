use Rattle.std.proofs.Common.{List, ℕ, ap, ◌∙◌}
use Rattle.protox_name_tree.specs.Tree.{number_of}
use Rattle.protox_names.specs.Names.{within}
use Rattle.protox_option_checks.specs.Names.{value_name}
use Rattle.protox_option_checks.proofs.names.value_number.Goals as goal

pub returns : goal.returns
returns c =
    c.find_within.ensures
    ∙ ap (λ (name : List ℕ). number_of c.args.symbols.now.names (within c.args.scope.now name)) (c.value_name.ensures ∙ ap value_name c.value_at.ensures)

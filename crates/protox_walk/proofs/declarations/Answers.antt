use Rattle.std.proofs.Common.{◌++◌, List, map, ap, ◌∙◌}
use Rattle.protox_walk.proofs.Folds.{folds-appended}
use Rattle.protox_walk.specs.Declarations.{file_declarations}
use Rattle.protox_walk.specs.Parts.{seen}
use Rattle.protox_walk.specs.declared.Declaration.{Declaration}
use Rattle.protox_walk.specs.declared.visitors.Collector.{Collector}
use Rattle.protox_walk.proofs.declarations.Goals as goal

pub returns : goal.returns
returns c =
    folds-appended (λ (collector : Collector). map seen collector.found.items) _ _ c.walk.new.visitor c.in_ok-walk.ensures
    ∙ ap (λ (found : List Declaration). map seen found ++ file_declarations c.args.file.now) c.new-found.ensures.items

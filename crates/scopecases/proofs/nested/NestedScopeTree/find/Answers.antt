use Rattle.std.proofs.Common.{sym, ap, ◌∙◌}
use Rattle.protox_names.specs.Names.{within}
use Rattle.protox_names.specs.Tree.{name_of_place}
use Rattle.scopecases.specs.Listed.{place_of}
use Rattle.scopecases.specs.Nested.{name_at}
use Rattle.scopecases.proofs.nested.NestedScopeTree.find.Goals as goal

pub returns-in-None : goal.returns-in-None
returns-in-None c =
    let listed = c.args.self.now.listed.now in
    c.find-in-None.ensures ∙ ap (λ scope. place_of listed (within (name_of_place (name_at listed) scope) c.args.name.now)) (sym c.in-None.is)

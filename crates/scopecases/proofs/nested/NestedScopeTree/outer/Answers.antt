use Rattle.std.proofs.Common.{◌≡◌, ◌∷◌, subst}
use Rattle.protox_names.specs.Names.{scopes}
use Rattle.scopecases.proofs.Outer.{outer_listed}
use Rattle.scopecases.proofs.nested.NestedScopeTree.outer.Goals as goal

pub returns : goal.returns
returns c =
    let around = c.in_ok-around.around.now in
    outer_listed c.args.self.now.listed.now c.args.scope around c.find.result c.args.self.now.nested c.find.ensures
    (subst (λ name. scopes name ≡ around ∷ scopes around) c.name_at.ensures c.in_ok-around.ensures.scopes)

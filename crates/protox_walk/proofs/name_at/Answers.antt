use Rattle.protox_walk.proofs.ByPath.{name-kept}
use Rattle.protox_walk.specs.declared.visitors.Finder.{Finder}
use Rattle.protox_walk.proofs.name_at.Goals as goal

pub returns : goal.returns
returns c = name-kept (λ (finder : Finder). finder.path.now) (λ (finder : Finder). finder.name) _ _ c.walk.new.visitor c.in_ok-walk.ensures

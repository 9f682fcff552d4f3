use Rattle.std.proofs.Common.{◌∙◌, ap, map}
use Rattle.std.specs.Prelude.{◌||◌}
use Rattle.protox_set_paths.specs.Paths.{begins_with, is_set}
use Rattle.protox_set_paths.proofs.Adding.{is_set_added}
use Rattle.protox_set_paths.proofs.set_paths.SetPaths.add.Goals as goal

pub returns-clause-ok : goal.returns-clause-ok
returns-clause-ok c q =
    ap (λ keys. is_set (map (λ path. path.items) keys) q) c.in_ok-insert.ensures.keys
    ∙ is_set_added (λ path. path.items) c.args.path c.self.inside.paths.keys q
    ∙ ap (λ paths. begins_with q c.args.path.items || is_set paths q) c.self.view_is

use Rattle.std.proofs.Common.{sym, ◌∙◌}
use Rattle.std.specs.BTreeMap.{get}
use Rattle.protox_set_paths.specs.inner.Steps.{paths_of, step_cmp}
use Rattle.protox_set_paths.proofs.Stepping.{step_elsewhere, step_found, step_set}
use Rattle.protox_set_paths.proofs.tree.SetTree.find.Goals as goal

pub returns-clause-place : goal.returns-clause-place
returns-clause-place c =
    step_found (get step_cmp c.self.inside.places) (paths_of c.self.inside.steps.items) c.self.invariant c.args.self.now c.self.view_is
    c.args.place c.args.number c.copied.result (sym (c.copied.ensures ∙ c.get.ensures.value))

pub returns-clause-set : goal.returns-clause-set
returns-clause-set c =
    step_set (get step_cmp c.self.inside.places) (paths_of c.self.inside.steps.items) c.self.invariant c.args.self.now c.self.view_is
    c.args.place c.args.number c.copied.result (sym (c.copied.ensures ∙ c.get.ensures.value))

pub returns-clause-elsewhere : goal.returns-clause-elsewhere
returns-clause-elsewhere c =
    step_elsewhere (get step_cmp c.self.inside.places) (paths_of c.self.inside.steps.items) c.self.invariant c.args.self.now c.self.view_is
    c.args.place c.args.number c.copied.result (sym (c.copied.ensures ∙ c.get.ensures.value))

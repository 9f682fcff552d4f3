use Rattle.std.proofs.Common.{◌∙◌, sym, ap}
use Rattle.protox_set_paths.specs.Paths.{begins_with}
use Rattle.protox_set_paths.proofs.Searching.{first_begins, first_decides}
use Rattle.protox_set_paths.proofs.set_paths.has.Goals as goal

pub returns-in-Some : goal.returns-in-Some
returns-in-Some c =
    c.begins_with.ensures
    ∙ ap (λ front. begins_with front c.as_slice-in-Some.result.now) c.as_slice.ensures.value
    ∙ ap (begins_with c.args.path.now.items) c.as_slice-in-Some.ensures.value
    ∙ sym (ap (first_begins (λ path. path.items) c.args.path.now.items) (sym (c.range.ensures.between tt) ∙ c.in-Some.ensures.steps))
    ∙ first_decides (λ path. path.items) c.args.path.now c.args.paths.now.keys c.range.ensures.ordered

pub returns-in-None : goal.returns-in-None
returns-in-None c =
    sym (ap (first_begins (λ path. path.items) c.args.path.now.items) (sym (c.range.ensures.between tt) ∙ c.in-None.ensures.steps.0))
    ∙ first_decides (λ path. path.items) c.args.path.now c.args.paths.now.keys c.range.ensures.ordered

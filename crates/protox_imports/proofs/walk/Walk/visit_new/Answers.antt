use Rattle.std.proofs.Common.{◌∙◌, ap, set, length, ◌++◌, ◌∷◌, []}
use Rattle.protox_imports.specs.declared.walk.State.TheVariants.{Open}
use Rattle.protox_imports.proofs.Steps.{visit_starts, entered}
use Rattle.protox_imports.proofs.walk.Walk.visit_new.Goals as goal

pub loop-top-init : goal.loop-top-init
loop-top-init c =
    let states = c.args.self.now.states.items in
    let stack = c.args.self.now.stack in
    let starts = visit_starts c.args.imports.now.files states c.enter.new.self.states.items
    c.enter.new.self.stack.items c.args.self.now.placed.items c.enter.new.self.placed.items
    c.args.root c.requires.walk c.requires.new
    (c.in_ok-enter.ensures.states
    ∙ ap (λ n. set states c.args.root (Open n)) (stack.ok.0 ∙ ap length c.requires.ends))
    (c.in_ok-enter.ensures.stack ∙ ap (λ xs. xs ++ entered c.args.root ∷ []) c.requires.ends)
    (ap (λ v. v.items) c.in_ok-enter.ensures.placed) in
    record { walk = starts.walk; onward = starts.onward; came = starts.came; orderly = starts.orderly }

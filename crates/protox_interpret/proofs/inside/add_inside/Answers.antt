use Rattle.std.proofs.Common.{◌+◌, [], ◌∷◌, sym, ap, subst, ◌∙◌, arith}
use Rattle.std.specs.Prelude.{reverse}
use Rattle.std.proofs.lemmas.List.{drop_all, reverse-append}
use Rattle.protox_interpret.proofs.Entering.{Progress, all_taken, message_closed, message_opened, no_items, none_yet, nothing_open, value_taken}
use Rattle.protox_interpret.proofs.inside.add_inside.Goals as goal
use Rattle.protox_interpret.proofs.inside.add_inside.Goals.{in-Value+in_ok-enter-in-Value, in-Open+in_ok-push-in-Open+in_ok-top-in-Open, in-Close+in-Some}

pub loop-entry-init : goal.loop-entry-init
loop-entry-init c path at =
    subst (λ opens. Progress c.args.set.now c.args.set.now c.args.entries.now 0 (c.args.place ∷ reverse opens) path) (sym c.new-open.ensures.items)
    (none_yet c.args.set.now c.args.entries.now c.args.place path at)

pub returns-in-None : goal.returns-in-None
returns-in-None c path at =
    nothing_open c.args.set.now c.loop-entry.set c.args.entries.now c.loop-entry.entry-index c.loop-entry.top path
    c.entry-item.result (omega arith) c.entry-item.is c.in-Close.is
    (subst (λ opens. Progress c.args.set.now c.loop-entry.set c.args.entries.now c.loop-entry.entry-index (c.loop-entry.top ∷ reverse opens) path)
    (no_items c.loop-entry.open.items (omega (arith, c.in-None.ensures.cases.0, c.loop-entry.open.ok.0)))
    (c.loop-entry.invariant path at))

pub loop-entry-preserved : goal.loop-entry-preserved
loop-entry-preserved c path at = elim c.match-entry.branch [
  | in-Value+in_ok-enter-in-Value w ↦
      rw w.set-is (rw w.open-is (rw w.top-is
      (value_taken c.args.set.now c.loop-entry.set w.enter.new.self c.args.entries.now c.loop-entry.entry-index c.loop-entry.top (reverse c.loop-entry.open.items) path
      w.in-Value.number c.entry-item.result w.in-Value.field-1 w.in-Value.field-2 (omega arith) c.entry-item.is w.in-Value.is
      w.in_ok-enter-in-Value.ensures.kept w.in_ok-enter-in-Value.ensures.set (c.loop-entry.invariant path at))))
  | in-Open+in_ok-push-in-Open+in_ok-top-in-Open w ↦
      rw w.set-is (rw w.open-is (rw w.top-is
      (subst (λ opens. Progress c.args.set.now w.enter-in-Open.new.self c.args.entries.now (c.loop-entry.entry-index + 1) (w.in_ok-top-in-Open.top ∷ opens) path)
      (sym (ap reverse w.in_ok-push-in-Open.ensures.items ∙ reverse-append c.loop-entry.open.items (c.loop-entry.top ∷ [])))
      (message_opened c.args.set.now c.loop-entry.set w.enter-in-Open.new.self c.args.entries.now c.loop-entry.entry-index c.loop-entry.top (reverse c.loop-entry.open.items) path
      w.in-Open.number c.entry-item.result w.in-Open.field-1 w.in_ok-top-in-Open.top (omega arith) c.entry-item.is w.in-Open.is
      w.in_ok-top-in-Open.ensures.kept w.in_ok-top-in-Open.ensures.set w.in_ok-top-in-Open.ensures.place (c.loop-entry.invariant path at)))))
  | in-Close+in-Some w ↦
      rw w.set-is (rw w.open-is (rw w.top-is
      (message_closed c.args.set.now c.loop-entry.set c.args.entries.now c.loop-entry.entry-index c.loop-entry.top path
      c.entry-item.result w.in-Some.outer (reverse w.pop.new.self.items) (omega arith) c.entry-item.is w.in-Close.is
      (subst (λ opens. Progress c.args.set.now c.loop-entry.set c.args.entries.now c.loop-entry.entry-index (c.loop-entry.top ∷ opens) path)
      (ap reverse w.in-Some.ensures.items ∙ reverse-append w.pop.new.self.items (w.in-Some.outer ∷ []))
      (c.loop-entry.invariant path at)))))
]

pub returns : goal.returns
returns c path at =
    all_taken c.args.set.now c.loop-entry.set c.args.entries.now c.loop-entry.entry-index (c.loop-entry.top ∷ reverse c.loop-entry.open.items) path
    (drop_all c.loop-entry.entry-index c.args.entries.now (omega arith)) (c.loop-entry.invariant path at)

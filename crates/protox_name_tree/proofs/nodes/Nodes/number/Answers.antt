use Rattle.std.proofs.Common.{map, slice_get, sym, ap, subst, ◌∙◌}
use Rattle.std.specs.BTreeMap.{get}
use Rattle.protox_name_tree.specs.Keys.{key_cmp, key_of}
use Rattle.protox_name_tree.specs.Slots.{IsInWindow, mixed_key}
use Rattle.protox_name_tree.proofs.Numbering.{says_elsewhere}
use Rattle.protox_name_tree.proofs.nodes.Nodes.number.Goals as goal

pub returns-in-None : goal.returns-in-None
returns-in-None c =
    let keys = map key_of c.self.inside.nodes.items in
    says_elsewhere mixed_key c.self.inside.slots (get key_cmp c.self.inside.elsewhere) keys (map key_of c.args.self.now) (c.args.place, c.args.name) c.self.invariant
    (ap (map key_of) c.self.view_is) c.copied.result
    (λ n window at. c.in-None.ensures.none n (subst (λ m. IsInWindow c.self.inside.slots m n) (sym c.mixed_key.ensures) window) (ap (λ l. slice_get (map key_of l) n) c.as_slice-nodes.ensures.value ∙ at)) (c.copied.ensures ∙ c.get.ensures.value)

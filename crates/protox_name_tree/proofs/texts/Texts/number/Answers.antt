use Rattle.std.proofs.Common.{map, slice_get, string_bytes, sym, ap, subst, ◌∙◌}
use Rattle.std.specs.BTreeMap.{get_by_text}
use Rattle.protox_name_tree.specs.Slots.{IsInWindow, mixed_text}
use Rattle.protox_name_tree.proofs.Numbering.{says_elsewhere}
use Rattle.protox_name_tree.proofs.texts.Texts.number.Goals as goal

pub returns-in-None : goal.returns-in-None
returns-in-None c =
    let texts = map string_bytes c.self.inside.texts.items in
    says_elsewhere mixed_text c.self.inside.slots (get_by_text c.self.inside.elsewhere) texts c.args.self.now c.args.text.now c.self.invariant
    c.self.view_is c.copied.result
    (λ n window at. c.in-None.ensures.none n (subst (λ m. IsInWindow c.self.inside.slots m n) (sym c.mixed_text.ensures) window) (ap (λ l. slice_get (map string_bytes l) n) c.as_slice-texts.ensures.value ∙ at)) (c.copied.ensures ∙ c.get.ensures.value)

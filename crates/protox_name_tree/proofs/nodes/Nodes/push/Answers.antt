use Rattle.std.proofs.Common.{◌≡◌, ℕ, true, [], ◌∷◌, ◌++◌, cond, length, map, slice_get, Some, refl, sym, ap, subst, ◌∙◌}
use Rattle.std.specs.BTreeMap.{get, is_at}
use Rattle.std.proofs.lemmas.List.{length-map, map-append}
use Rattle.protox_name_tree.specs.Keys.{key_cmp, key_of}
use Rattle.protox_name_tree.specs.Numbered.{IsIndexed}
use Rattle.protox_name_tree.specs.Slots.{IsInWindow, mixed_key}
use Rattle.protox_name_tree.proofs.Numbering.{pushed_elsewhere, pushed_in_window}
use Rattle.protox_name_tree.proofs.Order.{same_key}
use Rattle.protox_name_tree.proofs.nodes.Nodes.push.Goals as goal
use Rattle.protox_name_tree.proofs.nodes.Nodes.push.Goals.{then-not-put+in_ok-insert, else-not-put}

-- the nodes are those before
same_nodes : (c : goal.After-push_reserved) → c.if-not-put.self-inside.nodes.items ≡ c.self.inside.nodes.items
same_nodes c = elim c.if-not-put.branch [
  | then-not-put+in_ok-insert w ↦ ap (λ i. i.nodes.items) w.self-inside-is ∙ c.reserve.ensures.items
  | else-not-put w ↦ ap (λ i. i.nodes.items) w.self-inside-is ∙ c.reserve.ensures.items
]

-- the key stands last
listed : (c : goal.After-push_reserved) → map key_of c.push_reserved.new.self.items ≡ map key_of c.self.inside.nodes.items ++ key_of c.args.node ∷ []
listed c =
    ap (map key_of) (c.push_reserved.ensures.items ∙ ap (λ l. l ++ c.args.node ∷ []) (same_nodes c))
    ∙ map-append key_of c.self.inside.nodes.items (c.args.node ∷ [])

last : (c : goal.After-push_reserved) → c.len-number.result ≡ length (map key_of c.self.inside.nodes.items)
last c = c.len-number.ensures ∙ c.self.inside.nodes.ok.0 ∙ sym (length-map c.self.inside.nodes.items key_of)

fresh : (c : goal.After-push_reserved) (n : ℕ) → slice_get (map key_of c.self.inside.nodes.items) n ≡ Some (key_of c.args.node) → ⊥
fresh c n at = c.requires n (sym (ap (λ l. slice_get (map key_of l) n) c.self.view_is) ∙ at)

held : (c : goal.After-push_reserved) (m n : ℕ) → IsInWindow c.self.inside.slots m n → IsInWindow c.put.new.self m n
held c m n h = c.put.ensures.kept m n (c.open.ensures.kept m n h)

in_window : (c : goal.After-push_reserved) → c.put.result ≡ true → IsInWindow c.put.new.self (mixed_key (key_of c.args.node)) (length (map key_of c.self.inside.nodes.items))
in_window c did =
    subst (λ mixed. IsInWindow c.put.new.self mixed (length (map key_of c.self.inside.nodes.items))) c.mixed_key.ensures
    (subst (IsInWindow c.put.new.self c.mixed_key.result) (last c) (c.put.ensures.put did))

pub invariant_of-self-2 : goal.invariant_of-self-2
invariant_of-self-2 c =
    let keys = map key_of c.self.inside.nodes.items in
    let key = key_of c.args.node in
    let elsewhere = get key_cmp c.self.inside.elsewhere in
    subst (IsIndexed mixed_key c.if-not-put.self-inside.slots (get key_cmp c.if-not-put.self-inside.elsewhere)) (sym (listed c))
    (elim c.if-not-put.branch [
      | then-not-put+in_ok-insert w ↦
          subst (λ inside. IsIndexed mixed_key inside.slots (get key_cmp inside.elsewhere) (keys ++ key ∷ [])) (sym w.self-inside-is)
          (pushed_elsewhere mixed_key c.self.inside.slots c.put.new.self elsewhere (get key_cmp w.insert.new.self) keys key c.self.invariant (fresh c) (held c) (is_at (key_cmp key)) (same_key key)
          (λ q. w.in_ok-insert.ensures.updates.0 q ∙ ap (λ n. cond (is_at (key_cmp key) q) (Some n) (elsewhere q)) (last c)))
      | else-not-put w ↦
          subst (λ inside. IsIndexed mixed_key inside.slots (get key_cmp inside.elsewhere) (keys ++ key ∷ [])) (sym w.self-inside-is)
          (pushed_in_window mixed_key c.self.inside.slots c.put.new.self elsewhere elsewhere keys key c.self.invariant (fresh c) (held c) refl (in_window c w.if-not-put.false))
    ])

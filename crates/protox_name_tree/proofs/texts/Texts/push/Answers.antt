use Rattle.std.proofs.Common.{◌≡◌, inl, inr, ℕ, true, [], ◌∷◌, ◌++◌, bytes_eq, cond, length, map, slice_get, string_bytes, Some, refl, sym, ap, subst, ◌∙◌}
use Rattle.std.specs.BTreeMap.{get_by_text}
use Rattle.std.proofs.lemmas.List.{length-map, map-append}
use Rattle.std.proofs.lemmas.Map.Text.{btree_map_updates_text}
use Rattle.std.proofs.lemmas.Slice.Eq.{bytes_eq-Decides}
use Rattle.protox_name_tree.specs.Numbered.{IsIndexed}
use Rattle.protox_name_tree.specs.Slots.{IsInWindow, mixed_text}
use Rattle.protox_name_tree.proofs.Numbering.{pushed_elsewhere, pushed_in_window, slice_get-last, slice_get-push}
use Rattle.protox_name_tree.proofs.texts.Texts.push.Goals as goal
use Rattle.protox_name_tree.proofs.texts.Texts.push.Goals.{then-not-put+in_ok-key+in_ok-insert, else-not-put}

-- the texts are those before
same_texts : (c : goal.After-push_reserved) → c.if-not-put.self-inside.texts.items ≡ c.self.inside.texts.items
same_texts c = elim c.if-not-put.branch [
  | then-not-put+in_ok-key+in_ok-insert w ↦ ap (λ i. i.texts.items) w.self-inside-is ∙ c.reserve.ensures.items
  | else-not-put w ↦ ap (λ i. i.texts.items) w.self-inside-is ∙ c.reserve.ensures.items
]

-- the text stands last
listed : (c : goal.After-push_reserved) → map string_bytes c.push_reserved.new.self.items ≡ map string_bytes c.self.inside.texts.items ++ c.args.text.now ∷ []
listed c =
    ap (map string_bytes) (c.push_reserved.ensures.items ∙ ap (λ l. l ++ c.in_ok-kept.kept ∷ []) (same_texts c))
    ∙ map-append string_bytes c.self.inside.texts.items (c.in_ok-kept.kept ∷ [])
    ∙ ap (λ text. map string_bytes c.self.inside.texts.items ++ text ∷ []) c.in_ok-kept.ensures.ok

last : (c : goal.After-push_reserved) → c.len-number.result ≡ length (map string_bytes c.self.inside.texts.items)
last c = c.len-number.ensures ∙ c.self.inside.texts.ok.0 ∙ sym (length-map c.self.inside.texts.items string_bytes)

fresh : (c : goal.After-push_reserved) (n : ℕ) → slice_get (map string_bytes c.self.inside.texts.items) n ≡ Some c.args.text.now → ⊥
fresh c n at = c.requires n (sym (ap (λ l. slice_get l n) c.self.view_is) ∙ at)

held : (c : goal.After-push_reserved) (m n : ℕ) → IsInWindow c.self.inside.slots m n → IsInWindow c.put.new.self m n
held c m n h = c.put.ensures.kept m n (c.open.ensures.kept m n h)

in_window : (c : goal.After-push_reserved) → c.put.result ≡ true → IsInWindow c.put.new.self (mixed_text c.args.text.now) (length (map string_bytes c.self.inside.texts.items))
in_window c did =
    subst (λ mixed. IsInWindow c.put.new.self mixed (length (map string_bytes c.self.inside.texts.items))) c.mixed_text.ensures
    (subst (IsInWindow c.put.new.self c.mixed_text.result) (last c) (c.put.ensures.put did))

pub invariant_of-self-2 : goal.invariant_of-self-2
invariant_of-self-2 c =
    let texts = map string_bytes c.self.inside.texts.items in
    let text = c.args.text.now in
    let elsewhere = get_by_text c.self.inside.elsewhere in
    subst (IsIndexed mixed_text c.if-not-put.self-inside.slots (get_by_text c.if-not-put.self-inside.elsewhere)) (sym (listed c))
    (elim c.if-not-put.branch [
      | then-not-put+in_ok-key+in_ok-insert w ↦
          subst (λ inside. IsIndexed mixed_text inside.slots (get_by_text inside.elsewhere) (texts ++ text ∷ [])) (sym w.self-inside-is)
          (pushed_elsewhere mixed_text c.self.inside.slots c.put.new.self elsewhere (get_by_text w.insert.new.self) texts text c.self.invariant (fresh c) (held c) (bytes_eq text) (bytes_eq-Decides text)
          (λ q. btree_map_updates_text (string_bytes w.in_ok-key.key) c.self.inside.elsewhere w.insert.new.self (Some c.len-number.result) w.in_ok-insert.ensures.updates q
          ∙ ap (λ key. cond (bytes_eq key q) (Some c.len-number.result) (elsewhere q)) w.in_ok-key.ensures.ok
          ∙ ap (λ n. cond (bytes_eq text q) (Some n) (elsewhere q)) (last c)))
      | else-not-put w ↦
          subst (λ inside. IsIndexed mixed_text inside.slots (get_by_text inside.elsewhere) (texts ++ text ∷ [])) (sym w.self-inside-is)
          (pushed_in_window mixed_text c.self.inside.slots c.put.new.self elsewhere elsewhere texts text c.self.invariant (fresh c) (held c) refl (in_window c w.if-not-put.false))
    ])

pub returns-clause-ok : goal.returns-clause-ok
returns-clause-ok c =
    let texts = map string_bytes c.self.inside.texts.items in
    ap (λ l. slice_get l c.len-number.result) (listed c)
    ∙ ap (λ n. slice_get (texts ++ c.args.text.now ∷ []) n) (last c)
    ∙ slice_get-last texts c.args.text.now

pub returns-clause-single : goal.returns-clause-single
returns-clause-single c m at =
    elim (slice_get-push (map string_bytes c.self.inside.texts.items) c.args.text.now m c.args.text.now (ap (λ l. slice_get l m) (sym (listed c)) ∙ at)) [
      | inl before ↦ absurd (fresh c m before)
      | inr new ↦ new.0 ∙ sym (last c)
    ]

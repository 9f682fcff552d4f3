use Rattle.std.proofs.Common.{◌≡◌, ◌*◌, ◌^◌, ◌++◌, ℕ, List, sym, ap, subst, ◌∙◌, append_assoc, pow_pos, codes, rules}
use Rattle.std.specs.Result.{OnOk}
use Rattle.std.specs.String.{string_bytes}
use Rattle.protox_decimal.specs.Texts.{general_text, size_text}
use Rattle.protox_decimal.proofs.Same.{infinite_text, finite_text}
use Rattle.protox_decimal.proofs.general.push_number.Goals as goal

pub returns-then-not-is_finite : goal.returns-then-not-is_finite
returns-then-not-is_finite c =
    let a = c.args in
    let p = c.push_str-then-not-is_finite in
    let text = infinite_text a.precision a.x c.requires.number (sym c.is_finite.ensures.value ∙ c.if-not-is_finite.true) in
    let e : string_bytes c.push_str.new.self ++ codes "inf" ≡ string_bytes a.text.now ++ general_text a.precision a.x =
    ap (λ t. t ++ codes "inf") (c.in_ok-push_str.ensures.bytes ∙ ap (λ t. string_bytes a.text.now ++ t) c.sign_of.ensures)
    ∙ append_assoc (string_bytes a.text.now) _ _ ∙ ap (λ t. string_bytes a.text.now ++ t) text in
    let done : OnOk p.result (string_bytes p.new.self ≡ string_bytes c.push_str.new.self ++ codes "inf") = search rules in
    subst (λ (z : List ℕ). OnOk p.result (string_bytes p.new.self ≡ z)) e done

pub returns : goal.returns
returns c =
    let a = c.args in
    let s = c.size_of-mantissa in
    let n = s.result.0 * 2 ^ s.result.1 in
    let p = c.push_size in
    let text = finite_text a.precision a.x n (2 ^ 1074) (pow_pos 1074) s.ensures.same in
    let e : string_bytes c.push_str.new.self ++ size_text a.precision n (2 ^ 1074) ≡ string_bytes a.text.now ++ general_text a.precision a.x =
    ap (λ t. t ++ size_text a.precision n (2 ^ 1074)) (c.in_ok-push_str.ensures.bytes ∙ ap (λ t. string_bytes a.text.now ++ t) c.sign_of.ensures)
    ∙ append_assoc (string_bytes a.text.now) _ _ ∙ ap (λ t. string_bytes a.text.now ++ t) text in
    subst (λ (z : List ℕ). OnOk p.result (string_bytes p.new.text ≡ z)) e p.ensures

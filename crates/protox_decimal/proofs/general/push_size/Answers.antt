use Rattle.std.proofs.Common.{◌≡◌, ◌≢◌, ◌*◌, ◌^◌, ◌<◌, ◌++◌, ℕ, cond, List, sym, ap, ap₂, subst, ◌∙◌, arith, rules, mul-pos, pow_pos, ne_eqb, codes, to_z, of_z, to_z-of_z, SFits, w32}
use Rattle.std.specs.Result.{OnOk}
use Rattle.std.specs.Fmt.{decimal}
use Rattle.std.specs.Str.{IsAscii}
use Rattle.std.specs.String.{string_bytes}
use Rattle.std.proofs.lemmas.Fmt.{IsAscii-decimal}
use Rattle.protox_decimal.specs.Rounded.{rounded}
use Rattle.protox_decimal.specs.Texts.{laid_out, rounded_text, size_text}
use Rattle.protox_decimal.proofs.general.push_size.Goals as goal

pub push_laid_out-requires : goal.push_laid_out-requires
push_laid_out-requires c =
    let r = c.rounded_size-number.result in
    let fits : r.digits < 2 ^ 64 = search rules in
    subst IsAscii (sym (c.as_str.ensures.value ∙ c.in_ok-digits.ensures.ok)) (IsAscii-decimal r.digits fits)

units_pos : (m e : ℕ) → m ≢ 0 → 0 < m * 2 ^ e
units_pos m e h = let p : 0 < m = omega arith in mul-pos p (pow_pos e)

above_zero : (precision n d : ℕ) → 0 < n → rounded_text precision (rounded precision n d) ≡ size_text precision n d
above_zero precision n d p =
    let no : n ≢ 0 = omega arith in
    ap (λ test. cond test (codes "0") (rounded_text precision (rounded precision n d))) (sym (ne_eqb n 0 no))

pub returns : goal.returns
returns c =
    let r = c.rounded_size-number in
    let a = c.args in
    let n = a.mantissa * 2 ^ a.exponent in
    let number = rounded a.precision n (2 ^ 1074) in
    let fits : SFits w32 r.result.exponent = search rules in
    let text : c.as_str.result.now ≡ decimal number.digits = c.as_str.ensures.value ∙ c.in_ok-digits.ensures.ok ∙ ap decimal r.ensures.digits in
    let exponent : to_z w32 (of_z w32 r.result.exponent) ≡ number.exponent = to_z-of_z fits ∙ r.ensures.place in
    let e : laid_out a.precision c.as_str.result.now (to_z w32 (of_z w32 r.result.exponent)) ≡ size_text a.precision n (2 ^ 1074) =
    ap₂ (λ ds x. laid_out a.precision ds x) text exponent ∙ above_zero a.precision n (2 ^ 1074) (units_pos a.mantissa a.exponent c.if-mantissa-eq0.false) in
    subst (λ (z : List ℕ). OnOk c.push_laid_out.result (string_bytes c.push_laid_out.new.text ≡ string_bytes a.text.now ++ z)) e c.push_laid_out.ensures

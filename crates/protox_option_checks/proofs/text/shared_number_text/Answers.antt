use Rattle.std.proofs.Common.{◌≡◌, ◌∙◌, IfOk, List, ℕ, string_bytes, subst}
use Rattle.protox_option_checks.specs.Texts.{name_of, shared_number_words}
use Rattle.protox_option_checks.proofs.text.shared_number_text.Goals as goal

pub returns : goal.returns
returns c =
    subst (λ (earlier : List ℕ). IfOk c.shared_number_words.result (λ text. string_bytes text ≡ shared_number_words (name_of c.args.symbols.now c.args.value) earlier)) (c.as_str-2.ensures ∙ c.in_ok-earlier.ensures)
    (subst (λ (value : List ℕ). IfOk c.shared_number_words.result (λ text. string_bytes text ≡ shared_number_words value c.as_str-2.result.now)) (c.as_str.ensures ∙ c.in_ok-value.ensures) c.shared_number_words.ensures)

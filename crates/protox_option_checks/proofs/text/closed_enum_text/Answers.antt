use Rattle.std.proofs.Common.{◌≡◌, ◌∙◌, IfOk, List, ℕ, string_bytes, subst}
use Rattle.protox_name_tree.specs.Tree.{name_at}
use Rattle.protox_option_checks.specs.Texts.{closed_enum_words}
use Rattle.protox_option_checks.proofs.text.closed_enum_text.Goals as goal

pub returns : goal.returns
returns c =
    subst (λ (message : List ℕ). IfOk c.closed_enum_words.result (λ text. string_bytes text ≡ closed_enum_words (name_at c.args.symbols.now.names c.args.number) message)) (c.as_str-2.ensures ∙ c.in_ok-message.ensures)
    (subst (λ (of_ : List ℕ). IfOk c.closed_enum_words.result (λ text. string_bytes text ≡ closed_enum_words of_ c.as_str-2.result.now)) (c.as_str.ensures ∙ c.in_ok-of.ensures) c.closed_enum_words.ensures)

use Rattle.std.proofs.Common.{◌≡◌, IfOk, List, ℕ, None, lit<, subst, ◌∙◌, false}
use Rattle.std.proofs.lemmas.Str.Pattern.{strip_prefix_char}
use Rattle.protox_option_checks.proofs.Naming.{no_name}
use Rattle.protox_name_tree.specs.Tree.{name_at}
use Rattle.protox_names.specs.Names.{is_absolute}
use Rattle.protox_scopes.proofs.Lemmas.{relative}
use Rattle.protox_option_checks.proofs.text.full_name.Goals as goal

pub returns : goal.returns
returns c =
    let text = c.as_str.result.now in
    let no_dot = relative text (strip_prefix_char 46 text None c.in-None.ensures.cases (lit< tt)) in
    subst (λ (name : List ℕ). IfOk c.copy-in-None.result (λ made. made ≡ name))
    (no_name (name_at c.args.symbols.now.names c.args.number) (subst (λ (t : List ℕ). is_absolute t ≡ false) (c.as_str.ensures ∙ c.in_ok-dotted.ensures) no_dot))
    c.copy-in-None.ensures.value

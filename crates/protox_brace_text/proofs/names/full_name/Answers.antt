use Rattle.std.proofs.Common.{None, lit<, ◌∙◌}
use Rattle.std.proofs.lemmas.Str.Pattern.{strip_prefix_char}
use Rattle.protox_name_tree.specs.Tree.{name_at}
use Rattle.protox_interpret.specs.Sites.{table}
use Rattle.protox_brace_text.proofs.Naming.{no_name}
use Rattle.protox_brace_text.proofs.names.full_name.Goals as goal

pub returns : goal.returns
returns c =
    c.new.ensures.bytes
    ∙ no_name (name_at (table c.args.here).names c.args.number)
    (λ rest is. strip_prefix_char 46 c.as_str.result.now None c.in-None.ensures.cases (lit< tt) rest (c.as_str.ensures ∙ c.in_ok-dotted.ensures ∙ is))

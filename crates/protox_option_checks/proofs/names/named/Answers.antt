use Rattle.std.proofs.Common.{None, lit<, cond, drop, Option, sym, ap, ℕ}
use Rattle.std.proofs.lemmas.Str.Pattern.{strip_prefix_char}
use Rattle.protox_name_tree.specs.Tree.{number_of}
use Rattle.protox_scopes.proofs.Lemmas.{relative}
use Rattle.protox_option_checks.proofs.names.named.Goals as goal

pub returns-in-None : goal.returns-in-None
returns-in-None c =
    let name = c.args.name.now in
    sym (ap (λ dot. cond {A = Option ℕ} dot (number_of c.args.symbols.now.names (drop 1 name)) None) (relative name (strip_prefix_char 46 name None c.in-None.ensures.cases (lit< tt))))

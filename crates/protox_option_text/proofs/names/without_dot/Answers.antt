use Rattle.std.proofs.Common.{None, Some, lit<, sym, ap}
use Rattle.std.proofs.lemmas.Str.Pattern.{strip_prefix_char}
use Rattle.protox_option_text.specs.Texts.{without_dot}
use Rattle.protox_option_text.proofs.Dots.{undotted}
use Rattle.protox_option_text.proofs.names.without_dot.Goals as goal

pub returns-in-Some : goal.returns-in-Some
returns-in-Some c = sym (ap without_dot (strip_prefix_char 46 c.args.name.now (Some c.in-Some.rest) c.in-Some.ensures.cases (lit< tt)))

pub returns-in-None : goal.returns-in-None
returns-in-None c = undotted c.args.name.now (strip_prefix_char 46 c.args.name.now None c.in-None.ensures.cases (lit< tt))

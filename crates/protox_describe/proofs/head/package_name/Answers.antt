use Rattle.std.proofs.Common.{Some, ap, sym, ◌∙◌}
use Rattle.protox_describe.specs.Head.{package_name}
use Rattle.protox_describe.proofs.head.package_name.Goals as goal

pub returns-in_ok-text-in-Some : goal.returns-in_ok-text-in-Some
returns-in_ok-text-in-Some c = ap Some c.in_ok-text-in-Some.ensures ∙ ap package_name (sym c.in-Some.is)

pub returns-in-None : goal.returns-in-None
returns-in-None c = ap package_name (sym c.in-None.is)

use Rattle.std.proofs.Common.{◌≡◌, drop}
use Rattle.protox_option_checks.specs.Checks.{first_lite_from}
use Rattle.protox_option_checks.proofs.site.Site.first_lite.Given as goal

abbrev pub invariant-loop-index : goal.invariant-loop-index
invariant-loop-index l =
    first_lite_from l.self.marks.now.lite l.index (drop l.index l.imports) ≡ first_lite_from l.self.marks.now.lite 0 l.imports

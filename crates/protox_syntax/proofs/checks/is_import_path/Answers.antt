use Rattle.std.proofs.Common.{◌≡◌, true, false, rules, lit<}
use Rattle.std.proofs.lemmas.Iterator.{cases_from_all}
use Rattle.std.proofs.lemmas.Iterator.Splits.{YieldsList-from_str_split}
use Rattle.protox_ast.specs.Checks.{is_plain_component, components}
use Rattle.protox_syntax.proofs.Texts.{all-is}
use Rattle.protox_syntax.proofs.checks.is_import_path.Goals as goal

pub returns : goal.returns
returns c = all-is is_plain_component (components c.args.path.now) c.all.result
    (cases_from_all _ _ _ (λ x. is_plain_component x ≡ true) (λ x. is_plain_component x ≡ false) c.all.ensures.ran
    (YieldsList-from_str_split 47 c.args.path.now (lit< tt) c.split.ensures.text c.split.ensures.has_more c.split.ensures.pattern)
    (λ x q k. search rules) (λ x q k. search rules))

use Rattle.std.proofs.Common.{None, Some, ◌++◌, sym, ap, ◌∙◌, lit<}
use Rattle.std.proofs.lemmas.Str.Pattern.{strip_prefix_char}
use Rattle.protox_names.proofs.Named.{by_last, in_other_scope, without_dot}
use Rattle.protox_names.proofs.is_within.Goals as goal

pub returns-in_default : goal.returns-in_default
returns-in_default c = in_other_scope c.args.full_name.now c.args.scope.now c.args.name.now c.if-is_empty.ensures c.in_default.ensures.cases

pub returns-in_default-strip_prefix : goal.returns-in_default-strip_prefix
returns-in_default-strip_prefix c =
    let scope = c.args.scope.now in
    let rest = c.in-Some.rest.now in
    let cut = c.in-Some.ensures.cases in
    without_dot c.args.full_name.now scope c.args.name.now c.if-is_empty.ensures rest
    (cut.1.1 ∙ ap (λ l. scope ++ l) (sym cut.2))
    (strip_prefix_char 46 rest None c.in_default-strip_prefix.ensures.cases (lit< tt))

pub returns : goal.returns
returns c =
    let scope = c.args.scope.now in
    let rest = c.in-Some.rest.now in
    let cut = c.in-Some.ensures.cases in
    by_last c.args.full_name.now scope c.args.name.now c.if-is_empty.ensures rest c.in-Some-strip_prefix.last.now c.eq-2.result
    (cut.1.1 ∙ ap (λ l. scope ++ l) (sym cut.2))
    (strip_prefix_char 46 rest (Some c.in-Some-strip_prefix.last) c.in-Some-strip_prefix.ensures.cases (lit< tt))
    c.eq-2.ensures

use Rattle.std.proofs.Common.{IfErr, subst}
use Rattle.std.specs.Prelude.{length}
use Rattle.protox_ast.specs.Ast as ast_of
use Rattle.protox_generate.specs.Pooled.{with_locations}
use Rattle.protox_parse.proofs.Translating.{found, only, same_file}
use Rattle.protox_parse.proofs.Truths.{none_listed, not_fitting}
use Rattle.protox_parse.specs.FaultLists.{AreListedOf}
use Rattle.protox_parse.proofs.parse_pooled.Goals as goal

pub returns-in-Ok-clause-found : goal.returns-in-Ok-clause-found
returns-in-Ok-clause-found c = let r = c.in-Ok.ensures.found in found with_locations c.args.name.now c.args.source.now r.0 c.translated_pooled.result r.1.of_source (c.translated_pooled.ensures.found r.0 r.1)

pub returns-in-Ok-clause-only : goal.returns-in-Ok-clause-only
returns-in-Ok-clause-only c is =
    let r = c.in-Ok.ensures.found in
    only with_locations c.args.name.now c.args.source.now r.0 _ c.translated_pooled.result r.1.of_source (same_file c.args.source.now r.0 is.0 r.1.of_source is.1) is.2 (c.translated_pooled.ensures.found r.0 r.1) (c.translated_pooled.ensures.only r.0 r.1)

pub returns-in-Err-clause-only : goal.returns-in-Err-clause-only
returns-in-Err-clause-only c is = c.in-Err.ensures.only is.0 is.1

pub returns-in-Ok-clause-checked : goal.returns-in-Ok-clause-checked
returns-in-Ok-clause-checked c f accepted =
    let r = c.in-Ok.ensures.found in
    subst (λ v. IfErr c.translated_pooled.result (AreListedOf v)) (same_file c.args.source.now r.0 f r.1.of_source accepted) (c.translated_pooled.ensures.checked r.0 r.1)

pub returns-in-Err-clause-checked : goal.returns-in-Err-clause-checked
returns-in-Err-clause-checked c f accepted = none_listed (ast_of.file (length c.args.source.now) f) _ (c.in-Err.ensures.only f accepted)

-- ---- a source that is too large

pub returns-then-not-source_fits-clause-failure : goal.returns-then-not-source_fits-clause-failure
returns-then-not-source_fits-clause-failure c = c.too_large.ensures c.args.source.now (not_fitting c.source_fits.result c.args.source.now c.source_fits.ensures.1 c.if-not-source_fits.true)

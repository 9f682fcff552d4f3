use Rattle.std.proofs.Common.{IfErr, subst}
use Rattle.std.proofs.lemmas.Result.{IfErr-weaker, IfOk-weaker}
use Rattle.std.specs.Prelude.{length}
use Rattle.protox_ast.specs.Ast as ast_of
use Rattle.protox_parse.proofs.Translating.{found, only, same_file}
use Rattle.protox_parse.proofs.Truths.{none_listed, not_fitting}
use Rattle.protox_parse.specs.FaultLists.{AreListedOf}
use Rattle.protox_parse.proofs.parse.Goals as goal

pub returns-in-Ok-clause-found : goal.returns-in-Ok-clause-found
returns-in-Ok-clause-found c = let r = c.in-Ok.ensures.found in found (λ d. d) c.args.name.now c.args.source.now r.0 c.translated.result r.1.of_source (c.translated.ensures.found r.0 r.1)

pub returns-in-Ok-clause-only : goal.returns-in-Ok-clause-only
returns-in-Ok-clause-only c is =
    let r = c.in-Ok.ensures.found in
    only (λ d. d) c.args.name.now c.args.source.now r.0 _ c.translated.result r.1.of_source (same_file c.args.source.now r.0 is.0 r.1.of_source is.1) is.2 (c.translated.ensures.found r.0 r.1) (c.translated.ensures.only r.0 r.1)

pub returns-in-Err-clause-only : goal.returns-in-Err-clause-only
returns-in-Err-clause-only c is = c.in-Err.ensures.only is.0 is.1

pub returns-in-Ok-clause-checked : goal.returns-in-Ok-clause-checked
returns-in-Ok-clause-checked c f accepted =
    let r = c.in-Ok.ensures.found in
    subst (λ v. IfErr c.translated.result (AreListedOf v)) (same_file c.args.source.now r.0 f r.1.of_source accepted) (c.translated.ensures.checked r.0 r.1)

pub returns-in-Err-clause-checked : goal.returns-in-Err-clause-checked
returns-in-Err-clause-checked c f accepted = none_listed (ast_of.file (length c.args.source.now) f) _ (c.in-Err.ensures.only f accepted)

-- ---- the laws of a file

pub returns-in-Ok-clause-located : goal.returns-in-Ok-clause-located
returns-in-Ok-clause-located c = IfOk-weaker c.translated.result _ _ (λ d laws. laws.located) c.translated.ensures.laws

pub returns-in-Ok-clause-sorted : goal.returns-in-Ok-clause-sorted
returns-in-Ok-clause-sorted c = IfOk-weaker c.translated.result _ _ (λ d laws. laws.sorted) c.translated.ensures.laws

pub returns-in-Ok-clause-oneofs : goal.returns-in-Ok-clause-oneofs
returns-in-Ok-clause-oneofs c = IfOk-weaker c.translated.result _ _ (λ d laws. laws.oneofs) c.translated.ensures.laws

pub returns-in-Ok-clause-named : goal.returns-in-Ok-clause-named
returns-in-Ok-clause-named c = IfOk-weaker c.translated.result _ _ (λ d laws. laws.named) c.translated.ensures.laws

pub returns-in-Ok-clause-placed : goal.returns-in-Ok-clause-placed
returns-in-Ok-clause-placed c = IfOk-weaker c.translated.result _ _ (λ d laws. laws.placed) c.translated.ensures.laws

pub returns-in-Ok-clause-commented_once : goal.returns-in-Ok-clause-commented_once
returns-in-Ok-clause-commented_once c = IfOk-weaker c.translated.result _ _ (λ d laws. laws.commented_once) c.translated.ensures.laws

-- ---- the laws of a failure

pub returns-in-Ok-clause-refused : goal.returns-in-Ok-clause-refused
returns-in-Ok-clause-refused c = IfErr-weaker c.translated.result _ _ (λ failure laws. laws.refused) c.translated.ensures.failure

pub returns-in-Ok-clause-first : goal.returns-in-Ok-clause-first
returns-in-Ok-clause-first c = IfErr-weaker c.translated.result _ _ (λ failure laws. laws.first) c.translated.ensures.failure

pub returns-in-Ok-clause-stands : goal.returns-in-Ok-clause-stands
returns-in-Ok-clause-stands c = IfErr-weaker c.translated.result _ _ (λ failure laws. laws.stands) c.translated.ensures.failure

pub returns-in-Ok-clause-lexical : goal.returns-in-Ok-clause-lexical
returns-in-Ok-clause-lexical c = IfErr-weaker c.translated.result _ _ (λ failure laws. laws.lexical) c.translated.ensures.failure

pub returns-in-Ok-clause-all_found : goal.returns-in-Ok-clause-all_found
returns-in-Ok-clause-all_found c = IfErr-weaker c.translated.result _ _ (λ failure laws. laws.all_found) c.translated.ensures.failure

pub returns-in-Ok-clause-no_check_lost : goal.returns-in-Ok-clause-no_check_lost
returns-in-Ok-clause-no_check_lost c = IfErr-weaker c.translated.result _ _ (λ failure laws. laws.no_check_lost) c.translated.ensures.failure

pub returns-in-Ok-clause-words : goal.returns-in-Ok-clause-words
returns-in-Ok-clause-words c = IfErr-weaker c.translated.result _ _ (λ failure laws. laws.words) c.translated.ensures.failure

pub returns-in-Err-clause-refused : goal.returns-in-Err-clause-refused
returns-in-Err-clause-refused c = c.in-Err.ensures.failure.refused

pub returns-in-Err-clause-first : goal.returns-in-Err-clause-first
returns-in-Err-clause-first c = c.in-Err.ensures.failure.first

pub returns-in-Err-clause-stands : goal.returns-in-Err-clause-stands
returns-in-Err-clause-stands c = c.in-Err.ensures.failure.stands

pub returns-in-Err-clause-lexical : goal.returns-in-Err-clause-lexical
returns-in-Err-clause-lexical c = c.in-Err.ensures.failure.lexical

pub returns-in-Err-clause-all_found : goal.returns-in-Err-clause-all_found
returns-in-Err-clause-all_found c = c.in-Err.ensures.failure.all_found

pub returns-in-Err-clause-no_check_lost : goal.returns-in-Err-clause-no_check_lost
returns-in-Err-clause-no_check_lost c = c.in-Err.ensures.failure.no_check_lost

pub returns-in-Err-clause-words : goal.returns-in-Err-clause-words
returns-in-Err-clause-words c = c.in-Err.ensures.failure.words

-- ---- a source that is too large

pub returns-then-not-source_fits-clause-refused : goal.returns-then-not-source_fits-clause-refused
returns-then-not-source_fits-clause-refused c = (c.too_large.ensures c.args.source.now (not_fitting c.source_fits.result c.args.source.now c.source_fits.ensures.1 c.if-not-source_fits.true)).refused

pub returns-then-not-source_fits-clause-first : goal.returns-then-not-source_fits-clause-first
returns-then-not-source_fits-clause-first c = (c.too_large.ensures c.args.source.now (not_fitting c.source_fits.result c.args.source.now c.source_fits.ensures.1 c.if-not-source_fits.true)).first

pub returns-then-not-source_fits-clause-stands : goal.returns-then-not-source_fits-clause-stands
returns-then-not-source_fits-clause-stands c = (c.too_large.ensures c.args.source.now (not_fitting c.source_fits.result c.args.source.now c.source_fits.ensures.1 c.if-not-source_fits.true)).stands

pub returns-then-not-source_fits-clause-lexical : goal.returns-then-not-source_fits-clause-lexical
returns-then-not-source_fits-clause-lexical c = (c.too_large.ensures c.args.source.now (not_fitting c.source_fits.result c.args.source.now c.source_fits.ensures.1 c.if-not-source_fits.true)).lexical

pub returns-then-not-source_fits-clause-all_found : goal.returns-then-not-source_fits-clause-all_found
returns-then-not-source_fits-clause-all_found c = (c.too_large.ensures c.args.source.now (not_fitting c.source_fits.result c.args.source.now c.source_fits.ensures.1 c.if-not-source_fits.true)).all_found

pub returns-then-not-source_fits-clause-no_check_lost : goal.returns-then-not-source_fits-clause-no_check_lost
returns-then-not-source_fits-clause-no_check_lost c = (c.too_large.ensures c.args.source.now (not_fitting c.source_fits.result c.args.source.now c.source_fits.ensures.1 c.if-not-source_fits.true)).no_check_lost

pub returns-then-not-source_fits-clause-words : goal.returns-then-not-source_fits-clause-words
returns-then-not-source_fits-clause-words c = (c.too_large.ensures c.args.source.now (not_fitting c.source_fits.result c.args.source.now c.source_fits.ensures.1 c.if-not-source_fits.true)).words

use Rattle.std.proofs.Common.{◌≡◌, [], length, sym, subst}
use Rattle.protox_ast.specs.Basics.{Each}
use Rattle.protox_checks.proofs.Lemmas.{listed-lie}
use Rattle.protox_checks.specs.Faults.{HasEachWrong}
use Rattle.protox_fault.specs.Faults.{LiesIn}
use Rattle.protox_generate.proofs.CommentedOnce.{answer-commented}
use Rattle.protox_generate.proofs.Outcomes.{none-found, empty-none, some-found}
use Rattle.protox_generate.proofs.NamedFiles.{answer-named}
use Rattle.protox_generate.proofs.PlacedFiles.{answer-placed}
use Rattle.protox_generate.proofs.RealOneofs.{answer-first}
use Rattle.protox_generate.proofs.Standing.{file-stands}
use Rattle.protox_generate.proofs.generate.generate_file.Goals as goal

pub returns-then-not-is_empty-clause-all : goal.returns-then-not-is_empty-clause-all
returns-then-not-is_empty-clause-all c = subst (HasEachWrong c.args.ast) (sym c.into_vec.ensures) c.in_ok-faults.ensures.all

pub returns-then-not-is_empty-clause-lie : goal.returns-then-not-is_empty-clause-lie
returns-then-not-is_empty-clause-lie c =
    let n = length c.args.source.now in (
      c.requires.1.fits,
      subst (λ l. l ≡ [] → ⊥) (sym c.into_vec.ensures) (some-found c.in_ok-faults.faults c.is_empty.result c.is_empty.ensures c.if-not-is_empty.true),
      subst (Each (LiesIn n)) (sym c.into_vec.ensures) (listed-lie n c.args.ast c.in_ok-faults.faults (file-stands c.args.source.now c.args.ast c.utf8.source c.requires) c.in_ok-faults.ensures.in_order),
    )

pub described-requires-clause-stands : goal.described-requires-clause-stands
described-requires-clause-stands c = file-stands c.args.source.now c.args.ast c.utf8.source c.requires

pub returns-clause-fine : goal.returns-clause-fine
returns-clause-fine c = none-found c.args.ast c.in_ok-faults.faults c.in_ok-faults.ensures.in_order (empty-none c.in_ok-faults.faults c.is_empty.result c.is_empty.ensures c.if-not-is_empty.false)

pub returns-clause-oneofs : goal.returns-clause-oneofs
returns-clause-oneofs c =
    answer-first c.args.name.now c.args.source.now c.args.ast c.in_ok-described.field-0
    (none-found c.args.ast c.in_ok-faults.faults c.in_ok-faults.ensures.in_order (empty-none c.in_ok-faults.faults c.is_empty.result c.is_empty.ensures c.if-not-is_empty.false)) c.in_ok-described.ensures.found

pub returns-clause-named : goal.returns-clause-named
returns-clause-named c =
    answer-named c.args.name.now c.args.source.now c.args.ast c.in_ok-described.field-0 c.utf8.source c.requires c.in_ok-described.ensures.found

pub returns-clause-placed : goal.returns-clause-placed
returns-clause-placed c = answer-placed c.args.name.now c.args.source.now c.args.ast c.in_ok-described.field-0 c.in_ok-described.ensures.found

pub returns-clause-commented_once : goal.returns-clause-commented_once
returns-clause-commented_once c =
    answer-commented c.args.name.now c.args.source.now c.args.ast c.in_ok-described.field-0 c.utf8.source c.requires c.in_ok-described.ensures.found

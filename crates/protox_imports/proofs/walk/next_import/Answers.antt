use Rattle.protox_imports.proofs.Steps.{import_within, placed_more, found_next}
use Rattle.protox_imports.proofs.walk.next_import.Goals as goal

pub waiting-requires : goal.waiting-requires
waiting-requires c =
    import_within c.args.named.now _ c.loop-index.index c.loop-index-test.true c.requires.within

pub returns-in-Some-clause-found : goal.returns-in-Some-clause-found
returns-in-Some-clause-found c =
    found_next c.args.states.now c.args.named.now c.loop-index.index c.in-Some.file
    c.loop-index-test.true c.loop-index.invariant c.in-Some.ensures.found.0 c.in-Some.ensures.found.1

pub loop-index-preserved : goal.loop-index-preserved
loop-index-preserved c =
    placed_more c.args.states.now c.args.named.now c.loop-index.index c.loop-index-test.true
    c.loop-index.invariant c.in_default.ensures.none

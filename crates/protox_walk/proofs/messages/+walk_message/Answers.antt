use Rattle.std.proofs.Common.{◌<◌, ◌≤◌, arith, length}
use Rattle.protox_descriptor.specs.declared.tag.message.TheConstants as message_tag
use Rattle.protox_walk.proofs.Folds.{folds-done, folds-sibling}
use Rattle.protox_walk.proofs.Levels.{folds-message, size-nested}
use Rattle.protox_walk.specs.Declarations.{message_at}
use Rattle.protox_walk.specs.Steps.{name_of_message, nested_of}
use Rattle.protox_walk.proofs.messages.+walk_message.Goals as goal

pub walk_message-requires : goal.walk_message-requires
walk_message-requires g t c κs within =
    let below : c.loop-index.index < length (nested_of (g.S.Steps.proto c.args.message)) = omega arith in
    let falls = size-nested (g.S.Steps.proto c.args.message) (g.S.Steps.proto c.nested-nested.result) c.loop-index.index below c.nested-nested.ensures in
    (omega (arith, falls), within)

pub loop-index-preserved : goal.loop-index-preserved
loop-index-preserved g t c end rest =
    let below : c.loop-index.index < length (nested_of (g.S.Steps.proto c.args.message)) = omega arith in
    c.loop-index.invariant end
    (folds-sibling g.S.Steps.visits message_at (name_of_message (g.S.Steps.proto c.args.message) c.args.scope.now) c.as_str.result.now c.args.path.now c.as_slice.result.now
    message_tag.NESTED_TYPE (nested_of (g.S.Steps.proto c.args.message)) c.loop-index.index (g.S.Steps.proto c.nested-nested.result) c.loop-index.steps c.walk_message.new.steps end
    below c.nested-nested.ensures (rw c.as_str.ensures c.in_ok-name.ensures.name) (rw c.as_slice.ensures c.in_ok-place.ensures) c.in_ok-walk_message.ensures rest)

pub returns : goal.returns
returns g t c =
    let end : length (nested_of (g.S.Steps.proto c.args.message)) ≤ c.loop-index.index = omega arith in
    folds-message g.S.Steps.visits (g.S.Steps.proto c.args.message) c.args.scope.now c.args.path.now c.as_str-2.result.now c.args.steps.now c.enter.new.self c.loop-index.steps c.leave.new.self c.leave.result
    (rw c.as_str-2.ensures c.in_ok-name.ensures.name)
    c.in_ok-name.ensures.visited
    (c.loop-index.invariant c.loop-index.steps (folds-done g.S.Steps.visits message_at (name_of_message (g.S.Steps.proto c.args.message) c.args.scope.now) c.args.path.now message_tag.NESTED_TYPE
    (nested_of (g.S.Steps.proto c.args.message)) c.loop-index.index c.loop-index.steps end))
    c.leave.ensures

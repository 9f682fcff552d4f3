use Rattle.std.proofs.Common.{drop}
use Rattle.std.specs.List.{FoldsTo}
use Rattle.protox_descriptor.specs.declared.descriptor.DescriptorProto.{size-DescriptorProto}
use Rattle.protox_descriptor.specs.declared.tag.message.TheConstants as message_tag
use Rattle.protox_walk.specs.Declarations.{all_in, message_at, numbered, siblings_at}
use Rattle.protox_walk.specs.Steps.{name_of_message, nested_of}
use Rattle.protox_walk.proofs.messages.+walk_message.Given as goal

abbrev pub decreases-walk_message : goal.decreases-walk_message
decreases-walk_message g l = size-DescriptorProto (g.S.Steps.proto l.message)

-- a fold over what is left completes a fold over all
abbrev pub invariant-loop-index : goal.invariant-loop-index
invariant-loop-index g l =
    (end : g.row.S.Denot)
    → FoldsTo g.S.Steps.visits l.steps (numbered l.path message_tag.NESTED_TYPE l.index
    (all_in message_at (name_of_message (g.S.Steps.proto l.message) l.scope) (drop l.index (nested_of (g.S.Steps.proto l.message))))) end
    → FoldsTo g.S.Steps.visits l.initial.steps (siblings_at l.path message_tag.NESTED_TYPE
    (all_in message_at (name_of_message (g.S.Steps.proto l.message) l.scope) (nested_of (g.S.Steps.proto l.message)))) end

use Rattle.std.proofs.Common.{◌≡◌, ◌++◌, drop, map, take}
use Rattle.protox_float_defaults.specs.Printed.{printed_message}
use Rattle.protox_float_defaults.proofs.message.+nested.Given as goal

abbrev pub invariant-print_messages-loop-message : goal.invariant-print_messages-loop-message
invariant-print_messages-loop-message l =
    goal.unvisited-print_messages-loop-message l
    × (l.message-items ≡ map printed_message (take l.message-index l.initial.message-items) ++ drop l.message-index l.initial.message-items)

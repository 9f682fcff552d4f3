use Rattle.std.proofs.Common.{◌≡◌, ◌<◌, drop}
use Rattle.std.specs.List.{fold}
use Rattle.protox_name_tree.specs.Slots.{mixed, mixed_text}
use Rattle.protox_name_tree.proofs.mixed.mixed_text.Given as goal

abbrev pub invariant-loop-byte : goal.invariant-loop-byte
invariant-loop-byte l =
    (l.so_far < 4294967296) × (fold mixed l.so_far (drop l.byte-index l.byte-items) ≡ mixed_text l.text)

use Rattle.std.proofs.Common.{◌≡◌, ◌<◌, ◌≤◌, ◌-◌, drop, length}
use Rattle.protox_name_tree.specs.Slots.{mixed_on}
use Rattle.protox_name_tree.proofs.mixed.mixed_words.Given as goal

abbrev pub invariant-words : goal.invariant-words
invariant-words l = record {
  so_far : mixed_on l.so_far (drop l.at l.bytes) ≡ mixed_on 5381 l.bytes;
  small : l.so_far < 4294967296;
  within : l.at ≤ length l.bytes;
}

abbrev pub decreases-words : goal.decreases-words
decreases-words l = length l.bytes - l.at

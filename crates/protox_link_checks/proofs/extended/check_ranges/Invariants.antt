use Rattle.std.proofs.Common.{◌≡◌, ◌++◌, List, take}
use Rattle.std.specs.List.{flat_map}
use Rattle.protox_descriptor.specs.declared.descriptor.FileDescriptorProto.{FileDescriptorProto}
use Rattle.protox_link_checks.specs.Extensions.{range_faults, ranges_numbered}
use Rattle.protox_link_checks.specs.Ranges.{AreRangesOf}
use Rattle.protox_symbols.specs.Symbols.{Table}
use Rattle.protox_link_checks.proofs.extended.check_ranges.Given as goal

abbrev pub invariant-loop-extension : goal.invariant-loop-extension
invariant-loop-extension l = (files : List FileDescriptorProto) (table : Table) → AreRangesOf files table l.ranges
    → l.faults.items ≡ l.initial.faults.items ++ flat_map (λ e. range_faults l.file (ranges_numbered files table e.message) e) (take l.extension-index l.extensions)

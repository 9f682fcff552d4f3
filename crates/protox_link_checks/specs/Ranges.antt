-- What is kept of the extension ranges of messages.
use Rattle.std.specs.Prelude.{ℕ, ◌≡◌, ◌≤◌, ◌+◌, ◌*◌, List}
use Rattle.std.specs.List.{list_any}
use Rattle.protox_descriptor.specs.declared.descriptor.FileDescriptorProto.{FileDescriptorProto}
use Rattle.protox_link_checks.specs.Extensions.{ranges_numbered}
use Rattle.protox_link_checks.specs.declared.extensions.Extension.{Extension}
use Rattle.protox_link_checks.specs.declared.ranges.Ranges.{Ranges}
use Rattle.protox_numbers.specs.Numbers.{single}
use Rattle.protox_spans.specs.Spans.{meets}
use Rattle.protox_spans.specs.declared.span.Span.{Span}
use Rattle.protox_symbols.specs.Symbols.{Table}

-- All spans of numbers of 32 bits, moved to where those of the message with a number are kept.
abbrev pub moved : ℕ → Span → Span
moved n s = record { start = n * 4294967296 + s.start; end = n * 4294967296 + s.end }

abbrev pub IsSmall : Span → Type 0
IsSmall s = s.end ≤ 4294967296

-- The ranges are those of the messages of files that have these numbers in the table.
abbrev pub AreRangesOf : List FileDescriptorProto → Table → Ranges → Type 0
AreRangesOf files table ranges = (n : ℕ) (s : Span) → IsSmall s → list_any (meets (moved n s)) ranges.spans ≡ list_any (meets s) (ranges_numbered files table n)

-- the number of an extension, moved to where those of the message are that it extends
abbrev pub number_span : Extension → Span
number_span e = moved e.message (single e.number)

-- Messages without extensions, and messages without extension ranges.
use Rattle.std.specs.Prelude.{◌≡◌, ℕ, Bool, List, []}
use Rattle.std.specs.List.{flat_map}
use Rattle.std.specs.Option.{option_map_or}
use Rattle.protox_descriptor.specs.declared.descriptor.DescriptorProto.{DescriptorProto}
use Rattle.protox_link_checks.specs.Extensions.{extension_of, message_in}
use Rattle.protox_numbers.specs.Message.{extension_spans}
use Rattle.protox_symbols.specs.Symbols.{Table}
use Rattle.protox_walk.specs.Declarations.{Path, message_at}

-- Nothing in the message is an extension, whatever stands around it.
abbrev pub ExtendsNothing : DescriptorProto → Type 0
ExtendsNothing m = (table : Table) (sees packages : List Bool) (scope : List ℕ) (path : Path) → flat_map (extension_of table sees packages) (message_at m scope path) ≡ []

-- Neither the message nor one inside it has an extension range.
abbrev pub HasNoRanges : DescriptorProto → Type 0
HasNoRanges m = (path : Path) → option_map_or extension_spans (message_in m path) [] ≡ []

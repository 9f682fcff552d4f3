-- What a reader holds, and what a step makes of it.
use Rattle.std.specs.Prelude.{◌≡◌, List, Ok, Err, reverse}
use Rattle.protox_aggregate.specs.Aggregates.{Reading, step}
use Rattle.protox_aggregate.specs.Unsaid.{IfUnsaid}
use Rattle.protox_aggregate.specs.declared.reader.Reader.{Reader}
use Rattle.protox_aggregate.specs.declared.unsaid.Unsaid.{Unsaid}
use Rattle.protox_descriptor.specs.declared.descriptor.FileDescriptorProto.{FileDescriptorProto}
use Rattle.protox_text_format.specs.Spelling.{Step}
use Rattle.protox_views.specs.declared.view.View.{View}

-- the innermost of the messages around stands first
abbrev pub reading_of : Reader → Reading
reading_of reader = record { level = reader.level; outer = reverse reader.outer.items; entries = reader.entries.items }

-- The step leads from the one to the other.
abbrev pub Leads : List FileDescriptorProto → View → Step → Reading → Reading → Type 0
Leads files view one old new = step files view.symbols.now view.sees.now view.packages old one ≡ Ok new

-- The step is wrong, unless memory ran out.
abbrev pub IsRefused : List FileDescriptorProto → View → Step → Reading → Unsaid → Type 0
IsRefused files view one old unsaid = IfUnsaid unsaid (λ kind. step files view.symbols.now view.sees.now view.packages old one ≡ Err kind)

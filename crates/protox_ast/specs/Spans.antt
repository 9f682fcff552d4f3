-- The spans of the parts of options and of ranges.
use Rattle.std.specs.Prelude.{List, [], ◌∷◌}
use Rattle.protox_fault.specs.Faults.{Span}
use Rattle.protox_ast.specs.Basics.{join, last_place}
use Rattle.protox_ast.specs.declared.ast.OptionNamePart.{OptionNamePart}
use Rattle.protox_ast.specs.declared.ast.OptionNamePart.TheVariants as part
use Rattle.protox_ast.specs.declared.ast.OptionBody.{OptionBody}
use Rattle.protox_ast.specs.declared.ast.OptionValue.{OptionValue}
use Rattle.protox_ast.specs.declared.ast.OptionValue.TheVariants as value
use Rattle.protox_ast.specs.declared.ast.ReservedRange.{ReservedRange}
use Rattle.protox_ast.specs.declared.ast.ReservedRangeEnd.{ReservedRangeEnd}
use Rattle.protox_ast.specs.declared.ast.ReservedRangeEnd.TheVariants as range_end

-- The span of a part of an option's name. For an extension it includes the parentheses.
abbrev pub part_span : OptionNamePart → Span
part_span (part.Ident ident) = ident.span
part_span (part.Extension name span) = span

-- The span of an option's name: from its first part to its last part.
abbrev pub parts_span : List OptionNamePart → Span
parts_span [] = record { start = 0; end = 0 }
parts_span (first ∷ others) = join (part_span first) (last_place part_span (part_span first) others)

-- The span of an option's value, with its sign, quotes or braces.
abbrev pub value_span : OptionValue → Span
value_span (value.Ident negative ident span) = span
value_span (value.Int int) = int.span
value_span (value.Float float) = float.span
value_span (value.String string) = string.span
value_span (value.Aggregate text span) = span

-- The span of an option: from the first part of its name to the end of its value.
abbrev pub body_span : OptionBody → Span
body_span body = join (parts_span body.name) (value_span body.value)

-- The span of the start of a range.
abbrev pub start_span : ReservedRange → Span
start_span range = range.start.span

-- The span of the end of a range, or of its start if it has no end.
abbrev pub end_place : Span → ReservedRangeEnd → Span
end_place start range_end.None = start
end_place start (range_end.Int int) = int.span
end_place start (range_end.Max span) = span

-- The span of the end of a whole range, or of its start if it has no end.
abbrev pub end_span : ReservedRange → Span
end_span range = end_place range.start.span range.end

-- The span of a range: from its first number to its last.
abbrev pub range_span : ReservedRange → Span
range_span range = join (start_span range) (end_span range)

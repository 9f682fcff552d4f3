-- Words for the definitions of locations: paths, numbered siblings, options and ranges.
use Rattle.std.specs.Prelude.{ℕ, ◌+◌, List, [], ◌∷◌, ◌++◌, map, flat_map, Option, Some, None, ℤ, pos}
use Rattle.protox_fault.specs.Faults.{Span}
use Rattle.protox_ast.specs.declared.ast.Comments.{Comments}
use Rattle.protox_ast.specs.declared.ast.Extensions.{Extensions}
use Rattle.protox_ast.specs.declared.ast.Ident.{Ident}
use Rattle.protox_ast.specs.declared.ast.OptionBody.{OptionBody}
use Rattle.protox_ast.specs.declared.ast.OptionList.{OptionList}
use Rattle.protox_ast.specs.declared.ast.Reserved.{Reserved}
use Rattle.protox_ast.specs.declared.ast.ReservedKind.{ReservedKind}
use Rattle.protox_ast.specs.declared.ast.ReservedKind.TheVariants as reserved
use Rattle.protox_ast.specs.declared.ast.ReservedRange.{ReservedRange}
use Rattle.protox_descriptor.specs.declared.descriptor.source_code_info.Location.{Location}
use Rattle.protox_descriptor.specs.declared.tag.TheConstants.{UNINTERPRETED_OPTION}
use Rattle.protox_descriptor.specs.declared.tag.message.TheConstants as message_tag
use Rattle.protox_descriptor.specs.declared.tag.message.extension_range.TheConstants as extension_range_tag
use Rattle.protox_descriptor.specs.declared.tag.message.reserved_range.TheConstants as reserved_range_tag
use Rattle.protox_ast.specs.Options.{OptionStatement, listed}
use Rattle.protox_ast.specs.Ranges.{kind_names, kind_ranges}
use Rattle.protox_ast.specs.Spans.{body_span, end_span, range_span, start_span}

-- field numbers of descriptor.proto and indices, from the file down to a part
abbrev pub Path : Type 0
Path = List ℤ

-- the path of a part with this field number
abbrev pub part : Path → ℤ → Path
part path tag = path ++ tag ∷ []

-- the path of the element with this index in the list with this field number
abbrev pub nth : Path → ℤ → ℕ → Path
nth path tag n = path ++ tag ∷ pos n ∷ []

-- a location with comments
abbrev pub commented : (Span → List ℤ) → Path → Span → Comments → Location
commented numbers path span comments = record {
  path = path;
  span = numbers span;
  leading_comments = comments.leading_comment;
  trailing_comments = comments.trailing_comment;
  leading_detached_comments = comments.leading_detached_comments;
}

-- a location without comments
abbrev pub bare : (Span → List ℤ) → Path → Span → Location
bare numbers path span = record { path = path; span = numbers span; leading_comments = None; trailing_comments = None; leading_detached_comments = [] }

-- the locations of a part, given its path
abbrev pub Part : Type 0
Part = Path → List Location

-- The locations of the elements of a list. The first has the index n.
abbrev pub numbered : Path → ℤ → ℕ → List Part → List Location
numbered path tag n [] = []
numbered path tag n (at ∷ more) = at (nth path tag n) ++ numbered path tag (n + 1) more

-- the locations of parts that all have this path
abbrev pub each_at : Path → List Part → List Location
each_at path parts = flat_map (λ (at : Part). at path) parts

-- the locations of the elements of a list, from index 0 on
abbrev pub siblings_at : Path → ℤ → List Part → List Location
siblings_at path tag siblings = numbered path tag 0 siblings

module _ (numbers : Span → List ℤ) where
  -- ---- options

  -- An option statement has a location at the path of the options, and one as an uninterpreted
  -- option.
  abbrev pub option_place : OptionStatement → Part
  option_place statement path = bare numbers path statement.span ∷ []

  -- an option statement as an uninterpreted option, with its comments
  abbrev pub option_statement : OptionStatement → Part
  option_statement statement path = commented numbers path statement.span statement.comments ∷ []

  -- all option statements: first at the path of the options, then each with its index
  abbrev pub option_statements : Path → List OptionStatement → List Location
  option_statements path statements =
      each_at path (map option_place statements) ++ siblings_at path UNINTERPRETED_OPTION (map option_statement statements)

  -- an option in brackets
  abbrev pub option_body : OptionBody → Part
  option_body body path = bare numbers path (body_span body) ∷ []

  -- the location of the brackets, if there are any, and those of these options in them
  abbrev pub option_list : Path → Option OptionList → List OptionBody → List Location
  option_list path None bodies = []
  option_list path (Some list) bodies = bare numbers path list.span ∷ siblings_at path UNINTERPRETED_OPTION (map option_body bodies)

  -- ---- ranges

  -- the locations of a range: itself, its start, its end
  abbrev pub range_locations : ReservedRange → Part
  range_locations range path =
      bare numbers path (range_span range)
      ∷ bare numbers (part path reserved_range_tag.START) (start_span range)
      ∷ bare numbers (part path reserved_range_tag.END) (end_span range)
      ∷ []

  -- a reserved name
  abbrev pub reserved_name : Ident → Part
  reserved_name name path = bare numbers path name.span ∷ []

  -- a reserved statement, with its comments
  abbrev pub reserved_statement : Reserved → Part
  reserved_statement statement path = commented numbers path statement.span statement.comments ∷ []

  -- the reserved statement, if it has ranges
  abbrev pub range_statement : Reserved → ReservedKind → List Part
  range_statement statement (reserved.Ranges ranges) = reserved_statement statement ∷ []
  range_statement statement (reserved.Names names) = []

  -- the reserved statement, if it has names
  abbrev pub name_statement : Reserved → ReservedKind → List Part
  name_statement statement (reserved.Ranges ranges) = []
  name_statement statement (reserved.Names names) = reserved_statement statement ∷ []

  -- the statements that have ranges, at the path of the list, and then each range with its index
  abbrev pub range_statements : Path → ℤ → List Reserved → List Location
  range_statements path tag statements =
      each_at (part path tag) (flat_map (λ (statement : Reserved). range_statement statement statement.kind) statements)
      ++ siblings_at path tag (flat_map (λ (statement : Reserved). map range_locations (kind_ranges statement.kind)) statements)

  -- the same of names
  abbrev pub name_statements : Path → ℤ → List Reserved → List Location
  name_statements path tag statements =
      each_at (part path tag) (flat_map (λ (statement : Reserved). name_statement statement statement.kind) statements)
      ++ siblings_at path tag (flat_map (λ (statement : Reserved). map reserved_name (kind_names statement.kind)) statements)

  -- a range, with the options of its `extensions` statement
  abbrev pub extension_range : Extensions → ReservedRange → Part
  extension_range statement range path =
      range_locations range path ++ option_list (part path extension_range_tag.OPTIONS) statement.options (listed statement.options)

  -- an `extensions` statement, with its comments
  abbrev pub extensions_statement : Extensions → Part
  extensions_statement statement path = commented numbers path statement.span statement.comments ∷ []

  -- the `extensions` statements, at the path of the list, and then each range with its index
  abbrev pub extensions_statements : Path → List Extensions → List Location
  extensions_statements path statements =
      each_at (part path message_tag.EXTENSION_RANGE) (map extensions_statement statements)
      ++ siblings_at path message_tag.EXTENSION_RANGE (flat_map (λ (statement : Extensions). map (extension_range statement) statement.ranges) statements)

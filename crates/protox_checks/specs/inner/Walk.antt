-- What the code that looks for faults is given, and what it has found.
use Rattle.std.specs.Prelude.{◌≡◌, List, ◌++◌, codes}
use Rattle.protox_fault.specs.declared.error.ParseErrorKind.{ParseErrorKind}
use Rattle.protox_ast.specs.Options.{default_of, without_first}
use Rattle.protox_ast.specs.Steps.{of_kind}
use Rattle.protox_ast.specs.Values.{Interval, any_64, signed_32, signed_64, unsigned_32, unsigned_64}
use Rattle.protox_ast.specs.declared.ast.Field.{Field, out-Field}
use Rattle.protox_ast.specs.declared.ast.Int.{Int}
use Rattle.protox_ast.specs.declared.ast.OptionBody.{OptionBody}
use Rattle.protox_ast.specs.declared.ast.Syntax.{Syntax}
use Rattle.protox_checks.specs.Checks.{nodes_faults}
use Rattle.protox_checks.specs.FieldFaults.{FieldNode}
use Rattle.protox_checks.specs.Nodes.{Node, AMessageNumber, AnEnumNumber, node_steps}
use Rattle.protox_checks.specs.declared.integers.Integers.{Integers}
use Rattle.protox_checks.specs.declared.integers.Integers.TheVariants as integers
use Rattle.protox_checks.specs.declared.numbers.Numbering.{Numbering}
use Rattle.protox_checks.specs.declared.numbers.Numbering.TheVariants as numbering

-- The faults of these nodes are added.
abbrev pub AddsIn : Syntax → List ParseErrorKind → List ParseErrorKind → List Node → Type 0
AddsIn syntax old new nodes = new ≡ old ++ nodes_faults syntax nodes

-- The faults of these nodes are added, and they don't depend on the syntax.
abbrev pub Adds : List ParseErrorKind → List ParseErrorKind → List Node → Type 0
Adds old new nodes = (syntax : Syntax) → AddsIn syntax old new nodes

-- a field number or an enum number, as a checked part
abbrev pub number_node : Numbering → Int → Node
number_node numbering.OfFields int = AMessageNumber int
number_node numbering.OfEnumValues int = AnEnumNumber int

-- the interval of these integers
abbrev pub interval_of : Integers → Interval
interval_of integers.Signed32 = signed_32
interval_of integers.Signed64 = signed_64
interval_of integers.Unsigned32 = unsigned_32
interval_of integers.Unsigned64 = unsigned_64
interval_of integers.Any64 = any_64

-- a field without its name, its number and its body
abbrev pub field_node : Field → FieldNode
field_node field = record {
  label = (out-Field field).label;
  kind = (of_kind node_steps (out-Field field).kind).0;
  default = default_of (out-Field field).options;
  span = (out-Field field).span;
}

-- the list without its first `default` and its first `json_name`
abbrev pub others : List OptionBody → List OptionBody
others bodies = without_first (codes "json_name") (without_first (codes "default") bodies)

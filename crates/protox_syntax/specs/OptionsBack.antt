-- The tokens that the text of an option gives back.
use Rattle.std.specs.Prelude.{◌≤◌, ◌^◌, List, [], ◌∷◌, ◌++◌, Some}
use Rattle.protox_lexeme.specs.Shapes.{Shape, Str}
use Rattle.protox_ast.specs.AstParts.{strings_value}
use Rattle.protox_ast.specs.Places.{Place}
use Rattle.protox_ast.specs.Spelling as spell
use Rattle.protox_ast.specs.Spelling.{◌⌢◌}
use Rattle.protox_ast.specs.Spells.{shapes}
use Rattle.protox_ast.specs.Tree as t

-- The tokens of a value, where a run of strings counts as one string.
abbrev pub value_shapes : t.Value Place → List Shape
value_shapes (t.strings x) = Str (strings_value x) ∷ []
value_shapes (t.constant sign x) = shapes (spell.value (t.constant sign x))
value_shapes (t.aggregate open_at inside close_at) = shapes (spell.value (t.aggregate open_at inside close_at))

-- The tokens of an option: its name, `=` and its value.
abbrev pub option_shapes : t.Body Place → List Shape
option_shapes b = shapes (spell.part b.first ⌢ spell.many (spell.behind spell.dot spell.part) b.others ⌢ spell.sign spell.equals b.equals_sign) ++ value_shapes b.value

-- The checks of options hold of the value: no word has a minus sign, and a negative integer fits 64
-- bits.
abbrev pub HasValue : t.Value Place → Type 0
HasValue (t.constant (Some minus) (t.ident x)) = ⊥
HasValue (t.constant (Some minus) (t.integer x)) = x.0 ≤ 2 ^ 63
HasValue _ = Unit {0}

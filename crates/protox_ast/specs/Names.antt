-- The spans and the texts of names.
use Rattle.std.specs.Prelude.{ℕ, List, [], ◌∷◌, ◌++◌, flat_map, Some, None}
use Rattle.protox_fault.specs.Faults.{Span}
use Rattle.protox_ast.specs.Basics.{join, join_if_any, last_place}
use Rattle.protox_ast.specs.declared.ast.Ident.{Ident}
use Rattle.protox_ast.specs.declared.ast.TypeName.{TypeName}

-- The span of a name: from its first part to its last part.
abbrev pub name_span : List Ident → Span
name_span [] = record { start = 0; end = 0 }
name_span (first ∷ others) = join first.span (last_place (λ (part : Ident). part.span) first.span others)

-- The span of a type's name. It begins with the leading dot, if there is one.
abbrev pub type_name_span : TypeName → Span
type_name_span type = join_if_any type.leading_dot (name_span type.name)

-- A dot, and a part of a name.
abbrev pub dotted_part : Ident → List ℕ
dotted_part part = 46 ∷ part.value

-- The text of a name: its parts, with dots between them.
abbrev pub name_text : List Ident → List ℕ
name_text [] = []
name_text (first ∷ others) = first.value ++ flat_map dotted_part others

-- The text of a type's name. It begins with the leading dot, if there is one.
abbrev pub type_name_text : TypeName → List ℕ
type_name_text type = elim type.leading_dot as (λ _. List ℕ) [
  | None ↦ name_text type.name
  | Some dot ↦ 46 ∷ name_text type.name
]

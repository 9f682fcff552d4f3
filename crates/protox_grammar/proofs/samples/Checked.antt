-- Files that the parser's checks refuse, and similar files that they accept.
use Rattle.std.proofs.Common.{◌≡◌, true, List, ℕ, [], ◌∷◌, None, codes, refl, sym, true≢false}
use Rattle.protox_ast.specs.Places.{Place}
use Rattle.protox_ast.specs.Tree as t
use Rattle.protox_ast.specs.Ast.{text_of}
use Rattle.protox_ast.specs.CheckedNodes.{checked_nodes}
use Rattle.protox_ast.specs.Checks.{is_text, is_ident}
use Rattle.protox_ast.specs.inner.Fine.{IsFine}
use Rattle.protox_ast.specs.Keywords.{Each}

abbrev at : Place
at = record { span = record { start = 0; end = 0 }; detached = []; leading = None; trailing = None }

abbrev file : List (t.Statement Place) → t.File Place
file xs = record { syntax = None; statements = xs }

-- Each checked node is fine.
abbrev AreFine : t.File Place → Type 0
AreFine f = Each IsFine (checked_nodes f)

abbrev package_of : List ℕ → t.Statement Place
package_of name = t.a_package (record { keyword = at; name = record { first = (name, at); others = [] }; end = at })

-- package a; package b;
two-packages : AreFine (file (package_of (codes "a") ∷ package_of (codes "b") ∷ [])) → ⊥
two-packages h = h.0

one-package : AreFine (file (package_of (codes "a") ∷ []))
one-package = tt

-- group NAME = 1 { }
abbrev group : List ℕ → t.Field Place
group name = t.field_of None (t.group (t.group_of at (name, at) at (record { sign = None; number = (1, at) }) None (t.mbody_of at t.no_elements at)))

abbrev in_message : t.Element Place → t.File Place
in_message x = file (t.a_message (t.message_of at (codes "M", at) (t.mbody_of at (t.elements x t.no_elements) at)) ∷ [])

capital : AreFine (in_message (t.field (group (codes "G"))))
capital = (refl, tt)

-- The name of a group begins with a capital, wherever the group stands.
small : AreFine (in_message (t.field (group (codes "g")))) → ⊥
small h = true≢false (sym h.0)

small-in-oneof : AreFine (in_message (t.oneof (t.oneof_of at (codes "o", at) at (t.oneof_elements (t.oneof_field (group (codes "g"))) t.no_oneof_elements) at))) → ⊥
small-in-oneof h = true≢false (sym h.0)

small-in-extend : AreFine (in_message (t.extend (t.extend_of at (record { leading_dot = None; name = record { first = (codes "A", at); others = [] } }) at (t.extend_elements (t.extend_field (group (codes "g"))) t.no_extend_elements) at))) → ⊥
small-in-extend h = true≢false (sym h.0)

-- Each reserved name must be UTF-8 and an identifier, in messages and in enums.
abbrev names : t.Reserved Place
names = record { keyword = at; kind = t.names (record { first = record { first = (codes "a", at); others = [] }; others = (at, record { first = (codes "b", at); others = (codes "c", at) ∷ [] }) ∷ [] }); end = at }

abbrev Asked : Type 0
Asked = ((is_text (codes "a") ≡ true) × (is_ident (text_of (codes "a")) ≡ true)) × ((is_text (codes "bc") ≡ true) × (is_ident (text_of (codes "bc")) ≡ true))

reserved-asked : AreFine (in_message (t.reserved names)) → Asked
reserved-asked h = (h.0, h.1.0)

reserved-asked-in-enum : AreFine (file (t.an_enum (record { keyword = at; name = (codes "E", at); open_at = at; elements = t.enum_reserved names ∷ []; close_at = at }) ∷ [])) → Asked
reserved-asked-in-enum h = (h.0, h.1.0)

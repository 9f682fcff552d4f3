-- The keyword rules: where a name may not begin with a keyword. Then the trees that keep these
-- rules everywhere.
use Rattle.std.specs.Prelude.{◌≡◌, ◌≤◌, ℕ, suc, List, [], ◌∷◌, Option, Some, None, Bool, true, false, if◌then◌else◌, ◌==◌, codes, take}
use Rattle.protox_lexeme.specs.Shapes.{Shape, Mark, LineComment, BlockComment, Newline, Invalid, Rows}
pub use Rattle.protox_ast.specs.Basics.{Each}
use Rattle.protox_ast.specs.Nodes.{Node, AMessageField, AOneofField, AnExtendField, ANormal, AMap, AnEvalue, AnRpcType, AValue, nodes}
use Rattle.protox_ast.specs.Tree as t
use Rattle.protox_ast.specs.Spelling.{open_brace, close_brace}

-- ---- words

-- The word is none of these.
abbrev pub NoneOf : List (List ℕ) → List ℕ → Type 0
NoneOf [] w = Unit {0}
NoneOf (k ∷ ks) w = (w ≡ k → ⊥) × NoneOf ks w

-- If the name has no leading dot, its first word is none of these.
abbrev pub Undotted : {M : Type 0} → List (List ℕ) → Option M → List ℕ → Type 0
Undotted ks (Some m) w = Unit {0}
Undotted ks None w = NoneOf ks w

-- The type's name has a leading dot, or doesn't begin with one of these.
abbrev pub NameBeginsWithNone : {M : Type 0} → List (List ℕ) → t.TypeName M → Type 0
NameBeginsWithNone ks x = Undotted ks x.leading_dot x.name.first.0

-- The type is a scalar word alone, or its name doesn't begin with one of these.
abbrev pub TypeBeginsWithNone : {M : Type 0} → List (List ℕ) → t.FieldType M → Type 0
TypeBeginsWithNone ks (t.scalar s m) = Unit {0}
TypeBeginsWithNone ks (t.named x) = NameBeginsWithNone ks x

-- The field has a label or isn't a normal one, or its type doesn't begin with one of these.
abbrev pub UnlabelledBeginsWithNone : {M : Type 0} → List (List ℕ) → t.Field M → Type 0
UnlabelledBeginsWithNone ks (t.field_of None (t.normal x)) = TypeBeginsWithNone ks x.type
UnlabelledBeginsWithNone ks _ = Unit {0}

-- The words that are labels.
abbrev pub labels : List (List ℕ)
labels = codes "optional" ∷ codes "required" ∷ codes "repeated" ∷ []

-- The words that are scalar types.
abbrev pub scalars : List (List ℕ)
scalars = codes "double" ∷ codes "float" ∷ codes "int32" ∷ codes "int64" ∷ codes "uint32" ∷ codes "uint64" ∷ codes "sint32" ∷ codes "sint64"
    ∷ codes "fixed32" ∷ codes "fixed64" ∷ codes "sfixed32" ∷ codes "sfixed64" ∷ codes "bool" ∷ codes "string" ∷ codes "bytes" ∷ []

-- The words that begin an element of a message, except a field.
abbrev pub in_message : List (List ℕ)
in_message = codes "oneof" ∷ codes "enum" ∷ codes "message" ∷ codes "extend" ∷ codes "option" ∷ codes "reserved" ∷ codes "extensions" ∷ []

-- A type in an rpc without `stream` before it doesn't begin with `stream`.
abbrev pub Unstreamed : {M : Type 0} → Option M → t.TypeName M → Type 0
Unstreamed (Some m) x = Unit {0}
Unstreamed None x = NameBeginsWithNone (codes "stream" ∷ []) x

-- ---- tokens with matching braces

-- Whether the token is `{`.
abbrev pub is_open_brace : Shape → Bool
is_open_brace (Mark byte) = byte == open_brace
is_open_brace _ = false

-- Whether the token is `}`.
abbrev pub is_close_brace : Shape → Bool
is_close_brace (Mark byte) = byte == close_brace
is_close_brace _ = false

-- How many rows pass the test.
abbrev pub how_many : {M : Type 0} → (Shape → Bool) → Rows M → ℕ
how_many test [] = 0
how_many test (r ∷ rs) = if test r.shape then suc (how_many test rs) else how_many test rs

-- The braces match: there are as many `{` as `}`, and no beginning has more `}` than `{`.
abbrev pub BracesMatch : {M : Type 0} → t.Balanced M → Type 0
BracesMatch inside = ((n : ℕ) → how_many is_close_brace (take n inside) ≤ how_many is_open_brace (take n inside)) × (how_many is_open_brace inside ≡ how_many is_close_brace inside)

-- Whether the token is a word, a number, a string or a mark. Comments, newlines and invalid
-- characters are not.
abbrev pub is_significant : Shape → Bool
is_significant (LineComment text) = false
is_significant (BlockComment text) = false
is_significant Newline = false
is_significant Invalid = false
is_significant _ = true

-- ---- the rules

-- The node keeps the rules.
abbrev pub KeepsRule : {M : Type 0} → Node M → Type 0
-- The type of an unlabelled normal field doesn't begin with `optional`, `required` or `repeated`.
-- In a message body it doesn't begin with `oneof`, `enum`, `message`, `extend`, `option`,
-- `reserved` or `extensions`.
KeepsRule (AMessageField x) = UnlabelledBeginsWithNone labels x × UnlabelledBeginsWithNone in_message x
-- In a oneof body it doesn't begin with `option`. In an extend body it may begin with any other
-- word.
KeepsRule (AOneofField x) = UnlabelledBeginsWithNone labels x × UnlabelledBeginsWithNone (codes "option" ∷ []) x
KeepsRule (AnExtendField x) = UnlabelledBeginsWithNone labels x
-- The type of a normal field doesn't begin with `map`, `group` or a scalar word, unless it is that
-- scalar word alone.
KeepsRule (ANormal x) = TypeBeginsWithNone (codes "map" ∷ codes "group" ∷ scalars) x.type
-- The key and value types of a map don't begin with a scalar word, unless they are that word alone.
-- They may begin with `map` or `group`.
KeepsRule (AMap x) = TypeBeginsWithNone scalars x.key × TypeBeginsWithNone scalars x.value
-- The name of an enum value isn't `option` or `reserved`.
KeepsRule (AnEvalue x) = NoneOf (codes "option" ∷ codes "reserved" ∷ []) x.name.0
-- A type in an rpc without `stream` before it doesn't begin with `stream`.
KeepsRule (AnRpcType x) = Unstreamed x.stream x.name
-- The tokens of an aggregate are significant, and their braces match.
KeepsRule (AValue (t.aggregate open_at inside close_at)) = BracesMatch inside × Each (λ r. is_significant r.shape ≡ true) inside
KeepsRule _ = Unit {0}

-- Every node of the file keeps the rules.
abbrev pub KeepsKeywords : {M : Type 0} → t.File M → Type 0
KeepsKeywords f = Each KeepsRule (nodes f)

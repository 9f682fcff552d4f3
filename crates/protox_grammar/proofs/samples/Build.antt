-- Small trees and rows without tags, in short notation.
use Prim.Native.String.{String}
use Rattle.std.specs.Prelude.{ℕ, List, [], ◌∷◌, map, Option, Some, None, codes}
use Rattle.protox_lexeme.specs.Shapes.{Shape, Ident, Int, Float, Str, Rows}
use Rattle.protox_ast.specs.Tree as t

abbrev pub NoMark : Type 0
NoMark = Unit {0}

-- ---- rows

abbrev pub rows : List Shape → Rows NoMark
rows [] = []
rows (s ∷ ss) = record { shape = s; at = tt } ∷ rows ss

abbrev pub word : String → Shape
word x = Ident (codes x)

abbrev pub number : ℕ → Shape
number n = Int n

abbrev pub float : String → Shape
float x = Float (codes x)

abbrev pub text : String → Shape
text x = Str (codes x)

-- ---- tokens and names

abbrev pub ident : String → t.Word NoMark
ident x = (codes x, tt)

abbrev pub strings : String → List String → t.Strings NoMark
strings x xs = record { first = (codes x, tt); others = map (λ y. (codes y, tt)) xs }

abbrev pub dotted : String → List String → t.FullIdent NoMark
dotted x xs = record { first = ident x; others = map (λ y. (tt, ident y)) xs }

abbrev pub name : String → List String → t.TypeName NoMark
name x xs = record { leading_dot = None; name = dotted x xs }

abbrev pub rooted : String → List String → t.TypeName NoMark
rooted x xs = record { leading_dot = Some tt; name = dotted x xs }

abbrev pub plus : ℕ → t.Int NoMark
plus n = record { sign = None; number = (n, tt) }

abbrev pub minus : ℕ → t.Int NoMark
minus n = record { sign = Some tt; number = (n, tt) }

-- ---- options

abbrev pub body : String → t.Value NoMark → t.Body NoMark
body x v = record { first = t.plain_part (ident x); others = []; equals_sign = tt; value = v }

abbrev pub option : String → t.Value NoMark → t.OptionStatement NoMark
option x v = record { keyword = tt; body = body x v; end = tt }

abbrev pub list : String → t.Value NoMark → Option (t.OptionList NoMark)
list x v = Some (record { open_at = tt; first = body x v; others = []; close_at = tt })

abbrev pub yes_value : t.Value NoMark
yes_value = t.constant None (t.ident (ident "yes"))

-- ---- fields

abbrev pub normal : t.FieldType NoMark → Option (t.OptionList NoMark) → t.Normal NoMark
normal x o = record { type = x; name = ident "f"; equals_sign = tt; number = plus 1; options = o; end = tt }

abbrev pub unlabelled : t.FieldType NoMark → t.Field NoMark
unlabelled x = t.field_of None (t.normal (normal x None))

abbrev pub labelled : t.FieldType NoMark → t.Field NoMark
labelled x = t.field_of (Some (t.optional tt)) (t.normal (normal x None))

abbrev pub map_of : t.FieldType NoMark → t.FieldType NoMark → t.Field NoMark
map_of x y = t.field_of None (t.map (record { keyword = tt; open_at = tt; key = x; comma_at = tt; value = y; close_at = tt; name = ident "f"; equals_sign = tt; number = plus 1; options = None; end = tt }))

abbrev pub int32 : t.FieldType NoMark
int32 = t.scalar t.int32 tt

-- ---- messages and files

abbrev pub elements : List (t.Element NoMark) → t.Elements NoMark
elements [] = t.no_elements
elements (x ∷ xs) = t.elements x (elements xs)

abbrev pub inside : List (t.Element NoMark) → t.Mbody NoMark
inside xs = t.mbody_of tt (elements xs) tt

abbrev pub message : List (t.Element NoMark) → t.Message NoMark
message xs = t.message_of tt (ident "M") (inside xs)

abbrev pub file : List (t.Statement NoMark) → t.File NoMark
file xs = record { syntax = None; statements = xs }

-- a file of one message
abbrev pub of_message : List (t.Element NoMark) → t.File NoMark
of_message xs = file (t.a_message (message xs) ∷ [])

abbrev pub oneof_of : List (t.OneofElement NoMark) → t.Element NoMark
oneof_of xs = t.oneof (t.oneof_of tt (ident "o") tt (all xs) tt)
  where
    all : List (t.OneofElement NoMark) → t.OneofElements NoMark
    all [] = t.no_oneof_elements
    all (x ∷ xs) = t.oneof_elements x (all xs)

abbrev pub extend_of : t.TypeName NoMark → List (t.ExtendElement NoMark) → t.Extend NoMark
extend_of n xs = t.extend_of tt n tt (all xs) tt
  where
    all : List (t.ExtendElement NoMark) → t.ExtendElements NoMark
    all [] = t.no_extend_elements
    all (x ∷ xs) = t.extend_elements x (all xs)

abbrev pub enum_of : List (t.EnumElement NoMark) → t.Enum NoMark
enum_of xs = record { keyword = tt; name = ident "E"; open_at = tt; elements = xs; close_at = tt }

abbrev pub value : String → t.EnumElement NoMark
value x = t.enum_value (record { name = ident x; equals_sign = tt; number = plus 0; options = None; end = tt })

abbrev pub ranges : t.Range NoMark → List (t.Range NoMark) → t.Ranges NoMark
ranges x xs = record { first = x; others = map (λ y. (tt, y)) xs }

abbrev pub one : ℕ → t.Range NoMark
one n = record { start = plus n; stop = None }

abbrev pub up_to : ℕ → ℕ → t.Range NoMark
up_to a b = record { start = plus a; stop = Some (t.up_to tt (plus b)) }

abbrev pub up_to_max : ℕ → t.Range NoMark
up_to_max a = record { start = plus a; stop = Some (t.up_to_max tt tt) }

abbrev pub extensions : t.Ranges NoMark → Option (t.OptionList NoMark) → t.Element NoMark
extensions x o = t.extensions (record { keyword = tt; ranges = x; options = o; end = tt })

abbrev pub plain_type : t.TypeName NoMark → t.RpcType NoMark
plain_type x = record { stream = None; name = x }

abbrev pub stream_type : t.TypeName NoMark → t.RpcType NoMark
stream_type x = record { stream = Some tt; name = x }

abbrev pub rpc : t.RpcType NoMark → t.RpcType NoMark → t.RpcEnd NoMark → t.Rpc NoMark
rpc x y e = record { keyword = tt; name = ident "R"; input_open = tt; input = x; input_close = tt; returns_at = tt; output_open = tt; output = y; output_close = tt; end = e }

abbrev pub service : List (t.ServiceElement NoMark) → t.Statement NoMark
service xs = t.a_service (record { keyword = tt; name = ident "S"; open_at = tt; elements = xs; close_at = tt })

-- The rules of the grammar without messages in them. Each has its plain spelling and its
-- plain keyword rules. `to_x` and `from_x` turn pairs and choices into trees and back.
use Rattle.std.specs.Prelude.{ℕ, suc, ◌-◌, List, [], ◌∷◌, ◌++◌, if◌then◌else◌, ◌==◌, Ok, Err, Option, Some, None, ◌⊎◌, codes}
use Rattle.std.proofs.Common.{inl, inr}
use Rattle.std.specs.Str.{bytes_eq}
use Rattle.protox_lexeme.specs.Shapes as shape
use Rattle.protox_lexeme.specs.Shapes.{Shape, Ident, Str, Mark, Rows}
use Rattle.protox_grammar.specs.Class.{Set, mark, an_integer, a_float, a_string, only, among, just_word, just_mark, but_mark, among_words, union, words}
use Rattle.protox_ast.specs.Tree as t
use Rattle.protox_ast.specs.Spelling as s
use Rattle.protox_ast.specs.KeywordWalk as k
use Rattle.protox_grammar.specs.Reader as reader
use Rattle.protox_grammar.specs.Reader.{Reader, Unexpected, ◌>>=◌, see_word, see_integer, see_float, see_text}
use Rattle.protox_grammar.specs.Steps.{plainly, plain_trace, ANode, AnOpenBrace, ACloseBrace}
use Rattle.protox_ast.specs.CheckedNodes.{CheckedNode, ASyntax, AnImport, AReservedName}
use Rattle.protox_grammar.specs.Rule.{Rule, row, fixed, leaf, seq, named, unless, choice, optional, times, noting}

-- Reads up to the brace that closes: all rows before it, which are tokens. `unclosed` braces are
-- open.
unfoldable pub balanced_at : {M : Type 0} → ℕ → Reader M (Rows M)
balanced_at unclosed [] = Err (Unexpected 0)
balanced_at unclosed (r ∷ rs) =
    if k.is_open_brace r.shape then (balanced_at (suc unclosed) rs >>= λ x. Ok (r ∷ x.0, x.1))
    else (if k.is_close_brace r.shape
    then (if unclosed == 0 then Ok ([], r ∷ rs) else (balanced_at (unclosed - 1) rs >>= λ x. Ok (r ∷ x.0, x.1)))
    else (if k.is_significant r.shape then (balanced_at unclosed rs >>= λ x. Ok (r ∷ x.0, x.1)) else reader.refuse (r ∷ rs)))

-- The rows between braces, and the closing brace.
abbrev pub closed : {M : Type 0} → Rule M (Rows M × M)
closed = record {
  spell = λ t. t.0 ++ (row (Mark s.close_brace) t.1 ∷ []);
  may = λ t. k.BracesMatch t.0 × k.Each k.IsSignificant t.0;
  fits = λ t. k.BracesMatch t.0 × k.Each k.IsSignificant t.0;
  ends = λ t z. k.BracesMatch t.0 × k.Each k.IsSignificant t.0;
  read = reader.seq (balanced_at 0) (reader.fixed (Mark s.close_brace));
  steps = λ t. plainly (t.0 ++ (row (Mark s.close_brace) t.1 ∷ []));
  trace = plain_trace (reader.seq (balanced_at 0) (reader.fixed (Mark s.close_brace)));
}

-- No condition.
abbrev pub free : {A : Type 0} → A → Type 0
free x = Unit {0}

-- The rule of a keyword.
abbrev pub the : {M : Type 0} → List ℕ → Rule M M
the w = fixed (Ident w)

-- The rule of a mark.
abbrev pub sign : {M : Type 0} → ℕ → Rule M M
sign byte = fixed (Mark byte)

-- The rule of an identifier.
abbrev pub ident : {M : Type 0} → Rule M (t.Word M)
ident = leaf see_word Ident

-- The rule of an integer.
abbrev pub integer : {M : Type 0} → Rule M (t.Number M)
integer = leaf see_integer shape.Int

-- The rule of a float.
abbrev pub float : {M : Type 0} → Rule M (t.Float M)
float = leaf see_float shape.Float

-- The rule of a string.
abbrev pub string : {M : Type 0} → Rule M (t.Text M)
string = leaf see_text Str

-- The scalar type with this word, if one of these has it.
abbrev pub find_scalar : List t.Scalar → List ℕ → Option t.Scalar
find_scalar [] w = None
find_scalar (x ∷ xs) w = if bytes_eq w (s.scalar_word x) then Some x else find_scalar xs w

-- All scalar types.
abbrev pub all_scalars : List t.Scalar
all_scalars = t.double ∷ t.float_type ∷ t.int32 ∷ t.int64 ∷ t.uint32 ∷ t.uint64 ∷ t.sint32 ∷ t.sint64 ∷ t.fixed32 ∷ t.fixed64 ∷ t.sfixed32 ∷ t.sfixed64 ∷ t.bool ∷ t.string ∷ t.bytes ∷ []

-- The scalar type that a token names, if it names one.
abbrev pub see_scalar : Shape → Option t.Scalar
see_scalar (Ident w) = find_scalar all_scalars w
see_scalar _ = None

-- The token that names a scalar type.
abbrev pub scalar_shape : t.Scalar → Shape
scalar_shape x = Ident (s.scalar_word x)

-- The rule of a scalar type.
abbrev pub scalar : {M : Type 0} → Rule M (t.Scalar × M)
scalar = leaf see_scalar scalar_shape

-- The classes of the words for scalar types.
abbrev pub scalar_set : Set
scalar_set = among_words k.scalars

unfoldable pub strings : {M : Type 0} → Rule M (t.Strings M)
strings = named s.strings free (λ (first, others). record { first = first; others = others }) (λ x. (x.first, x.others))
    (seq string (times (only a_string) string))

-- A run of strings that is checked.
abbrev pub noted_strings : {M : Type 0} → (t.Strings M → CheckedNode M) → Rule M (t.Strings M)
noted_strings node = noting (λ x. ANode (node x)) strings

unfoldable pub syntax : {M : Type 0} → Rule M (t.Syntax M)
syntax = named s.syntax free (λ (keyword, (equals_sign, (value, end))). record { keyword = keyword; equals_sign = equals_sign; value = value; end = end }) (λ x. (x.keyword, (x.equals_sign, (x.value, x.end))))
    (seq (the (codes "syntax")) (seq (sign s.equals) (seq (noted_strings ASyntax) (sign s.semicolon))))

abbrev pub to_import_kind : {M : Type 0} → M ⊎ M → t.ImportKind M
to_import_kind (inl x) = t.weak x
to_import_kind (inr x) = t.«public» x

abbrev pub from_import_kind : {M : Type 0} → t.ImportKind M → M ⊎ M
from_import_kind (t.weak a) = inl a
from_import_kind (t.«public» a) = inr a

unfoldable pub import_kind : {M : Type 0} → Rule M (t.ImportKind M)
import_kind = named s.import_kind free to_import_kind from_import_kind
    (choice (just_word (codes "weak")) (the (codes "weak")) (the (codes "public")))

unfoldable pub «import» : {M : Type 0} → Rule M (t.Import M)
«import» = named s.«import» free (λ (keyword, (kind, (value, end))). record { keyword = keyword; kind = kind; value = value; end = end }) (λ x. (x.keyword, (x.kind, (x.value, x.end))))
    (seq (the (codes "import")) (seq (optional (among_words (codes "weak" ∷ codes "public" ∷ [])) import_kind) (seq (noted_strings AnImport) (sign s.semicolon))))

unfoldable pub fullident : {M : Type 0} → Rule M (t.FullIdent M)
fullident = named s.fullident free (λ (first, others). record { first = first; others = others }) (λ x. (x.first, x.others))
    (seq ident (times (just_mark s.dot) (seq (sign s.dot) ident)))

unfoldable pub «package» : {M : Type 0} → Rule M (t.Package M)
«package» = named s.«package» free (λ (keyword, (name, end)). record { keyword = keyword; name = name; end = end }) (λ x. (x.keyword, (x.name, x.end)))
    (seq (the (codes "package")) (seq fullident (sign s.semicolon)))

unfoldable pub typename : {M : Type 0} → Rule M (t.TypeName M)
typename = named s.typename free (λ (leading_dot, name). record { leading_dot = leading_dot; name = name }) (λ x. (x.leading_dot, x.name))
    (seq (optional (just_mark s.dot) (sign s.dot)) fullident)

abbrev pub to_part : {M : Type 0} → t.Word M ⊎ (M × (t.TypeName M × M)) → t.Part M
to_part (inl x) = t.plain_part x
to_part (inr x) = t.extension_part x.0 x.1.0 x.1.1

abbrev pub from_part : {M : Type 0} → t.Part M → t.Word M ⊎ (M × (t.TypeName M × M))
from_part (t.plain_part a) = inl a
from_part (t.extension_part a b c) = inr ((a, (b, c)))

unfoldable pub part : {M : Type 0} → Rule M (t.Part M)
part = named s.part free to_part from_part
    (choice words ident (seq (sign s.open_paren) (seq typename (sign s.close_paren))))

abbrev pub to_constant : {M : Type 0} → t.Word M ⊎ (t.Number M ⊎ t.Float M) → t.Constant M
to_constant (inl x) = t.ident x
to_constant (inr (inl x)) = t.integer x
to_constant (inr (inr x)) = t.float x

abbrev pub from_constant : {M : Type 0} → t.Constant M → t.Word M ⊎ (t.Number M ⊎ t.Float M)
from_constant (t.ident a) = inl a
from_constant (t.integer a) = inr (inl a)
from_constant (t.float a) = inr (inr a)

unfoldable pub constant : {M : Type 0} → Rule M (t.Constant M)
constant = named s.constant free to_constant from_constant
    (choice words ident (choice (only an_integer) integer float))

abbrev pub to_value : {M : Type 0} → (Option M × t.Constant M) ⊎ (t.Strings M ⊎ (M × (Rows M × M))) → t.Value M
to_value (inl x) = t.constant x.0 x.1
to_value (inr (inl x)) = t.strings x
to_value (inr (inr x)) = t.aggregate x.0 x.1.0 x.1.1

abbrev pub from_value : {M : Type 0} → t.Value M → (Option M × t.Constant M) ⊎ (t.Strings M ⊎ (M × (Rows M × M)))
from_value (t.constant a b) = inl (a, b)
from_value (t.strings a) = inr (inl a)
from_value (t.aggregate a b c) = inr (inr ((a, (b, c))))

unfoldable pub value : {M : Type 0} → Rule M (t.Value M)
value = named s.value k.KeepsValue to_value from_value
    (choice (union words (among (an_integer ∷ a_float ∷ mark s.minus ∷ []))) (seq (optional (just_mark s.minus) (sign s.minus)) constant) (choice (only a_string) strings (seq (noting AnOpenBrace (sign s.open_brace)) (noting (λ x. ACloseBrace x.1) closed))))

unfoldable pub body : {M : Type 0} → Rule M (t.Body M)
body = named s.body k.KeepsBody (λ (first, (others, (equals_sign, value))). record { first = first; others = others; equals_sign = equals_sign; value = value }) (λ x. (x.first, (x.others, (x.equals_sign, x.value))))
    (seq part (seq (times (just_mark s.dot) (seq (sign s.dot) part)) (seq (sign s.equals) value)))

unfoldable pub option : {M : Type 0} → Rule M (t.OptionStatement M)
option = named s.option k.KeepsOption (λ (keyword, (body, end)). record { keyword = keyword; body = body; end = end }) (λ x. (x.keyword, (x.body, x.end)))
    (seq (the (codes "option")) (seq body (sign s.semicolon)))

unfoldable pub list : {M : Type 0} → Rule M (t.OptionList M)
list = named s.list k.KeepsList (λ (open_at, (first, (others, close_at))). record { open_at = open_at; first = first; others = others; close_at = close_at }) (λ x. (x.open_at, (x.first, (x.others, x.close_at))))
    (seq (sign s.open_bracket) (seq body (seq (times (just_mark s.comma) (seq (sign s.comma) body)) (sign s.close_bracket))))

unfoldable pub int : {M : Type 0} → Rule M (t.Int M)
int = named s.int free (λ (sign, number). record { sign = sign; number = number }) (λ x. (x.sign, x.number))
    (seq (optional (just_mark s.minus) (sign s.minus)) integer)

abbrev pub to_type : {M : Type 0} → (t.Scalar × M) ⊎ t.TypeName M → t.FieldType M
to_type (inl x) = t.scalar x.0 x.1
to_type (inr x) = t.named x

abbrev pub from_type : {M : Type 0} → t.FieldType M → (t.Scalar × M) ⊎ t.TypeName M
from_type (t.scalar a b) = inl (a, b)
from_type (t.named a) = inr a

unfoldable pub type : {M : Type 0} → Rule M (t.FieldType M)
type = named s.type (k.TypeBeginsWithNone k.scalars) to_type from_type
    (unless scalar_set scalar typename)

abbrev pub to_label : {M : Type 0} → M ⊎ (M ⊎ M) → t.Label M
to_label (inl x) = t.optional x
to_label (inr (inl x)) = t.required x
to_label (inr (inr x)) = t.repeated x

abbrev pub from_label : {M : Type 0} → t.Label M → M ⊎ (M ⊎ M)
from_label (t.optional a) = inl a
from_label (t.required a) = inr (inl a)
from_label (t.repeated a) = inr (inr a)

unfoldable pub label : {M : Type 0} → Rule M (t.Label M)
label = named s.label free to_label from_label
    (choice (just_word (codes "optional")) (the (codes "optional")) (choice (just_word (codes "required")) (the (codes "required")) (the (codes "repeated"))))

-- The keyword rules of a normal field alone. Its type may still begin with `map` or `group`.
abbrev pub NormalAlone : {M : Type 0} → t.Normal M → Type 0
NormalAlone x = k.TypeBeginsWithNone k.scalars x.type × k.Given k.KeepsList x.options

unfoldable pub normal : {M : Type 0} → Rule M (t.Normal M)
normal = named s.normal NormalAlone (λ (type, (name, (equals_sign, (number, (options, end))))). record { type = type; name = name; equals_sign = equals_sign; number = number; options = options; end = end }) (λ x. (x.type, (x.name, (x.equals_sign, (x.number, (x.options, x.end))))))
    (seq type (seq ident (seq (sign s.equals) (seq int (seq (optional (just_mark s.open_bracket) list) (sign s.semicolon))))))

unfoldable pub map : {M : Type 0} → Rule M (t.Map M)
map = named s.map k.KeepsMap (λ (keyword, (open_at, (key, (comma_at, (value, (close_at, (name, (equals_sign, (number, (options, end)))))))))). record { keyword = keyword; open_at = open_at; key = key; comma_at = comma_at; value = value; close_at = close_at; name = name; equals_sign = equals_sign; number = number; options = options; end = end }) (λ x. (x.keyword, (x.open_at, (x.key, (x.comma_at, (x.value, (x.close_at, (x.name, (x.equals_sign, (x.number, (x.options, x.end)))))))))))
    (seq (the (codes "map")) (seq (sign s.open_angle) (seq type (seq (sign s.comma) (seq type (seq (sign s.close_angle) (seq ident (seq (sign s.equals) (seq int (seq (optional (just_mark s.open_bracket) list) (sign s.semicolon)))))))))))

-- The end of a range: after `to` stands a number or `max`.
abbrev pub to_range_end : {M : Type 0} → M × (t.Int M ⊎ M) → t.RangeEnd M
to_range_end (m, inl x) = t.up_to m x
to_range_end (m, inr x) = t.up_to_max m x

abbrev pub from_range_end : {M : Type 0} → t.RangeEnd M → M × (t.Int M ⊎ M)
from_range_end (t.up_to m x) = (m, inl x)
from_range_end (t.up_to_max m x) = (m, inr x)

unfoldable pub range_end : {M : Type 0} → Rule M (t.RangeEnd M)
range_end = named s.range_end free to_range_end from_range_end (seq (the (codes "to")) (choice (among (an_integer ∷ mark s.minus ∷ [])) int (the (codes "max"))))

unfoldable pub range : {M : Type 0} → Rule M (t.Range M)
range = named s.range free (λ (start, stop). record { start = start; stop = stop }) (λ x. (x.start, x.stop)) (seq int (optional (just_word (codes "to")) range_end))

unfoldable pub ranges : {M : Type 0} → Rule M (t.Ranges M)
ranges = named s.ranges free (λ (first, others). record { first = first; others = others }) (λ x. (x.first, x.others))
    (seq range (times (just_mark s.comma) (seq (sign s.comma) range)))

unfoldable pub names : {M : Type 0} → Rule M (t.Names M)
names = named s.names free (λ (first, others). record { first = first; others = others }) (λ x. (x.first, x.others))
    (seq (noted_strings AReservedName) (times (just_mark s.comma) (seq (sign s.comma) (noted_strings AReservedName))))

abbrev pub to_reserved_kind : {M : Type 0} → t.Ranges M ⊎ t.Names M → t.ReservedKind M
to_reserved_kind (inl x) = t.ranges x
to_reserved_kind (inr x) = t.names x

abbrev pub from_reserved_kind : {M : Type 0} → t.ReservedKind M → t.Ranges M ⊎ t.Names M
from_reserved_kind (t.ranges a) = inl a
from_reserved_kind (t.names a) = inr a

unfoldable pub reserved_kind : {M : Type 0} → Rule M (t.ReservedKind M)
reserved_kind = named s.reserved_kind free to_reserved_kind from_reserved_kind
    (choice (among (an_integer ∷ mark s.minus ∷ [])) ranges names)

unfoldable pub reserved : {M : Type 0} → Rule M (t.Reserved M)
reserved = named s.reserved free (λ (keyword, (kind, end)). record { keyword = keyword; kind = kind; end = end }) (λ x. (x.keyword, (x.kind, x.end)))
    (seq (the (codes "reserved")) (seq reserved_kind (sign s.semicolon)))

unfoldable pub extensions : {M : Type 0} → Rule M (t.Extensions M)
extensions = named s.extensions k.KeepsExtensions (λ (keyword, (ranges, (options, end))). record { keyword = keyword; ranges = ranges; options = options; end = end }) (λ x. (x.keyword, (x.ranges, (x.options, x.end))))
    (seq (the (codes "extensions")) (seq ranges (seq (optional (just_mark s.open_bracket) list) (sign s.semicolon))))

-- The keyword rules of an enum value alone. Its name may still be `option` or `reserved`.
abbrev pub EvalueAlone : {M : Type 0} → t.Evalue M → Type 0
EvalueAlone x = k.Given k.KeepsList x.options

unfoldable pub evalue : {M : Type 0} → Rule M (t.Evalue M)
evalue = named s.evalue EvalueAlone (λ (name, (equals_sign, (number, (options, end)))). record { name = name; equals_sign = equals_sign; number = number; options = options; end = end }) (λ x. (x.name, (x.equals_sign, (x.number, (x.options, x.end)))))
    (seq ident (seq (sign s.equals) (seq int (seq (optional (just_mark s.open_bracket) list) (sign s.semicolon)))))

abbrev pub to_enum_element : {M : Type 0} → M ⊎ ((t.OptionStatement M ⊎ (t.Reserved M)) ⊎ t.Evalue M) → t.EnumElement M
to_enum_element (inl x) = t.enum_empty x
to_enum_element (inr (inl (inl x))) = t.enum_option x
to_enum_element (inr (inl (inr x))) = t.enum_reserved x
to_enum_element (inr (inr x)) = t.enum_value x

abbrev pub from_enum_element : {M : Type 0} → t.EnumElement M → M ⊎ ((t.OptionStatement M ⊎ (t.Reserved M)) ⊎ t.Evalue M)
from_enum_element (t.enum_empty x) = inl x
from_enum_element (t.enum_option x) = inr (inl (inl x))
from_enum_element (t.enum_reserved x) = inr (inl (inr x))
from_enum_element (t.enum_value x) = inr (inr x)

unfoldable pub enum_element : {M : Type 0} → Rule M (t.EnumElement M)
enum_element = named s.enum_element k.KeepsEnumElement to_enum_element from_enum_element
    (choice (just_mark s.semicolon) (sign s.semicolon) (unless (among_words (codes "option" ∷ codes "reserved" ∷ [])) (choice (just_word (codes "option")) option reserved) evalue))

unfoldable pub enum : {M : Type 0} → Rule M (t.Enum M)
enum = named s.enum k.KeepsEnum (λ (keyword, (name, (open_at, (elements, close_at)))). record { keyword = keyword; name = name; open_at = open_at; elements = elements; close_at = close_at }) (λ x. (x.keyword, (x.name, (x.open_at, (x.elements, x.close_at)))))
    (seq (the (codes "enum")) (seq ident (seq (sign s.open_brace) (seq (times (but_mark s.close_brace) enum_element) (sign s.close_brace)))))

abbrev pub to_rpc_type : {M : Type 0} → (M × t.TypeName M) ⊎ t.TypeName M → t.RpcType M
to_rpc_type (inl x) = record { stream = Some x.0; name = x.1 }
to_rpc_type (inr x) = record { stream = None; name = x }

abbrev pub streamed : {M : Type 0} → Option M → t.TypeName M → (M × t.TypeName M) ⊎ t.TypeName M
streamed (Some m) x = inl (m, x)
streamed None x = inr x

abbrev pub from_rpc_type : {M : Type 0} → t.RpcType M → (M × t.TypeName M) ⊎ t.TypeName M
from_rpc_type x = streamed x.stream x.name

unfoldable pub rpc_type : {M : Type 0} → Rule M (t.RpcType M)
rpc_type = named s.rpc_type k.BeginsWithNoStream to_rpc_type from_rpc_type (unless (among_words (codes "stream" ∷ [])) (seq (the (codes "stream")) typename) typename)

abbrev pub to_rpc_element : {M : Type 0} → M ⊎ t.OptionStatement M → t.RpcElement M
to_rpc_element (inl x) = t.rpc_empty x
to_rpc_element (inr x) = t.rpc_option x

abbrev pub from_rpc_element : {M : Type 0} → t.RpcElement M → M ⊎ t.OptionStatement M
from_rpc_element (t.rpc_empty a) = inl a
from_rpc_element (t.rpc_option a) = inr a

unfoldable pub rpc_element : {M : Type 0} → Rule M (t.RpcElement M)
rpc_element = named s.rpc_element k.KeepsRpcElement to_rpc_element from_rpc_element
    (choice (just_mark s.semicolon) (sign s.semicolon) option)

abbrev pub to_rpc_end : {M : Type 0} → M ⊎ (M × (List (t.RpcElement M) × M)) → t.RpcEnd M
to_rpc_end (inl x) = t.rpc_semicolon x
to_rpc_end (inr x) = t.rpc_braces x.0 x.1.0 x.1.1

abbrev pub from_rpc_end : {M : Type 0} → t.RpcEnd M → M ⊎ (M × (List (t.RpcElement M) × M))
from_rpc_end (t.rpc_semicolon a) = inl a
from_rpc_end (t.rpc_braces a b c) = inr ((a, (b, c)))

unfoldable pub rpc_end : {M : Type 0} → Rule M (t.RpcEnd M)
rpc_end = named s.rpc_end k.KeepsRpcEnd to_rpc_end from_rpc_end
    (choice (just_mark s.semicolon) (sign s.semicolon) (seq (sign s.open_brace) (seq (times (but_mark s.close_brace) rpc_element) (sign s.close_brace))))

unfoldable pub rpc : {M : Type 0} → Rule M (t.Rpc M)
rpc = named s.rpc k.KeepsRpc (λ (keyword, (name, (input_open, (input, (input_close, (returns_at, (output_open, (output, (output_close, end))))))))). record { keyword = keyword; name = name; input_open = input_open; input = input; input_close = input_close; returns_at = returns_at; output_open = output_open; output = output; output_close = output_close; end = end }) (λ x. (x.keyword, (x.name, (x.input_open, (x.input, (x.input_close, (x.returns_at, (x.output_open, (x.output, (x.output_close, x.end))))))))))
    (seq (the (codes "rpc")) (seq ident (seq (sign s.open_paren) (seq rpc_type (seq (sign s.close_paren) (seq (the (codes "returns")) (seq (sign s.open_paren) (seq rpc_type (seq (sign s.close_paren) rpc_end)))))))))

abbrev pub to_service_element : {M : Type 0} → M ⊎ (t.OptionStatement M ⊎ t.Rpc M) → t.ServiceElement M
to_service_element (inl x) = t.service_empty x
to_service_element (inr (inl x)) = t.service_option x
to_service_element (inr (inr x)) = t.service_rpc x

abbrev pub from_service_element : {M : Type 0} → t.ServiceElement M → M ⊎ (t.OptionStatement M ⊎ t.Rpc M)
from_service_element (t.service_empty a) = inl a
from_service_element (t.service_option a) = inr (inl a)
from_service_element (t.service_rpc a) = inr (inr a)

unfoldable pub service_element : {M : Type 0} → Rule M (t.ServiceElement M)
service_element = named s.service_element k.KeepsServiceElement to_service_element from_service_element
    (choice (just_mark s.semicolon) (sign s.semicolon) (choice (just_word (codes "option")) option rpc))

unfoldable pub service : {M : Type 0} → Rule M (t.Service M)
service = named s.service k.KeepsService (λ (keyword, (name, (open_at, (elements, close_at)))). record { keyword = keyword; name = name; open_at = open_at; elements = elements; close_at = close_at }) (λ x. (x.keyword, (x.name, (x.open_at, (x.elements, x.close_at)))))
    (seq (the (codes "service")) (seq ident (seq (sign s.open_brace) (seq (times (but_mark s.close_brace) service_element) (sign s.close_brace)))))

-- The rows of a tree: one equation for each rule of the grammar. It lists the rows of the parts, in
-- order.
use Rattle.std.specs.Prelude.{ℕ, List, [], ◌∷◌, ◌++◌, Option, Some, None, codes}
use Rattle.protox_lexeme.specs.Shapes as shape
use Rattle.protox_lexeme.specs.Shapes.{Shape, Ident, Str, Mark, Rows}
use Rattle.protox_ast.specs.Tree as t

-- One list after the other, bracketed to the right.
infixr 10 ◌⌢◌
abbrev pub ◌⌢◌ : {M : Type 0} → Rows M → Rows M → Rows M
xs ⌢ ys = xs ++ ys

-- ---- single tokens, `?` and `*`

-- The bytes of the marks.
abbrev pub dot : ℕ
dot = 46

abbrev pub minus : ℕ
minus = 45

abbrev pub open_paren : ℕ
open_paren = 40

abbrev pub close_paren : ℕ
close_paren = 41

abbrev pub open_brace : ℕ
open_brace = 123

abbrev pub close_brace : ℕ
close_brace = 125

abbrev pub open_bracket : ℕ
open_bracket = 91

abbrev pub close_bracket : ℕ
close_bracket = 93

abbrev pub open_angle : ℕ
open_angle = 60

abbrev pub close_angle : ℕ
close_angle = 62

abbrev pub comma : ℕ
comma = 44

abbrev pub equals : ℕ
equals = 61

abbrev pub semicolon : ℕ
semicolon = 59

-- One token with its tag.
abbrev pub token : {M : Type 0} → Shape → M → Rows M
token s m = record { shape = s; at = m } ∷ []

-- A keyword.
abbrev pub keyword : {M : Type 0} → List ℕ → M → Rows M
keyword w m = token (Ident w) m

-- A mark.
abbrev pub sign : {M : Type 0} → ℕ → M → Rows M
sign byte m = token (Mark byte) m

-- An identifier.
abbrev pub ident : {M : Type 0} → t.Word M → Rows M
ident x = token (Ident x.0) x.1

-- An integer.
abbrev pub integer : {M : Type 0} → t.Number M → Rows M
integer x = token (shape.Int x.0) x.1

-- A float.
abbrev pub float : {M : Type 0} → t.Float M → Rows M
float x = token (shape.Float x.0) x.1

-- A string.
abbrev pub string : {M : Type 0} → t.Text M → Rows M
string x = token (Str x.0) x.1

-- `?`: nothing, or one of these.
abbrev pub maybe : {M A : Type 0} → (A → Rows M) → Option A → Rows M
maybe spell None = []
maybe spell (Some x) = spell x

-- `*`: any number of these.
abbrev pub many : {M A : Type 0} → (A → Rows M) → List A → Rows M
many spell [] = []
many spell (x ∷ xs) = spell x ⌢ many spell xs

-- A mark, and one of these after it.
abbrev pub behind : {M A : Type 0} → ℕ → (A → Rows M) → M × A → Rows M
behind mark spell x = sign mark x.0 ⌢ spell x.1

-- string+
abbrev pub strings : {M : Type 0} → t.Strings M → Rows M
strings x = string x.first ⌢ many string x.others

-- ---- rules without messages in them

abbrev pub syntax : {M : Type 0} → t.Syntax M → Rows M
syntax x = keyword (codes "syntax") x.keyword ⌢ sign equals x.equals_sign ⌢ strings x.value ⌢ sign semicolon x.end

abbrev pub import_kind : {M : Type 0} → t.ImportKind M → Rows M
import_kind (t.weak m) = keyword (codes "weak") m
import_kind (t.«public» m) = keyword (codes "public") m

abbrev pub «import» : {M : Type 0} → t.Import M → Rows M
«import» x = keyword (codes "import") x.keyword ⌢ maybe import_kind x.kind ⌢ strings x.value ⌢ sign semicolon x.end

abbrev pub fullident : {M : Type 0} → t.FullIdent M → Rows M
fullident x = ident x.first ⌢ many (behind dot ident) x.others

abbrev pub «package» : {M : Type 0} → t.Package M → Rows M
«package» x = keyword (codes "package") x.keyword ⌢ fullident x.name ⌢ sign semicolon x.end

abbrev pub typename : {M : Type 0} → t.TypeName M → Rows M
typename x = maybe (sign dot) x.leading_dot ⌢ fullident x.name

abbrev pub part : {M : Type 0} → t.Part M → Rows M
part (t.plain_part x) = ident x
part (t.extension_part o x c) = sign open_paren o ⌢ typename x ⌢ sign close_paren c

abbrev pub constant : {M : Type 0} → t.Constant M → Rows M
constant (t.ident x) = ident x
constant (t.integer x) = integer x
constant (t.float x) = float x

abbrev pub value : {M : Type 0} → t.Value M → Rows M
value (t.constant s x) = maybe (sign minus) s ⌢ constant x
value (t.strings x) = strings x
value (t.aggregate o inside c) = sign open_brace o ⌢ inside ⌢ sign close_brace c

abbrev pub body : {M : Type 0} → t.Body M → Rows M
body x = part x.first ⌢ many (behind dot part) x.others ⌢ sign equals x.equals_sign ⌢ value x.value

abbrev pub option : {M : Type 0} → t.OptionStatement M → Rows M
option x = keyword (codes "option") x.keyword ⌢ body x.body ⌢ sign semicolon x.end

abbrev pub list : {M : Type 0} → t.OptionList M → Rows M
list x = sign open_bracket x.open_at ⌢ body x.first ⌢ many (behind comma body) x.others ⌢ sign close_bracket x.close_at

abbrev pub int : {M : Type 0} → t.Int M → Rows M
int x = maybe (sign minus) x.sign ⌢ integer x.number

-- The word of a scalar type.
abbrev pub scalar_word : t.Scalar → List ℕ
scalar_word t.double = codes "double"
scalar_word t.float_type = codes "float"
scalar_word t.int32 = codes "int32"
scalar_word t.int64 = codes "int64"
scalar_word t.uint32 = codes "uint32"
scalar_word t.uint64 = codes "uint64"
scalar_word t.sint32 = codes "sint32"
scalar_word t.sint64 = codes "sint64"
scalar_word t.fixed32 = codes "fixed32"
scalar_word t.fixed64 = codes "fixed64"
scalar_word t.sfixed32 = codes "sfixed32"
scalar_word t.sfixed64 = codes "sfixed64"
scalar_word t.bool = codes "bool"
scalar_word t.string = codes "string"
scalar_word t.bytes = codes "bytes"

abbrev pub type : {M : Type 0} → t.FieldType M → Rows M
type (t.scalar s m) = keyword (scalar_word s) m
type (t.named x) = typename x

abbrev pub label : {M : Type 0} → t.Label M → Rows M
label (t.optional m) = keyword (codes "optional") m
label (t.required m) = keyword (codes "required") m
label (t.repeated m) = keyword (codes "repeated") m

abbrev pub normal : {M : Type 0} → t.Normal M → Rows M
normal x = type x.type ⌢ ident x.name ⌢ sign equals x.equals_sign ⌢ int x.number ⌢ maybe list x.options ⌢ sign semicolon x.end

abbrev pub map : {M : Type 0} → t.Map M → Rows M
map x = keyword (codes "map") x.keyword ⌢ sign open_angle x.open_at ⌢ type x.key ⌢ sign comma x.comma_at ⌢ type x.value ⌢ sign close_angle x.close_at
    ⌢ ident x.name ⌢ sign equals x.equals_sign ⌢ int x.number ⌢ maybe list x.options ⌢ sign semicolon x.end

abbrev pub range_end : {M : Type 0} → t.RangeEnd M → Rows M
range_end (t.up_to k x) = keyword (codes "to") k ⌢ int x
range_end (t.up_to_max k m) = keyword (codes "to") k ⌢ keyword (codes "max") m

abbrev pub range : {M : Type 0} → t.Range M → Rows M
range x = int x.start ⌢ maybe range_end x.stop

abbrev pub ranges : {M : Type 0} → t.Ranges M → Rows M
ranges x = range x.first ⌢ many (behind comma range) x.others

abbrev pub names : {M : Type 0} → t.Names M → Rows M
names x = strings x.first ⌢ many (behind comma strings) x.others

abbrev pub reserved_kind : {M : Type 0} → t.ReservedKind M → Rows M
reserved_kind (t.ranges x) = ranges x
reserved_kind (t.names x) = names x

abbrev pub reserved : {M : Type 0} → t.Reserved M → Rows M
reserved x = keyword (codes "reserved") x.keyword ⌢ reserved_kind x.kind ⌢ sign semicolon x.end

abbrev pub extensions : {M : Type 0} → t.Extensions M → Rows M
extensions x = keyword (codes "extensions") x.keyword ⌢ ranges x.ranges ⌢ maybe list x.options ⌢ sign semicolon x.end

abbrev pub evalue : {M : Type 0} → t.Evalue M → Rows M
evalue x = ident x.name ⌢ sign equals x.equals_sign ⌢ int x.number ⌢ maybe list x.options ⌢ sign semicolon x.end

abbrev pub enum_element : {M : Type 0} → t.EnumElement M → Rows M
enum_element (t.enum_empty m) = sign semicolon m
enum_element (t.enum_option x) = option x
enum_element (t.enum_reserved x) = reserved x
enum_element (t.enum_value x) = evalue x

abbrev pub enum : {M : Type 0} → t.Enum M → Rows M
enum x = keyword (codes "enum") x.keyword ⌢ ident x.name ⌢ sign open_brace x.open_at ⌢ many enum_element x.elements ⌢ sign close_brace x.close_at

abbrev pub rpc_type : {M : Type 0} → t.RpcType M → Rows M
rpc_type x = maybe (keyword (codes "stream")) x.stream ⌢ typename x.name

abbrev pub rpc_element : {M : Type 0} → t.RpcElement M → Rows M
rpc_element (t.rpc_empty m) = sign semicolon m
rpc_element (t.rpc_option x) = option x

abbrev pub rpc_end : {M : Type 0} → t.RpcEnd M → Rows M
rpc_end (t.rpc_semicolon m) = sign semicolon m
rpc_end (t.rpc_braces o xs c) = sign open_brace o ⌢ many rpc_element xs ⌢ sign close_brace c

abbrev pub rpc : {M : Type 0} → t.Rpc M → Rows M
rpc x = keyword (codes "rpc") x.keyword ⌢ ident x.name ⌢ sign open_paren x.input_open ⌢ rpc_type x.input ⌢ sign close_paren x.input_close
    ⌢ keyword (codes "returns") x.returns_at ⌢ sign open_paren x.output_open ⌢ rpc_type x.output ⌢ sign close_paren x.output_close ⌢ rpc_end x.end

abbrev pub service_element : {M : Type 0} → t.ServiceElement M → Rows M
service_element (t.service_empty m) = sign semicolon m
service_element (t.service_option x) = option x
service_element (t.service_rpc x) = rpc x

abbrev pub service : {M : Type 0} → t.Service M → Rows M
service x = keyword (codes "service") x.keyword ⌢ ident x.name ⌢ sign open_brace x.open_at ⌢ many service_element x.elements ⌢ sign close_brace x.close_at

-- ---- messages, and what holds them or stands in them

abbrev mutual
  pub message : {M : Type 0} → t.Message M → Rows M
  message (t.message_of k n b) = keyword (codes "message") k ⌢ ident n ⌢ mbody b

  pub mbody : {M : Type 0} → t.Mbody M → Rows M
  mbody (t.mbody_of o es c) = sign open_brace o ⌢ elements es ⌢ sign close_brace c

  pub elements : {M : Type 0} → t.Elements M → Rows M
  elements t.no_elements = []
  elements (t.elements e es) = element e ⌢ elements es

  pub element : {M : Type 0} → t.Element M → Rows M
  element (t.empty m) = sign semicolon m
  element (t.field x) = field x
  element (t.oneof x) = oneof x
  element (t.enum x) = enum x
  element (t.message x) = message x
  element (t.extend x) = extend x
  element (t.option x) = option x
  element (t.reserved x) = reserved x
  element (t.extensions x) = extensions x

  pub field : {M : Type 0} → t.Field M → Rows M
  field (t.field_of l k) = maybe label l ⌢ field_kind k

  pub field_kind : {M : Type 0} → t.FieldKind M → Rows M
  field_kind (t.normal x) = normal x
  field_kind (t.map x) = map x
  field_kind (t.group x) = group x

  pub group : {M : Type 0} → t.Group M → Rows M
  group (t.group_of k n e i l b) = keyword (codes "group") k ⌢ ident n ⌢ sign equals e ⌢ int i ⌢ maybe list l ⌢ mbody b

  pub oneof : {M : Type 0} → t.Oneof M → Rows M
  oneof (t.oneof_of k n o es c) = keyword (codes "oneof") k ⌢ ident n ⌢ sign open_brace o ⌢ oneof_elements es ⌢ sign close_brace c

  pub oneof_elements : {M : Type 0} → t.OneofElements M → Rows M
  oneof_elements t.no_oneof_elements = []
  oneof_elements (t.oneof_elements e es) = oneof_element e ⌢ oneof_elements es

  pub oneof_element : {M : Type 0} → t.OneofElement M → Rows M
  oneof_element (t.oneof_empty m) = sign semicolon m
  oneof_element (t.oneof_option x) = option x
  oneof_element (t.oneof_field x) = field x

  pub extend : {M : Type 0} → t.Extend M → Rows M
  extend (t.extend_of k n o es c) = keyword (codes "extend") k ⌢ typename n ⌢ sign open_brace o ⌢ extend_elements es ⌢ sign close_brace c

  pub extend_elements : {M : Type 0} → t.ExtendElements M → Rows M
  extend_elements t.no_extend_elements = []
  extend_elements (t.extend_elements e es) = extend_element e ⌢ extend_elements es

  pub extend_element : {M : Type 0} → t.ExtendElement M → Rows M
  extend_element (t.extend_empty m) = sign semicolon m
  extend_element (t.extend_field x) = field x

abbrev pub statement : {M : Type 0} → t.Statement M → Rows M
statement (t.an_empty m) = sign semicolon m
statement (t.an_import x) = «import» x
statement (t.a_package x) = «package» x
statement (t.an_option x) = option x
statement (t.an_extend x) = extend x
statement (t.a_message x) = message x
statement (t.an_enum x) = enum x
statement (t.a_service x) = service x

-- The rows of a file.
abbrev pub spell : {M : Type 0} → t.File M → Rows M
spell x = maybe syntax x.syntax ⌢ many statement x.statements

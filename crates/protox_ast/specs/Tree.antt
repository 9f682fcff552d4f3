-- A file as data. Each rule of the grammar has a type, with a field for each part of the rule, in
-- order. Each token has a tag M: its place, its number or nothing. A rule stands after the rules
-- that it names. The grammar is that of the Protocol Buffers language specifications of proto2 and
-- proto3, in one. Nothing is dropped: each string of a run, each token of an aggregate and each
-- empty statement is kept.
use Rattle.std.specs.Prelude.{ℕ, List, Option}
use Rattle.protox_lexeme.specs.Shapes.{Rows}

-- ---- tokens that have a value

-- ident: an identifier, which may be any word
abbrev pub Word : Type 0 → Type 0
Word M = List ℕ × M

-- integer
abbrev pub Number : Type 0 → Type 0
Number M = ℕ × M

-- float: its text
abbrev pub Float : Type 0 → Type 0
Float M = List ℕ × M

-- string: its value
abbrev pub Text : Type 0 → Type 0
Text M = List ℕ × M

-- string+
pub record Strings (M : Type 0) : Type 0 where
  pub first : Text M
  pub others : List (Text M)

-- ---- syntax, imports, packages and names

-- syntax = "syntax" "=" string+ ";"
pub record Syntax (M : Type 0) : Type 0 where
  pub keyword : M
  pub equals_sign : M
  pub value : Strings M
  pub end : M

-- "weak" | "public"
pub data ImportKind (M : Type 0) : Type 0 where
  weak : M → ImportKind M
  «public» : M → ImportKind M

-- import = "import" ("weak" | "public")? string+ ";"
pub record Import (M : Type 0) : Type 0 where
  pub keyword : M
  pub kind : Option (ImportKind M)
  pub value : Strings M
  pub end : M

-- fullident = ident ("." ident)*
pub record FullIdent (M : Type 0) : Type 0 where
  pub first : Word M
  pub others : List (M × Word M)

-- package = "package" fullident ";"
pub record Package (M : Type 0) : Type 0 where
  pub keyword : M
  pub name : FullIdent M
  pub end : M

-- typename = "."? fullident
pub record TypeName (M : Type 0) : Type 0 where
  pub leading_dot : Option M
  pub name : FullIdent M

-- ---- options

-- part = ident | "(" typename ")"
pub data Part (M : Type 0) : Type 0 where
  plain_part : Word M → Part M
  extension_part : (open_at : M) (name : TypeName M) (close_at : M) → Part M

-- ident | integer | float
pub data Constant (M : Type 0) : Type 0 where
  ident : Word M → Constant M
  integer : Number M → Constant M
  float : Float M → Constant M

-- balanced = any tokens whose braces match
abbrev pub Balanced : Type 0 → Type 0
Balanced M = Rows M

-- value = "-"? (ident | integer | float) | string+ | "{" balanced "}"
pub data Value (M : Type 0) : Type 0 where
  constant : (sign : Option M) (value : Constant M) → Value M
  strings : Strings M → Value M
  aggregate : (open_at : M) (inside : Balanced M) (close_at : M) → Value M

-- body = part ("." part)* "=" value
pub record Body (M : Type 0) : Type 0 where
  pub first : Part M
  pub others : List (M × Part M)
  pub equals_sign : M
  pub value : Value M

-- option = "option" body ";"
pub record OptionStatement (M : Type 0) : Type 0 where
  pub keyword : M
  pub body : Body M
  pub end : M

-- list = "[" body ("," body)* "]"
pub record OptionList (M : Type 0) : Type 0 where
  pub open_at : M
  pub first : Body M
  pub others : List (M × Body M)
  pub close_at : M

-- ---- numbers, types and labels

-- int = "-"? integer
pub record Int (M : Type 0) : Type 0 where
  pub sign : Option M
  pub number : Number M

-- one of the 15 scalar words
pub data Scalar : Type 0 where
  double float_type int32 int64 uint32 uint64 sint32 sint64 fixed32 fixed64 sfixed32 sfixed64 bool string bytes : Scalar

-- type = one of the 15 scalar words | typename
pub data FieldType (M : Type 0) : Type 0 where
  scalar : Scalar → M → FieldType M
  named : TypeName M → FieldType M

-- "optional" | "required" | "repeated"
pub data Label (M : Type 0) : Type 0 where
  optional required repeated : M → Label M

-- ---- fields that hold no body

-- normal = type ident "=" int list? ";"
pub record Normal (M : Type 0) : Type 0 where
  pub type : FieldType M
  pub name : Word M
  pub equals_sign : M
  pub number : Int M
  pub options : Option (OptionList M)
  pub end : M

-- map = "map" "<" type "," type ">" ident "=" int list? ";"
pub record Map (M : Type 0) : Type 0 where
  pub keyword : M
  pub open_at : M
  pub key : FieldType M
  pub comma_at : M
  pub value : FieldType M
  pub close_at : M
  pub name : Word M
  pub equals_sign : M
  pub number : Int M
  pub options : Option (OptionList M)
  pub end : M

-- ---- ranges and reserved names

-- "to" (int | "max")
pub data RangeEnd (M : Type 0) : Type 0 where
  up_to : (to_at : M) (last : Int M) → RangeEnd M
  up_to_max : (to_at : M) (max_at : M) → RangeEnd M

-- range = int ("to" (int | "max"))?
pub record Range (M : Type 0) : Type 0 where
  pub start : Int M
  pub stop : Option (RangeEnd M)

-- range ("," range)*
pub record Ranges (M : Type 0) : Type 0 where
  pub first : Range M
  pub others : List (M × Range M)

-- string+ ("," string+)*
pub record Names (M : Type 0) : Type 0 where
  pub first : Strings M
  pub others : List (M × Strings M)

-- range ("," range)* | string+ ("," string+)*
pub data ReservedKind (M : Type 0) : Type 0 where
  ranges : Ranges M → ReservedKind M
  names : Names M → ReservedKind M

-- reserved = "reserved" (range ("," range)* | string+ ("," string+)*) ";"
pub record Reserved (M : Type 0) : Type 0 where
  pub keyword : M
  pub kind : ReservedKind M
  pub end : M

-- extensions = "extensions" range ("," range)* list? ";"
pub record Extensions (M : Type 0) : Type 0 where
  pub keyword : M
  pub ranges : Ranges M
  pub options : Option (OptionList M)
  pub end : M

-- ---- enums

-- evalue = ident "=" int list? ";"
pub record Evalue (M : Type 0) : Type 0 where
  pub name : Word M
  pub equals_sign : M
  pub number : Int M
  pub options : Option (OptionList M)
  pub end : M

-- ";" | option | reserved | evalue
pub data EnumElement (M : Type 0) : Type 0 where
  enum_empty : M → EnumElement M
  enum_option : OptionStatement M → EnumElement M
  enum_reserved : Reserved M → EnumElement M
  enum_value : Evalue M → EnumElement M

-- enum = "enum" ident "{" (";" | option | reserved | evalue)* "}"
pub record Enum (M : Type 0) : Type 0 where
  pub keyword : M
  pub name : Word M
  pub open_at : M
  pub elements : List (EnumElement M)
  pub close_at : M

-- ---- services

-- "stream"? typename
pub record RpcType (M : Type 0) : Type 0 where
  pub stream : Option M
  pub name : TypeName M

-- ";" | option
pub data RpcElement (M : Type 0) : Type 0 where
  rpc_empty : M → RpcElement M
  rpc_option : OptionStatement M → RpcElement M

-- ";" | "{" (";" | option)* "}"
pub data RpcEnd (M : Type 0) : Type 0 where
  rpc_semicolon : M → RpcEnd M
  rpc_braces : (open_at : M) (elements : List (RpcElement M)) (close_at : M) → RpcEnd M

-- rpc = "rpc" ident "(" "stream"? typename ")" "returns" "(" "stream"? typename ")"
--       (";" | "{" (";" | option)* "}")
pub record Rpc (M : Type 0) : Type 0 where
  pub keyword : M
  pub name : Word M
  pub input_open : M
  pub input : RpcType M
  pub input_close : M
  pub returns_at : M
  pub output_open : M
  pub output : RpcType M
  pub output_close : M
  pub end : RpcEnd M

-- ";" | option | rpc
pub data ServiceElement (M : Type 0) : Type 0 where
  service_empty : M → ServiceElement M
  service_option : OptionStatement M → ServiceElement M
  service_rpc : Rpc M → ServiceElement M

-- service = "service" ident "{" (";" | option | rpc)* "}"
pub record Service (M : Type 0) : Type 0 where
  pub keyword : M
  pub name : Word M
  pub open_at : M
  pub elements : List (ServiceElement M)
  pub close_at : M

-- ---- messages, and what holds them or stands in them

mutual
  -- message = "message" ident mbody
  pub data Message (M : Type 0) : Type 0 where
    message_of : (keyword : M) (name : Word M) (body : Mbody M) → Message M

  -- mbody = "{" (";" | field | oneof | enum | message | extend | option | reserved
  --       | extensions)* "}"
  pub data Mbody (M : Type 0) : Type 0 where
    mbody_of : (open_at : M) (inside : Elements M) (close_at : M) → Mbody M

  -- the elements of a message body, in order
  pub data Elements (M : Type 0) : Type 0 where
    no_elements : Elements M
    elements : Element M → Elements M → Elements M

  -- ";" | field | oneof | enum | message | extend | option | reserved | extensions
  pub data Element (M : Type 0) : Type 0 where
    empty : M → Element M
    field : Field M → Element M
    oneof : Oneof M → Element M
    enum : Enum M → Element M
    message : Message M → Element M
    extend : Extend M → Element M
    option : OptionStatement M → Element M
    reserved : Reserved M → Element M
    extensions : Extensions M → Element M

  -- field = ("optional" | "required" | "repeated")? (normal | map | group)
  pub data Field (M : Type 0) : Type 0 where
    field_of : (label : Option (Label M)) (kind : FieldKind M) → Field M

  -- normal | map | group
  pub data FieldKind (M : Type 0) : Type 0 where
    normal : Normal M → FieldKind M
    map : Map M → FieldKind M
    group : Group M → FieldKind M

  -- group = "group" ident "=" int list? mbody
  pub data Group (M : Type 0) : Type 0 where
    group_of : (keyword : M) (name : Word M) (equals_sign : M) (number : Int M) (options : Option (OptionList M)) (body : Mbody M) → Group M

  -- oneof = "oneof" ident "{" (";" | option | field)* "}"
  pub data Oneof (M : Type 0) : Type 0 where
    oneof_of : (keyword : M) (name : Word M) (open_at : M) (inside : OneofElements M) (close_at : M) → Oneof M

  -- the elements of a oneof body, in order
  pub data OneofElements (M : Type 0) : Type 0 where
    no_oneof_elements : OneofElements M
    oneof_elements : OneofElement M → OneofElements M → OneofElements M

  -- ";" | option | field
  pub data OneofElement (M : Type 0) : Type 0 where
    oneof_empty : M → OneofElement M
    oneof_option : OptionStatement M → OneofElement M
    oneof_field : Field M → OneofElement M

  -- extend = "extend" typename "{" (";" | field)* "}"
  pub data Extend (M : Type 0) : Type 0 where
    extend_of : (keyword : M) (extendee : TypeName M) (open_at : M) (inside : ExtendElements M) (close_at : M) → Extend M

  -- the elements of an extend body, in order
  pub data ExtendElements (M : Type 0) : Type 0 where
    no_extend_elements : ExtendElements M
    extend_elements : ExtendElement M → ExtendElements M → ExtendElements M

  -- ";" | field
  pub data ExtendElement (M : Type 0) : Type 0 where
    extend_empty : M → ExtendElement M
    extend_field : Field M → ExtendElement M

-- ---- files

-- statement = ";" | import | package | option | extend | message | enum | service
pub data Statement (M : Type 0) : Type 0 where
  an_empty : M → Statement M
  an_import : Import M → Statement M
  a_package : Package M → Statement M
  an_option : OptionStatement M → Statement M
  an_extend : Extend M → Statement M
  a_message : Message M → Statement M
  an_enum : Enum M → Statement M
  a_service : Service M → Statement M

-- file = syntax? statement*
pub record File (M : Type 0) : Type 0 where
  pub syntax : Option (Syntax M)
  pub statements : List (Statement M)

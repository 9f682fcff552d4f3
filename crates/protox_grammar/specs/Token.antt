-- The classes of tokens by name: each keyword, any other word, the kinds of literals, each mark,
-- and what is no token.
use Rattle.std.specs.Prelude.{ℕ}

abbrev pub syntax : ℕ
syntax = 0

abbrev pub «package» : ℕ
«package» = 1

abbrev pub «import» : ℕ
«import» = 2

abbrev pub weak : ℕ
weak = 3

abbrev pub «public» : ℕ
«public» = 4

abbrev pub enum : ℕ
enum = 5

abbrev pub option : ℕ
option = 6

abbrev pub service : ℕ
service = 7

abbrev pub rpc : ℕ
rpc = 8

abbrev pub stream : ℕ
stream = 9

abbrev pub returns : ℕ
returns = 10

abbrev pub extend : ℕ
extend = 11

abbrev pub message : ℕ
message = 12

abbrev pub optional : ℕ
optional = 13

abbrev pub required : ℕ
required = 14

abbrev pub repeated : ℕ
repeated = 15

abbrev pub map : ℕ
map = 16

abbrev pub oneof : ℕ
oneof = 17

abbrev pub group : ℕ
group = 18

abbrev pub double : ℕ
double = 19

abbrev pub float : ℕ
float = 20

abbrev pub int32 : ℕ
int32 = 21

abbrev pub int64 : ℕ
int64 = 22

abbrev pub uint32 : ℕ
uint32 = 23

abbrev pub uint64 : ℕ
uint64 = 24

abbrev pub sint32 : ℕ
sint32 = 25

abbrev pub sint64 : ℕ
sint64 = 26

abbrev pub fixed32 : ℕ
fixed32 = 27

abbrev pub fixed64 : ℕ
fixed64 = 28

abbrev pub sfixed32 : ℕ
sfixed32 = 29

abbrev pub sfixed64 : ℕ
sfixed64 = 30

abbrev pub bool : ℕ
bool = 31

abbrev pub string : ℕ
string = 32

abbrev pub bytes : ℕ
bytes = 33

abbrev pub reserved : ℕ
reserved = 34

abbrev pub extensions : ℕ
extensions = 35

abbrev pub to : ℕ
to = 36

abbrev pub max : ℕ
max = 37

abbrev pub another_word : ℕ
another_word = 38

abbrev pub an_integer : ℕ
an_integer = 39

abbrev pub a_float : ℕ
a_float = 40

abbrev pub a_string : ℕ
a_string = 41

abbrev pub dot : ℕ
dot = 42

abbrev pub minus : ℕ
minus = 43

abbrev pub plus : ℕ
plus = 44

abbrev pub open_paren : ℕ
open_paren = 45

abbrev pub close_paren : ℕ
close_paren = 46

abbrev pub open_brace : ℕ
open_brace = 47

abbrev pub close_brace : ℕ
close_brace = 48

abbrev pub open_bracket : ℕ
open_bracket = 49

abbrev pub close_bracket : ℕ
close_bracket = 50

abbrev pub open_angle : ℕ
open_angle = 51

abbrev pub close_angle : ℕ
close_angle = 52

abbrev pub comma : ℕ
comma = 53

abbrev pub equals : ℕ
equals = 54

abbrev pub colon : ℕ
colon = 55

abbrev pub semicolon : ℕ
semicolon = 56

abbrev pub slash : ℕ
slash = 57

abbrev pub another_mark : ℕ
another_mark = 58

abbrev pub no_token : ℕ
no_token = 59

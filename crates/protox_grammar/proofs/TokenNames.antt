-- The named classes are those of the keywords and the marks.
use Rattle.std.proofs.Common.{◌≡◌, refl, codes}
use Rattle.protox_grammar.specs.Class.{word, mark}
use Rattle.protox_grammar.specs.Class as class
use Rattle.protox_grammar.specs.Token as token

syntax-word : token.syntax ≡ word (codes "syntax")
syntax-word = refl

package-word : token.«package» ≡ word (codes "package")
package-word = refl

import-word : token.«import» ≡ word (codes "import")
import-word = refl

weak-word : token.weak ≡ word (codes "weak")
weak-word = refl

public-word : token.«public» ≡ word (codes "public")
public-word = refl

enum-word : token.enum ≡ word (codes "enum")
enum-word = refl

option-word : token.option ≡ word (codes "option")
option-word = refl

service-word : token.service ≡ word (codes "service")
service-word = refl

rpc-word : token.rpc ≡ word (codes "rpc")
rpc-word = refl

stream-word : token.stream ≡ word (codes "stream")
stream-word = refl

returns-word : token.returns ≡ word (codes "returns")
returns-word = refl

extend-word : token.extend ≡ word (codes "extend")
extend-word = refl

message-word : token.message ≡ word (codes "message")
message-word = refl

optional-word : token.optional ≡ word (codes "optional")
optional-word = refl

required-word : token.required ≡ word (codes "required")
required-word = refl

repeated-word : token.repeated ≡ word (codes "repeated")
repeated-word = refl

map-word : token.map ≡ word (codes "map")
map-word = refl

oneof-word : token.oneof ≡ word (codes "oneof")
oneof-word = refl

group-word : token.group ≡ word (codes "group")
group-word = refl

double-word : token.double ≡ word (codes "double")
double-word = refl

float-word : token.float ≡ word (codes "float")
float-word = refl

int32-word : token.int32 ≡ word (codes "int32")
int32-word = refl

int64-word : token.int64 ≡ word (codes "int64")
int64-word = refl

uint32-word : token.uint32 ≡ word (codes "uint32")
uint32-word = refl

uint64-word : token.uint64 ≡ word (codes "uint64")
uint64-word = refl

sint32-word : token.sint32 ≡ word (codes "sint32")
sint32-word = refl

sint64-word : token.sint64 ≡ word (codes "sint64")
sint64-word = refl

fixed32-word : token.fixed32 ≡ word (codes "fixed32")
fixed32-word = refl

fixed64-word : token.fixed64 ≡ word (codes "fixed64")
fixed64-word = refl

sfixed32-word : token.sfixed32 ≡ word (codes "sfixed32")
sfixed32-word = refl

sfixed64-word : token.sfixed64 ≡ word (codes "sfixed64")
sfixed64-word = refl

bool-word : token.bool ≡ word (codes "bool")
bool-word = refl

string-word : token.string ≡ word (codes "string")
string-word = refl

bytes-word : token.bytes ≡ word (codes "bytes")
bytes-word = refl

reserved-word : token.reserved ≡ word (codes "reserved")
reserved-word = refl

extensions-word : token.extensions ≡ word (codes "extensions")
extensions-word = refl

to-word : token.to ≡ word (codes "to")
to-word = refl

max-word : token.max ≡ word (codes "max")
max-word = refl

an_integer-kind : token.an_integer ≡ class.an_integer
an_integer-kind = refl

a_float-kind : token.a_float ≡ class.a_float
a_float-kind = refl

a_string-kind : token.a_string ≡ class.a_string
a_string-kind = refl

no_token-kind : token.no_token ≡ class.no_token
no_token-kind = refl

dot-mark : token.dot ≡ mark 46
dot-mark = refl

minus-mark : token.minus ≡ mark 45
minus-mark = refl

plus-mark : token.plus ≡ mark 43
plus-mark = refl

open_paren-mark : token.open_paren ≡ mark 40
open_paren-mark = refl

close_paren-mark : token.close_paren ≡ mark 41
close_paren-mark = refl

open_brace-mark : token.open_brace ≡ mark 123
open_brace-mark = refl

close_brace-mark : token.close_brace ≡ mark 125
close_brace-mark = refl

open_bracket-mark : token.open_bracket ≡ mark 91
open_bracket-mark = refl

close_bracket-mark : token.close_bracket ≡ mark 93
close_bracket-mark = refl

open_angle-mark : token.open_angle ≡ mark 60
open_angle-mark = refl

close_angle-mark : token.close_angle ≡ mark 62
close_angle-mark = refl

comma-mark : token.comma ≡ mark 44
comma-mark = refl

equals-mark : token.equals ≡ mark 61
equals-mark = refl

colon-mark : token.colon ≡ mark 58
colon-mark = refl

semicolon-mark : token.semicolon ≡ mark 59
semicolon-mark = refl

slash-mark : token.slash ≡ mark 47
slash-mark = refl

-- The names that descriptor.proto gives the numbers of labels and types.
use Rattle.std.specs.Prelude.{ℕ, ℤ, pos, List, codes, if◌then◌else◌}
use Rattle.std.specs.Ordering.{int_eq}

unfoldable pub label_name : ℤ → List ℕ
label_name n =
    if int_eq n (pos 1) then codes "LABEL_OPTIONAL"
    else if int_eq n (pos 2) then codes "LABEL_REQUIRED"
    else if int_eq n (pos 3) then codes "LABEL_REPEATED"
    else codes "none"

unfoldable pub type_name : ℤ → List ℕ
type_name n =
    if int_eq n (pos 1) then codes "TYPE_DOUBLE"
    else if int_eq n (pos 2) then codes "TYPE_FLOAT"
    else if int_eq n (pos 3) then codes "TYPE_INT64"
    else if int_eq n (pos 4) then codes "TYPE_UINT64"
    else if int_eq n (pos 5) then codes "TYPE_INT32"
    else if int_eq n (pos 6) then codes "TYPE_FIXED64"
    else if int_eq n (pos 7) then codes "TYPE_FIXED32"
    else if int_eq n (pos 8) then codes "TYPE_BOOL"
    else if int_eq n (pos 9) then codes "TYPE_STRING"
    else if int_eq n (pos 10) then codes "TYPE_GROUP"
    else if int_eq n (pos 11) then codes "TYPE_MESSAGE"
    else if int_eq n (pos 12) then codes "TYPE_BYTES"
    else if int_eq n (pos 13) then codes "TYPE_UINT32"
    else if int_eq n (pos 14) then codes "TYPE_ENUM"
    else if int_eq n (pos 15) then codes "TYPE_SFIXED32"
    else if int_eq n (pos 16) then codes "TYPE_SFIXED64"
    else if int_eq n (pos 17) then codes "TYPE_SINT32"
    else if int_eq n (pos 18) then codes "TYPE_SINT64"
    else codes "none"

-- Where the path of a fault leads: into the innermost message, enum or service on its way.
use Rattle.std.specs.Prelude.{ℕ, ℤ, pos, negsuc, List, [], ◌∷◌, Option, Some, None, slice_get, string_bytes, if◌then◌else◌}
use Rattle.std.specs.Option.{unwrap_or}
use Rattle.std.specs.Ordering.{int_eq}
use Rattle.protox_descriptor.specs.declared.descriptor.DescriptorProto.{DescriptorProto, out-DescriptorProto}
use Rattle.protox_descriptor.specs.declared.descriptor.EnumDescriptorProto.{EnumDescriptorProto}
use Rattle.protox_descriptor.specs.declared.descriptor.FileDescriptorProto.{FileDescriptorProto}
use Rattle.protox_descriptor.specs.declared.descriptor.ServiceDescriptorProto.{ServiceDescriptorProto}
use Rattle.protox_descriptor.specs.declared.tag.file.TheConstants as file_tag
use Rattle.protox_descriptor.specs.declared.tag.message.TheConstants as message_tag
use Rattle.protox_link_text.specs.declared.place.Inside.{Inside}
use Rattle.protox_link_text.specs.declared.place.Inside.TheVariants as inside
use Rattle.protox_link_text.specs.declared.place.Place.{Place as Reached}
use Rattle.protox_names.specs.Names.{within}

-- the text of a name; the empty one where the name is not set
abbrev pub text_of : Option (List ℕ) → List ℕ
text_of name = unwrap_or name []

-- The innermost of these on the way.
pub data Holder : Type 0 where
  OfFile : FileDescriptorProto → Holder
  OfMessage : DescriptorProto → Holder
  OfEnum : EnumDescriptorProto → Holder
  OfService : ServiceDescriptorProto → Holder

-- It, the scope of the names that stand in it, and what is left of the path.
pub record Place : Type 0 where
  pub scope : List ℕ
  pub holder : Holder
  pub rest : List ℤ

-- the part with an index, if there is one
abbrev pub at_index : {A : Type 0} → List A → ℤ → Option A
at_index parts (pos n) = slice_get parts n
at_index parts (negsuc n) = None

-- Into a message: it is the scope of what is in it.
abbrev pub into_message : List ℕ → List ℤ → Option DescriptorProto → Option Place
into_message scope rest None = None
into_message scope rest (Some m) = Some (record { scope = within scope (text_of (out-DescriptorProto m).name); holder = OfMessage m; rest = rest })

-- Into an enum: its values stand beside it.
abbrev pub into_enum : List ℕ → List ℤ → Option EnumDescriptorProto → Option Place
into_enum scope rest None = None
into_enum scope rest (Some e) = Some (record { scope = scope; holder = OfEnum e; rest = rest })

abbrev pub into_service : List ℕ → List ℤ → Option ServiceDescriptorProto → Option Place
into_service scope rest None = None
into_service scope rest (Some s) = Some (record { scope = within scope (text_of s.name); holder = OfService s; rest = rest })

-- One step of a path.
abbrev pub step : List ℕ → Holder → ℤ → ℤ → List ℤ → Option Place
step scope (OfFile f) tag n rest =
    if int_eq tag file_tag.MESSAGE_TYPE then into_message scope rest (at_index f.message_type n)
    else if int_eq tag file_tag.ENUM_TYPE then into_enum scope rest (at_index f.enum_type n)
    else if int_eq tag file_tag.SERVICE then into_service scope rest (at_index f.service n)
    else None
step scope (OfMessage m) tag n rest =
    if int_eq tag message_tag.NESTED_TYPE then into_message scope rest (at_index (out-DescriptorProto m).nested_type n)
    else if int_eq tag message_tag.ENUM_TYPE then into_enum scope rest (at_index (out-DescriptorProto m).enum_type n)
    else None
step scope (OfEnum e) tag n rest = None
step scope (OfService s) tag n rest = None

-- The place behind the next step. None where the path ends, or leads into nothing more.
abbrev pub next : List ℕ → Holder → List ℤ → Option Place
next scope holder [] = None
next scope holder (tag ∷ []) = None
next scope holder (tag ∷ n ∷ rest) = step scope holder tag n rest

-- A path is followed as long as it leads into something.
abbrev pub place_from : List ℕ → Holder → List ℤ → Place
place_from scope holder [] = record { scope = scope; holder = holder; rest = [] }
place_from scope holder (tag ∷ []) = record { scope = scope; holder = holder; rest = tag ∷ [] }
place_from scope holder (tag ∷ n ∷ rest) = elim (step scope holder tag n rest) as (λ _. Place) [
  | None ↦ record { scope = scope; holder = holder; rest = tag ∷ n ∷ rest }
  | Some place ↦ place_from place.scope place.holder rest
]

-- where the path of a part of a file leads
abbrev pub place_of : FileDescriptorProto → List ℤ → Place
place_of file path = place_from (text_of file.«package») (OfFile file) path

-- what the code has of a holder
abbrev pub holder_of : Inside → Holder
holder_of (inside.File file) = OfFile file.now
holder_of (inside.Message message) = OfMessage message.now
holder_of (inside.Enum enum) = OfEnum enum.now
holder_of (inside.Service service) = OfService service.now

abbrev pub seen : Reached → Place
seen place = record { scope = string_bytes place.scope; holder = holder_of place.inside; rest = place.rest.now }

-- The paths of the names in messages, and files that have a location at each, and that haven't.
use Rattle.std.proofs.Common.{◌≡◌, Bool, true, List, [], ◌∷◌, map, Option, Some, None, refl, arith, codes}
use Rattle.std.specs.Prelude.{pos}
use Rattle.protox_descriptor.specs.declared.descriptor.DescriptorProto.TheOpen.{DescriptorProto-F}
use Rattle.protox_descriptor.specs.declared.descriptor.FileDescriptorProto.{FileDescriptorProto}
use Rattle.protox_descriptor.specs.declared.descriptor.source_code_info.Location.{Location}
use Rattle.protox_generate.proofs.samples.ExamplesNames.{an_enum}
use Rattle.protox_generate.proofs.samples.Written.{made_oneof, no_field}
use Rattle.protox_generate.specs.NamePaths.{HasPlaces, name_paths, paths_step}
use Rattle.protox_locate.specs.LocationWords.{Path}

abbrev entry : Option Bool → DescriptorProto-F (List Path)
entry flag = record {
  name = Some (codes "MEntry");
  field = record no_field { name = Some (codes "key") } ∷ record no_field { name = Some (codes "value") } ∷ [];
  extension = [];
  nested_type = [];
  enum_type = [];
  extension_range = [];
  oneof_decl = [];
  options = Some (record { map_entry = flag; uninterpreted_option = [] });
  reserved_range = [];
  reserved_name = [];
}

-- the entry of a map, and a message like it that is written
of-entry : paths_step (entry (Some true)) ≡ []
of-entry = refl

of-written : paths_step (entry None) ≡ (pos 1 ∷ []) ∷ (pos 2 ∷ pos 0 ∷ pos 1 ∷ []) ∷ (pos 2 ∷ pos 1 ∷ pos 1 ∷ []) ∷ []
of-written = refl

-- `message M { optional int32 a = 1; map<int32, int32> m = 2; message N { } oneof o { int32 c = 3; } enum E { V = 0; } extend X { optional int32 d = 4; } }`
-- in proto3, with the oneof `_a` behind the oneof `o`
abbrev message : DescriptorProto-F (List Path)
message = record {
  name = Some (codes "M");
  field =
      record no_field { name = Some (codes "a"); oneof_index = Some (pos 1); proto3_optional = Some true }
      ∷ record no_field { name = Some (codes "m") }
      ∷ record no_field { name = Some (codes "c"); oneof_index = Some (pos 0) }
      ∷ [];
  extension = record no_field { name = Some (codes "d") } ∷ [];
  nested_type = paths_step (entry (Some true)) ∷ ((pos 1 ∷ []) ∷ []) ∷ [];
  enum_type = an_enum ∷ [];
  extension_range = [];
  oneof_decl = made_oneof "o" ∷ made_oneof "_a" ∷ [];
  options = None;
  reserved_range = [];
  reserved_name = [];
}

of-message : paths_step message ≡
    (pos 1 ∷ [])
    ∷ (pos 2 ∷ pos 0 ∷ pos 1 ∷ [])
    ∷ (pos 2 ∷ pos 1 ∷ pos 1 ∷ [])
    ∷ (pos 2 ∷ pos 2 ∷ pos 1 ∷ [])
    ∷ (pos 3 ∷ pos 1 ∷ pos 1 ∷ [])
    ∷ (pos 4 ∷ pos 0 ∷ pos 1 ∷ [])
    ∷ (pos 4 ∷ pos 0 ∷ pos 2 ∷ pos 0 ∷ pos 1 ∷ [])
    ∷ (pos 6 ∷ pos 0 ∷ pos 1 ∷ [])
    ∷ (pos 8 ∷ pos 0 ∷ pos 1 ∷ [])
    ∷ []
of-message = refl

-- ---- `enum E { V = 0; }`, with locations at these paths

abbrev location : Path → Location
location path = record { path = path; span = []; leading_comments = None; trailing_comments = None; leading_detached_comments = [] }

abbrev file : List Path → FileDescriptorProto
file paths = record {
  name = Some (codes "a.proto");
  «package» = None;
  dependency = [];
  public_dependency = [];
  weak_dependency = [];
  message_type = [];
  enum_type = an_enum ∷ [];
  service = [];
  extension = [];
  options = None;
  source_code_info = Some (record { location = map location paths });
  syntax = None;
}

of-file : name_paths (file []) ≡ (pos 5 ∷ pos 0 ∷ pos 1 ∷ []) ∷ (pos 5 ∷ pos 0 ∷ pos 2 ∷ pos 0 ∷ pos 1 ∷ []) ∷ []
of-file = refl

whole : HasPlaces (file ([]
    ∷ (pos 5 ∷ pos 0 ∷ [])
    ∷ (pos 5 ∷ pos 0 ∷ pos 1 ∷ [])
    ∷ (pos 5 ∷ pos 0 ∷ pos 2 ∷ pos 0 ∷ [])
    ∷ (pos 5 ∷ pos 0 ∷ pos 2 ∷ pos 0 ∷ pos 1 ∷ [])
    ∷ (pos 5 ∷ pos 0 ∷ pos 2 ∷ pos 0 ∷ pos 2 ∷ [])
    ∷ []))
whole = (refl, (refl, tt))

-- The name of the value has no location.
lacking : HasPlaces (file ((pos 5 ∷ pos 0 ∷ pos 1 ∷ []) ∷ (pos 5 ∷ pos 0 ∷ pos 2 ∷ pos 0 ∷ []) ∷ [])) → ⊥
lacking h = omega (arith, h.1.0)

-- It has two.
twice : HasPlaces (file ((pos 5 ∷ pos 0 ∷ pos 1 ∷ []) ∷ (pos 5 ∷ pos 0 ∷ pos 2 ∷ pos 0 ∷ pos 1 ∷ []) ∷ (pos 5 ∷ pos 0 ∷ pos 2 ∷ pos 0 ∷ pos 1 ∷ []) ∷ [])) → ⊥
twice h = omega (arith, h.1.0)

-- There are no locations at all.
none : HasPlaces (record (file []) { source_code_info = None }) → ⊥
none h = h

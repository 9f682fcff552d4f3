-- The order of a message's oneofs: those that are written (real) come first. Behind them comes one
-- for each field that is `proto3_optional` (synthetic).
use Rattle.std.specs.Prelude.{◌≡◌, ◌<◌, ℕ, ◌+◌, Bool, true, false, List, [], ◌∷◌, length, Option, Some, None, ℤ, pos}
use Rattle.std.specs.List.{flat_map}
use Rattle.protox_ast.specs.Basics.{Each}
use Rattle.protox_describe.specs.Siblings.{Given}
use Rattle.protox_descriptor.specs.declared.descriptor.DescriptorProto.{DescriptorProto}
use Rattle.protox_descriptor.specs.declared.descriptor.DescriptorProto.TheFolds.{fold-DescriptorProto}
use Rattle.protox_descriptor.specs.declared.descriptor.DescriptorProto.TheOpen.{DescriptorProto-F}
use Rattle.protox_descriptor.specs.FieldDescriptorProto.{FieldDescriptorProto}
use Rattle.protox_descriptor.specs.declared.descriptor.FileDescriptorProto.{FileDescriptorProto}
use Rattle.protox_descriptor.specs.declared.descriptor.OneofDescriptorProto.{OneofDescriptorProto}

-- the fields, extensions and oneofs of one message, without its nested messages
pub record Own : Type 0 where
  pub fields : List FieldDescriptorProto
  pub extensions : List FieldDescriptorProto
  pub oneofs : List OneofDescriptorProto

-- the lists of a message and of its nested messages, given the lists of each nested one
abbrev pub own_step : DescriptorProto-F (List Own) → List Own
own_step m = record { fields = m.field; extensions = m.extension; oneofs = m.oneof_decl } ∷ flat_map (λ inner. inner) m.nested_type

-- the lists of a message and of each message in it, at every depth
abbrev pub each_own : DescriptorProto → List Own
each_own = fold-DescriptorProto (List Own) own_step

-- The field is `proto3_optional`.
abbrev pub is_optional : Option Bool → Bool
is_optional None = false
is_optional (Some optional) = optional

-- The index is 0 or more and below n.
abbrev pub IsBelow : ℕ → ℤ → Type 0
IsBelow n index = (k : ℕ) × (index ≡ pos k) × (k < n)

-- The first `real` oneofs are real, `next` is the index of the next synthetic one, and `all` is
-- their number in all. Each `proto3_optional` field takes the next synthetic one. Any other field
-- is in none or in a real one. Behind the last field no synthetic one is left.
abbrev pub AreIndexed : ℕ → ℕ → ℕ → List FieldDescriptorProto → Type 0
AreIndexed real next all [] = next ≡ all
AreIndexed real next all (field ∷ more) =
    elim (is_optional field.proto3_optional) as (λ _. Type 0) [
      | true ↦ (field.oneof_index ≡ Some (pos next)) × AreIndexed real (next + 1) all more
      | false ↦ Given (IsBelow real) field.oneof_index × AreIndexed real next all more
    ]

-- No field has the index of a oneof.
abbrev pub AreInNone : List FieldDescriptorProto → Type 0
AreInNone fields = Each (λ (field : FieldDescriptorProto). field.oneof_index ≡ None) fields

-- Each field's index, if it has one, is below the number of oneofs. The real oneofs come first, and
-- the others are synthetic. Extensions are in no oneof.
pub record RealFirst (own : Own) : Type 0 where
  pub below : Each (λ (field : FieldDescriptorProto). Given (IsBelow (length own.oneofs)) field.oneof_index) own.fields
  pub real : ℕ
  pub indexed : AreIndexed real real (length own.oneofs) own.fields
  pub apart : AreInNone own.extensions

-- This holds for each message of a file, at every depth. The file's own extensions are in no oneof.
abbrev pub HasRealFirst : FileDescriptorProto → Type 0
HasRealFirst file = Each RealFirst (flat_map each_own file.message_type) × AreInNone file.extension

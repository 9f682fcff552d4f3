-- Which file of a set imports which, by their names.
use Rattle.std.specs.Prelude.{◌≡◌, ◌≢◌, ◌<◌, ℕ, ℤ, pos, List, Option, Some, slice_get}
use Rattle.std.specs.Option.{option_and_then}
use Rattle.protox_descriptor.specs.declared.descriptor.FileDescriptorProto.{FileDescriptorProto}

-- the name of the file with this number
abbrev pub name_at : List FileDescriptorProto → ℕ → Option (List ℕ)
name_at set f = option_and_then (λ file. file.name) (slice_get set f)

-- the name that a file's import with this index has
abbrev pub dependency_at : List FileDescriptorProto → ℕ → ℕ → Option (List ℕ)
dependency_at set f i = option_and_then (λ file. slice_get file.dependency i) (slice_get set f)

-- what a file's list of public imports has at this index
abbrev pub public_at : List FileDescriptorProto → ℕ → ℕ → Option ℤ
public_at set f i = option_and_then (λ file. slice_get file.public_dependency i) (slice_get set f)

-- The file with this number is the first of the set with this name.
pub record IsFirstNamed (set : List FileDescriptorProto) (name : List ℕ) (g : ℕ) : Type 0 where
  pub has : name_at set g ≡ Some name
  pub first : (k : ℕ) → k < g → name_at set k ≢ Some name

-- File f imports file g: one of its imports has a name, and g is the first file with that name.
abbrev pub Imports : List FileDescriptorProto → ℕ → ℕ → Type 0
Imports set f g =
    (i : ℕ) × (name : List ℕ) × (dependency_at set f i ≡ Some name) × IsFirstNamed set name g

-- File f imports file g publicly: by an import whose index is among its public ones.
abbrev pub ImportsPublicly : List FileDescriptorProto → ℕ → ℕ → Type 0
ImportsPublicly set f g =
    (k : ℕ) × (i : ℕ) × (name : List ℕ) × (public_at set f k ≡ Some (pos i))
    × (dependency_at set f i ≡ Some name) × IsFirstNamed set name g

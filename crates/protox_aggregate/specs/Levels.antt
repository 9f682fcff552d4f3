-- Messages that are read, and the fields that have a value in them.
use Rattle.std.specs.Prelude.{ℕ, ◌==◌, ℤ, Bool, List, [], ◌∷◌, ◌++◌, find, Option, Some, None, if◌then◌else◌}
use Rattle.std.specs.List.{list_any}
use Rattle.std.specs.Option.{option_and_then, option_eq}
use Rattle.std.specs.Ordering.{int_eq}
use Rattle.protox_aggregate.specs.declared.fault.AggregateFaultKind.{AggregateFaultKind}
use Rattle.protox_aggregate.specs.declared.fault.AggregateFaultKind.TheVariants as kind
use Rattle.protox_aggregate.specs.declared.level.Named.{Named}
use Rattle.protox_aggregate.specs.declared.level.Told.{Told}
use Rattle.protox_aggregate.specs.declared.level.Typed.{Typed}
use Rattle.protox_descriptor.specs.FieldDescriptorProto.{FieldDescriptorProto}
use Rattle.protox_settings.specs.Fields.{is_repeated}

-- A message: its number in the table; the field that was named last in it; those of its fields that
-- aren't repeated and have a value; and the first field, if there is one, that has no value, which a
-- message needs that has ended in it.
pub record Level : Type 0 where
  pub message : ℕ
  pub field : Option Named
  pub told : List Told
  pub missing : Option ℕ

-- a message of which nothing was read
abbrev pub unread : ℕ → Level
unread message = record { message = message; field = None; told = []; missing = None }

-- the type that was named last in a message `Any`, if one was
abbrev pub typed_in : Level → Option Typed
typed_in level = option_and_then (λ named. named.typed) level.field

-- whether a field has a value
abbrev pub has_told : List Told → ℕ → Bool
has_told told n = list_any (λ (t : Told). t.number == n) told

abbrev pub is_in_oneof : ℤ → Told → Bool
is_in_oneof index t = option_eq int_eq t.oneof (Some index)

-- the field that has a value and is of the same oneof
abbrev pub told_along : List Told → Option ℤ → Option Told
told_along told None = None
told_along told (Some index) = find (is_in_oneof index) told

abbrev pub along : ℕ → Option Told → Option AggregateFaultKind
along n None = None
along n (Some other) = Some (kind.Along n other.number)

-- What is wrong with naming a field, if anything: a field that isn't repeated has one value, and of a
-- oneof one field has one.
abbrev pub wrong_with_naming : List Told → ℕ → FieldDescriptorProto → Option AggregateFaultKind
wrong_with_naming told n field =
    if is_repeated field then None
    else if has_told told n then Some (kind.Again n)
    else along n (told_along told field.oneof_index)

-- the field, as one that has a value and is of no oneof
abbrev pub told_alone : ℕ → Told
told_alone n = record { number = n; oneof = None }

-- the fields that have a value, once this one has
abbrev pub telling : List Told → ℕ → FieldDescriptorProto → List Told
telling told n field = if is_repeated field then told else told ++ record { number = n; oneof = field.oneof_index } ∷ []

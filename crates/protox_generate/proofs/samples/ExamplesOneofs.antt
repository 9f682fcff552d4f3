-- Messages whose oneofs stand in the right order, and messages that the definition refuses.
use Rattle.std.proofs.Common.{◌≡◌, ℕ, ◌+◌, List, [], ◌∷◌, Option, Some, None, true, refl, ap, arith}
use Rattle.std.specs.Prelude.{ℤ, pos, nat_abs, unwrap_or, option_map}
use Rattle.protox_describe.specs.Oneofs.{Own, RealFirst}
use Rattle.protox_descriptor.specs.FieldDescriptorProto.{FieldDescriptorProto}
use Rattle.protox_generate.proofs.samples.Written.{made_oneof, no_field}

abbrev optional_field : ℕ → FieldDescriptorProto
optional_field index = record no_field { oneof_index = Some (pos index); proto3_optional = Some true }

abbrev field_of : ℕ → FieldDescriptorProto
field_of index = record no_field { oneof_index = Some (pos index) }

abbrev two : List FieldDescriptorProto → Own
two fields = record { fields = fields; extensions = []; oneofs = made_oneof "a" ∷ made_oneof "b" ∷ [] }

abbrev index_of : Option ℤ → ℕ
index_of index = unwrap_or (option_map nat_abs index) 0

-- `oneof a { int32 x = 1; } optional int32 y = 2; int32 z = 3;`
real-first : RealFirst (two (field_of 0 ∷ optional_field 1 ∷ no_field ∷ []))
real-first = record {
  below = ((0, refl, omega arith), ((1, refl, omega arith), (tt, tt)));
  real = 1;
  indexed = ((0, refl, omega arith), (refl, (tt, refl)));
  apart = tt;
}

-- the synthetic one before the real one
synthetic-first : RealFirst (two (optional_field 0 ∷ field_of 1 ∷ [])) → ⊥
synthetic-first h = let k = h.indexed.1.0 in let e : 1 ≡ k.0 = ap nat_abs k.1 in omega (arith, e, k.2, h.indexed.1.1)

-- one synthetic oneof for two fields
shared : RealFirst (two (optional_field 0 ∷ optional_field 0 ∷ [])) → ⊥
shared h = let e : 0 ≡ h.real + 1 = ap index_of h.indexed.1.0 in omega (arith, e)

-- an index that is one too great
past : RealFirst (two (field_of 2 ∷ [])) → ⊥
past h = let k = h.below.0 in let e : 2 ≡ k.0 = ap nat_abs k.1 in omega (arith, e, k.2)

-- an extension in a oneof
extending : RealFirst (record { fields = []; extensions = field_of 0 ∷ []; oneofs = made_oneof "a" ∷ [] }) → ⊥
extending h = let e : Some (pos 0) ≡ None = h.apart.0 in cc

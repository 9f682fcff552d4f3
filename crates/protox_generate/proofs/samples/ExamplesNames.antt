-- To which names paths lead.
use Rattle.std.proofs.Common.{◌≡◌, ℕ, List, [], ◌∷◌, Some, None, refl, ap, arith, codes}
use Rattle.std.specs.Prelude.{pos, unwrap_or, slice_get}
use Rattle.protox_descriptor.specs.declared.descriptor.EnumDescriptorProto.{EnumDescriptorProto}
use Rattle.protox_generate.proofs.samples.Written.{made_oneof, no_field}
use Rattle.protox_generate.specs.Names.{InSmallLetters, Lookup, Written, Writes, message_step, own}

abbrev pub an_enum : EnumDescriptorProto
an_enum = record {
  name = Some (codes "E");
  value = record { name = Some (codes "V"); number = Some (pos 0); options = None } ∷ [];
  options = None;
  reserved_range = [];
  reserved_name = [];
}

-- `message M { optional group Ab = 1 { } extend X { optional int32 c = 2; } oneof o { .. } enum E { V = 0; } }`
abbrev look : Lookup
look = message_step (record {
  name = Some (codes "M");
  field = record no_field { name = Some (codes "ab"); field_type = Some (pos 10) } ∷ [];
  extension = record no_field { name = Some (codes "c"); field_type = Some (pos 5) } ∷ [];
  nested_type = own (Some (Written (codes "Ab"))) ∷ [];
  enum_type = an_enum ∷ [];
  extension_range = [];
  oneof_decl = made_oneof "o" ∷ [];
  options = None;
  reserved_range = [];
  reserved_name = [];
})

of-message : look (pos 1 ∷ []) ≡ Some (Written (codes "M"))
of-message = refl

of-group : look (pos 2 ∷ pos 0 ∷ pos 1 ∷ []) ≡ Some (InSmallLetters (codes "ab"))
of-group = refl

of-nested : look (pos 3 ∷ pos 0 ∷ pos 1 ∷ []) ≡ Some (Written (codes "Ab"))
of-nested = refl

of-enum : look (pos 4 ∷ pos 0 ∷ pos 1 ∷ []) ≡ Some (Written (codes "E"))
of-enum = refl

of-value : look (pos 4 ∷ pos 0 ∷ pos 2 ∷ pos 0 ∷ pos 1 ∷ []) ≡ Some (Written (codes "V"))
of-value = refl

of-extension : look (pos 6 ∷ pos 0 ∷ pos 1 ∷ []) ≡ Some (Written (codes "c"))
of-extension = refl

of-oneof : look (pos 8 ∷ pos 0 ∷ pos 1 ∷ []) ≡ Some (Written (codes "o"))
of-oneof = refl

-- a number, what is not there, and a message itself have no name
no-name : look (pos 2 ∷ pos 0 ∷ pos 3 ∷ []) ≡ None
no-name = refl

no-field : look (pos 2 ∷ pos 1 ∷ pos 1 ∷ []) ≡ None
no-field = refl

-- `Ab` writes the name `ab` of a group's field, and not that of another one.
group-writes : Writes (codes "Ab") (InSmallLetters (codes "ab"))
group-writes = refl

other-writes : Writes (codes "Ab") (Written (codes "ab")) → ⊥
other-writes e = let f : 65 ≡ 97 = ap (λ (text : List ℕ). unwrap_or (slice_get text 0) 0) e in omega (arith, f)

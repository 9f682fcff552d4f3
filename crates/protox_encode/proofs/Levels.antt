-- What a message holds, given what the messages nested in it hold.
use Rattle.std.proofs.Common.{◌≡◌, ℕ, Bool, ◌&&◌, List, [], ◌∷◌, ◌++◌, refl, ap, ◌∙◌, map, append_assoc}
use Rattle.std.specs.List.{list_all}
use Rattle.std.proofs.lemmas.List.Folds.{list_all-map}
use Rattle.protox_descriptor.specs.declared.descriptor.DescriptorProto.{DescriptorProto, out-DescriptorProto}
use Rattle.protox_descriptor.specs.declared.descriptor.DescriptorProto.TheFolds.{fold_out-DescriptorProto}
use Rattle.protox_encode.specs.Floats as floats
use Rattle.protox_encode.specs.Messages.{field_descriptor, message_step, message_middle, message_end, message_descriptor}
use Rattle.protox_encode.specs.Payloads.{each, text}
use Rattle.protox_encode.specs.Wire.{Payload, Bytes, Parts, message, part}

each-mapped : {M : Type 0} (parts : M → Parts) (ms : List M) → each (λ (inner : Parts). inner) (map parts ms) ≡ each parts ms
each-mapped parts [] = refl
each-mapped parts (m ∷ ms) = ap (λ more. Bytes (message (parts m)) ∷ more) (each-mapped parts ms)

pub message-holds : (m : DescriptorProto) → message_descriptor m
    ≡ (1, text (out-DescriptorProto m).name) ∷ (2, each field_descriptor (out-DescriptorProto m).field) ∷ (3, each message_descriptor (out-DescriptorProto m).nested_type) ∷ message_middle (out-DescriptorProto m)
unfolding message_descriptor message_step message_middle message_end
message-holds m =
    fold_out-DescriptorProto Parts message_step m
    ∙ ap (λ (held : List Payload). (1, text (out-DescriptorProto m).name) ∷ (2, each field_descriptor (out-DescriptorProto m).field) ∷ (3, held) ∷ message_middle (out-DescriptorProto m))
    (each-mapped message_descriptor (out-DescriptorProto m).nested_type)

-- A message that is put in front in three steps.
pub message-onto : (m : DescriptorProto) (middle nested old : List ℕ) → middle ≡ message (message_middle (out-DescriptorProto m)) ++ old
    → nested ≡ part 3 (each message_descriptor (out-DescriptorProto m).nested_type) ++ middle
    → part 1 (text (out-DescriptorProto m).name) ++ (part 2 (each field_descriptor (out-DescriptorProto m).field) ++ nested) ≡ message (message_descriptor m) ++ old
message-onto m middle nested old h k = rw (k, h, message-holds m) (simp append_assoc)

-- The floats of a message, given those of the messages nested in it.
pub message_floats : (m : DescriptorProto) → floats.message_descriptor m ≡ (list_all floats.message_descriptor (out-DescriptorProto m).nested_type && floats.message_own (out-DescriptorProto m))
unfolding floats.message_descriptor floats.message_step floats.message_own
message_floats m =
    fold_out-DescriptorProto Bool floats.message_step m
    ∙ ap (λ (inner : Bool). inner && floats.message_own (out-DescriptorProto m))
    (list_all-map (λ (inner : Bool). inner) floats.message_descriptor (out-DescriptorProto m).nested_type)

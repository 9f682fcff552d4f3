-- What a message holds, given what the messages nested in it hold.
use Rattle.std.proofs.Common.{◌≡◌, ℕ, ◌+◌, List, [], ◌∷◌, ◌++◌, refl, ap, ◌∙◌, map, append_assoc}
use Rattle.protox_descriptor.specs.declared.descriptor.DescriptorProto.{DescriptorProto, out-DescriptorProto}
use Rattle.protox_descriptor.specs.declared.descriptor.DescriptorProto.TheFolds.{fold_out-DescriptorProto}
use Rattle.protox_encode.specs.Payloads.{text}
use Rattle.protox_encode.specs.Wire.{Payload, Bytes, Parts, message, part}
use Rattle.protox_encode_linked.specs.Linked.{each_from, each_at, field_descriptor, message_step, message_middle, message_end, message_descriptor}
use Rattle.protox_encode_linked.specs.Setting.{Path, OptionsSet}

each_from-mapped : {M : Type 0} (parts : Path → M → Parts) (path : Path) (index : ℕ) (ms : List M)
    → each_from (λ place (inner : Path → Parts). inner place) path index (map (λ m place. parts place m) ms) ≡ each_from parts path index ms
each_from-mapped parts path index [] = refl
each_from-mapped parts path index (m ∷ ms) =
    ap (λ more. Bytes (message (parts (path ++ index ∷ []) m)) ∷ more) (each_from-mapped parts path (index + 1) ms)

pub message-holds : (set : OptionsSet) (path : Path) (m : DescriptorProto) → message_descriptor set path m
    ≡ (1, text (out-DescriptorProto m).name) ∷ (2, each_at (field_descriptor set) (path ++ 2 ∷ []) (out-DescriptorProto m).field)
    ∷ (3, each_at (message_descriptor set) (path ++ 3 ∷ []) (out-DescriptorProto m).nested_type) ∷ message_middle set path (out-DescriptorProto m)
unfolding message_descriptor message_step message_middle message_end
message-holds set path m =
    ap (λ (parts : Path → Parts). parts path) (fold_out-DescriptorProto (Path → Parts) (message_step set) m)
    ∙ ap (λ (held : List Payload). (1, text (out-DescriptorProto m).name) ∷ (2, each_at (field_descriptor set) (path ++ 2 ∷ []) (out-DescriptorProto m).field)
    ∷ (3, held) ∷ message_middle set path (out-DescriptorProto m))
    (each_from-mapped (message_descriptor set) (path ++ 3 ∷ []) 0 (out-DescriptorProto m).nested_type)

-- A message that is put in front in three steps, where each leaves the path as it was.
pub message-onto : (set : OptionsSet) (path path2 path3 : Path) (m : DescriptorProto) (middle nested old : List ℕ)
    → path2 ≡ path → path3 ≡ path2
    → middle ≡ message (message_middle set path (out-DescriptorProto m)) ++ old
    → nested ≡ part 3 (each_at (message_descriptor set) (path2 ++ 3 ∷ []) (out-DescriptorProto m).nested_type) ++ middle
    → part 1 (text (out-DescriptorProto m).name) ++ (part 2 (each_at (field_descriptor set) (path3 ++ 2 ∷ []) (out-DescriptorProto m).field) ++ nested)
    ≡ message (message_descriptor set path m) ++ old
message-onto set path path2 path3 m middle nested old e2 e3 h k = rw (k, h, e3, e2, message-holds set path m) (simp append_assoc)

-- The text of a message, by the texts of the messages in it.
use Rattle.std.proofs.Common.{◌≡◌, ℕ, List, [], ◌∷◌, ◌++◌, codes, map, refl, ap, ◌∙◌}
use Rattle.protox_descriptor.specs.declared.descriptor.DescriptorProto.{DescriptorProto, out-DescriptorProto}
use Rattle.protox_descriptor.specs.declared.descriptor.DescriptorProto.TheFolds.{fold-DescriptorProto, fold_out-DescriptorProto}
use Rattle.protox_text.specs.TextFormat.{field_text, message_end_text, message_middle_text, message_step, message_text}
use Rattle.protox_text.specs.TextLines.{At, bytes_line, closed, deeper, each, if_any, opened, within}

nested-each : (ms : List DescriptorProto) (d : ℕ) (name : List ℕ)
    → each (λ (text : At). text) (map (fold-DescriptorProto At message_step) ms) d name ≡ each message_text ms d name
nested-each [] d name = refl
nested-each (m ∷ ms) d name = ap (λ v. message_text m d name ++ v) (nested-each ms d name)

-- what a message has inside
abbrev pub fields_of : DescriptorProto → ℕ → List ℕ
fields_of m d =
    if_any bytes_line (out-DescriptorProto m).name d (codes "name")
    ++ (each field_text (out-DescriptorProto m).field d (codes "field")
    ++ (each message_text (out-DescriptorProto m).nested_type d (codes "nested_type")
    ++ (message_middle_text (out-DescriptorProto m) d ++ message_end_text (out-DescriptorProto m) d)))

pub message-is : (m : DescriptorProto) (d : ℕ) (name : List ℕ) → message_text m d name ≡ within (fields_of m) d name
message-is m d name =
    ap (λ (text : At). text d name) (fold_out-DescriptorProto At message_step m)
    ∙ ap (λ (nested : List ℕ).
    opened d name
    ++ ((if_any bytes_line (out-DescriptorProto m).name (deeper d) (codes "name")
    ++ (each field_text (out-DescriptorProto m).field (deeper d) (codes "field")
    ++ (nested ++ (message_middle_text (out-DescriptorProto m) (deeper d) ++ message_end_text (out-DescriptorProto m) (deeper d)))))
    ++ closed d))
    (nested-each (out-DescriptorProto m).nested_type (deeper d) (codes "nested_type"))

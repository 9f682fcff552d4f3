-- Messages with the same bytes are the same, kind by kind, if nothing of them is lost.
use Rattle.std.proofs.Common.{◌≡◌, Bool, true, List, [], ◌∷◌, map, refl, sym, ap, subst, ◌∙◌}
use Rattle.std.specs.Cmp.{first_so, second_so}
use Rattle.std.proofs.lemmas.List.Folds.{list_all-map}
use Rattle.protox_descriptor.specs.declared.descriptor.DescriptorProto.{DescriptorProto, DescriptorProto-F, roll-DescriptorProto, out-DescriptorProto, roll-out-DescriptorProto, out-roll-DescriptorProto, ind-DescriptorProto}
use Rattle.protox_descriptor.specs.declared.descriptor.DescriptorProto.TheFolds.{fold_out-DescriptorProto}
use Rattle.protox_encode.proofs.Again.{Told, all_at, each-again, flag-again, have-room, names-again, nested-again, no-double, packed-again, payloads, room-each, room-flag, room-nested, room-none, room-packed, room-signed, room-signeds, room-text, room-texts, room-unsigned, same-parts, signed-again, signeds-again, text-again, texts-again, unsigned-again}
use Rattle.protox_encode.proofs.Levels.{message-holds}
use Rattle.protox_encode.specs.Exact as exact
use Rattle.protox_encode.specs.Reading.{FilesHaveRoom}
use Rattle.protox_encode.specs.Exact.{NothingIsLost, all}
use Rattle.protox_encode.specs.Messages as words
use Rattle.protox_encode.specs.Payloads as payload
use Rattle.protox_encode.specs.Wire.{Parts, message}

pub told-uninterpreted_option : Told words.uninterpreted_option exact.uninterpreted_option
unfolding words.uninterpreted_option exact.uninterpreted_option
told-uninterpreted_option = record {
  told = λ x y p q e.
      let h : words.uninterpreted_option x ≡ words.uninterpreted_option y = same-parts (words.uninterpreted_option x) (words.uninterpreted_option y) refl refl
      (room-each words.name_part x.name, (room-text x.identifier_value, (room-unsigned x.positive_int_value, (room-signed x.negative_int_value, (room-none x.double_value (all_at 1 (exact.uninterpreted_option x) p), (room-text x.string_value, (room-text x.aggregate_value, tt)))))))
      (room-each words.name_part y.name, (room-text y.identifier_value, (room-unsigned y.positive_int_value, (room-signed y.negative_int_value, (room-none y.double_value (all_at 1 (exact.uninterpreted_option y) q), (room-text y.string_value, (room-text y.aggregate_value, tt))))))) e in
      λ i. record {
        name = names-again x.name y.name (ap (λ (parts : Parts). payloads parts 0) h) i;
        identifier_value = text-again x.identifier_value y.identifier_value (ap (λ (parts : Parts). payloads parts 1) h) i;
        positive_int_value = unsigned-again x.positive_int_value y.positive_int_value (ap (λ (parts : Parts). payloads parts 2) h) i;
        negative_int_value = signed-again x.negative_int_value y.negative_int_value (all_at 0 (exact.uninterpreted_option x) p) (all_at 0 (exact.uninterpreted_option y) q) (ap (λ (parts : Parts). payloads parts 3) h) i;
        double_value = no-double x.double_value y.double_value (all_at 1 (exact.uninterpreted_option x) p) (all_at 1 (exact.uninterpreted_option y) q) i;
        string_value = text-again x.string_value y.string_value (ap (λ (parts : Parts). payloads parts 5) h) i;
        aggregate_value = text-again x.aggregate_value y.aggregate_value (ap (λ (parts : Parts). payloads parts 6) h) i;
      };
}

pub told-file_options : Told words.file_options exact.file_options
unfolding words.file_options words.options exact.file_options
told-file_options = record {
  told = λ x y p q e.
      let h : words.file_options x ≡ words.file_options y = same-parts (words.file_options x) (words.file_options y) refl refl
      (room-each words.uninterpreted_option x.uninterpreted_option, tt)
      (room-each words.uninterpreted_option y.uninterpreted_option, tt) e in
      λ i. record {
        uninterpreted_option = each-again told-uninterpreted_option x.uninterpreted_option y.uninterpreted_option (all_at 0 (exact.file_options x) p) (all_at 0 (exact.file_options y) q) (ap (λ (parts : Parts). payloads parts 0) h) i;
      };
}

pub told-message_options : Told words.message_options exact.message_options
unfolding words.message_options words.options exact.message_options
told-message_options = record {
  told = λ x y p q e.
      let h : words.message_options x ≡ words.message_options y = same-parts (words.message_options x) (words.message_options y) refl refl
      (room-flag x.map_entry, (room-each words.uninterpreted_option x.uninterpreted_option, tt))
      (room-flag y.map_entry, (room-each words.uninterpreted_option y.uninterpreted_option, tt)) e in
      λ i. record {
        map_entry = flag-again x.map_entry y.map_entry (ap (λ (parts : Parts). payloads parts 0) h) i;
        uninterpreted_option = each-again told-uninterpreted_option x.uninterpreted_option y.uninterpreted_option (all_at 0 (exact.message_options x) p) (all_at 0 (exact.message_options y) q) (ap (λ (parts : Parts). payloads parts 1) h) i;
      };
}

pub told-field_options : Told words.field_options exact.field_options
unfolding words.field_options words.options exact.field_options
told-field_options = record {
  told = λ x y p q e.
      let h : words.field_options x ≡ words.field_options y = same-parts (words.field_options x) (words.field_options y) refl refl
      (room-each words.uninterpreted_option x.uninterpreted_option, tt)
      (room-each words.uninterpreted_option y.uninterpreted_option, tt) e in
      λ i. record {
        uninterpreted_option = each-again told-uninterpreted_option x.uninterpreted_option y.uninterpreted_option (all_at 0 (exact.field_options x) p) (all_at 0 (exact.field_options y) q) (ap (λ (parts : Parts). payloads parts 0) h) i;
      };
}

pub told-oneof_options : Told words.oneof_options exact.oneof_options
unfolding words.oneof_options words.options exact.oneof_options
told-oneof_options = record {
  told = λ x y p q e.
      let h : words.oneof_options x ≡ words.oneof_options y = same-parts (words.oneof_options x) (words.oneof_options y) refl refl
      (room-each words.uninterpreted_option x.uninterpreted_option, tt)
      (room-each words.uninterpreted_option y.uninterpreted_option, tt) e in
      λ i. record {
        uninterpreted_option = each-again told-uninterpreted_option x.uninterpreted_option y.uninterpreted_option (all_at 0 (exact.oneof_options x) p) (all_at 0 (exact.oneof_options y) q) (ap (λ (parts : Parts). payloads parts 0) h) i;
      };
}

pub told-enum_options : Told words.enum_options exact.enum_options
unfolding words.enum_options words.options exact.enum_options
told-enum_options = record {
  told = λ x y p q e.
      let h : words.enum_options x ≡ words.enum_options y = same-parts (words.enum_options x) (words.enum_options y) refl refl
      (room-each words.uninterpreted_option x.uninterpreted_option, tt)
      (room-each words.uninterpreted_option y.uninterpreted_option, tt) e in
      λ i. record {
        uninterpreted_option = each-again told-uninterpreted_option x.uninterpreted_option y.uninterpreted_option (all_at 0 (exact.enum_options x) p) (all_at 0 (exact.enum_options y) q) (ap (λ (parts : Parts). payloads parts 0) h) i;
      };
}

pub told-enum_value_options : Told words.enum_value_options exact.enum_value_options
unfolding words.enum_value_options words.options exact.enum_value_options
told-enum_value_options = record {
  told = λ x y p q e.
      let h : words.enum_value_options x ≡ words.enum_value_options y = same-parts (words.enum_value_options x) (words.enum_value_options y) refl refl
      (room-each words.uninterpreted_option x.uninterpreted_option, tt)
      (room-each words.uninterpreted_option y.uninterpreted_option, tt) e in
      λ i. record {
        uninterpreted_option = each-again told-uninterpreted_option x.uninterpreted_option y.uninterpreted_option (all_at 0 (exact.enum_value_options x) p) (all_at 0 (exact.enum_value_options y) q) (ap (λ (parts : Parts). payloads parts 0) h) i;
      };
}

pub told-service_options : Told words.service_options exact.service_options
unfolding words.service_options words.options exact.service_options
told-service_options = record {
  told = λ x y p q e.
      let h : words.service_options x ≡ words.service_options y = same-parts (words.service_options x) (words.service_options y) refl refl
      (room-each words.uninterpreted_option x.uninterpreted_option, tt)
      (room-each words.uninterpreted_option y.uninterpreted_option, tt) e in
      λ i. record {
        uninterpreted_option = each-again told-uninterpreted_option x.uninterpreted_option y.uninterpreted_option (all_at 0 (exact.service_options x) p) (all_at 0 (exact.service_options y) q) (ap (λ (parts : Parts). payloads parts 0) h) i;
      };
}

pub told-method_options : Told words.method_options exact.method_options
unfolding words.method_options words.options exact.method_options
told-method_options = record {
  told = λ x y p q e.
      let h : words.method_options x ≡ words.method_options y = same-parts (words.method_options x) (words.method_options y) refl refl
      (room-each words.uninterpreted_option x.uninterpreted_option, tt)
      (room-each words.uninterpreted_option y.uninterpreted_option, tt) e in
      λ i. record {
        uninterpreted_option = each-again told-uninterpreted_option x.uninterpreted_option y.uninterpreted_option (all_at 0 (exact.method_options x) p) (all_at 0 (exact.method_options y) q) (ap (λ (parts : Parts). payloads parts 0) h) i;
      };
}

pub told-extension_range_options : Told words.extension_range_options exact.extension_range_options
unfolding words.extension_range_options words.options exact.extension_range_options
told-extension_range_options = record {
  told = λ x y p q e.
      let h : words.extension_range_options x ≡ words.extension_range_options y = same-parts (words.extension_range_options x) (words.extension_range_options y) refl refl
      (room-each words.uninterpreted_option x.uninterpreted_option, tt)
      (room-each words.uninterpreted_option y.uninterpreted_option, tt) e in
      λ i. record {
        uninterpreted_option = each-again told-uninterpreted_option x.uninterpreted_option y.uninterpreted_option (all_at 0 (exact.extension_range_options x) p) (all_at 0 (exact.extension_range_options y) q) (ap (λ (parts : Parts). payloads parts 0) h) i;
      };
}

pub told-location : Told words.location exact.location
unfolding words.location exact.location
told-location = record {
  told = λ x y p q e.
      let h : words.location x ≡ words.location y = same-parts (words.location x) (words.location y) refl refl
      (room-packed x.path, (room-packed x.span, (room-text x.leading_comments, (room-text x.trailing_comments, (room-texts x.leading_detached_comments, tt)))))
      (room-packed y.path, (room-packed y.span, (room-text y.leading_comments, (room-text y.trailing_comments, (room-texts y.leading_detached_comments, tt))))) e in
      λ i. record {
        path = packed-again x.path y.path (all_at 0 (exact.location x) p) (all_at 0 (exact.location y) q) (ap (λ (parts : Parts). payloads parts 0) h) i;
        span = packed-again x.span y.span (all_at 1 (exact.location x) p) (all_at 1 (exact.location y) q) (ap (λ (parts : Parts). payloads parts 1) h) i;
        leading_comments = text-again x.leading_comments y.leading_comments (ap (λ (parts : Parts). payloads parts 2) h) i;
        trailing_comments = text-again x.trailing_comments y.trailing_comments (ap (λ (parts : Parts). payloads parts 3) h) i;
        leading_detached_comments = texts-again x.leading_detached_comments y.leading_detached_comments (ap (λ (parts : Parts). payloads parts 4) h) i;
      };
}

pub told-source_code_info : Told words.source_code_info exact.source_code_info
unfolding words.source_code_info exact.source_code_info
told-source_code_info = record {
  told = λ x y p q e.
      let h : words.source_code_info x ≡ words.source_code_info y = same-parts (words.source_code_info x) (words.source_code_info y) refl refl
      (room-each words.location x.location, tt)
      (room-each words.location y.location, tt) e in
      λ i. record {
        location = each-again told-location x.location y.location (all_at 0 (exact.source_code_info x) p) (all_at 0 (exact.source_code_info y) q) (ap (λ (parts : Parts). payloads parts 0) h) i;
      };
}

pub told-field_descriptor : Told words.field_descriptor exact.field_descriptor
unfolding words.field_descriptor words.rare_parts exact.field_descriptor
told-field_descriptor = record {
  told = λ x y p q e.
      let h : words.field_descriptor x ≡ words.field_descriptor y = same-parts (words.field_descriptor x) (words.field_descriptor y) refl refl
      (room-text x.name, (room-text x.extendee, (room-signed x.number, (room-signed x.label, (room-signed x.field_type, (room-text x.type_name, (room-text x.default_value, (room-nested words.field_options x.options, (room-signed x.oneof_index, (room-text x.json_name, (room-flag x.proto3_optional, tt)))))))))))
      (room-text y.name, (room-text y.extendee, (room-signed y.number, (room-signed y.label, (room-signed y.field_type, (room-text y.type_name, (room-text y.default_value, (room-nested words.field_options y.options, (room-signed y.oneof_index, (room-text y.json_name, (room-flag y.proto3_optional, tt))))))))))) e in
      λ i. record {
        name = text-again x.name y.name (ap (λ (parts : Parts). payloads parts 0) h) i;
        extendee = text-again x.extendee y.extendee (ap (λ (parts : Parts). payloads parts 1) h) i;
        number = signed-again x.number y.number (all_at 0 (exact.field_descriptor x) p) (all_at 0 (exact.field_descriptor y) q) (ap (λ (parts : Parts). payloads parts 2) h) i;
        label = signed-again x.label y.label (all_at 1 (exact.field_descriptor x) p) (all_at 1 (exact.field_descriptor y) q) (ap (λ (parts : Parts). payloads parts 3) h) i;
        field_type = signed-again x.field_type y.field_type (all_at 2 (exact.field_descriptor x) p) (all_at 2 (exact.field_descriptor y) q) (ap (λ (parts : Parts). payloads parts 4) h) i;
        type_name = text-again x.type_name y.type_name (ap (λ (parts : Parts). payloads parts 5) h) i;
        default_value = text-again x.default_value y.default_value (ap (λ (parts : Parts). payloads parts 6) h) i;
        options = nested-again told-field_options x.options y.options (all_at 3 (exact.field_descriptor x) p) (all_at 3 (exact.field_descriptor y) q) (ap (λ (parts : Parts). payloads parts 7) h) i;
        oneof_index = signed-again x.oneof_index y.oneof_index (all_at 4 (exact.field_descriptor x) p) (all_at 4 (exact.field_descriptor y) q) (ap (λ (parts : Parts). payloads parts 8) h) i;
        json_name = text-again x.json_name y.json_name (ap (λ (parts : Parts). payloads parts 9) h) i;
        proto3_optional = flag-again x.proto3_optional y.proto3_optional (ap (λ (parts : Parts). payloads parts 10) h) i;
      };
}

pub told-oneof_descriptor : Told words.oneof_descriptor exact.oneof_descriptor
unfolding words.oneof_descriptor exact.oneof_descriptor
told-oneof_descriptor = record {
  told = λ x y p q e.
      let h : words.oneof_descriptor x ≡ words.oneof_descriptor y = same-parts (words.oneof_descriptor x) (words.oneof_descriptor y) refl refl
      (room-text x.name, (room-nested words.oneof_options x.options, tt))
      (room-text y.name, (room-nested words.oneof_options y.options, tt)) e in
      λ i. record {
        name = text-again x.name y.name (ap (λ (parts : Parts). payloads parts 0) h) i;
        options = nested-again told-oneof_options x.options y.options (all_at 0 (exact.oneof_descriptor x) p) (all_at 0 (exact.oneof_descriptor y) q) (ap (λ (parts : Parts). payloads parts 1) h) i;
      };
}

pub told-enum_value_descriptor : Told words.enum_value_descriptor exact.enum_value_descriptor
unfolding words.enum_value_descriptor exact.enum_value_descriptor
told-enum_value_descriptor = record {
  told = λ x y p q e.
      let h : words.enum_value_descriptor x ≡ words.enum_value_descriptor y = same-parts (words.enum_value_descriptor x) (words.enum_value_descriptor y) refl refl
      (room-text x.name, (room-signed x.number, (room-nested words.enum_value_options x.options, tt)))
      (room-text y.name, (room-signed y.number, (room-nested words.enum_value_options y.options, tt))) e in
      λ i. record {
        name = text-again x.name y.name (ap (λ (parts : Parts). payloads parts 0) h) i;
        number = signed-again x.number y.number (all_at 0 (exact.enum_value_descriptor x) p) (all_at 0 (exact.enum_value_descriptor y) q) (ap (λ (parts : Parts). payloads parts 1) h) i;
        options = nested-again told-enum_value_options x.options y.options (all_at 1 (exact.enum_value_descriptor x) p) (all_at 1 (exact.enum_value_descriptor y) q) (ap (λ (parts : Parts). payloads parts 2) h) i;
      };
}

pub told-enum_reserved_range : Told words.enum_reserved_range exact.enum_reserved_range
unfolding words.enum_reserved_range exact.enum_reserved_range
told-enum_reserved_range = record {
  told = λ x y p q e.
      let h : words.enum_reserved_range x ≡ words.enum_reserved_range y = same-parts (words.enum_reserved_range x) (words.enum_reserved_range y) refl refl
      (room-signed x.start, (room-signed x.end, tt))
      (room-signed y.start, (room-signed y.end, tt)) e in
      λ i. record {
        start = signed-again x.start y.start (all_at 0 (exact.enum_reserved_range x) p) (all_at 0 (exact.enum_reserved_range y) q) (ap (λ (parts : Parts). payloads parts 0) h) i;
        end = signed-again x.end y.end (all_at 1 (exact.enum_reserved_range x) p) (all_at 1 (exact.enum_reserved_range y) q) (ap (λ (parts : Parts). payloads parts 1) h) i;
      };
}

pub told-enum_descriptor : Told words.enum_descriptor exact.enum_descriptor
unfolding words.enum_descriptor exact.enum_descriptor
told-enum_descriptor = record {
  told = λ x y p q e.
      let h : words.enum_descriptor x ≡ words.enum_descriptor y = same-parts (words.enum_descriptor x) (words.enum_descriptor y) refl refl
      (room-text x.name, (room-each words.enum_value_descriptor x.value, (room-nested words.enum_options x.options, (room-each words.enum_reserved_range x.reserved_range, (room-texts x.reserved_name, tt)))))
      (room-text y.name, (room-each words.enum_value_descriptor y.value, (room-nested words.enum_options y.options, (room-each words.enum_reserved_range y.reserved_range, (room-texts y.reserved_name, tt))))) e in
      λ i. record {
        name = text-again x.name y.name (ap (λ (parts : Parts). payloads parts 0) h) i;
        value = each-again told-enum_value_descriptor x.value y.value (all_at 0 (exact.enum_descriptor x) p) (all_at 0 (exact.enum_descriptor y) q) (ap (λ (parts : Parts). payloads parts 1) h) i;
        options = nested-again told-enum_options x.options y.options (all_at 1 (exact.enum_descriptor x) p) (all_at 1 (exact.enum_descriptor y) q) (ap (λ (parts : Parts). payloads parts 2) h) i;
        reserved_range = each-again told-enum_reserved_range x.reserved_range y.reserved_range (all_at 2 (exact.enum_descriptor x) p) (all_at 2 (exact.enum_descriptor y) q) (ap (λ (parts : Parts). payloads parts 3) h) i;
        reserved_name = texts-again x.reserved_name y.reserved_name (ap (λ (parts : Parts). payloads parts 4) h) i;
      };
}

pub told-method_descriptor : Told words.method_descriptor exact.method_descriptor
unfolding words.method_descriptor exact.method_descriptor
told-method_descriptor = record {
  told = λ x y p q e.
      let h : words.method_descriptor x ≡ words.method_descriptor y = same-parts (words.method_descriptor x) (words.method_descriptor y) refl refl
      (room-text x.name, (room-text x.input_type, (room-text x.output_type, (room-nested words.method_options x.options, (room-flag x.client_streaming, (room-flag x.server_streaming, tt))))))
      (room-text y.name, (room-text y.input_type, (room-text y.output_type, (room-nested words.method_options y.options, (room-flag y.client_streaming, (room-flag y.server_streaming, tt)))))) e in
      λ i. record {
        name = text-again x.name y.name (ap (λ (parts : Parts). payloads parts 0) h) i;
        input_type = text-again x.input_type y.input_type (ap (λ (parts : Parts). payloads parts 1) h) i;
        output_type = text-again x.output_type y.output_type (ap (λ (parts : Parts). payloads parts 2) h) i;
        options = nested-again told-method_options x.options y.options (all_at 0 (exact.method_descriptor x) p) (all_at 0 (exact.method_descriptor y) q) (ap (λ (parts : Parts). payloads parts 3) h) i;
        client_streaming = flag-again x.client_streaming y.client_streaming (ap (λ (parts : Parts). payloads parts 4) h) i;
        server_streaming = flag-again x.server_streaming y.server_streaming (ap (λ (parts : Parts). payloads parts 5) h) i;
      };
}

pub told-service_descriptor : Told words.service_descriptor exact.service_descriptor
unfolding words.service_descriptor exact.service_descriptor
told-service_descriptor = record {
  told = λ x y p q e.
      let h : words.service_descriptor x ≡ words.service_descriptor y = same-parts (words.service_descriptor x) (words.service_descriptor y) refl refl
      (room-text x.name, (room-each words.method_descriptor x.method, (room-nested words.service_options x.options, tt)))
      (room-text y.name, (room-each words.method_descriptor y.method, (room-nested words.service_options y.options, tt))) e in
      λ i. record {
        name = text-again x.name y.name (ap (λ (parts : Parts). payloads parts 0) h) i;
        method = each-again told-method_descriptor x.method y.method (all_at 0 (exact.service_descriptor x) p) (all_at 0 (exact.service_descriptor y) q) (ap (λ (parts : Parts). payloads parts 1) h) i;
        options = nested-again told-service_options x.options y.options (all_at 1 (exact.service_descriptor x) p) (all_at 1 (exact.service_descriptor y) q) (ap (λ (parts : Parts). payloads parts 2) h) i;
      };
}

pub told-extension_range : Told words.extension_range exact.extension_range
unfolding words.extension_range exact.extension_range
told-extension_range = record {
  told = λ x y p q e.
      let h : words.extension_range x ≡ words.extension_range y = same-parts (words.extension_range x) (words.extension_range y) refl refl
      (room-signed x.start, (room-signed x.end, (room-nested words.extension_range_options x.options, tt)))
      (room-signed y.start, (room-signed y.end, (room-nested words.extension_range_options y.options, tt))) e in
      λ i. record {
        start = signed-again x.start y.start (all_at 0 (exact.extension_range x) p) (all_at 0 (exact.extension_range y) q) (ap (λ (parts : Parts). payloads parts 0) h) i;
        end = signed-again x.end y.end (all_at 1 (exact.extension_range x) p) (all_at 1 (exact.extension_range y) q) (ap (λ (parts : Parts). payloads parts 1) h) i;
        options = nested-again told-extension_range_options x.options y.options (all_at 2 (exact.extension_range x) p) (all_at 2 (exact.extension_range y) q) (ap (λ (parts : Parts). payloads parts 2) h) i;
      };
}

pub told-reserved_range : Told words.reserved_range exact.reserved_range
unfolding words.reserved_range exact.reserved_range
told-reserved_range = record {
  told = λ x y p q e.
      let h : words.reserved_range x ≡ words.reserved_range y = same-parts (words.reserved_range x) (words.reserved_range y) refl refl
      (room-signed x.start, (room-signed x.end, tt))
      (room-signed y.start, (room-signed y.end, tt)) e in
      λ i. record {
        start = signed-again x.start y.start (all_at 0 (exact.reserved_range x) p) (all_at 0 (exact.reserved_range y) q) (ap (λ (parts : Parts). payloads parts 0) h) i;
        end = signed-again x.end y.end (all_at 1 (exact.reserved_range x) p) (all_at 1 (exact.reserved_range y) q) (ap (λ (parts : Parts). payloads parts 1) h) i;
      };
}

-- A message, by what stands in it.
abbrev message-whole : DescriptorProto → Parts
message-whole m = (1, payload.text (out-DescriptorProto m).name) ∷ (2, payload.each words.field_descriptor (out-DescriptorProto m).field) ∷ (3, payload.each words.message_descriptor (out-DescriptorProto m).nested_type) ∷ words.message_middle (out-DescriptorProto m)

abbrev message-tests : DescriptorProto → List Bool
message-tests m = exact.each exact.message_descriptor (out-DescriptorProto m).nested_type ∷ exact.message_own (out-DescriptorProto m)

tested : (m : DescriptorProto) → exact.message_descriptor m ≡ message-tests m
unfolding exact.message_descriptor exact.message_step exact.message_own
tested m =
    fold_out-DescriptorProto (List Bool) exact.message_step m
    ∙ ap (λ (inner : Bool). inner ∷ exact.message_own (out-DescriptorProto m))
    (list_all-map all exact.message_descriptor (out-DescriptorProto m).nested_type)

-- No other message has the same bytes.
abbrev ToldAt : DescriptorProto → Type 0
ToldAt x = (y : DescriptorProto) → all (exact.message_descriptor x) ≡ true → all (exact.message_descriptor y) ≡ true → message (words.message_descriptor x) ≡ message (words.message_descriptor y) → x ≡ y

-- No other list of messages has the same bytes.
abbrev AreTold : List DescriptorProto → Type 0
AreTold xs = (ys : List DescriptorProto) → exact.each exact.message_descriptor xs ≡ true → exact.each exact.message_descriptor ys ≡ true → payload.each words.message_descriptor xs ≡ payload.each words.message_descriptor ys → xs ≡ ys

are-told : (held : List ((x : DescriptorProto) × ToldAt x)) → AreTold (map (λ e. e.0) held)
are-told [] [] p q e = refl
are-told [] (y ∷ ys) p q e = cc
are-told (x ∷ xs) [] p q e = cc
are-told (x ∷ xs) (y ∷ ys) p q e =
    let h : message (words.message_descriptor x.0) ≡ message (words.message_descriptor y) = cc in
    let r : payload.each words.message_descriptor (map (λ e. e.0) xs) ≡ payload.each words.message_descriptor ys = cc in
    let t = x.1 y (first_so (all (exact.message_descriptor x.0)) (exact.each exact.message_descriptor (map (λ e. e.0) xs)) p) (first_so (all (exact.message_descriptor y)) (exact.each exact.message_descriptor ys) q) h in
    let ts = are-told xs ys (second_so (all (exact.message_descriptor x.0)) (exact.each exact.message_descriptor (map (λ e. e.0) xs)) p) (second_so (all (exact.message_descriptor y)) (exact.each exact.message_descriptor ys) q) r in
    λ i. t i ∷ ts i

told-from : (x : DescriptorProto) → AreTold (out-DescriptorProto x).nested_type → ToldAt x
unfolding words.message_middle words.message_end exact.message_own
told-from x nested y p q e =
    let p' : all (message-tests x) ≡ true = ap all (sym (tested x)) ∙ p in
    let q' : all (message-tests y) ≡ true = ap all (sym (tested y)) ∙ q in
    let h : message-whole x ≡ message-whole y = same-parts (message-whole x) (message-whole y) refl refl
    (room-text (out-DescriptorProto x).name, (room-each words.field_descriptor (out-DescriptorProto x).field, (room-each words.message_descriptor (out-DescriptorProto x).nested_type, (room-each words.enum_descriptor (out-DescriptorProto x).enum_type, (room-each words.extension_range (out-DescriptorProto x).extension_range, (room-each words.field_descriptor (out-DescriptorProto x).extension, (room-nested words.message_options (out-DescriptorProto x).options, (room-each words.oneof_descriptor (out-DescriptorProto x).oneof_decl, (room-each words.reserved_range (out-DescriptorProto x).reserved_range, (room-texts (out-DescriptorProto x).reserved_name, tt))))))))))
    (room-text (out-DescriptorProto y).name, (room-each words.field_descriptor (out-DescriptorProto y).field, (room-each words.message_descriptor (out-DescriptorProto y).nested_type, (room-each words.enum_descriptor (out-DescriptorProto y).enum_type, (room-each words.extension_range (out-DescriptorProto y).extension_range, (room-each words.field_descriptor (out-DescriptorProto y).extension, (room-nested words.message_options (out-DescriptorProto y).options, (room-each words.oneof_descriptor (out-DescriptorProto y).oneof_decl, (room-each words.reserved_range (out-DescriptorProto y).reserved_range, (room-texts (out-DescriptorProto y).reserved_name, tt))))))))))
    (ap message (sym (message-holds x)) ∙ e ∙ ap message (message-holds y)) in
    sym (roll-out-DescriptorProto x) ∙ (λ i. roll-DescriptorProto (record {
      name = text-again (out-DescriptorProto x).name (out-DescriptorProto y).name (ap (λ (parts : Parts). payloads parts 0) h) i;
      field = each-again told-field_descriptor (out-DescriptorProto x).field (out-DescriptorProto y).field (all_at 1 (message-tests x) p') (all_at 1 (message-tests y) q') (ap (λ (parts : Parts). payloads parts 1) h) i;
      nested_type = nested (out-DescriptorProto y).nested_type (all_at 0 (message-tests x) p') (all_at 0 (message-tests y) q') (ap (λ (parts : Parts). payloads parts 2) h) i;
      enum_type = each-again told-enum_descriptor (out-DescriptorProto x).enum_type (out-DescriptorProto y).enum_type (all_at 2 (message-tests x) p') (all_at 2 (message-tests y) q') (ap (λ (parts : Parts). payloads parts 3) h) i;
      extension_range = each-again told-extension_range (out-DescriptorProto x).extension_range (out-DescriptorProto y).extension_range (all_at 3 (message-tests x) p') (all_at 3 (message-tests y) q') (ap (λ (parts : Parts). payloads parts 4) h) i;
      extension = each-again told-field_descriptor (out-DescriptorProto x).extension (out-DescriptorProto y).extension (all_at 4 (message-tests x) p') (all_at 4 (message-tests y) q') (ap (λ (parts : Parts). payloads parts 5) h) i;
      options = nested-again told-message_options (out-DescriptorProto x).options (out-DescriptorProto y).options (all_at 5 (message-tests x) p') (all_at 5 (message-tests y) q') (ap (λ (parts : Parts). payloads parts 6) h) i;
      oneof_decl = each-again told-oneof_descriptor (out-DescriptorProto x).oneof_decl (out-DescriptorProto y).oneof_decl (all_at 6 (message-tests x) p') (all_at 6 (message-tests y) q') (ap (λ (parts : Parts). payloads parts 7) h) i;
      reserved_range = each-again told-reserved_range (out-DescriptorProto x).reserved_range (out-DescriptorProto y).reserved_range (all_at 7 (message-tests x) p') (all_at 7 (message-tests y) q') (ap (λ (parts : Parts). payloads parts 8) h) i;
      reserved_name = texts-again (out-DescriptorProto x).reserved_name (out-DescriptorProto y).reserved_name (ap (λ (parts : Parts). payloads parts 9) h) i;
    })) ∙ roll-out-DescriptorProto y

told-each : (x : DescriptorProto) → ToldAt x
told-each = ind-DescriptorProto ToldAt
    (λ x held e. told-from (roll-DescriptorProto x)
    (subst (λ (z : DescriptorProto-F DescriptorProto). AreTold z.nested_type) (e ∙ sym (out-roll-DescriptorProto x))
    (are-told held.nested_type)))

pub told-message_descriptor : Told words.message_descriptor exact.message_descriptor
told-message_descriptor = record { told = told-each }

pub told-file_descriptor : Told words.file_descriptor exact.file_descriptor
unfolding words.file_descriptor words.file_definitions words.file_end exact.file_descriptor
told-file_descriptor = record {
  told = λ x y p q e.
      let h : words.file_descriptor x ≡ words.file_descriptor y = same-parts (words.file_descriptor x) (words.file_descriptor y) refl refl
      (room-text x.name, (room-text x.«package», (room-texts x.dependency, (room-each words.message_descriptor x.message_type, (room-each words.enum_descriptor x.enum_type, (room-each words.service_descriptor x.service, (room-each words.field_descriptor x.extension, (room-nested words.file_options x.options, (room-nested words.source_code_info x.source_code_info, (room-signeds x.public_dependency, (room-signeds x.weak_dependency, (room-text x.syntax, tt))))))))))))
      (room-text y.name, (room-text y.«package», (room-texts y.dependency, (room-each words.message_descriptor y.message_type, (room-each words.enum_descriptor y.enum_type, (room-each words.service_descriptor y.service, (room-each words.field_descriptor y.extension, (room-nested words.file_options y.options, (room-nested words.source_code_info y.source_code_info, (room-signeds y.public_dependency, (room-signeds y.weak_dependency, (room-text y.syntax, tt)))))))))))) e in
      λ i. record {
        name = text-again x.name y.name (ap (λ (parts : Parts). payloads parts 0) h) i;
        «package» = text-again x.«package» y.«package» (ap (λ (parts : Parts). payloads parts 1) h) i;
        dependency = texts-again x.dependency y.dependency (ap (λ (parts : Parts). payloads parts 2) h) i;
        message_type = each-again told-message_descriptor x.message_type y.message_type (all_at 0 (exact.file_descriptor x) p) (all_at 0 (exact.file_descriptor y) q) (ap (λ (parts : Parts). payloads parts 3) h) i;
        enum_type = each-again told-enum_descriptor x.enum_type y.enum_type (all_at 1 (exact.file_descriptor x) p) (all_at 1 (exact.file_descriptor y) q) (ap (λ (parts : Parts). payloads parts 4) h) i;
        service = each-again told-service_descriptor x.service y.service (all_at 2 (exact.file_descriptor x) p) (all_at 2 (exact.file_descriptor y) q) (ap (λ (parts : Parts). payloads parts 5) h) i;
        extension = each-again told-field_descriptor x.extension y.extension (all_at 3 (exact.file_descriptor x) p) (all_at 3 (exact.file_descriptor y) q) (ap (λ (parts : Parts). payloads parts 6) h) i;
        options = nested-again told-file_options x.options y.options (all_at 4 (exact.file_descriptor x) p) (all_at 4 (exact.file_descriptor y) q) (ap (λ (parts : Parts). payloads parts 7) h) i;
        source_code_info = nested-again told-source_code_info x.source_code_info y.source_code_info (all_at 5 (exact.file_descriptor x) p) (all_at 5 (exact.file_descriptor y) q) (ap (λ (parts : Parts). payloads parts 8) h) i;
        public_dependency = signeds-again x.public_dependency y.public_dependency (all_at 6 (exact.file_descriptor x) p) (all_at 6 (exact.file_descriptor y) q) (ap (λ (parts : Parts). payloads parts 9) h) i;
        weak_dependency = signeds-again x.weak_dependency y.weak_dependency (all_at 7 (exact.file_descriptor x) p) (all_at 7 (exact.file_descriptor y) q) (ap (λ (parts : Parts). payloads parts 10) h) i;
        syntax = text-again x.syntax y.syntax (ap (λ (parts : Parts). payloads parts 11) h) i;
      };
}

pub nothing_is_lost : NothingIsLost
nothing_is_lost these those p q e = told-file_descriptor.told these those p q e

pub files_have_room : FilesHaveRoom
unfolding words.file_descriptor words.file_definitions words.file_end
files_have_room file = have-room (words.file_descriptor file)
    (room-text file.name, (room-text file.«package», (room-texts file.dependency, (room-each words.message_descriptor file.message_type, (room-each words.enum_descriptor file.enum_type, (room-each words.service_descriptor file.service, (room-each words.field_descriptor file.extension, (room-nested words.file_options file.options, (room-nested words.source_code_info file.source_code_info, (room-signeds file.public_dependency, (room-signeds file.weak_dependency, (room-text file.syntax, tt))))))))))))

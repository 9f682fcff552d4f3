-- Two descriptors are equal exactly when all their fields are.
use Rattle.std.proofs.Common.{refl, sym, subst, ◌∙◌}
use Rattle.std.specs.Cmp.Lexicographic.{pointwise}
use Rattle.protox_descriptor.proofs.Sameness.{Tells, tells-alike, tells-bool, tells-both, tells-held, tells-list, tells-option, tells-parts, tells-signed, tells-signed_list, tells-text, tells-unsigned}
use Rattle.protox_descriptor.specs.Location.{Location}
use Rattle.protox_descriptor.specs.contracts.descriptor.DescriptorProtoPartialEq.TheImpl as message
use Rattle.protox_descriptor.specs.contracts.descriptor.DescriptorProtoPartialEq.TheImpl.Laws.{is}
use Rattle.protox_descriptor.specs.contracts.descriptor.EnumDescriptorProtoPartialEq.TheImpl as enumeration
use Rattle.protox_descriptor.specs.contracts.descriptor.EnumValueDescriptorProtoPartialEq.TheImpl as enum_value
use Rattle.protox_descriptor.specs.contracts.descriptor.field.FieldDescriptorProtoPartialEq.TheImpl as field
use Rattle.protox_descriptor.specs.contracts.descriptor.FileDescriptorProtoPartialEq.TheImpl as file
use Rattle.protox_descriptor.specs.contracts.descriptor.MethodDescriptorProtoPartialEq.TheImpl as method
use Rattle.protox_descriptor.specs.contracts.descriptor.OneofDescriptorProtoPartialEq.TheImpl as oneof
use Rattle.protox_descriptor.specs.contracts.descriptor.ServiceDescriptorProtoPartialEq.TheImpl as service
use Rattle.protox_descriptor.specs.contracts.descriptor.SourceCodeInfoPartialEq.TheImpl as source_code_info
use Rattle.protox_descriptor.specs.contracts.descriptor.descriptor_proto.ExtensionRangePartialEq.TheImpl as extension_range
use Rattle.protox_descriptor.specs.contracts.descriptor.descriptor_proto.ReservedRangePartialEq.TheImpl as reserved_range
use Rattle.protox_descriptor.specs.contracts.descriptor.enum_descriptor_proto.EnumReservedRangePartialEq.TheImpl as enum_reserved_range
use Rattle.protox_descriptor.specs.contracts.descriptor.options.EnumOptionsPartialEq.TheImpl as enum_options
use Rattle.protox_descriptor.specs.contracts.descriptor.options.EnumValueOptionsPartialEq.TheImpl as enum_value_options
use Rattle.protox_descriptor.specs.contracts.descriptor.options.ExtensionRangeOptionsPartialEq.TheImpl as extension_range_options
use Rattle.protox_descriptor.specs.contracts.descriptor.options.FieldOptionsPartialEq.TheImpl as field_options
use Rattle.protox_descriptor.specs.contracts.descriptor.options.FileOptionsPartialEq.TheImpl as file_options
use Rattle.protox_descriptor.specs.contracts.descriptor.options.MessageOptionsPartialEq.TheImpl as message_options
use Rattle.protox_descriptor.specs.contracts.descriptor.options.MethodOptionsPartialEq.TheImpl as method_options
use Rattle.protox_descriptor.specs.contracts.descriptor.options.OneofOptionsPartialEq.TheImpl as oneof_options
use Rattle.protox_descriptor.specs.contracts.descriptor.options.ServiceOptionsPartialEq.TheImpl as service_options
use Rattle.protox_descriptor.specs.contracts.descriptor.options.UninterpretedOptionPartialEq.TheImpl as uninterpreted_option
use Rattle.protox_descriptor.specs.contracts.descriptor.source_code_info.LocationPartialEq.TheImpl as location
use Rattle.protox_descriptor.specs.contracts.descriptor.uninterpreted_option.NamePartPartialEq.TheImpl as name_part
use Rattle.protox_descriptor.specs.declared.descriptor.DescriptorProto.{DescriptorProto, DescriptorProto-F, roll-DescriptorProto, out-DescriptorProto, roll-out-DescriptorProto, out-roll-DescriptorProto, ind-DescriptorProto}
use Rattle.protox_descriptor.specs.declared.descriptor.EnumDescriptorProto.{EnumDescriptorProto}
use Rattle.protox_descriptor.specs.declared.descriptor.EnumValueDescriptorProto.{EnumValueDescriptorProto}
use Rattle.protox_descriptor.specs.FieldDescriptorProto.{FieldDescriptorProto}
use Rattle.protox_descriptor.specs.declared.descriptor.FileDescriptorProto.{FileDescriptorProto}
use Rattle.protox_descriptor.specs.declared.descriptor.MethodDescriptorProto.{MethodDescriptorProto}
use Rattle.protox_descriptor.specs.declared.descriptor.OneofDescriptorProto.{OneofDescriptorProto}
use Rattle.protox_descriptor.specs.declared.descriptor.ServiceDescriptorProto.{ServiceDescriptorProto}
use Rattle.protox_descriptor.specs.declared.descriptor.SourceCodeInfo.{SourceCodeInfo}
use Rattle.protox_descriptor.specs.declared.descriptor.descriptor_proto.ExtensionRange.{ExtensionRange}
use Rattle.protox_descriptor.specs.declared.descriptor.descriptor_proto.ReservedRange.{ReservedRange}
use Rattle.protox_descriptor.specs.declared.descriptor.enum_descriptor_proto.EnumReservedRange.{EnumReservedRange}
use Rattle.protox_descriptor.specs.declared.descriptor.options.EnumOptions.{EnumOptions}
use Rattle.protox_descriptor.specs.declared.descriptor.options.EnumValueOptions.{EnumValueOptions}
use Rattle.protox_descriptor.specs.declared.descriptor.options.ExtensionRangeOptions.{ExtensionRangeOptions}
use Rattle.protox_descriptor.specs.declared.descriptor.options.FieldOptions.{FieldOptions}
use Rattle.protox_descriptor.specs.declared.descriptor.options.FileOptions.{FileOptions}
use Rattle.protox_descriptor.specs.declared.descriptor.options.MessageOptions.{MessageOptions}
use Rattle.protox_descriptor.specs.declared.descriptor.options.MethodOptions.{MethodOptions}
use Rattle.protox_descriptor.specs.declared.descriptor.options.OneofOptions.{OneofOptions}
use Rattle.protox_descriptor.specs.declared.descriptor.options.ServiceOptions.{ServiceOptions}
use Rattle.protox_descriptor.specs.declared.descriptor.options.UninterpretedOption.{UninterpretedOption}
use Rattle.protox_descriptor.specs.declared.descriptor.uninterpreted_option.NamePart.{NamePart}

pub same-NamePart : (x : NamePart) → Tells name_part.ghosts.eq x
same-NamePart x =
    tells-parts (λ (z : NamePart). (z.name_part, z.is_extension))
    (λ p. record { name_part = p.0; is_extension = p.1 }) (λ z. refl) x
    (tells-both (tells-text x.name_part) (tells-bool x.is_extension))

pub same-UninterpretedOption : (x : UninterpretedOption) → Tells uninterpreted_option.ghosts.eq x
same-UninterpretedOption x =
    tells-parts (λ (z : UninterpretedOption). (
      z.name,
      (
        z.identifier_value,
        (
          z.positive_int_value,
          (
            z.negative_int_value,
            (
              z.double_value,
              (z.string_value, z.aggregate_value),
            ),
          ),
        ),
      ),
    ))
    (λ p. record {
      name = p.0;
      identifier_value = p.1.0;
      positive_int_value = p.1.1.0;
      negative_int_value = p.1.1.1.0;
      double_value = p.1.1.1.1.0;
      string_value = p.1.1.1.1.1.0;
      aggregate_value = p.1.1.1.1.1.1;
    }) (λ z. refl) x
    (tells-both (tells-list same-NamePart x.name) (tells-both (tells-option tells-text x.identifier_value)
    (tells-both (tells-option tells-unsigned x.positive_int_value) (tells-both (tells-option tells-signed x.negative_int_value)
    (tells-both (tells-option tells-text x.double_value) (tells-both (tells-option tells-text x.string_value)
    (tells-option tells-text x.aggregate_value)))))))

pub same-FileOptions : (x : FileOptions) → Tells file_options.ghosts.eq x
same-FileOptions x =
    tells-parts (λ (z : FileOptions). z.uninterpreted_option)
    (λ p. record { uninterpreted_option = p }) (λ z. refl) x
    (tells-list same-UninterpretedOption x.uninterpreted_option)

pub same-FieldOptions : (x : FieldOptions) → Tells field_options.ghosts.eq x
same-FieldOptions x =
    tells-parts (λ (z : FieldOptions). z.uninterpreted_option)
    (λ p. record { uninterpreted_option = p }) (λ z. refl) x
    (tells-list same-UninterpretedOption x.uninterpreted_option)

pub same-OneofOptions : (x : OneofOptions) → Tells oneof_options.ghosts.eq x
same-OneofOptions x =
    tells-parts (λ (z : OneofOptions). z.uninterpreted_option)
    (λ p. record { uninterpreted_option = p }) (λ z. refl) x
    (tells-list same-UninterpretedOption x.uninterpreted_option)

pub same-EnumOptions : (x : EnumOptions) → Tells enum_options.ghosts.eq x
same-EnumOptions x =
    tells-parts (λ (z : EnumOptions). z.uninterpreted_option)
    (λ p. record { uninterpreted_option = p }) (λ z. refl) x
    (tells-list same-UninterpretedOption x.uninterpreted_option)

pub same-EnumValueOptions : (x : EnumValueOptions) → Tells enum_value_options.ghosts.eq x
same-EnumValueOptions x =
    tells-parts (λ (z : EnumValueOptions). z.uninterpreted_option)
    (λ p. record { uninterpreted_option = p }) (λ z. refl) x
    (tells-list same-UninterpretedOption x.uninterpreted_option)

pub same-ServiceOptions : (x : ServiceOptions) → Tells service_options.ghosts.eq x
same-ServiceOptions x =
    tells-parts (λ (z : ServiceOptions). z.uninterpreted_option)
    (λ p. record { uninterpreted_option = p }) (λ z. refl) x
    (tells-list same-UninterpretedOption x.uninterpreted_option)

pub same-MethodOptions : (x : MethodOptions) → Tells method_options.ghosts.eq x
same-MethodOptions x =
    tells-parts (λ (z : MethodOptions). z.uninterpreted_option)
    (λ p. record { uninterpreted_option = p }) (λ z. refl) x
    (tells-list same-UninterpretedOption x.uninterpreted_option)

pub same-ExtensionRangeOptions : (x : ExtensionRangeOptions) → Tells extension_range_options.ghosts.eq x
same-ExtensionRangeOptions x =
    tells-parts (λ (z : ExtensionRangeOptions). z.uninterpreted_option)
    (λ p. record { uninterpreted_option = p }) (λ z. refl) x
    (tells-list same-UninterpretedOption x.uninterpreted_option)

pub same-MessageOptions : (x : MessageOptions) → Tells message_options.ghosts.eq x
same-MessageOptions x =
    tells-parts (λ (z : MessageOptions). (z.map_entry, z.uninterpreted_option))
    (λ p. record { map_entry = p.0; uninterpreted_option = p.1 }) (λ z. refl) x
    (tells-both (tells-option tells-bool x.map_entry) (tells-list same-UninterpretedOption x.uninterpreted_option))

pub same-ExtensionRange : (x : ExtensionRange) → Tells extension_range.ghosts.eq x
same-ExtensionRange x =
    tells-parts (λ (z : ExtensionRange). (z.start, (z.end, z.options)))
    (λ p. record { start = p.0; end = p.1.0; options = p.1.1 }) (λ z. refl) x
    (tells-both (tells-option tells-signed x.start) (tells-both (tells-option tells-signed x.end)
    (tells-option same-ExtensionRangeOptions x.options)))

pub same-ReservedRange : (x : ReservedRange) → Tells reserved_range.ghosts.eq x
same-ReservedRange x =
    tells-parts (λ (z : ReservedRange). (z.start, z.end))
    (λ p. record { start = p.0; end = p.1 }) (λ z. refl) x
    (tells-both (tells-option tells-signed x.start) (tells-option tells-signed x.end))

pub same-EnumReservedRange : (x : EnumReservedRange) → Tells enum_reserved_range.ghosts.eq x
same-EnumReservedRange x =
    tells-parts (λ (z : EnumReservedRange). (z.start, z.end))
    (λ p. record { start = p.0; end = p.1 }) (λ z. refl) x
    (tells-both (tells-option tells-signed x.start) (tells-option tells-signed x.end))

pub same-FieldDescriptorProto : (x : FieldDescriptorProto) → Tells field.ghosts.eq x
same-FieldDescriptorProto x =
    tells-parts (λ (z : FieldDescriptorProto). (
      z.name,
      (
        z.number,
        (
          z.label,
          (
            z.field_type,
            (
              z.type_name,
              (
                z.extendee,
                (
                  z.default_value,
                  (z.oneof_index, (z.json_name, (z.options, z.proto3_optional))),
                ),
              ),
            ),
          ),
        ),
      ),
    ))
    (λ p. record {
      name = p.0;
      number = p.1.0;
      label = p.1.1.0;
      field_type = p.1.1.1.0;
      type_name = p.1.1.1.1.0;
      extendee = p.1.1.1.1.1.0;
      default_value = p.1.1.1.1.1.1.0;
      oneof_index = p.1.1.1.1.1.1.1.0;
      json_name = p.1.1.1.1.1.1.1.1.0;
      options = p.1.1.1.1.1.1.1.1.1.0;
      proto3_optional = p.1.1.1.1.1.1.1.1.1.1;
    }) (λ z. refl) x
    (tells-both (tells-option tells-text x.name) (tells-both (tells-option tells-signed x.number)
    (tells-both (tells-option tells-signed x.label) (tells-both (tells-option tells-signed x.field_type)
    (tells-both (tells-option tells-text x.type_name) (tells-both (tells-option tells-text x.extendee)
    (tells-both (tells-option tells-text x.default_value) (tells-both (tells-option tells-signed x.oneof_index)
    (tells-both (tells-option tells-text x.json_name) (tells-both (tells-option same-FieldOptions x.options)
    (tells-option tells-bool x.proto3_optional)))))))))))

pub same-OneofDescriptorProto : (x : OneofDescriptorProto) → Tells oneof.ghosts.eq x
same-OneofDescriptorProto x =
    tells-parts (λ (z : OneofDescriptorProto). (z.name, z.options))
    (λ p. record { name = p.0; options = p.1 }) (λ z. refl) x
    (tells-both (tells-option tells-text x.name) (tells-option same-OneofOptions x.options))

pub same-EnumValueDescriptorProto : (x : EnumValueDescriptorProto) → Tells enum_value.ghosts.eq x
same-EnumValueDescriptorProto x =
    tells-parts (λ (z : EnumValueDescriptorProto). (z.name, (z.number, z.options)))
    (λ p. record { name = p.0; number = p.1.0; options = p.1.1 }) (λ z. refl) x
    (tells-both (tells-option tells-text x.name) (tells-both (tells-option tells-signed x.number)
    (tells-option same-EnumValueOptions x.options)))

pub same-EnumDescriptorProto : (x : EnumDescriptorProto) → Tells enumeration.ghosts.eq x
same-EnumDescriptorProto x =
    tells-parts (λ (z : EnumDescriptorProto). (z.name, (z.value, (z.options, (z.reserved_range, z.reserved_name)))))
    (λ p. record { name = p.0; value = p.1.0; options = p.1.1.0; reserved_range = p.1.1.1.0; reserved_name = p.1.1.1.1 }) (λ z. refl) x
    (tells-both (tells-option tells-text x.name) (tells-both (tells-list same-EnumValueDescriptorProto x.value)
    (tells-both (tells-option same-EnumOptions x.options) (tells-both (tells-list same-EnumReservedRange x.reserved_range)
    (tells-list tells-text x.reserved_name)))))

pub same-MethodDescriptorProto : (x : MethodDescriptorProto) → Tells method.ghosts.eq x
same-MethodDescriptorProto x =
    tells-parts (λ (z : MethodDescriptorProto). (
      z.name,
      (
        z.input_type,
        (
          z.output_type,
          (
            z.options,
            (
              z.client_streaming,
              z.server_streaming,
            ),
          ),
        ),
      ),
    ))
    (λ p. record {
      name = p.0;
      input_type = p.1.0;
      output_type = p.1.1.0;
      options = p.1.1.1.0;
      client_streaming = p.1.1.1.1.0;
      server_streaming = p.1.1.1.1.1;
    }) (λ z. refl) x
    (tells-both (tells-option tells-text x.name) (tells-both (tells-option tells-text x.input_type)
    (tells-both (tells-option tells-text x.output_type) (tells-both (tells-option same-MethodOptions x.options)
    (tells-both (tells-option tells-bool x.client_streaming) (tells-option tells-bool x.server_streaming))))))

pub same-ServiceDescriptorProto : (x : ServiceDescriptorProto) → Tells service.ghosts.eq x
same-ServiceDescriptorProto x =
    tells-parts (λ (z : ServiceDescriptorProto). (z.name, (z.method, z.options)))
    (λ p. record { name = p.0; method = p.1.0; options = p.1.1 }) (λ z. refl) x
    (tells-both (tells-option tells-text x.name) (tells-both (tells-list same-MethodDescriptorProto x.method)
    (tells-option same-ServiceOptions x.options)))

pub same-Location : (x : Location) → Tells location.ghosts.eq x
same-Location x =
    tells-parts (λ (z : Location). (z.path, (z.span, (z.leading_comments, (z.trailing_comments, z.leading_detached_comments)))))
    (λ p. record {
      path = p.0;
      span = p.1.0;
      leading_comments = p.1.1.0;
      trailing_comments = p.1.1.1.0;
      leading_detached_comments = p.1.1.1.1;
    }) (λ z. refl) x
    (tells-both (tells-signed_list x.path) (tells-both (tells-signed_list x.span)
    (tells-both (tells-option tells-text x.leading_comments) (tells-both (tells-option tells-text x.trailing_comments)
    (tells-list tells-text x.leading_detached_comments)))))

pub same-SourceCodeInfo : (x : SourceCodeInfo) → Tells source_code_info.ghosts.eq x
same-SourceCodeInfo x =
    tells-parts (λ (z : SourceCodeInfo). z.location)
    (λ p. record { location = p }) (λ z. refl) x
    (tells-list same-Location x.location)

-- A message differs from others if the messages in it do.
of_nested : (x : DescriptorProto) → Tells (pointwise message.ghosts.eq) (out-DescriptorProto x).nested_type → Tells message.ghosts.eq x
of_nested x nested = tells-alike (is x)
    (tells-parts (λ (z : DescriptorProto). (
      (out-DescriptorProto z).name,
      (
        (out-DescriptorProto z).field,
        (
          (out-DescriptorProto z).extension,
          (
            (out-DescriptorProto z).nested_type,
            (
              (out-DescriptorProto z).enum_type,
              (
                (out-DescriptorProto z).extension_range,
                (
                  (out-DescriptorProto z).oneof_decl,
                  (
                    (out-DescriptorProto z).options,
                    ((out-DescriptorProto z).reserved_range, (out-DescriptorProto z).reserved_name),
                  ),
                ),
              ),
            ),
          ),
        ),
      ),
    ))
    (λ p. roll-DescriptorProto (record {
      name = p.0;
      field = p.1.0;
      extension = p.1.1.0;
      nested_type = p.1.1.1.0;
      enum_type = p.1.1.1.1.0;
      extension_range = p.1.1.1.1.1.0;
      oneof_decl = p.1.1.1.1.1.1.0;
      options = p.1.1.1.1.1.1.1.0;
      reserved_range = p.1.1.1.1.1.1.1.1.0;
      reserved_name = p.1.1.1.1.1.1.1.1.1;
    })) roll-out-DescriptorProto x
    (tells-both (tells-option tells-text (out-DescriptorProto x).name)
    (tells-both (tells-list same-FieldDescriptorProto (out-DescriptorProto x).field)
    (tells-both (tells-list same-FieldDescriptorProto (out-DescriptorProto x).extension)
    (tells-both nested (tells-both (tells-list same-EnumDescriptorProto (out-DescriptorProto x).enum_type)
    (tells-both (tells-list same-ExtensionRange (out-DescriptorProto x).extension_range)
    (tells-both (tells-list same-OneofDescriptorProto (out-DescriptorProto x).oneof_decl)
    (tells-both (tells-option same-MessageOptions (out-DescriptorProto x).options)
    (tells-both (tells-list same-ReservedRange (out-DescriptorProto x).reserved_range)
    (tells-list tells-text (out-DescriptorProto x).reserved_name)))))))))))

pub same-DescriptorProto : (x : DescriptorProto) → Tells message.ghosts.eq x
same-DescriptorProto = ind-DescriptorProto (Tells message.ghosts.eq)
    (λ x held e. of_nested (roll-DescriptorProto x)
    (subst (λ (z : DescriptorProto-F DescriptorProto). Tells (pointwise message.ghosts.eq) z.nested_type) (e ∙ sym (out-roll-DescriptorProto x))
    (tells-held held.nested_type)))

pub same-FileDescriptorProto : (x : FileDescriptorProto) → Tells file.ghosts.eq x
same-FileDescriptorProto x =
    tells-parts (λ (z : FileDescriptorProto). (
      z.name,
      (
        z.«package»,
        (
          z.dependency,
          (
            z.public_dependency,
            (
              z.weak_dependency,
              (z.message_type, (z.enum_type, (z.service, (z.extension, (z.options, (z.source_code_info, z.syntax)))))),
            ),
          ),
        ),
      ),
    ))
    (λ p. record {
      name = p.0;
      «package» = p.1.0;
      dependency = p.1.1.0;
      public_dependency = p.1.1.1.0;
      weak_dependency = p.1.1.1.1.0;
      message_type = p.1.1.1.1.1.0;
      enum_type = p.1.1.1.1.1.1.0;
      service = p.1.1.1.1.1.1.1.0;
      extension = p.1.1.1.1.1.1.1.1.0;
      options = p.1.1.1.1.1.1.1.1.1.0;
      source_code_info = p.1.1.1.1.1.1.1.1.1.1.0;
      syntax = p.1.1.1.1.1.1.1.1.1.1.1;
    }) (λ z. refl) x
    (tells-both (tells-option tells-text x.name) (tells-both (tells-option tells-text x.«package»)
    (tells-both (tells-list tells-text x.dependency) (tells-both (tells-list tells-signed x.public_dependency)
    (tells-both (tells-list tells-signed x.weak_dependency) (tells-both (tells-list same-DescriptorProto x.message_type)
    (tells-both (tells-list same-EnumDescriptorProto x.enum_type) (tells-both (tells-list same-ServiceDescriptorProto x.service)
    (tells-both (tells-list same-FieldDescriptorProto x.extension) (tells-both (tells-option same-FileOptions x.options)
    (tells-both (tells-option same-SourceCodeInfo x.source_code_info) (tells-option tells-text x.syntax))))))))))))

-- The descriptor of a service.
use Rattle.std.specs.Prelude.{Bool, true, map, Option, Some, None}
use Rattle.protox_fault.specs.Faults.{Span}
use Rattle.protox_ast.specs.Names.{type_name_text}
use Rattle.protox_ast.specs.declared.ast.Method.{Method}
use Rattle.protox_ast.specs.declared.ast.Service.{Service}
use Rattle.protox_descriptor.specs.declared.descriptor.MethodDescriptorProto.{MethodDescriptorProto}
use Rattle.protox_descriptor.specs.declared.descriptor.ServiceDescriptorProto.{ServiceDescriptorProto}
use Rattle.protox_ast.specs.Options.{bodies_of, options_message}

-- true where the word `stream` stands; absent where it doesn't
abbrev pub streaming : Option Span → Option Bool
streaming None = None
streaming (Some span) = Some true

-- the descriptor of a method; its types are named as they are written
abbrev pub method_proto : Method → MethodDescriptorProto
method_proto method = record {
  name = Some method.name.value;
  input_type = Some (type_name_text method.input_ty);
  output_type = Some (type_name_text method.output_ty);
  options = options_message (λ options. record { uninterpreted_option = options }) (bodies_of method.options);
  client_streaming = streaming method.client_streaming;
  server_streaming = streaming method.server_streaming;
}

-- the descriptor of a service
abbrev pub service_proto : Service → ServiceDescriptorProto
service_proto service = record {
  name = Some service.name.value;
  method = map method_proto service.methods;
  options = options_message (λ options. record { uninterpreted_option = options }) (bodies_of service.options);
}

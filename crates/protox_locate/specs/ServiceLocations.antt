-- The locations of a service's parts. Paths begin at the service's path.
use Rattle.std.specs.Prelude.{List, [], ◌∷◌, ◌++◌, map, Option, Some, None, ℤ}
use Rattle.protox_fault.specs.Faults.{Span}
use Rattle.protox_ast.specs.Names.{type_name_span}
use Rattle.protox_ast.specs.declared.ast.Method.{Method}
use Rattle.protox_ast.specs.declared.ast.Service.{Service}
use Rattle.protox_descriptor.specs.declared.descriptor.source_code_info.Location.{Location}
use Rattle.protox_descriptor.specs.declared.tag.method.TheConstants as method_tag
use Rattle.protox_descriptor.specs.declared.tag.service.TheConstants as service_tag
use Rattle.protox_locate.specs.LocationWords.{Path, Part, part, siblings_at, commented, bare, option_statements}

module _ (numbers : Span → List ℤ) where
  -- the word `stream`, if it is there
  abbrev pub stream_locations : Path → Option Span → List Location
  stream_locations path None = []
  stream_locations path (Some span) = bare numbers path span ∷ []

  -- the locations of a method
  abbrev pub method_locations : Method → Part
  method_locations method path =
      commented numbers path method.span method.comments
      ∷ bare numbers (part path method_tag.NAME) method.name.span
      ∷ bare numbers (part path method_tag.INPUT_TYPE) (type_name_span method.input_ty)
      ∷ bare numbers (part path method_tag.OUTPUT_TYPE) (type_name_span method.output_ty)
      ∷ (option_statements numbers (part path method_tag.OPTIONS) method.options
      ++ (stream_locations (part path method_tag.CLIENT_STREAMING) method.client_streaming
      ++ stream_locations (part path method_tag.SERVER_STREAMING) method.server_streaming))

  -- the locations of a service
  abbrev pub service_locations : Service → Part
  service_locations service path =
      commented numbers path service.span service.comments
      ∷ bare numbers (part path service_tag.NAME) service.name.span
      ∷ (siblings_at path service_tag.METHOD (map method_locations service.methods)
      ++ option_statements numbers (part path service_tag.OPTIONS) service.options)

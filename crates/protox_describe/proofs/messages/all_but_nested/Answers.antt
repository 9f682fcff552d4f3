use Rattle.std.proofs.Common.{List, [], map, ap, ◌∙◌, rules, FitsSigned, w32}
use Rattle.std.proofs.lemmas.Int.{to_z-of_z}
use Rattle.std.specs.Prelude.{None}
use Rattle.std.specs.List.{flat_map}
use Rattle.protox_ast.specs.Options.{bodies_of, options_message}
use Rattle.protox_ast.specs.Ranges.{extension_protos, greatest_number, reserved_range, reserved_ranges, reserved_texts}
use Rattle.protox_ast.specs.Steps.{of_item}
use Rattle.protox_descriptor.specs.declared.descriptor.options.MessageOptions.{MessageOptions}
use Rattle.protox_descriptor.specs.declared.descriptor.options.UninterpretedOption.{UninterpretedOption}
use Rattle.protox_describe.specs.Descriptor.{all_oneofs, descriptor_steps, enums_of, extensions_of, fields_of, is_oneof, nested_of}
use Rattle.protox_describe.specs.Siblings.{count, each_after}
use Rattle.protox_describe.proofs.messages.all_but_nested.Goals as goal

-- the options of a message that is no map entry
abbrev plain : List UninterpretedOption → MessageOptions
plain options = record { map_entry = None; uninterpreted_option = options }

pub returns : goal.returns
returns c =
    let body = c.args.ast.now in
    let item = of_item (descriptor_steps c.args.syntax) in
    let fits : FitsSigned w32 c.greatest_number-greatest.result = search rules in
    let numbers = to_z-of_z w32 c.greatest_number-greatest.result fits ∙ c.greatest_number-greatest.ensures.value ∙ ap greatest_number c.as_slice.ensures in
    let field = c.in_ok-field.ensures ∙ ap (λ l. each_after (fields_of (count is_oneof (map item l))) [] (map item l)) c.as_slice-2.ensures in
    let extension = c.in_ok-extension.ensures ∙ ap (λ l. flat_map extensions_of (map item l)) c.as_slice-3.ensures in
    let enum = c.in_ok-enum_type.ensures c.args.syntax ∙ ap (λ l. flat_map enums_of (map item l)) c.as_slice-4.ensures in
    let ranges = c.in_ok-extension_range.ensures ∙ ap (λ n. extension_protos n c.as_slice-5.result.now) numbers ∙ ap (extension_protos (greatest_number body.options)) c.as_slice-5.ensures in
    let oneof = c.in_ok-oneof_decl.ensures ∙ ap (λ l. all_oneofs (map item l)) c.as_slice-6.ensures in
    let options = c.in_ok-options.ensures ∙ ap (λ l. options_message plain (bodies_of l)) c.as_slice-7.ensures in
    let reserved = c.in_ok-reserved_range.ensures ∙ ap (λ n. map (reserved_range n) (reserved_ranges c.as_slice-8.result.now)) numbers
    ∙ ap (λ l. map (reserved_range (greatest_number body.options)) (reserved_ranges l)) c.as_slice-8.ensures in
    let names = c.in_ok-reserved_name.ensures ∙ ap reserved_texts c.as_slice-9.ensures in
    λ i. record {
      field = field i;
      extension = extension i;
      nested = flat_map nested_of (map item body.items);
      enum = enum i;
      extension_range = ranges i;
      oneof = oneof i;
      options = options i;
      reserved_range = reserved i;
      reserved_name = names i;
    }

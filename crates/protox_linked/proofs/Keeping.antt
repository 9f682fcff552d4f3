-- Linking keeps all that it doesn't set.
use Rattle.std.proofs.Common.{◌≡◌, ℕ, List, Option, Some, None, [], ◌∷◌, map, refl, ap, subst, sym, ◌∙◌}
use Rattle.std.specs.Prelude.{ℤ}
use Rattle.std.specs.Option.{option_and_then, option_map, option_or}
use Rattle.protox_descriptor.specs.FieldDescriptorProto.{FieldDescriptorProto}
use Rattle.protox_descriptor.specs.declared.descriptor.DescriptorProto.{DescriptorProto, DescriptorProto-F, ind-DescriptorProto, out-DescriptorProto, out-roll-DescriptorProto, roll-DescriptorProto}
use Rattle.protox_descriptor.specs.declared.descriptor.DescriptorProto.TheFolds.{fold_out-DescriptorProto}
use Rattle.protox_descriptor.specs.declared.descriptor.FileDescriptorProto.{FileDescriptorProto}
use Rattle.protox_descriptor.specs.declared.descriptor.MethodDescriptorProto.{MethodDescriptorProto}
use Rattle.protox_descriptor.specs.declared.descriptor.ServiceDescriptorProto.{ServiceDescriptorProto}
use Rattle.protox_scopes.specs.declared.kind.Wanted.{Wanted}
use Rattle.protox_scopes.specs.declared.kind.Wanted.TheVariants.{AType, Anything}
use Rattle.protox_linked.proofs.Nesting.{message-linked, name_of_message}
use Rattle.protox_linked.specs.Kept.{any_name, field_kept, file_kept, kept_step, message_kept, method_kept, service_kept, unnamed_type}
use Rattle.protox_linked.specs.Linked.{linked_field, linked_file, linked_message, linked_method, linked_name, linked_service, text_of, type_of_kind}
use Rattle.protox_linked.specs.declared.target.Target.{Target}
use Rattle.protox_names.specs.Names.{within}

map-kept : {A B : Type 0} (keep : A → B) (link : A → A) → ((x : A) → keep (link x) ≡ keep x) → (xs : List A) → map keep (map link xs) ≡ map keep xs
map-kept keep link each [] = refl
map-kept keep link each (x ∷ xs) = λ i. each x i ∷ map-kept keep link each xs i

-- what stays of a message, by what stays of those in it
abbrev parts_kept : DescriptorProto-F DescriptorProto → DescriptorProto
parts_kept m = roll-DescriptorProto (record m {
  field = map field_kept m.field;
  extension = map field_kept m.extension;
  nested_type = map message_kept m.nested_type;
})

message-kept : (m : DescriptorProto) → message_kept m ≡ parts_kept (out-DescriptorProto m)
message-kept m = fold_out-DescriptorProto DescriptorProto kept_step m

kept-roll : (m : DescriptorProto-F DescriptorProto) → message_kept (roll-DescriptorProto m) ≡ parts_kept m
kept-roll m = message-kept (roll-DescriptorProto m) ∙ ap parts_kept (out-roll-DescriptorProto m)

module _ (meaning : Wanted → List ℕ → List ℕ → Option Target) where
  any_kept : (wanted : Wanted) (scope : List ℕ) (name : Option (List ℕ)) → any_name (option_map (linked_name meaning wanted scope) name) ≡ any_name name
  any_kept wanted scope None = refl
  any_kept wanted scope (Some name) = refl

  type_kept : (scope : List ℕ) (name : Option (List ℕ)) (type : Option ℤ)
      → unnamed_type (option_map (linked_name meaning AType scope) name) (option_or type (option_and_then (λ written. option_and_then (λ target. type_of_kind target.kind) (meaning AType scope written)) name)) ≡ unnamed_type name type
  type_kept scope None None = refl
  type_kept scope None (Some type) = refl
  type_kept scope (Some name) type = refl

  field_is_kept : (scope : List ℕ) (f : FieldDescriptorProto) → field_kept (linked_field meaning scope f) ≡ field_kept f
  field_is_kept scope f = λ i. record f {
    type_name = any_kept AType scope f.type_name i;
    field_type = type_kept scope f.type_name f.field_type i;
    extendee = any_kept Anything scope f.extendee i;
    json_name = None;
  }

  method_is_kept : (scope : List ℕ) (m : MethodDescriptorProto) → method_kept (linked_method meaning scope m) ≡ method_kept m
  method_is_kept scope m = λ i. record m {
    input_type = any_kept Anything scope m.input_type i;
    output_type = any_kept Anything scope m.output_type i;
  }

  service_is_kept : (scope : List ℕ) (s : ServiceDescriptorProto) → service_kept (linked_service meaning scope s) ≡ service_kept s
  service_is_kept scope s = λ i. record s {
    method = map-kept method_kept (linked_method meaning (within scope (text_of s.name))) (method_is_kept (within scope (text_of s.name))) s.method i;
  }

  abbrev IsKept : DescriptorProto → Type 0
  IsKept m = (scope : List ℕ) → message_kept (linked_message meaning scope m) ≡ message_kept m

  abbrev AreKept : List DescriptorProto → Type 0
  AreKept ms = (scope : List ℕ) → map message_kept (map (linked_message meaning scope) ms) ≡ map message_kept ms

  are_kept : (held : List ((m : DescriptorProto) × IsKept m)) → AreKept (map (λ e. e.0) held)
  are_kept [] scope = refl
  are_kept (m ∷ ms) scope = λ i. m.1 scope i ∷ are_kept ms scope i

  kept_from : (m : DescriptorProto) → AreKept (out-DescriptorProto m).nested_type → IsKept m
  kept_from m nested scope =
      let inside = name_of_message scope m in
      let parts = out-DescriptorProto m in
      ap message_kept (message-linked meaning scope m)
      ∙ kept-roll (record parts {
        field = map (linked_field meaning inside) parts.field;
        extension = map (linked_field meaning inside) parts.extension;
        nested_type = map (linked_message meaning inside) parts.nested_type;
      })
      ∙ (λ i. roll-DescriptorProto (record parts {
        field = map-kept field_kept (linked_field meaning inside) (field_is_kept inside) parts.field i;
        extension = map-kept field_kept (linked_field meaning inside) (field_is_kept inside) parts.extension i;
        nested_type = nested inside i;
      }))
      ∙ sym (message-kept m)

  pub message_is_kept : (m : DescriptorProto) → IsKept m
  message_is_kept = ind-DescriptorProto IsKept
      (λ x held e. kept_from (roll-DescriptorProto x)
      (subst (λ (z : DescriptorProto-F DescriptorProto). AreKept z.nested_type) (e ∙ sym (out-roll-DescriptorProto x))
      (are_kept held.nested_type)))

  pub file_is_kept : (f : FileDescriptorProto) → file_kept (linked_file meaning f) ≡ file_kept f
  file_is_kept f =
      let scope = text_of f.«package» in
      λ i. record f {
        message_type = map-kept message_kept (linked_message meaning scope) (λ m. message_is_kept m scope) f.message_type i;
        service = map-kept service_kept (linked_service meaning scope) (service_is_kept scope) f.service i;
        extension = map-kept field_kept (linked_field meaning scope) (field_is_kept scope) f.extension i;
      }

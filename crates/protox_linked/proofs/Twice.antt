-- Linking a linked file changes nothing, if a meaning means itself.
use Rattle.std.proofs.Common.{◌≡◌, ℕ, List, Option, Some, None, [], ◌∷◌, map, refl, ap, subst, sym, ◌∙◌}
use Rattle.std.specs.Prelude.{ℤ}
use Rattle.std.specs.Option.{option_and_then, option_map, option_map_or, option_or}
use Rattle.protox_descriptor.specs.FieldDescriptorProto.{FieldDescriptorProto}
use Rattle.protox_descriptor.specs.declared.descriptor.DescriptorProto.{DescriptorProto, DescriptorProto-F, ind-DescriptorProto, out-DescriptorProto, out-roll-DescriptorProto, roll-DescriptorProto}
use Rattle.protox_descriptor.specs.declared.descriptor.FileDescriptorProto.{FileDescriptorProto}
use Rattle.protox_descriptor.specs.declared.descriptor.MethodDescriptorProto.{MethodDescriptorProto}
use Rattle.protox_descriptor.specs.declared.descriptor.ServiceDescriptorProto.{ServiceDescriptorProto}
use Rattle.protox_scopes.specs.declared.kind.Wanted.{Wanted}
use Rattle.protox_scopes.specs.declared.kind.Wanted.TheVariants.{AType, Anything}
use Rattle.protox_linked.proofs.Nesting.{message-linked, name_of_message}
use Rattle.protox_linked.specs.Linked.{json_of, linked_field, linked_file, linked_message, linked_method, linked_name, linked_service, text_of, type_of_kind}
use Rattle.protox_linked.specs.declared.target.Target.{Target}
use Rattle.protox_names.specs.Names.{within}

map-twice : {A : Type 0} (link : A → A) → ((x : A) → link (link x) ≡ link x) → (xs : List A) → map link (map link xs) ≡ map link xs
map-twice link each [] = refl
map-twice link each (x ∷ xs) = λ i. each x i ∷ map-twice link each xs i

name-or : (found : Option Target) (name : List ℕ) → option_map_or (λ target. target.name) found (option_map_or (λ target. target.name) found name) ≡ option_map_or (λ target. target.name) found name
name-or None name = refl
name-or (Some target) name = refl

either-twice : (type : Option ℤ) → option_or type type ≡ type
either-twice None = refl
either-twice (Some type) = refl

module _ (meaning : Wanted → List ℕ → List ℕ → Option Target) (itself : (wanted : Wanted) (scope name : List ℕ) → meaning wanted scope (linked_name meaning wanted scope name) ≡ meaning wanted scope name) where
  abbrev linked1 : Wanted → List ℕ → List ℕ → List ℕ
  linked1 = linked_name meaning

  name_twice : (wanted : Wanted) (scope : List ℕ) (name : Option (List ℕ)) → option_map (linked1 wanted scope) (option_map (linked1 wanted scope) name) ≡ option_map (linked1 wanted scope) name
  name_twice wanted scope None = refl
  name_twice wanted scope (Some name) =
      ap (λ linked. Some linked)
      (ap (λ found. option_map_or (λ target. target.name) found (linked1 wanted scope name)) (itself wanted scope name)
      ∙ name-or (meaning wanted scope name) name)

  abbrev told : List ℕ → Option (List ℕ) → Option ℤ
  told scope name = option_and_then (λ written. option_and_then (λ (target : Target). type_of_kind target.kind) (meaning AType scope written)) name

  type_twice : (scope : List ℕ) (name : Option (List ℕ)) (type : Option ℤ) → option_or (option_or type (told scope name)) (told scope (option_map (linked1 AType scope) name)) ≡ option_or type (told scope name)
  type_twice scope name (Some type) = refl
  type_twice scope None None = refl
  type_twice scope (Some name) None =
      ap (λ found. option_or (told scope (Some name)) (option_and_then (λ (target : Target). type_of_kind target.kind) found)) (itself AType scope name)
      ∙ either-twice (told scope (Some name))

  field_twice : (scope : List ℕ) (f : FieldDescriptorProto) → linked_field meaning scope (linked_field meaning scope f) ≡ linked_field meaning scope f
  field_twice scope f = λ i. record f {
    type_name = name_twice AType scope f.type_name i;
    field_type = type_twice scope f.type_name f.field_type i;
    extendee = name_twice Anything scope f.extendee i;
    json_name = Some (json_of f);
  }

  method_twice : (scope : List ℕ) (m : MethodDescriptorProto) → linked_method meaning scope (linked_method meaning scope m) ≡ linked_method meaning scope m
  method_twice scope m = λ i. record m {
    input_type = name_twice Anything scope m.input_type i;
    output_type = name_twice Anything scope m.output_type i;
  }

  service_twice : (scope : List ℕ) (s : ServiceDescriptorProto) → linked_service meaning scope (linked_service meaning scope s) ≡ linked_service meaning scope s
  service_twice scope s = λ i. record s {
    method = map-twice (linked_method meaning (within scope (text_of s.name))) (method_twice (within scope (text_of s.name))) s.method i;
  }

  -- what a message becomes, by what its parts are
  abbrev parts_linked : List ℕ → DescriptorProto-F DescriptorProto → DescriptorProto
  parts_linked scope m = roll-DescriptorProto (record m {
    field = map (linked_field meaning (within scope (text_of m.name))) m.field;
    extension = map (linked_field meaning (within scope (text_of m.name))) m.extension;
    nested_type = map (linked_message meaning (within scope (text_of m.name))) m.nested_type;
  })

  abbrev IsSame : DescriptorProto → Type 0
  IsSame m = (scope : List ℕ) → linked_message meaning scope (linked_message meaning scope m) ≡ linked_message meaning scope m

  abbrev AreSame : List DescriptorProto → Type 0
  AreSame ms = (scope : List ℕ) → map (linked_message meaning scope) (map (linked_message meaning scope) ms) ≡ map (linked_message meaning scope) ms

  are_same : (held : List ((m : DescriptorProto) × IsSame m)) → AreSame (map (λ e. e.0) held)
  are_same [] scope = refl
  are_same (m ∷ ms) scope = λ i. m.1 scope i ∷ are_same ms scope i

  same_from : (m : DescriptorProto) → AreSame (out-DescriptorProto m).nested_type → IsSame m
  same_from m nested scope =
      let inside = name_of_message scope m in
      let parts = out-DescriptorProto m in
      let made = record parts {
        field = map (linked_field meaning inside) parts.field;
        extension = map (linked_field meaning inside) parts.extension;
        nested_type = map (linked_message meaning inside) parts.nested_type;
      } in
      ap (linked_message meaning scope) (message-linked meaning scope m)
      ∙ message-linked meaning scope (roll-DescriptorProto made)
      ∙ ap (parts_linked scope) (out-roll-DescriptorProto made)
      ∙ (λ i. roll-DescriptorProto (record parts {
        field = map-twice (linked_field meaning inside) (field_twice inside) parts.field i;
        extension = map-twice (linked_field meaning inside) (field_twice inside) parts.extension i;
        nested_type = nested inside i;
      }))
      ∙ sym (message-linked meaning scope m)

  pub message_twice : (m : DescriptorProto) → IsSame m
  message_twice = ind-DescriptorProto IsSame
      (λ x held e. same_from (roll-DescriptorProto x)
      (subst (λ (z : DescriptorProto-F DescriptorProto). AreSame z.nested_type) (e ∙ sym (out-roll-DescriptorProto x))
      (are_same held.nested_type)))

  pub file_twice : (f : FileDescriptorProto) → linked_file meaning (linked_file meaning f) ≡ linked_file meaning f
  file_twice f =
      let scope = text_of f.«package» in
      λ i. record f {
        message_type = map-twice (linked_message meaning scope) (λ m. message_twice m scope) f.message_type i;
        service = map-twice (linked_service meaning scope) (service_twice scope) f.service i;
        extension = map-twice (linked_field meaning scope) (field_twice scope) f.extension i;
      }

-- What becomes of a message, by what becomes of the messages in it.
use Rattle.std.proofs.Common.{◌≡◌, ℕ, Bool, ◌&&◌, true, false, List, Option, Result, Ok, Err, OnOk, [], ◌∷◌, map, refl, ap, subst, sym, ◌∙◌}
use Rattle.std.proofs.lemmas.List.Sums.{AllPass-from_list_all}
use Rattle.std.specs.List.{AllPass, list_all}
use Rattle.protox_descriptor.specs.FieldDescriptorProto.{FieldDescriptorProto}
use Rattle.protox_descriptor.specs.declared.descriptor.DescriptorProto.{DescriptorProto, out-DescriptorProto, roll-DescriptorProto}
use Rattle.protox_descriptor.specs.declared.descriptor.DescriptorProto.TheFolds.{fold_out-DescriptorProto}
use Rattle.protox_names.specs.Names.{within}
use Rattle.protox_scopes.specs.declared.kind.Wanted.{Wanted}
use Rattle.protox_linked.specs.Linked.{Linked, OfMessage, linked_field, linked_message, message_stands, message_step, stands_step, text_of}
use Rattle.protox_linked.specs.declared.target.Target.{Target}

-- the full name of a message that stands in a scope
abbrev pub name_of_message : List ℕ → DescriptorProto → List ℕ
name_of_message scope m = within scope (text_of (out-DescriptorProto m).name)

second-holds : (a b : Bool) → (a && b) ≡ true → b ≡ true
second-holds true b both = both
second-holds false b both = cc

map-applied : {A B : Type 0} (f : A → List ℕ → B) (scope : List ℕ) (xs : List A) → map (λ (made : List ℕ → B). made scope) (map f xs) ≡ map (λ x. f x scope) xs
map-applied f scope [] = refl
map-applied f scope (x ∷ xs) = ap (λ more. f x scope ∷ more) (map-applied f scope xs)

all-applied : {A : Type 0} (f : A → List ℕ → Bool) (scope : List ℕ) (xs : List A) → list_all (λ (made : List ℕ → Bool). made scope) (map f xs) ≡ list_all (λ x. f x scope) xs
all-applied f scope [] = refl
all-applied f scope (x ∷ xs) = ap (λ more. f x scope && more) (all-applied f scope xs)

module _ (meaning : Wanted → List ℕ → List ℕ → Option Target) (scope : List ℕ) (m : DescriptorProto) where
  pub message-linked : linked_message meaning scope m ≡ roll-DescriptorProto (record {
    name = (out-DescriptorProto m).name;
    field = map (linked_field meaning (name_of_message scope m)) (out-DescriptorProto m).field;
    extension = map (linked_field meaning (name_of_message scope m)) (out-DescriptorProto m).extension;
    nested_type = map (linked_message meaning (name_of_message scope m)) (out-DescriptorProto m).nested_type;
    enum_type = (out-DescriptorProto m).enum_type;
    extension_range = (out-DescriptorProto m).extension_range;
    oneof_decl = (out-DescriptorProto m).oneof_decl;
    options = (out-DescriptorProto m).options;
    reserved_range = (out-DescriptorProto m).reserved_range;
    reserved_name = (out-DescriptorProto m).reserved_name;
  })
  message-linked =
      ap (λ (linked : Linked meaning). linked scope) (fold_out-DescriptorProto (Linked meaning) (message_step meaning) m)
      ∙ ap (λ (nested : List DescriptorProto). roll-DescriptorProto (record {
        name = (out-DescriptorProto m).name;
        field = map (linked_field meaning (name_of_message scope m)) (out-DescriptorProto m).field;
        extension = map (linked_field meaning (name_of_message scope m)) (out-DescriptorProto m).extension;
        nested_type = nested;
        enum_type = (out-DescriptorProto m).enum_type;
        extension_range = (out-DescriptorProto m).extension_range;
        oneof_decl = (out-DescriptorProto m).oneof_decl;
        options = (out-DescriptorProto m).options;
        reserved_range = (out-DescriptorProto m).reserved_range;
        reserved_name = (out-DescriptorProto m).reserved_name;
      })) (map-applied (λ (n : DescriptorProto) (inside : List ℕ). linked_message meaning inside n) (name_of_message scope m) (out-DescriptorProto m).nested_type)

  -- a message whose parts are linked, one list after the other
  pub parts-linked : {T E : Type 0} (r : Result T E) (inside : List ℕ) (field extension : List FieldDescriptorProto) (nested : List DescriptorProto)
      → inside ≡ name_of_message scope m
      → nested ≡ map (linked_message meaning inside) (out-DescriptorProto m).nested_type
      → field ≡ map (linked_field meaning inside) (out-DescriptorProto m).field
      → OnOk r (extension ≡ map (linked_field meaning inside) (out-DescriptorProto m).extension)
      → OnOk r (roll-DescriptorProto (record {
        name = (out-DescriptorProto m).name;
        field = field;
        extension = extension;
        nested_type = nested;
        enum_type = (out-DescriptorProto m).enum_type;
        extension_range = (out-DescriptorProto m).extension_range;
        oneof_decl = (out-DescriptorProto m).oneof_decl;
        options = (out-DescriptorProto m).options;
        reserved_range = (out-DescriptorProto m).reserved_range;
        reserved_name = (out-DescriptorProto m).reserved_name;
      }) ≡ linked_message meaning scope m)
  parts-linked (Ok x) inside field extension nested is nested-is field-is extension-is =
      rw (nested-is, field-is, extension-is, is, message-linked) refl
  parts-linked (Err e) inside field extension nested is nested-is field-is extension-is = tt

module _ (stands : List ℕ → Bool) (scope : List ℕ) (m : DescriptorProto) where
  pub message-stands : message_stands stands scope m ≡ (stands (name_of_message scope m) && list_all (message_stands stands (name_of_message scope m)) (out-DescriptorProto m).nested_type)
  message-stands =
      ap (λ (test : OfMessage stands). test scope) (fold_out-DescriptorProto (OfMessage stands) (stands_step stands) m)
      ∙ ap (λ (inner : Bool). stands (name_of_message scope m) && inner)
      (all-applied (λ (n : DescriptorProto) (inside : List ℕ). message_stands stands inside n) (name_of_message scope m) (out-DescriptorProto m).nested_type)

  -- Where a message can be a scope, so can those in it.
  pub nested-stand : (inside : List ℕ) → inside ≡ name_of_message scope m → message_stands stands scope m ≡ true → AllPass (message_stands stands inside) (out-DescriptorProto m).nested_type
  nested-stand inside is stand =
      let both : (stands (name_of_message scope m) && list_all (message_stands stands (name_of_message scope m)) (out-DescriptorProto m).nested_type) ≡ true = sym message-stands ∙ stand in
      subst (λ (name : List ℕ). AllPass (message_stands stands name) (out-DescriptorProto m).nested_type) (sym is)
      (AllPass-from_list_all _ _ (second-holds (stands (name_of_message scope m)) _ both))

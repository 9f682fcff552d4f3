-- If nothing is wrong with a file, the written oneofs come first in each message: no field of a
-- oneof has a label.
use Rattle.std.proofs.Common.{◌≡◌, ℕ, Bool, true, false, List, [], ◌∷◌, ◌++◌, map, Option, None, refl, ap, sym, ◌∙◌, subst}
use Rattle.std.specs.Prelude.{if◌then◌else◌}
use Rattle.std.specs.List.{flat_map}
use Rattle.protox_ast.proofs.Lemmas.{Keeps, Pairs, each-back, each-front, extend_has, message_has}
use Rattle.protox_ast.specs.Basics.{Each}
use Rattle.protox_ast.specs.Options.{bodies_of, json_name_of, options_left}
use Rattle.protox_ast.specs.Steps.{of_extend}
use Rattle.protox_ast.specs.declared.ast.Extend.{Extend}
use Rattle.protox_ast.specs.declared.ast.File.{File}
use Rattle.protox_ast.specs.declared.ast.FileItem.{FileItem}
use Rattle.protox_ast.specs.declared.ast.FileItem.TheVariants as item
use Rattle.protox_ast.specs.declared.ast.OptionList.{OptionList}
use Rattle.protox_ast.specs.declared.ast.Syntax.{Syntax}
use Rattle.protox_ast.specs.declared.ast.Syntax.TheVariants.{Proto2, Proto3}
use Rattle.protox_ast.specs.declared.ast.Ty.{Ty}
use Rattle.protox_ast.specs.declared.ast.TypeName.{TypeName}
use Rattle.protox_fault.specs.Faults.{Span}
use Rattle.protox_checks.proofs.Lemmas.{Fine, Holder, a_message, a_oneof, all-fine, an_extend}
use Rattle.protox_checks.proofs.Lemmas.{each-both}
use Rattle.protox_checks.specs.FieldFaults.{KindNode}
use Rattle.protox_checks.specs.Faults.{IsFaultless}
use Rattle.protox_checks.specs.Nodes.{Node, empty_nodes, fields_nodes, item_nodes, json_name_nodes, node_steps, option_nodes}
use Rattle.protox_describe.proofs.Lemmas.{IsApart, IsPlain, ItemMade, Made, apart-fields}
use Rattle.protox_describe.proofs.Lemmas.{extending-nested, items-first, message-own, none, one}
use Rattle.protox_describe.specs.Descriptor.{Gives, Item, OneofGives, descriptor_steps, extending, nested_of}
use Rattle.protox_describe.specs.Fields.{Kind, Parts, entry_name, entry_parts, is_proto3_optional, message_proto, messages_of, optional_flag}
use Rattle.protox_describe.specs.File.{file_proto, item_extensions, item_messages}
use Rattle.protox_describe.specs.Oneofs.{AreInNone, HasRealFirst, RealFirst, each_own, is_optional}
use Rattle.protox_descriptor.specs.declared.descriptor.DescriptorProto.{DescriptorProto}
use Rattle.protox_descriptor.specs.declared.descriptor.FileDescriptorProto.{FileDescriptorProto}
use Rattle.protox_descriptor.specs.declared.descriptor.OneofDescriptorProto.{OneofDescriptorProto}
use Rattle.protox_generate.specs.File.{file_descriptor}

module _ (syntax : Syntax) where
  -- the same for a message and each in it
  abbrev First : DescriptorProto → Type 0
  First message = Each RealFirst (each_own message)

  abbrev KindHas : Kind → KindNode × List Node → Type 0
  KindHas kind nodes = Each Fine nodes.1 → (name : List ℕ) → Each First (messages_of name kind)

  abbrev BodyHas : Parts → List Node → Type 0
  BodyHas parts nodes = Each Fine nodes → RealFirst (record { fields = parts.field; extensions = parts.extension; oneofs = parts.oneof }) × Each First parts.nested

  record FieldHas (gives : Gives) (nodes : Holder → List Node) : Type 0 where
    pub made : Made gives
    pub apart : IsApart gives
    pub plain : Each Fine (nodes a_oneof) → IsPlain gives
    pub nested : (scope : Holder) → Each Fine (nodes scope) → Each First gives.nested

  abbrev MessageHas : DescriptorProto → List Node → Type 0
  MessageHas message nodes = Each Fine nodes → First message

  abbrev ItemHas : Item → List Node → Type 0
  ItemHas x nodes = Each Fine nodes → ItemMade x × Each First (nested_of x)

  abbrev OneofHas : OneofGives → List Node → Type 0
  OneofHas oneof nodes = Each Fine nodes → Each IsPlain oneof.fields × Each First (flat_map (λ (gives : Gives). gives.nested) oneof.fields)

  abbrev ExtendHas : List Gives → List Node → Type 0
  ExtendHas fields nodes = Each IsApart fields × (Each Fine nodes → Each First (flat_map (λ (gives : Gives). gives.nested) fields))

  -- ---- messages

  flat-first : (messages : List DescriptorProto) → Each First messages → Each RealFirst (flat_map each_own messages)
  flat-first [] h = tt
  flat-first (m ∷ ms) h = each-both RealFirst (each_own m) (flat_map each_own ms) h.0 (flat-first ms h.1)

  message-first : (name : List ℕ) (parts : Parts) → RealFirst (record { fields = parts.field; extensions = parts.extension; oneofs = parts.oneof }) → Each First parts.nested → First (message_proto name parts)
  message-first name parts own nested = subst (Each RealFirst) (sym (message-own name parts)) (own, flat-first parts.nested nested)

  entry-first : (name : List ℕ) (key value : Ty) → First (message_proto name (entry_parts key value))
  entry-first name key value = message-first name (entry_parts key value) (record { below = (tt, (tt, tt)); real = 0; indexed = (tt, (tt, refl)); apart = tt }) tt

  -- ---- fields

  none-plain : (syntax : Syntax) → is_proto3_optional syntax None ≡ false
  none-plain Proto2 = refl
  none-plain Proto3 = refl

  flag-plain : (b : Bool) → b ≡ false → is_optional (optional_flag b) ≡ false
  flag-plain false e = refl
  flag-plain true e = e

  flag-made : (b : Bool) (gives : Gives) (oneof : OneofDescriptorProto) → gives.synthetic ≡ (if b then oneof ∷ [] else []) → gives.field.proto3_optional ≡ optional_flag b → Made gives
  flag-made false gives oneof synthetic flag = none synthetic (ap is_optional flag)
  flag-made true gives oneof synthetic flag = one oneof synthetic (ap is_optional flag)

  field-has : (label : _) (name : _) (k : Kind) (k' : KindNode × List Node) (number : _) (options : Option OptionList) (comments : _) (span : Span) → KindHas k k'
      → FieldHas ((descriptor_steps syntax).field (record { label = label; name = name; kind = k; number = number; options = options; comments = comments; span = span }))
      (node_steps.field (record { label = label; name = name; kind = k'; number = number; options = options; comments = comments; span = span }))
  field-has label name k k' number options comments span h = record {
    made = flag-made (is_proto3_optional syntax label) _ _ refl refl;
    apart = refl;
    plain = λ fine. flag-plain (is_proto3_optional syntax label) (ap (is_proto3_optional syntax) fine.1.0 ∙ none-plain syntax);
    nested = λ scope fine. h (each-front Fine k'.1 (json_name_nodes (json_name_of options) ++ option_nodes (options_left options)) (fine.1.1)) name.value;
  }

  nested-fields : (scope : Holder) (fields : List Gives) (nodes : List (Holder → List Node)) → Pairs FieldHas fields nodes → Each Fine (fields_nodes scope nodes)
      → Each First (flat_map (λ (gives : Gives). gives.nested) fields)
  nested-fields scope [] [] p fine = tt
  nested-fields scope [] (n ∷ ns) p fine = absurd p
  nested-fields scope (f ∷ fs) [] p fine = absurd p
  nested-fields scope (f ∷ fs) (n ∷ ns) p fine =
      each-both First f.nested (flat_map (λ (gives : Gives). gives.nested) fs) (p.0.nested scope (each-front Fine (n scope) (fields_nodes scope ns) fine))
      (nested-fields scope fs ns p.1 (each-back Fine (n scope) (fields_nodes scope ns) fine))

  plain-fields : (fields : List Gives) (nodes : List (Holder → List Node)) → Pairs FieldHas fields nodes → Each Fine (fields_nodes a_oneof nodes) → Each IsPlain fields
  plain-fields [] [] p fine = tt
  plain-fields [] (n ∷ ns) p fine = absurd p
  plain-fields (f ∷ fs) [] p fine = absurd p
  plain-fields (f ∷ fs) (n ∷ ns) p fine =
      (p.0.plain (each-front Fine (n a_oneof) (fields_nodes a_oneof ns) fine), plain-fields fs ns p.1 (each-back Fine (n a_oneof) (fields_nodes a_oneof ns) fine))

  extending-apart : (extendee : TypeName) (fields : List Gives) (nodes : List (Holder → List Node)) → Pairs FieldHas fields nodes → Each IsApart (map (extending extendee) fields)
  extending-apart extendee [] nodes p = tt
  extending-apart extendee (f ∷ fs) [] p = absurd p
  extending-apart extendee (f ∷ fs) (n ∷ ns) p = (p.0.apart, extending-apart extendee fs ns p.1)

  -- ---- bodies

  items-have : (items : List Item) (nodes : List (List Node)) → Pairs ItemHas items nodes → Each Fine (flat_map (λ nodes. nodes) nodes) → Each ItemMade items × Each First (flat_map nested_of items)
  items-have [] [] p fine = (tt, tt)
  items-have [] (n ∷ ns) p fine = absurd p
  items-have (x ∷ xs) [] p fine = absurd p
  items-have (x ∷ xs) (n ∷ ns) p fine =
      let here = p.0 (each-front Fine n (flat_map (λ nodes. nodes) ns) fine) in
      let more = items-have xs ns p.1 (each-back Fine n (flat_map (λ nodes. nodes) ns) fine) in
      ((here.0, more.0), each-both First (nested_of x) (flat_map nested_of xs) here.1 more.1)

  all-keep : Keeps KindHas ItemHas ExtendHas FieldHas MessageHas BodyHas OneofHas (descriptor_steps syntax) node_steps
  all-keep = record {
    normal = λ type span fine name. tt;
    group = λ span body nodes h fine name. let parts = h fine in (message-first name body parts.0 parts.1, tt);
    a_map = λ span key key_span value value_span fine name. (entry-first (entry_name name) key value, tt);
    item_field = λ x nodes h fine. (h.made, h.nested a_message fine);
    item_message = λ x nodes h fine. (tt, (h fine, tt));
    item_oneof = λ x nodes h fine. h fine;
    item_extend = λ x nodes h fine. (h.0, h.1 fine);
    item_enum = λ x fine. (tt, tt);
    extend = λ extendee fields nodes comments span p. (extending-apart extendee fields nodes p, λ fine. subst (Each First) (sym (extending-nested extendee fields)) (nested-fields an_extend fields nodes p fine));
    field = field-has;
    message = λ name body nodes comments span h fine. let parts = h fine in message-first name.value body parts.0 parts.1;
    body = λ items nodes extensions options reserved p fine.
        let parts = items-have items nodes p (each-front Fine (flat_map (λ nodes. nodes) nodes) _ fine) in
        (items-first items parts.0, parts.1);
    oneof = λ name options fields nodes comments span p fine.
        let inside = each-back Fine (empty_nodes nodes span) (fields_nodes a_oneof nodes) (each-back Fine (option_nodes (bodies_of options)) (empty_nodes nodes span ++ fields_nodes a_oneof nodes) fine) in
        (plain-fields fields nodes p inside, nested-fields a_oneof fields nodes p inside);
  }

  -- ---- a file

  extend-kept : (x : Extend) → ExtendHas (of_extend (descriptor_steps syntax) x) (of_extend node_steps x)
  extend-kept x = extend_has KindHas ItemHas ExtendHas FieldHas MessageHas BodyHas OneofHas (descriptor_steps syntax) node_steps all-keep x

  item-first : (x : FileItem) → Each Fine (item_nodes x) → Each First (item_messages syntax x)
  item-first (item.Message x) fine = (message_has KindHas ItemHas ExtendHas FieldHas MessageHas BodyHas OneofHas (descriptor_steps syntax) node_steps all-keep x fine, tt)
  item-first (item.Extend x) fine = (extend-kept x).1 fine
  item-first (item.Enum x) fine = tt
  item-first (item.Service x) fine = tt

  all-first : (xs : List FileItem) → Each Fine (flat_map item_nodes xs) → Each First (flat_map (item_messages syntax) xs)
  all-first [] fine = tt
  all-first (x ∷ xs) fine =
      each-both First (item_messages syntax x) (flat_map (item_messages syntax) xs) (item-first x (each-front Fine (item_nodes x) (flat_map item_nodes xs) fine))
      (all-first xs (each-back Fine (item_nodes x) (flat_map item_nodes xs) fine))

  all-apart : (xs : List FileItem) → AreInNone (flat_map (item_extensions syntax) xs)
  all-apart [] = tt
  all-apart (item.Message x ∷ xs) = all-apart xs
  all-apart (item.Extend x ∷ xs) = apart-fields (of_extend (descriptor_steps syntax) x) (flat_map (item_extensions syntax) xs) (extend-kept x).0 (all-apart xs)
  all-apart (item.Enum x ∷ xs) = all-apart xs
  all-apart (item.Service x ∷ xs) = all-apart xs

pub faultless-first : (name : List ℕ) (file : File) → IsFaultless file → HasRealFirst (file_proto name file)
faultless-first name file right = (
  flat-first file.syntax (flat_map (item_messages file.syntax) file.items)
      (all-first file.syntax file.items (each-front Fine (flat_map item_nodes file.items) (option_nodes (bodies_of file.options)) (all-fine file right))),
  all-apart file.syntax file.items,
)

-- the same for the answer
pub answer-first : (name source : List ℕ) (file : File) (found : FileDescriptorProto) → IsFaultless file → found ≡ file_descriptor name source file → HasRealFirst found
unfolding file_descriptor
answer-first name source file found right is = subst HasRealFirst (sym is) (faultless-first name file right)

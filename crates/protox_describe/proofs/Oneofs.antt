-- The fields of a message and the indices of their oneofs, one item at a time.
use Rattle.std.proofs.Common.{◌≡◌, ℕ, ◌+◌, List, [], ◌∷◌, ◌++◌, length, map, refl, ap, sym, ◌∙◌}
use Rattle.std.specs.Prelude.{Some, pos}
use Rattle.std.specs.List.{flat_map}
use Rattle.protox_ast.specs.declared.ast.TypeName.{TypeName}
use Rattle.protox_describe.specs.Descriptor.{Gives, Item, OfField, OfMessage, OfOneof, OfEnum, OfExtend, extending, fields_of, in_oneof, is_oneof, synthetic_index, synthetic_of}
use Rattle.protox_describe.specs.inner.Pass.{item_fields}
use Rattle.protox_describe.specs.Siblings.{count, each_after}
use Rattle.protox_describe.proofs.Lists.{each_after-snoc}

item_fields-are : (all : ℕ) (before : List Item) (item : Item) (written made : ℕ) → written ≡ count is_oneof before → made ≡ all + length (flat_map synthetic_of before)
    → item_fields written made item ≡ fields_of all before item
item_fields-are all before (OfField gives) written made w m = ap (λ n. in_oneof (synthetic_index n gives) gives ∷ []) m
item_fields-are all before (OfMessage message) written made w m = refl
item_fields-are all before (OfOneof gives) written made w m = ap (λ n. map (in_oneof (Some (pos n))) gives.fields) w
item_fields-are all before (OfEnum enum) written made w m = refl
item_fields-are all before (OfExtend fields) written made w m = refl

pub fields-more : (all : ℕ) (before : List Item) (item : Item) (written made : ℕ) → written ≡ count is_oneof before → made ≡ all + length (flat_map synthetic_of before)
    → each_after (fields_of all) [] before ++ item_fields written made item ≡ each_after (fields_of all) [] (before ++ item ∷ [])
fields-more all before item written made w m =
    ap (λ l. each_after (fields_of all) [] before ++ l) (item_fields-are all before item written made w m) ∙ sym (each_after-snoc (fields_of all) [] before item)

-- The type that a field extends changes none of the field's messages.
pub extending-nested : (extendee : TypeName) (fields : List Gives) → flat_map (λ gives. gives.nested) (map (extending extendee) fields) ≡ flat_map (λ gives. gives.nested) fields
extending-nested extendee [] = refl
extending-nested extendee (x ∷ xs) = ap (λ l. x.nested ++ l) (extending-nested extendee xs)

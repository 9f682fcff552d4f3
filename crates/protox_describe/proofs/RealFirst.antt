-- The written oneofs of a message come first.
use Rattle.std.proofs.Common.{◌≡◌, ℕ, ◌+◌, ◌<◌, ◌≤◌, true, false, List, [], ◌∷◌, ◌++◌, length, map, Option, Some, None, refl, ap, sym, ◌∙◌, subst, arith, length-append, append-nil, append_assoc}
use Rattle.std.specs.Prelude.{ℤ, pos, if◌then◌else◌}
use Rattle.std.specs.List.{flat_map}
use Rattle.std.proofs.lemmas.List.Folds.{flat_map-map}
use Rattle.protox_ast.specs.Basics.{Each}
use Rattle.protox_describe.specs.Siblings.{Given}
use Rattle.protox_descriptor.specs.declared.descriptor.DescriptorProto.TheFolds.{fold-roll-DescriptorProto}
use Rattle.protox_descriptor.specs.FieldDescriptorProto.{FieldDescriptorProto}
use Rattle.protox_descriptor.specs.declared.descriptor.OneofDescriptorProto.{OneofDescriptorProto}
use Rattle.protox_describe.specs.Descriptor.{Gives, Item, OfField, OfMessage, OfOneof, OfEnum, OfExtend, all_oneofs, extensions_of, fields_of, in_oneof, is_oneof, oneofs_of, synthetic_index, synthetic_of}
use Rattle.protox_describe.specs.Fields.{Parts, message_proto}
use Rattle.protox_describe.specs.Oneofs.{AreIndexed, AreInNone, IsBelow, Own, RealFirst, each_own, is_optional, own_step}
use Rattle.protox_describe.specs.Siblings.{count, each_after}
use Rattle.protox_describe.proofs.Lists.{flat_map-snoc}

-- ---- what items contribute

abbrev pub IsPlain : Gives → Type 0
IsPlain gives = is_optional gives.field.proto3_optional ≡ false

-- A field is `optional` in proto3 exactly if a oneof is made for it.
pub data Made (gives : Gives) : Type 0 where
  none : gives.synthetic ≡ [] → IsPlain gives → Made gives
  one : (oneof : OneofDescriptorProto) → gives.synthetic ≡ oneof ∷ [] → is_optional gives.field.proto3_optional ≡ true → Made gives

-- A new field is in no oneof.
abbrev pub IsApart : Gives → Type 0
IsApart gives = gives.field.oneof_index ≡ None

abbrev pub ItemMade : Item → Type 0
ItemMade (OfField gives) = Made gives
ItemMade (OfOneof oneof) = Each IsPlain oneof.fields
ItemMade (OfExtend fields) = Each IsApart fields
ItemMade _ = Unit {0}

-- ---- one field, and those of a oneof

plain : (real next all : ℕ) (index : Option ℤ) (gives : Gives) (more : List FieldDescriptorProto) → IsPlain gives → Given (IsBelow real) index → AreIndexed real next all more
    → AreIndexed real next all (in_oneof index gives ∷ more)
plain real next all index gives more is below h =
    subst (λ b. elim b as (λ _. Type 0) [
      | true ↦ (index ≡ Some (pos next)) × AreIndexed real (next + 1) all more
      | false ↦ Given (IsBelow real) index × AreIndexed real next all more
    ]) (sym is) (below, h)

optional : (real next all : ℕ) (index : Option ℤ) (gives : Gives) (more : List FieldDescriptorProto) → is_optional gives.field.proto3_optional ≡ true → index ≡ Some (pos next)
    → AreIndexed real (next + 1) all more → AreIndexed real next all (in_oneof index gives ∷ more)
optional real next all index gives more is at h =
    subst (λ b. elim b as (λ _. Type 0) [
      | true ↦ (index ≡ Some (pos next)) × AreIndexed real (next + 1) all more
      | false ↦ Given (IsBelow real) index × AreIndexed real next all more
    ]) (sym is) (at, h)

of-oneof : (real next all n : ℕ) (fields : List Gives) (more : List FieldDescriptorProto) → n < real → Each IsPlain fields → AreIndexed real next all more
    → AreIndexed real next all (map (in_oneof (Some (pos n))) fields ++ more)
of-oneof real next all n [] more lt e h = h
of-oneof real next all n (f ∷ fs) more lt e h = plain real next all (Some (pos n)) f (map (in_oneof (Some (pos n))) fs ++ more) e.0 (n, refl, lt) (of-oneof real next all n fs more lt e.1 h)

-- ---- all items

more-made : (before : List Item) (item : Item) → length (flat_map synthetic_of (before ++ item ∷ [])) ≡ length (flat_map synthetic_of before) + length (synthetic_of item)
more-made before item = ap length (flat_map-snoc synthetic_of before item) ∙ length-append (flat_map synthetic_of before) (synthetic_of item)

-- The indices of the items' fields follow those of the items before.
abbrev Rest : ℕ → ℕ → ℕ → List Item → List Item → Type 0
Rest real next all before items = AreIndexed real next all (each_after (fields_of real) before items)

a-field : (real all : ℕ) (before : List Item) (gives : Gives) (items : List Item) → Made gives
    → Rest real (real + length (flat_map synthetic_of (before ++ OfField gives ∷ []))) all (before ++ OfField gives ∷ []) items
    → Rest real (real + length (flat_map synthetic_of before)) all before (OfField gives ∷ items)
a-field real all before gives items (none empty is) h =
    let next = real + length (flat_map synthetic_of before) in
    let more = each_after (fields_of real) (before ++ OfField gives ∷ []) items in
    let size : length gives.synthetic ≡ 0 = ap length empty in
    let same : real + length (flat_map synthetic_of (before ++ OfField gives ∷ [])) ≡ next = omega (arith, more-made before (OfField gives), size) in
    plain real next all (synthetic_index next gives) gives more is
    (subst (λ l. Given (IsBelow real) (elim l as (λ _. Option ℤ) [ [] ↦ None | oneof ∷ more ↦ Some (pos next) ])) (sym empty) tt)
    (subst (λ n. AreIndexed real n all more) same h)
a-field real all before gives items (one oneof made is) h =
    let next = real + length (flat_map synthetic_of before) in
    let more = each_after (fields_of real) (before ++ OfField gives ∷ []) items in
    let size : length gives.synthetic ≡ 1 = ap length made in
    let same : real + length (flat_map synthetic_of (before ++ OfField gives ∷ [])) ≡ next + 1 = omega (arith, more-made before (OfField gives), size) in
    optional real next all (synthetic_index next gives) gives more is
    (ap (λ l. elim l as (λ _. Option ℤ) [ [] ↦ None | oneof ∷ more ↦ Some (pos next) ]) made)
    (subst (λ n. AreIndexed real n all more) same h)

-- no oneof is made for an item that is no field
passed : (real all : ℕ) (before : List Item) (item : Item) (items : List Item) → length (synthetic_of item) ≡ 0
    → Rest real (real + length (flat_map synthetic_of (before ++ item ∷ []))) all (before ++ item ∷ []) items
    → Rest real (real + length (flat_map synthetic_of before)) all (before ++ item ∷ []) items
passed real all before item items empty h = subst (λ n. AreIndexed real n all (each_after (fields_of real) (before ++ item ∷ []) items)) (omega (arith, more-made before item, empty)) h

count-front : (before : List Item) (item : Item) (items : List Item) (n : ℕ) → count is_oneof (before ++ item ∷ items) ≤ n → count is_oneof before + (if is_oneof item then 1 else 0) ≤ n
count-front [] item items n h = omega (arith, h)
count-front (x ∷ before) item items n h = omega (arith, count-front before item items (count is_oneof (before ++ item ∷ items)) (omega arith), h)

an-item : (real all : ℕ) (before : List Item) (item : Item) (items : List Item) → count is_oneof before + (if is_oneof item then 1 else 0) ≤ real → ItemMade item
    → Rest real (real + length (flat_map synthetic_of (before ++ item ∷ []))) all (before ++ item ∷ []) items
    → Rest real (real + length (flat_map synthetic_of before)) all before (item ∷ items)
an-item real all before (OfField gives) items le made h = a-field real all before gives items made h
an-item real all before (OfMessage message) items le made h = passed real all before (OfMessage message) items refl h
an-item real all before (OfOneof oneof) items le made h =
    of-oneof real (real + length (flat_map synthetic_of before)) all (count is_oneof before) oneof.fields (each_after (fields_of real) (before ++ OfOneof oneof ∷ []) items)
    (omega (arith, le)) made (passed real all before (OfOneof oneof) items refl h)
an-item real all before (OfEnum enum) items le made h = passed real all before (OfEnum enum) items refl h
an-item real all before (OfExtend fields) items le made h = passed real all before (OfExtend fields) items refl h

all-indexed : (real all : ℕ) (before items : List Item) → real + length (flat_map synthetic_of (before ++ items)) ≡ all → count is_oneof (before ++ items) ≤ real → Each ItemMade items
    → Rest real (real + length (flat_map synthetic_of before)) all before items
all-indexed real all before [] size written made = subst (λ l. real + length (flat_map synthetic_of l) ≡ all) (append-nil before) size
all-indexed real all before (item ∷ items) size written made =
    let same = append_assoc before (item ∷ []) items in
    an-item real all before item items (count-front before item items real written) made.0
    (all-indexed real all (before ++ item ∷ []) items (subst (λ l. real + length (flat_map synthetic_of l) ≡ all) (sym same) size) (subst (λ l. count is_oneof l ≤ real) (sym same) written) made.1)

-- ---- a message

written-size : (items : List Item) → length (flat_map oneofs_of items) ≡ count is_oneof items
written-size [] = refl
written-size (OfField gives ∷ items) = omega (arith, written-size items)
written-size (OfMessage message ∷ items) = omega (arith, written-size items)
written-size (OfOneof oneof ∷ items) = omega (arith, written-size items)
written-size (OfEnum enum ∷ items) = omega (arith, written-size items)
written-size (OfExtend fields ∷ items) = omega (arith, written-size items)

given-below : (n m : ℕ) (index : Option ℤ) → n ≤ m → Given (IsBelow n) index → Given (IsBelow m) index
given-below n m None le h = tt
given-below n m (Some index) le h = (h.0, h.1, omega (arith, le, h.2))

next-within : (real next all : ℕ) (fields : List FieldDescriptorProto) → AreIndexed real next all fields → next ≤ all
next-within real next all [] h = omega (arith, h)
next-within real next all (f ∷ fs) h =
    elim (is_optional f.proto3_optional) as (λ b. elim b as (λ _. Type 0) [
      | true ↦ (f.oneof_index ≡ Some (pos next)) × AreIndexed real (next + 1) all fs
      | false ↦ Given (IsBelow real) f.oneof_index × AreIndexed real next all fs
    ] → next ≤ all) [
      | true ↦ λ k. omega (arith, next-within real (next + 1) all fs k.1)
      | false ↦ λ k. next-within real next all fs k.1
    ] h

all-below : (real next all : ℕ) (fields : List FieldDescriptorProto) → real ≤ all → AreIndexed real next all fields
    → Each (λ (field : FieldDescriptorProto). Given (IsBelow all) field.oneof_index) fields
all-below real next all [] le h = tt
all-below real next all (f ∷ fs) le h =
    elim (is_optional f.proto3_optional) as (λ b. elim b as (λ _. Type 0) [
      | true ↦ (f.oneof_index ≡ Some (pos next)) × AreIndexed real (next + 1) all fs
      | false ↦ Given (IsBelow real) f.oneof_index × AreIndexed real next all fs
    ] → Given (IsBelow all) f.oneof_index × Each (λ (field : FieldDescriptorProto). Given (IsBelow all) field.oneof_index) fs) [
      | true ↦ λ k. (
        subst (Given (IsBelow all)) (sym k.0) (next, refl, omega (arith, next-within real (next + 1) all fs k.1)),
        all-below real (next + 1) all fs le k.1,
      )
      | false ↦ λ k. (given-below real all f.oneof_index le k.0, all-below real next all fs le k.1)
    ] h

-- ---- extensions

pub apart-fields : (fields : List Gives) (more : List FieldDescriptorProto) → Each IsApart fields → AreInNone more → AreInNone (map (λ gives. gives.field) fields ++ more)
apart-fields [] more a h = h
apart-fields (f ∷ fs) more a h = (a.0, apart-fields fs more a.1 h)

items-apart : (items : List Item) → Each ItemMade items → AreInNone (flat_map extensions_of items)
items-apart [] made = tt
items-apart (OfField gives ∷ items) made = items-apart items made.1
items-apart (OfMessage message ∷ items) made = items-apart items made.1
items-apart (OfOneof oneof ∷ items) made = items-apart items made.1
items-apart (OfEnum enum ∷ items) made = items-apart items made.1
items-apart (OfExtend fields ∷ items) made = apart-fields fields (flat_map extensions_of items) made.0 (items-apart items made.1)

pub items-first : (items : List Item) → Each ItemMade items
    → RealFirst (record { fields = each_after (fields_of (count is_oneof items)) [] items; extensions = flat_map extensions_of items; oneofs = all_oneofs items })
items-first items made =
    let real = count is_oneof items in
    let all = length (all_oneofs items) in
    let fields = each_after (fields_of real) [] items in
    let size : real + length (flat_map synthetic_of items) ≡ all =
    omega (arith, length-append (flat_map oneofs_of items) (flat_map synthetic_of items), written-size items) in
    let indexed : AreIndexed real real all fields = subst (λ n. AreIndexed real n all fields) (omega arith) (all-indexed real all [] items size (omega arith) made) in
    record { below = all-below real real all fields (omega (arith, size)) indexed; real = real; indexed = indexed; apart = items-apart items made }

pub message-own : (name : List ℕ) (parts : Parts) → each_own (message_proto name parts) ≡ record { fields = parts.field; extensions = parts.extension; oneofs = parts.oneof } ∷ flat_map each_own parts.nested
message-own name parts =
    fold-roll-DescriptorProto (List Own) own_step (record {
      name = Some name;
      field = parts.field;
      extension = parts.extension;
      nested_type = parts.nested;
      enum_type = parts.enum;
      extension_range = parts.extension_range;
      oneof_decl = parts.oneof;
      options = parts.options;
      reserved_range = parts.reserved_range;
      reserved_name = parts.reserved_name;
    })
    ∙ ap (λ l. record { fields = parts.field; extensions = parts.extension; oneofs = parts.oneof } ∷ l) (flat_map-map (λ inner. inner) each_own parts.nested)

-- The rows of a set say what its names say.
use Rattle.std.proofs.Common.{◌≡◌, ℕ, zero, suc, ◌<◌, ◌+◌, List, [], ◌∷◌, length, get_or, map, Option, Some, None, Bool, true, false, cond, ℤ, pos, negsuc, refl, sym, ◌∙◌, ap, arith, bytes_eq, add-zero, subst}
use Rattle.std.specs.Prelude.{slice_get}
use Rattle.std.specs.List.{position_from}
use Rattle.std.specs.Option.{option_and_then, option_map_or}
use Rattle.std.proofs.lemmas.Option.{slice_get_within, slice_get-get_or}
use Rattle.std.proofs.lemmas.List.{length-map}
use Rattle.std.proofs.lemmas.List.Quantifiers.{position-Some}
use Rattle.std.proofs.lemmas.Iterator.Adapters.{position_from-zero}
use Rattle.std.proofs.lemmas.Slice.Eq.{bytes_eq-Decides}
use Rattle.protox_descriptor.specs.declared.descriptor.FileDescriptorProto.{FileDescriptorProto}
use Rattle.protox_imports.specs.Names.{is_named, number_of}
use Rattle.protox_imports.specs.Imports.{name_at, IsFirstNamed, Imports, ImportsPublicly}
use Rattle.protox_imports.specs.Rows.{named_at, row_by, rows_of, named_of, public_of, ImportsIn, PassesOnIn, AreWithin, AreAmongImports, SayAsNames}
use Rattle.protox_imports.specs.declared.row.FileImports.{FileImports}
use Rattle.protox_imports.proofs.Elements as at

-- The test of a name passes exactly for the file's own.
own_name : (name : List ℕ) (own : Option (List ℕ))
    → option_map_or (λ n. bytes_eq n name) own false ≡ true → own ≡ Some name
own_name name None h = cc
own_name name (Some own) h = ap Some ((bytes_eq-Decides own name).0 h)

named_own : (name : List ℕ) (own : Option (List ℕ)) → own ≡ Some name
    → option_map_or (λ n. bytes_eq n name) own false ≡ true
named_own name own e =
    ap (λ o. option_map_or (λ n. bytes_eq n name) o false) e ∙ (bytes_eq-Decides name name).1 refl

name_of : (set : List FileDescriptorProto) (k : ℕ) (file : FileDescriptorProto)
    → slice_get set k ≡ Some file → name_at set k ≡ file.name
name_of set k file e = ap (option_and_then (λ f. f.name)) e

-- What a search by name gives is the first file of that name.
pub first_found : (set : List FileDescriptorProto) (name : List ℕ) (g : ℕ)
    (some : FileDescriptorProto) → number_of set name ≡ Some g
    → (g < length set) × IsFirstNamed set name g
first_found set name g some e =
    let found = position-Some (is_named name) set g some e in
    let file = get_or set g some in
    let this : slice_get set g ≡ Some file = slice_get-get_or set g some found.0 in (
      found.0,
      record {
        has = name_of set g file this ∙ own_name name file.name found.1;
        first = λ k h same.
            let other = get_or set k some in
            let that : slice_get set k ≡ Some other = slice_get-get_or set k some (omega (arith, found.0)) in
            let no : false ≡ true =
            sym (found.2 k h) ∙ named_own name other.name (sym (name_of set k other that) ∙ same) in
            cc;
      },
    )

step : (b : Bool) (i j : ℕ) (o : Option ℕ) → b ≡ false → o ≡ Some j
    → cond b (Some i) o ≡ Some j
step true i j o h e = cc
step false i j o h e = e

not_true : (b : Bool) → (b ≡ true → ⊥) → b ≡ false
not_true true h = absurd (h refl)
not_true false h = refl

search_finds : (set : List FileDescriptorProto) (name : List ℕ) (i g : ℕ)
    → name_at set g ≡ Some name → ((k : ℕ) → k < g → name_at set k ≡ Some name → ⊥)
    → position_from (is_named name) i set ≡ Some (i + g)
search_finds [] name i g has first = cc
search_finds (file ∷ set) name i zero has first =
    ap (λ b. cond b (Some i) (position_from (is_named name) (i + 1) set)) (named_own name file.name has)
    ∙ ap Some (sym (add-zero i))
search_finds (file ∷ set) name i (suc g) has first =
    step (is_named name file) i (i + suc g) (position_from (is_named name) (i + 1) set)
    (not_true (is_named name file) (λ h. first 0 (omega arith) (own_name name file.name h)))
    (search_finds set name (i + 1) g has (λ k h e. first (suc k) (omega arith) e)
    ∙ ap Some (omega arith))

-- The first file of a name is what a search by name gives.
pub found_first : (set : List FileDescriptorProto) (name : List ℕ) (g : ℕ)
    → IsFirstNamed set name g → number_of set name ≡ Some g
found_first set name g is =
    position_from-zero (is_named name) set
    ∙ (search_finds set name 0 g is.has is.first ∙ ap Some (omega arith))

-- An element of a part of a row is of a row that is there.
pub in_row : {Y : Type 0} (part : FileImports → List Y) (o : Option FileImports) (k : ℕ) (x : Y)
    → slice_get (option_map_or part o []) k ≡ Some x
    → (row : FileImports) × (o ≡ Some row) × (slice_get (part row) k ≡ Some x)
in_row part None k x e = cc
in_row part (Some row) k x e = (row, refl, e)

of_some : {X Y : Type 0} (part : X → Option Y) (o : Option X) (y : Y)
    → option_and_then part o ≡ Some y → (x : X) × (o ≡ Some x) × (part x ≡ Some y)
of_some part None y e = cc
of_some part (Some x) y e = (x, refl, e)

-- The row that a file has.
row_at : (set : List FileDescriptorProto) (f : ℕ) (file : FileDescriptorProto)
    → slice_get set f ≡ Some file
    → slice_get (rows_of set) f ≡ Some (row_by (number_of set) file)
row_at set f file e = at.map_at (row_by (number_of set)) set f file e

-- what a row's list of numbers has, by names
numbered : (set : List FileDescriptorProto) (dependency : List (List ℕ)) (i g : ℕ)
    (some : FileDescriptorProto) → slice_get (map (number_of set) dependency) i ≡ Some (Some g)
    → (name : List ℕ) × (slice_get dependency i ≡ Some name) × (g < length set)
    × IsFirstNamed set name g
numbered set dependency i g some e =
    let there = at.get_map (number_of set) dependency i (Some g) e in
    let found = first_found set there.0 g some there.2 in
    (there.0, there.1, found.0, found.1)

by_number : (set : List FileDescriptorProto) (dependency : List (List ℕ)) (i g : ℕ)
    (name : List ℕ) → slice_get dependency i ≡ Some name → IsFirstNamed set name g
    → slice_get (map (number_of set) dependency) i ≡ Some (Some g)
by_number set dependency i g name e is =
    at.map_at (number_of set) dependency i name e ∙ ap Some (found_first set name g is)

imports_to : (set : List FileDescriptorProto) (f g : ℕ) → ImportsIn (rows_of set) f g
    → (g < length set) × Imports set f g
imports_to set f g within =
    let place = at.at_contains (named_of (rows_of set) f) (Some g) within in
    let row = in_row (λ r. r.named) (slice_get (rows_of set) f) place.0 (Some g) place.1 in
    let file = at.get_map (row_by (number_of set)) set f row.0 row.1 in
    let found = numbered set file.0.dependency place.0 g file.0
    (ap (λ (r : FileImports). slice_get r.named place.0) file.2 ∙ row.2) in (
      found.2,
      (
        place.0,
        found.0,
        ap (option_and_then (λ (x : FileDescriptorProto). slice_get x.dependency place.0)) file.1 ∙ found.1,
        found.3,
      ),
    )

imports_from : (set : List FileDescriptorProto) (f g : ℕ) → Imports set f g
    → ImportsIn (rows_of set) f g
imports_from set f g (i, name, e, is) =
    let file = of_some (λ (x : FileDescriptorProto). slice_get x.dependency i) (slice_get set f) name e in
    at.contains_at (named_of (rows_of set) f) i (Some g)
    (ap (λ o. slice_get (option_map_or (λ (r : FileImports). r.named) o []) i) (row_at set f file.0 file.1)
    ∙ by_number set file.0.dependency i g name file.2 is)

-- what the file at an index is
named_index : (named : List (Option ℕ)) (index : ℤ) (g : ℕ) → named_at named index ≡ Some g
    → (i : ℕ) × (index ≡ pos i) × (slice_get named i ≡ Some (Some g))
named_index named (pos i) g e =
    let there = of_some (λ (o : Option ℕ). o) (slice_get named i) g e in
    (i, refl, there.1 ∙ ap Some there.2)
named_index named (negsuc i) g e = cc

index_named : (named : List (Option ℕ)) (index : ℤ) (i g : ℕ) → index ≡ pos i
    → slice_get named i ≡ Some (Some g) → named_at named index ≡ Some g
index_named named index i g e h =
    ap (named_at named) e ∙ ap (option_and_then (λ (o : Option ℕ). o)) h

-- what a listed index says of an import, by names
publicly : (set : List FileDescriptorProto) (f g : ℕ) (file : FileDescriptorProto) (k i : ℕ)
    (name : List ℕ) → slice_get set f ≡ Some file
    → slice_get file.public_dependency k ≡ Some (pos i) → slice_get file.dependency i ≡ Some name
    → IsFirstNamed set name g → ImportsPublicly set f g
publicly set f g file k i name there listed named is = (
  k,
  i,
  name,
  ap (option_and_then (λ (x : FileDescriptorProto). slice_get x.public_dependency k)) there ∙ listed,
  ap (option_and_then (λ (x : FileDescriptorProto). slice_get x.dependency i)) there ∙ named,
  is,
)

passes_to : (set : List FileDescriptorProto) (f g : ℕ) → PassesOnIn (rows_of set) f g
    → (g < length set) × ImportsPublicly set f g
passes_to set f g within =
    let place = at.at_contains (public_of (rows_of set) f) g within in
    let row = in_row (λ r. r.«public») (slice_get (rows_of set) f) place.0 g place.1 in
    let file = at.get_map (row_by (number_of set)) set f row.0 row.1 in
    let named = map (number_of set) file.0.dependency in
    let index = at.get_filter_map (named_at named) file.0.public_dependency g place.0
    (ap (λ (r : FileImports). slice_get r.«public» place.0) file.2 ∙ row.2) in
    let import = named_index named index.1 g index.3 in
    let found = numbered set file.0.dependency import.0 g file.0 import.2 in (
      found.2,
      publicly set f g file.0 index.0 import.0 found.0 file.1
          (index.2 ∙ ap Some import.1) found.1 found.3,
    )

passes_from : (set : List FileDescriptorProto) (f g : ℕ) → ImportsPublicly set f g
    → PassesOnIn (rows_of set) f g
passes_from set f g (k, i, name, listed, e, is) =
    let file = of_some (λ (x : FileDescriptorProto). slice_get x.dependency i) (slice_get set f) name e in
    let named = map (number_of set) file.0.dependency in
    let index : slice_get file.0.public_dependency k ≡ Some (pos i) =
    sym (ap (option_and_then (λ (x : FileDescriptorProto). slice_get x.public_dependency k)) file.1)
    ∙ listed in
    let found = at.filter_map_at (named_at named) file.0.public_dependency k (pos i) g index
    (index_named named (pos i) i g refl (by_number set file.0.dependency i g name file.2 is)) in
    at.contains_at (public_of (rows_of set) f) found.0 g
    (ap (λ o. slice_get (option_map_or (λ (r : FileImports). r.«public») o []) found.0) (row_at set f file.0 file.1)
    ∙ found.1)

-- The rows of a set say what its names say.
pub rows_say : (set : List FileDescriptorProto) → SayAsNames set (rows_of set)
rows_say set = record {
  imports = λ f g. ((λ h. (imports_to set f g h).1), imports_from set f g);
  passes = λ f g. ((λ h. (passes_to set f g h).1), passes_from set f g);
}

-- They name no file that is not there.
pub rows_within : (set : List FileDescriptorProto) → AreWithin (rows_of set)
rows_within set f g h =
    let below = (imports_to set f g h).0 in
    omega (arith, length-map set (row_by (number_of set)))

-- What is imported publicly is imported.
pub rows_among : (set : List FileDescriptorProto) → AreAmongImports (rows_of set)
rows_among set f g h =
    let by_name = (passes_to set f g h).1 in
    imports_from set f g (by_name.1, by_name.2, by_name.4, by_name.5)

-- Rows that are made with a search of the same answers are those of the set.
pub rows_found : (find : List ℕ → Option ℕ) (set : List FileDescriptorProto) (rows : List FileImports)
    → ((q : List ℕ) → find q ≡ number_of set q) → rows ≡ map (row_by find) set
    → rows ≡ rows_of set
rows_found find set rows same e = e ∙ ap (λ f. map (row_by f) set) (λ i q. same q i)

pub found_say : (find : List ℕ → Option ℕ) (set : List FileDescriptorProto)
    (rows : List FileImports) → ((q : List ℕ) → find q ≡ number_of set q)
    → rows ≡ map (row_by find) set → SayAsNames set rows
found_say find set rows same e =
    subst (λ rs. SayAsNames set rs) (sym (rows_found find set rows same e)) (rows_say set)

pub found_within : (find : List ℕ → Option ℕ) (set : List FileDescriptorProto)
    (rows : List FileImports) → ((q : List ℕ) → find q ≡ number_of set q)
    → rows ≡ map (row_by find) set → AreWithin rows
found_within find set rows same e =
    subst (λ rs. AreWithin rs) (sym (rows_found find set rows same e)) (rows_within set)

pub found_among : (find : List ℕ → Option ℕ) (set : List FileDescriptorProto)
    (rows : List FileImports) → ((q : List ℕ) → find q ≡ number_of set q)
    → rows ≡ map (row_by find) set → AreAmongImports rows
found_among find set rows same e =
    subst (λ rs. AreAmongImports rs) (sym (rows_found find set rows same e)) (rows_among set)

-- A file that imports another is one of the set.
pub importer_within : (set : List FileDescriptorProto) (f g : ℕ) → Imports set f g → f < length set
importer_within set f g (i, name, e, is) =
    let file = of_some (λ (x : FileDescriptorProto). slice_get x.dependency i) (slice_get set f) name e in
    slice_get_within set f file.0 file.1

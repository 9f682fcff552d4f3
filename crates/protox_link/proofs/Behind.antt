-- Files that stand behind others change nothing of what these are linked to.
use Rattle.std.proofs.Common.{◌≡◌, ◌≢◌, ◌⊎◌, inl, inr, ◌<◌, ◌≤◌, ◌&&◌, ◌||◌, ℕ, ◌+◌, Bool, true, false, cond, List, [], ◌∷◌, ◌++◌, map, Option, Some, None, bytes_eq, get_or, is_some, refl, sym, ap, subst, ◌∙◌, arith, length, length-append, nat_lt, slice_get, suc, take, zero}
use Rattle.std.specs.Prelude.{pos, All, Contains}
use Rattle.std.specs.List.{filter_map, list_any}
use Rattle.std.specs.Option.{option_and_then, option_map, option_map_or, unwrap_or}
use Rattle.std.proofs.lemmas.Bool.{false≢true, le-ltb, lt-ltb}
use Rattle.std.proofs.lemmas.List.{get_or_append_left, get_or_past, length-map}
use Rattle.std.proofs.lemmas.List.Elements.{All-cons, All-head, All-nil, All-tail}
use Rattle.std.proofs.lemmas.Option.{get_or_from_slice_get, none-some, same_Some, slice_get_cases, slice_get-get_or, slice_get-map}
use Rattle.std.proofs.lemmas.Slice.Eq.{bytes_eq-Decides}
use Rattle.std.proofs.lemmas.Iterator.Adapters.{position_from-zero}
use Rattle.protox_descriptor.specs.declared.descriptor.FileDescriptorProto.{FileDescriptorProto}
use Rattle.protox_descriptor.specs.declared.tag.file.TheConstants.{DEPENDENCY}
use Rattle.protox_imports.proofs.Lemmas.{get_append_left, rows_among, rows_within}
use Rattle.protox_imports.specs.Names.{is_named, number_of as number_of_file}
use Rattle.protox_imports.specs.Rows.{ImportsIn, PassesOnIn, named_at, named_of, public_of, row_by, rows_of}
use Rattle.protox_imports.specs.Sees.{Passes, Sees}
use Rattle.protox_imports.specs.Sees.Passes.{Itself, Publicly}
use Rattle.protox_imports.specs.declared.row.FileImports.{FileImports}
use Rattle.protox_link.proofs.Growing.{Grows, from_front, place_behind, place_front, table_even, table_grows, table_tree}
use Rattle.protox_link.proofs.Seeing.{split, split_linked}
use Rattle.protox_link.proofs.Standing.{none_of_first, none_of_second, package_right, package_there}
use Rattle.protox_link.specs.Files.{AreFaults, AreLinked, faults_in, linked_in}
use Rattle.protox_link.specs.Laws.{Local}
use Rattle.protox_link.specs.Seen.{IsSeenBy, packages_of}
use Rattle.protox_link_checks.specs.File.{file_faults}
use Rattle.protox_link_checks.specs.Imports.{import_faults, import_faults_from, wrong_import}
use Rattle.protox_link_checks.specs.Uses.{faults_at}
use Rattle.protox_linked.specs.Linked.{linked_file}
use Rattle.protox_linked.specs.declared.target.Target.{Target}
use Rattle.protox_name_tree.proofs.Lemmas.{all_at, contains_at, found_known, found_name, found_some}
use Rattle.protox_name_tree.proofs.Lemmas.{known_name, no_empty_name}
use Rattle.protox_name_tree.specs.Tree.{AreTreeNames, Names, dotted, kind_at, name_at, number_of, place_of_name}
use Rattle.protox_names.specs.Names.{scopes, within}
use Rattle.protox_scopes.proofs.Lemmas.{numbers_dont_matter}
use Rattle.protox_scopes.specs.Scopes.{resolve}
use Rattle.protox_scopes.specs.declared.kind.Kind.{Kind}
use Rattle.protox_scopes.specs.declared.kind.Kind.TheVariants as kind
use Rattle.protox_scopes.specs.declared.kind.Wanted.{Wanted}
use Rattle.protox_symbols.specs.Symbols.{Table}
use Rattle.protox_symbols.specs.Things.{table_of}
use Rattle.protox_symbols.specs.declared.thing.Thing.{Thing}
use Rattle.protox_views.specs.Packages.{is_front, is_on_the_way, is_package_seen}
use Rattle.protox_views.specs.Views.{is_marked, is_seen, is_seen_as, meaning, seen, target}
use Rattle.protox_walk.specs.Declarations.{text_of}

-- ---- marks

true_or_false : (b : Bool) → (b ≡ true) ⊎ (b ≡ false)
true_or_false true = inl refl
true_or_false false = inr refl

same_bools : (a b : Bool) → (a ≡ true → b ≡ true) → (b ≡ true → a ≡ true) → a ≡ b
same_bools true true to from = refl
same_bools true false to from = sym (to refl)
same_bools false true to from = from refl
same_bools false false to from = refl

below_or_past : (k n : ℕ) → (k < n) ⊎ (n ≤ k)
below_or_past k n = grind arith

mark_there : (marks : List Bool) (h : ℕ) → get_or marks h false ≡ true → slice_get marks h ≡ Some true
mark_there marks h marked = elim (below_or_past h (length marks)) [
  | inl below ↦ slice_get-get_or marks h false below ∙ ap (λ m. Some m) marked
  | inr past ↦ absurd (false≢true (sym (get_or_past marks h false past) ∙ marked))
]

-- ---- the files of a list without faults

module _ (all : List FileDescriptorProto) where
  abbrev IsRightAt : ℕ → FileDescriptorProto → Type 0
  IsRightAt n file = (sees : List Bool) × (packages : List Bool) × (file_faults (table_of all) sees packages n (named_of (rows_of all) n) file ≡ [])

  right_if : (n k : ℕ) (first : FileDescriptorProto) (more : List FileDescriptorProto) (file : FileDescriptorProto) → slice_get (first ∷ more) k ≡ Some file → IsRightAt n first
      → ((j : ℕ) → slice_get more j ≡ Some file → IsRightAt ((n + 1) + j) file) → IsRightAt (n + k) file
  right_if n zero first more file is here behind =
      subst (λ number. IsRightAt number file) (sym (omega arith)) (subst (IsRightAt n) (ap (λ (o : Option FileDescriptorProto). unwrap_or o first) is) here)
  right_if n (suc k) first more file is here behind =
      subst (λ number. IsRightAt number file) (omega arith) (behind k is)

  none_right : (n k : ℕ) (file : FileDescriptorProto) → slice_get [] k ≡ Some file → IsRightAt (n + k) file
  none_right n zero file is = cc
  none_right n (suc k) file is = cc

  right_from : (files : List FileDescriptorProto) (n k : ℕ) (file : FileDescriptorProto) → AreFaults all n files [] → slice_get files k ≡ Some file → IsRightAt (n + k) file
  right_from [] n k file right is = none_right n k file is
  right_from (first ∷ more) n k file right is =
      let a = split all n (first ∷ more) [] right in
      let here : IsRightAt n first = (a.0, a.1, none_of_first (file_faults (table_of all) a.0 a.1 n (named_of (rows_of all) n) first) _ (none_of_first (faults_in all n a.0 a.1 first) a.2 (sym a.5))) in
      let behind : AreFaults all (n + 1) more [] = subst (AreFaults all (n + 1) more) (none_of_second (faults_in all n a.0 a.1 first) a.2 (sym a.5)) a.4 in
      right_if n k first more file is here (λ j at. right_from more (n + 1) j file behind at)

none_below : {X : Type 0} (xs : List X) (n : ℕ) → slice_get xs n ≡ None → n < length xs → ⊥
none_below xs n none below = elim (slice_get_cases xs n).1 [
  | inl there ↦ none-some there.0 (sym none ∙ there.2)
  | inr past ↦ omega (arith, below, past.0)
]

-- ---- imports that are found

none_missing : (file i : ℕ) (earlier : List ℕ) (imports : List (Option ℕ)) → import_faults_from file i earlier imports ≡ [] → All (λ named. is_some named ≡ true) imports
none_missing file i earlier [] none = All-nil (λ named. is_some named ≡ true)
none_missing file i earlier (None ∷ more) none = cc
none_missing file i earlier (Some named ∷ more) none =
    All-cons (λ named. is_some named ≡ true) (Some named) more refl
    (none_missing file (i + 1) (named ∷ earlier) more (none_of_second (faults_at file (DEPENDENCY ∷ []) (pos i) (wrong_import earlier (Some named))) _ none))

module _ (files more : List FileDescriptorProto) where
  abbrev both : List FileDescriptorProto
  both = files ++ more

  file_front : (name : List ℕ) (n : ℕ) → number_of_file files name ≡ Some n → number_of_file both name ≡ Some n
  file_front name n found = position_from-zero (is_named name) both ∙ from_front (is_named name) files more 0 n (sym (position_from-zero (is_named name) files) ∙ found)

  number_front : (name : List ℕ) (o : Option ℕ) → number_of_file files name ≡ o → is_some o ≡ true → number_of_file both name ≡ number_of_file files name
  number_front name None is found = cc
  number_front name (Some n) is found = file_front name n is ∙ sym is

  numbers_front : (names : List (List ℕ)) → All (λ named. is_some named ≡ true) (map (number_of_file files) names) → map (number_of_file both) names ≡ map (number_of_file files) names
  numbers_front [] found = refl
  numbers_front (name ∷ names) found =
      λ i. number_front name (number_of_file files name) refl (All-head (λ named. is_some named ≡ true) (number_of_file files name) (map (number_of_file files) names) found) i
      ∷ numbers_front names (All-tail (λ named. is_some named ≡ true) (number_of_file files name) (map (number_of_file files) names) found) i

  row_front : (file : FileDescriptorProto) → All (λ named. is_some named ≡ true) (map (number_of_file files) file.dependency) → row_by (number_of_file both) file ≡ row_by (number_of_file files) file
  row_front file found = ap (λ (named : List (Option ℕ)). record { named = named; «public» = filter_map (named_at named) file.public_dependency }) (numbers_front file.dependency found)

  module _ (right : AreFaults files 0 files []) where
    right_at : (n : ℕ) (file : FileDescriptorProto) → slice_get files n ≡ Some file → IsRightAt files n file
    right_at n file is = subst (λ k. IsRightAt files k file) (omega arith) (right_from files files 0 n file right is)

    row_of : (n : ℕ) (file : FileDescriptorProto) → slice_get files n ≡ Some file → slice_get (rows_of files) n ≡ Some (row_by (number_of_file files) file)
    row_of n file is = slice_get-map (row_by (number_of_file files)) files n ∙ ap (option_map (row_by (number_of_file files))) is

    all_found : (n : ℕ) (file : FileDescriptorProto) → slice_get files n ≡ Some file → All (λ named. is_some named ≡ true) (map (number_of_file files) file.dependency)
    all_found n file is =
        let right1 = right_at n file is in
        let named : named_of (rows_of files) n ≡ map (number_of_file files) file.dependency = ap (λ (o : Option FileImports). option_map_or (λ (row : FileImports). row.named) o []) (row_of n file is) in
        subst (All (λ named. is_some named ≡ true)) named (none_missing n 0 [] (named_of (rows_of files) n) (none_of_first (import_faults n (named_of (rows_of files) n)) _ right1.2))

    row_at : (n : ℕ) (o : Option FileDescriptorProto) → slice_get files n ≡ o → n < length files → slice_get (rows_of both) n ≡ slice_get (rows_of files) n
    row_at n None is below = absurd (none_below files n is below)
    row_at n (Some file) is below =
        slice_get-map (row_by (number_of_file both)) both n
        ∙ ap (option_map (row_by (number_of_file both))) (get_append_left files more n file is)
        ∙ ap (λ row. Some row) (row_front file (all_found n file is))
        ∙ sym (row_of n file is)

    same_row : (n : ℕ) → n < length files → slice_get (rows_of both) n ≡ slice_get (rows_of files) n
    same_row n below = row_at n (slice_get files n) refl below

    same_named : (n : ℕ) → n < length files → named_of (rows_of both) n ≡ named_of (rows_of files) n
    same_named n below = ap (λ (o : Option FileImports). option_map_or (λ (row : FileImports). row.named) o []) (same_row n below)

    same_public : (n : ℕ) → n < length files → public_of (rows_of both) n ≡ public_of (rows_of files) n
    same_public n below = ap (λ (o : Option FileImports). option_map_or (λ (row : FileImports). row.«public») o []) (same_row n below)

    within_files : (f g : ℕ) → ImportsIn (rows_of files) f g → g < length files
    within_files f g imports = omega (arith, rows_within files f g imports, length-map files (row_by (number_of_file files)))

    passes_within : (f g : ℕ) → PassesOnIn (rows_of files) f g → g < length files
    passes_within f g passes = within_files f g (rows_among files f g passes)

    -- ---- what is seen

    passed_in : {g h : ℕ} → g < length files → Passes (PassesOnIn (rows_of both)) g h → Passes (PassesOnIn (rows_of files)) g h
    passed_in below (Itself g) = Itself g
    passed_in below (Publicly a g h first rest) =
        let first1 : PassesOnIn (rows_of files) a g = subst (λ list. Contains list g) (same_public a below) first in
        Publicly a g h first1 (passed_in (passes_within a g first1) rest)

    passed_out : {g h : ℕ} → g < length files → Passes (PassesOnIn (rows_of files)) g h → Passes (PassesOnIn (rows_of both)) g h
    passed_out below (Itself g) = Itself g
    passed_out below (Publicly a g h first rest) =
        Publicly a g h (subst (λ list. Contains list g) (sym (same_public a below)) first) (passed_out (passes_within a g first) rest)

    sees_in : (f h : ℕ) → f < length files → Sees (ImportsIn (rows_of both)) (PassesOnIn (rows_of both)) f h → Sees (ImportsIn (rows_of files)) (PassesOnIn (rows_of files)) f h
    sees_in f h below s = elim s [
      | inl same ↦ inl same
      | inr there ↦
          let imports : ImportsIn (rows_of files) f there.0 = subst (λ list. Contains list (Some there.0)) (same_named f below) there.1 in
          inr (there.0, imports, passed_in (within_files f there.0 imports) there.2)
    ]

    sees_out : (f h : ℕ) → f < length files → Sees (ImportsIn (rows_of files)) (PassesOnIn (rows_of files)) f h → Sees (ImportsIn (rows_of both)) (PassesOnIn (rows_of both)) f h
    sees_out f h below s = elim s [
      | inl same ↦ inl same
      | inr there ↦
          let imports : ImportsIn (rows_of both) f there.0 = subst (λ list. Contains list (Some there.0)) (sym (same_named f below)) there.1 in
          inr (there.0, imports, passed_out (within_files f there.0 there.1) there.2)
    ]

-- ---- packages that are seen

or_true : (b : Bool) → (b || true) ≡ true
or_true true = refl
or_true false = refl

in_first : (a b c : Bool) → a ≡ true → b ≡ true → ((a && b) || c) ≡ true
in_first true true c one two = refl
in_first true false c one two = cc
in_first false b c one two = cc

module _ (names : Names) (n : ℕ) where
  package_at : (packages : List (Option ℕ)) (sees : List Bool) (h : ℕ) → get_or sees h false ≡ true → is_on_the_way names n (get_or packages h None) ≡ true → is_package_seen names packages sees n ≡ true
  package_at [] sees zero marked way = cc
  package_at [] sees (suc h) marked way = cc
  package_at (whole ∷ packages) [] zero marked way = cc
  package_at (whole ∷ packages) [] (suc h) marked way = cc
  package_at (whole ∷ packages) (mark ∷ sees) zero marked way = in_first mark (is_on_the_way names n whole) (is_package_seen names packages sees n) marked way
  package_at (whole ∷ packages) (mark ∷ sees) (suc h) marked way =
      ap (λ rest. (mark && is_on_the_way names n whole) || rest) (package_at packages sees h marked way)
      ∙ or_true (mark && is_on_the_way names n whole)

  abbrev IsAt : List (Option ℕ) → List Bool → Type 0
  IsAt packages sees = (h : ℕ) × (get_or sees h false ≡ true) × (is_on_the_way names n (get_or packages h None) ≡ true)

  at_if : (whole : Option ℕ) (packages : List (Option ℕ)) (mark : Bool) (sees : List Bool) (way rest : Bool) → is_on_the_way names n whole ≡ way → (rest ≡ true → IsAt packages sees) → ((mark && way) || rest) ≡ true → IsAt (whole ∷ packages) (mark ∷ sees)
  at_if whole packages true sees true rest is behind seen1 = (0, refl, is)
  at_if whole packages true sees false rest is behind seen1 = let at = behind seen1 in (suc at.0, at.1, at.2)
  at_if whole packages false sees way rest is behind seen1 = let at = behind seen1 in (suc at.0, at.1, at.2)

  package_from : (packages : List (Option ℕ)) (sees : List Bool) → is_package_seen names packages sees n ≡ true → IsAt packages sees
  package_from [] sees seen1 = cc
  package_from (whole ∷ packages) [] seen1 = cc
  package_from (whole ∷ packages) (mark ∷ sees) seen1 = at_if whole packages mark sees (is_on_the_way names n whole) (is_package_seen names packages sees n) refl (package_from packages sees) seen1

no_nameless : (t : Table) → AreTreeNames t.names.full_names → (o : Option ℕ) → number_of t.names [] ≡ o → number_of t.names [] ≡ None
no_nameless t tree None is = is
no_nameless t tree (Some n) is = absurd (no_empty_name t.names.full_names n tree (found_name t.names.full_names [] n is))

get_left : {X : Type 0} (xs ys : List X) (n : ℕ) (o : Option X) → slice_get xs n ≡ o → n < length xs → slice_get (xs ++ ys) n ≡ slice_get xs n
get_left xs ys n None is below = absurd (none_below xs n is below)
get_left xs ys n (Some x) is below = get_append_left xs ys n x is ∙ sym is

behind_at : {X : Type 0} (P : X → Type 0) (xs ys : List X) (n : ℕ) (x : X) → All P ys → slice_get (xs ++ ys) n ≡ Some x → length xs ≤ n → P x
behind_at P [] ys n x all at past = all_at P ys n x all at
behind_at P (first ∷ xs) ys zero x all at past = absurd (omega (arith, past))
behind_at P (first ∷ xs) ys (suc n) x all at past = behind_at P xs ys n x all at (omega (arith, past))

not_true : (b : Bool) → (b ≡ true → ⊥) → b ≡ false
not_true true never = absurd (never refl)
not_true false never = refl

first_or_rest : (a b : Bool) → (a || b) ≡ true → (a ≡ true) ⊎ (b ≡ true)
first_or_rest true b h = inl refl
first_or_rest false b h = inr h

any_contained : (names : List (List ℕ)) (name : List ℕ) (around : List (List ℕ)) → list_any (λ scope. bytes_eq scope name) around ≡ true → All (Contains names) around → Contains names name
any_contained names name [] any all = cc
any_contained names name (scope ∷ around) any all = elim (first_or_rest (bytes_eq scope name) (list_any (λ scope. bytes_eq scope name) around) any) [
  | inl same ↦ subst (Contains names) ((bytes_eq-Decides scope name).0 same) (All-head (Contains names) scope around all)
  | inr more ↦ any_contained names name around more (All-tail (Contains names) scope around all)
]

front_contained : (names : List (List ℕ)) (name whole : List ℕ) → is_front name whole ≡ true → Contains names whole → All (Contains names) (scopes whole) → Contains names name
front_contained names name whole front has around = elim (first_or_rest (bytes_eq whole name) (list_any (λ scope. bytes_eq scope name) (scopes whole)) front) [
  | inl same ↦ subst (Contains names) ((bytes_eq-Decides whole name).0 same) has
  | inr more ↦ any_contained names name (scopes whole) more around
]

-- numbers past the first table's are all the same one past the second's
module _ (files more : List FileDescriptorProto) where
  abbrev renumber : ℕ → ℕ
  renumber m = cond (nat_lt m (length (table_of files).names.full_names)) m (length (table_of (files ++ more)).names.full_names)

  renumber_below : (m : ℕ) → m < length (table_of files).names.full_names → renumber m ≡ m
  renumber_below m below = ap (λ b. cond b m (length (table_of (files ++ more)).names.full_names)) (lt-ltb m (length (table_of files).names.full_names) below)

  renumber_past : (m : ℕ) → length (table_of files).names.full_names ≤ m → renumber m ≡ length (table_of (files ++ more)).names.full_names
  renumber_past m past = ap (λ b. cond b m (length (table_of (files ++ more)).names.full_names)) (le-ltb m (length (table_of files).names.full_names) past)

same_number : (renumber : ℕ → ℕ) (n : ℕ) (b : Bool) → renumber n ≡ n → cond b (Some n) None ≡ option_map renumber (cond b (Some n) None)
same_number renumber n true same = ap (λ m. Some m) (sym same)
same_number renumber n false same = refl

-- ---- the same meanings

module _ (files more : List FileDescriptorProto) (right : AreFaults files 0 files []) where
  abbrev table : Table
  table = table_of files

  abbrev table' : Table
  table' = table_of (files ++ more)

  abbrev count : ℕ
  count = length table.names.full_names

  grown : Grows (length files) table table'
  grown = table_grows files more

  number_kept : (full : List ℕ) (n : ℕ) → number_of table.names full ≡ Some n → number_of table'.names full ≡ Some n
  number_kept full n found = ap (λ names. place_of_name names full) grown.names ∙ place_front table.names.full_names grown.more_names full n found

  name_kept : (n : ℕ) → n < count → name_at table'.names n ≡ name_at table.names n
  name_kept n below = ap (λ (names : List (List ℕ)). get_or names n []) grown.names ∙ get_or_append_left table.names.full_names grown.more_names [] n below

  kind_kept : (n : ℕ) → n < count → kind_at table'.names n ≡ kind_at table.names n
  kind_kept n below = ap (λ (kinds : List Kind). get_or kinds n kind.Member) grown.kinds ∙ get_or_append_left table.names.kinds grown.more_kinds kind.Member n (omega (arith, below, (table_even files).kinds))

  thing_kept : (n : ℕ) → n < count → slice_get table'.things n ≡ slice_get table.things n
  thing_kept n below = ap (λ (things : List Thing). slice_get things n) grown.things ∙ get_left table.things grown.more_things n (slice_get table.things n) refl (omega (arith, below, (table_even files).things))

  more_known : (n : ℕ) → n < count → n < length table'.names.full_names
  more_known n below = omega (arith, below, ap length grown.names, length-append table.names.full_names grown.more_names)

  -- ---- the packages of the files

  package_kept : (pkg : List ℕ) (o : Option ℕ) → number_of table.names pkg ≡ o → (pkg ≡ []) ⊎ (is_some o ≡ true) → number_of table'.names pkg ≡ number_of table.names pkg
  package_kept pkg None is (inl empty) =
      ap (number_of table'.names) empty ∙ no_nameless table' (table_tree (files ++ more)) (number_of table'.names []) refl ∙ sym is
  package_kept pkg None is (inr there) = cc
  package_kept pkg (Some n) is there = number_kept pkg n is ∙ sym is

  package_same : (k : ℕ) (file : FileDescriptorProto) → slice_get files k ≡ Some file → number_of table'.names (text_of file.«package») ≡ number_of table.names (text_of file.«package»)
  package_same k file is =
      let at = right_at files more right k file is in
      let pkg = text_of file.«package» in
      package_kept pkg (number_of table.names pkg) refl (package_there table k pkg (package_right table at.0 at.1 k (named_of (rows_of files) k) file at.2))

  number_at : (t : Table) (all : List FileDescriptorProto) (k : ℕ) (file : FileDescriptorProto) → slice_get all k ≡ Some file → get_or (packages_of t all) k None ≡ number_of t.names (text_of file.«package»)
  number_at t all k file is =
      get_or_from_slice_get (packages_of t all) k (number_of t.names (text_of file.«package»)) None
      (slice_get-map (λ (f : FileDescriptorProto). number_of t.names (text_of f.«package»)) all k ∙ ap (option_map (λ (f : FileDescriptorProto). number_of t.names (text_of f.«package»))) is)

  packages_at : (k : ℕ) (o : Option FileDescriptorProto) → slice_get files k ≡ o → k < length files → get_or (packages_of table' (files ++ more)) k None ≡ get_or (packages_of table files) k None
  packages_at k None is below = absurd (none_below files k is below)
  packages_at k (Some file) is below =
      number_at table' (files ++ more) k file (get_append_left files more k file is)
      ∙ package_same k file is
      ∙ sym (number_at table files k file is)

  package_known : (k w : ℕ) (o : Option FileDescriptorProto) → slice_get files k ≡ o → k < length files → get_or (packages_of table files) k None ≡ Some w → w < count
  package_known k w None is below found = absurd (none_below files k is below)
  package_known k w (Some file) is below found = found_known table.names.full_names (text_of file.«package») w (sym (number_at table files k file is) ∙ found)

  way_kept : (n : ℕ) → n < count → (o : Option ℕ) → ((w : ℕ) → o ≡ Some w → w < count) → is_on_the_way table'.names n o ≡ is_on_the_way table.names n o
  way_kept n below None known = refl
  way_kept n below (Some w) known = λ i. is_front (name_kept n below i) (name_kept w (known w refl) i)

  -- ---- numbers of the later files

  found_twice : (n : ℕ) → count ≤ n → n < length table'.names.full_names → (o : Option ℕ) → number_of table.names (name_at table'.names n) ≡ o → is_some o ≡ true → ⊥
  found_twice n past known None is found = false≢true found
  found_twice n past known (Some m) is found =
      let again : number_of table'.names (name_at table'.names n) ≡ Some n = (table_tree (files ++ more)).numbered.number_of (name_at table'.names n) n (known_name table'.names.full_names n known) in
      let same : m ≡ n = same_Some m n (sym (number_kept (name_at table'.names n) m is) ∙ again) in
      omega (arith, past, same, found_known table.names.full_names (name_at table'.names n) m is)

  member_past : (m : ℕ) → count ≤ m → kind_at table.names m ≡ kind.Member
  member_past m past = get_or_past table.names.kinds m kind.Member (omega (arith, past, (table_even files).kinds))

  kind_renumbered : (m : ℕ) → kind_at table'.names (renumber files more m) ≡ kind_at table.names m
  kind_renumbered m = elim (below_or_past m count) [
    | inl below ↦ ap (kind_at table'.names) (renumber_below files more m below) ∙ kind_kept m below
    | inr past ↦
        ap (kind_at table'.names) (renumber_past files more m past)
        ∙ get_or_past table'.names.kinds (length table'.names.full_names) kind.Member (omega (arith, (table_even (files ++ more)).kinds))
        ∙ sym (member_past m past)
  ]

  name_renumbered : (m : ℕ) → name_at table'.names (renumber files more m) ≡ name_at table.names m
  name_renumbered m = elim (below_or_past m count) [
    | inl below ↦ ap (name_at table'.names) (renumber_below files more m below) ∙ name_kept m below
    | inr past ↦
        ap (name_at table'.names) (renumber_past files more m past)
        ∙ get_or_past table'.names.full_names (length table'.names.full_names) [] (omega arith)
        ∙ sym (get_or_past table.names.full_names m [] past)
  ]

  -- ---- what a file sees

  module _ (f : ℕ) (here : f < length files) (sees sees' packages packages' : List Bool) (one : IsSeenBy files f sees packages) (two : IsSeenBy (files ++ more) f sees' packages') where
    marks_same : (h : ℕ) → get_or sees' h false ≡ get_or sees h false
    marks_same h = same_bools (get_or sees' h false) (get_or sees h false)
        (λ marked. get_or_from_slice_get sees h true false ((one.of_files h).1 (sees_in files more right f h here ((two.of_files h).0 (mark_there sees' h marked)))))
        (λ marked. get_or_from_slice_get sees' h true false ((two.of_files h).1 (sees_out files more right f h here ((one.of_files h).0 (mark_there sees h marked)))))

    later_unseen : (h : ℕ) → length files ≤ h → get_or sees' h false ≡ false
    later_unseen h late = marks_same h ∙ get_or_past sees h false (omega (arith, late, one.as_many))

    marked_below : (h : ℕ) → get_or sees' h false ≡ true → h < length files
    marked_below h marked = elim (below_or_past h (length files)) [
      | inl below ↦ below
      | inr past ↦ absurd (false≢true (sym (later_unseen h past) ∙ marked))
    ]

    package_mark : (n : ℕ) → n < count → is_package_seen table'.names (packages_of table' (files ++ more)) sees' n ≡ is_package_seen table.names (packages_of table files) sees n
    package_mark n below = same_bools _ _
        (λ seen1.
        let at = package_from table'.names n (packages_of table' (files ++ more)) sees' seen1 in
        let h = marked_below at.0 at.1 in
        let same = packages_at at.0 (slice_get files at.0) refl h in
        package_at table.names n (packages_of table files) sees at.0 (sym (marks_same at.0) ∙ at.1)
        (sym (way_kept n below (get_or (packages_of table files) at.0 None) (λ w found. package_known at.0 w (slice_get files at.0) refl h found))
        ∙ ap (is_on_the_way table'.names n) (sym same) ∙ at.2))
        (λ seen1.
        let at = package_from table.names n (packages_of table files) sees seen1 in
        let marked : get_or sees' at.0 false ≡ true = marks_same at.0 ∙ at.1 in
        let h = marked_below at.0 marked in
        let same = packages_at at.0 (slice_get files at.0) refl h in
        package_at table'.names n (packages_of table' (files ++ more)) sees' at.0 marked
        (ap (is_on_the_way table'.names n) same
        ∙ way_kept n below (get_or (packages_of table files) at.0 None) (λ w found. package_known at.0 w (slice_get files at.0) refl h found) ∙ at.2))

    -- a name that comes with the later files is not on the way of a package that is seen
    not_front : (n w : ℕ) → count ≤ n → n < length table'.names.full_names → w < count → is_front (name_at table'.names n) (name_at table.names w) ≡ true → ⊥
    not_front n w past known below front =
        let name = name_at table'.names n in
        let whole = name_at table.names w in
        let tree = table_tree files in
        let has : Contains table.names.full_names name = front_contained table.names.full_names name whole front
        (contains_at table.names.full_names w whole (known_name table.names.full_names w below))
        (all_at (λ each. All (Contains table.names.full_names) (scopes each)) table.names.full_names w whole tree.closed (known_name table.names.full_names w below)) in
        found_twice n past known (number_of table.names name) refl (found_some table.names.full_names name tree has)

    no_way_new : (n : ℕ) → count ≤ n → n < length table'.names.full_names → (o : Option ℕ) → ((w : ℕ) → o ≡ Some w → w < count) → is_on_the_way table'.names n o ≡ true → ⊥
    no_way_new n past known None inside way = false≢true way
    no_way_new n past known (Some w) inside way =
        let below = inside w refl in
        not_front n w past known below (ap (is_front (name_at table'.names n)) (sym (name_kept w below)) ∙ way)

    new_unseen : (n : ℕ) → count ≤ n → n < length table'.names.full_names → is_package_seen table'.names (packages_of table' (files ++ more)) sees' n ≡ false
    new_unseen n past known = not_true (is_package_seen table'.names (packages_of table' (files ++ more)) sees' n) (λ seen1.
        let at = package_from table'.names n (packages_of table' (files ++ more)) sees' seen1 in
        let h = marked_below at.0 at.1 in
        let way : is_on_the_way table'.names n (get_or (packages_of table files) at.0 None) ≡ true = ap (is_on_the_way table'.names n) (sym (packages_at at.0 (slice_get files at.0) refl h)) ∙ at.2 in
        no_way_new n past known (get_or (packages_of table files) at.0 None) (λ w found. package_known at.0 w (slice_get files at.0) refl h found) way)

    -- ---- things

    kind_seen : (k : Kind) (m : ℕ) → m < count → is_seen_as table' sees' packages' k m ≡ is_seen_as table sees packages k m
    kind_seen kind.Package m below = two.of_packages m (more_known m below) ∙ package_mark m below ∙ sym (one.of_packages m below)
    kind_seen kind.Message m below = λ i. option_map_or (λ (thing : Thing). marks_same thing.file i) (thing_kept m below i) false
    kind_seen kind.Enum m below = λ i. option_map_or (λ (thing : Thing). marks_same thing.file i) (thing_kept m below i) false
    kind_seen kind.Service m below = λ i. option_map_or (λ (thing : Thing). marks_same thing.file i) (thing_kept m below i) false
    kind_seen kind.Member m below = λ i. option_map_or (λ (thing : Thing). marks_same thing.file i) (thing_kept m below i) false

    thing_seen : (m : ℕ) → m < count → is_seen table' sees' packages' m ≡ is_seen table sees packages m
    thing_seen m below = ap (λ k. is_seen_as table' sees' packages' k m) (kind_kept m below) ∙ kind_seen (kind_at table.names m) m below

    late_unseen : (m : ℕ) (o : Option Thing) → slice_get table'.things m ≡ o → count ≤ m → option_map_or (λ (thing : Thing). is_marked sees' thing.file) o false ≡ false
    late_unseen m None is past = refl
    late_unseen m (Some thing) is past =
        later_unseen thing.file (behind_at (λ (t : Thing). length files ≤ t.file) table.things grown.more_things m thing grown.later (ap (λ (things : List Thing). slice_get things m) (sym grown.things) ∙ is) (omega (arith, past, (table_even files).things)))

    new_kind : (k : Kind) (m : ℕ) → count ≤ m → m < length table'.names.full_names → is_seen_as table' sees' packages' k m ≡ false
    new_kind kind.Package m past known = two.of_packages m known ∙ new_unseen m past known
    new_kind kind.Message m past known = late_unseen m (slice_get table'.things m) refl past
    new_kind kind.Enum m past known = late_unseen m (slice_get table'.things m) refl past
    new_kind kind.Service m past known = late_unseen m (slice_get table'.things m) refl past
    new_kind kind.Member m past known = late_unseen m (slice_get table'.things m) refl past

    found_same : (full : List ℕ) (o o' : Option ℕ) → number_of table.names full ≡ o → number_of table'.names full ≡ o' →
        option_and_then (λ m. cond (is_seen table' sees' packages' m) (Some m) None) o' ≡ option_map (renumber files more) (option_and_then (λ m. cond (is_seen table sees packages m) (Some m) None) o)
    found_same full (Some n) o' is is' =
        let below = found_known table.names.full_names full n is in
        ap (option_and_then (λ m. cond (is_seen table' sees' packages' m) (Some m) None)) (sym is' ∙ number_kept full n is)
        ∙ ap (λ b. cond b (Some n) None) (thing_seen n below)
        ∙ same_number (renumber files more) n (is_seen table sees packages n) (renumber_below files more n below)
    found_same full None None is is' = refl
    found_same full None (Some m) is is' =
        let known = found_known table'.names.full_names full m is' in
        let past : count ≤ m = place_behind table.names.full_names grown.more_names full m is (ap (λ names. place_of_name names full) (sym grown.names) ∙ is') in
        ap (λ b. cond b (Some m) None) (new_kind (kind_at table'.names m) m past known)

    seen_same : seen table' sees' packages' ≡ (λ full. option_map (renumber files more) (seen table sees packages full))
    seen_same = λ i full. found_same full (number_of table.names full) (number_of table'.names full) refl refl i

    targets_same : (o : Option ℕ) → option_map (target table' sees' packages') (option_map (renumber files more) o) ≡ option_map (target table sees packages) o
    targets_same None = refl
    targets_same (Some m) = λ i. Some (record { name = dotted (name_renumbered m i); kind = kind_renumbered m i })

    meant : (wanted : Wanted) (scope name : List ℕ) → meaning table' sees' packages' wanted scope name ≡ meaning table sees packages wanted scope name
    meant wanted scope name =
        ap (λ (s : List ℕ → Option ℕ). option_map (target table' sees' packages') (resolve (kind_at table'.names) s wanted name (within scope []))) seen_same
        ∙ ap (option_map (target table' sees' packages')) (numbers_dont_matter (renumber files more) (kind_at table.names) (kind_at table'.names) (seen table sees packages) kind_renumbered wanted name (within scope []))
        ∙ targets_same (resolve (kind_at table.names) (seen table sees packages) wanted name (within scope []))

    meaning_same : meaning table' sees' packages' ≡ meaning table sees packages
    meaning_same = λ i wanted scope name. meant wanted scope name i

    pub link_same : (file : FileDescriptorProto) → linked_in (files ++ more) sees' packages' file ≡ linked_in files sees packages file
    link_same file = ap (λ (m : Wanted → List ℕ → List ℕ → Option Target). linked_file m file) meaning_same

-- ---- the law

module _ (files more : List FileDescriptorProto) (right : AreFaults files 0 files []) where
  local_from : (rest : List FileDescriptorProto) (n : ℕ) (made all_made : List FileDescriptorProto) → n + length rest ≡ length files → AreLinked files n rest made → AreLinked (files ++ more) n (rest ++ more) all_made → take (length rest) all_made ≡ made
  local_from [] n made all_made is linked all_linked = sym (split_linked files n [] made linked)
  local_from (file ∷ rest) n made all_made is linked all_linked =
      let a = split_linked files n (file ∷ rest) made linked in
      let b = split_linked (files ++ more) n (file ∷ (rest ++ more)) all_made all_linked in
      ap (take (length (file ∷ rest))) b.5
      ∙ (λ i. link_same files more right n (omega (arith, is)) a.0 b.0 a.1 b.1 a.3 b.3 file i ∷ local_from rest (n + 1) a.2 b.2 (omega (arith, is)) a.4 b.4 i)
      ∙ sym a.5

pub local : Local
local files more made all_made right linked all_linked = local_from files more right files 0 made all_made (omega arith) linked all_linked

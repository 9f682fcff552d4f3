-- The faults of imports, by the names of files.
use Rattle.std.proofs.Common.{◌≡◌, ◌≢◌, ◌<◌, ◌+◌, ◌==◌, ◌||◌, ◌⊎◌, inl, inr, ℕ, zero, suc, Bool, true, false, cond, List, [], ◌∷◌, ◌++◌, map, option_to_list, Option, Some, None, refl, sym, ap, subst, ◌∙◌, arith, bytes_eq, slice_get}
use Rattle.std.specs.Prelude.{pos, All}
use Rattle.std.specs.List.{list_any, position_from}
use Rattle.std.specs.Option.{option_map_or}
use Rattle.std.proofs.lemmas.Bool.{false≢true}
use Rattle.std.proofs.lemmas.Bool.Decides.{Decides-eqb}
use Rattle.std.proofs.lemmas.Iterator.Adapters.{position_from-zero}
use Rattle.std.proofs.lemmas.List.Elements.{All-append, All-cons, All-map, All-nil, All-weaker}
use Rattle.std.proofs.lemmas.Option.{same_Some}
use Rattle.std.proofs.lemmas.Slice.Eq.{bytes_eq-Decides}
use Rattle.protox_ast.proofs.Lemmas.{Among, among-left, among-right}
use Rattle.protox_descriptor.specs.declared.descriptor.FileDescriptorProto.{FileDescriptorProto}
use Rattle.protox_descriptor.specs.declared.tag.file.TheConstants.{DEPENDENCY}
use Rattle.protox_imports.proofs.Lemmas.{first_found, get_map, map_at}
use Rattle.protox_imports.specs.Imports.{name_at}
use Rattle.protox_imports.specs.Names.{is_named, number_of}
use Rattle.protox_imports.specs.Rows.{named_of, row_by, rows_of}
use Rattle.protox_imports.specs.declared.row.FileImports.{FileImports}
use Rattle.protox_link.specs.Wrong.{NamesItAgain, NamesNoFile, WrongImport}
use Rattle.protox_link_checks.specs.Imports.{import_faults, import_faults_from, wrong_import}
use Rattle.protox_link_checks.specs.Uses.{fault_at, faults_at}
use Rattle.protox_link_fault.specs.declared.LinkFault.{LinkFault}
use Rattle.protox_link_fault.specs.declared.LinkFaultKind.{LinkFaultKind}
use Rattle.protox_link_fault.specs.declared.LinkFaultKind.TheVariants.{MissingImport, RepeatedImport}

-- ---- files by name

named_own : (name : List ℕ) (own : Option (List ℕ)) → own ≡ Some name → option_map_or (λ n. bytes_eq n name) own false ≡ true
named_own name own is = ap (λ o. option_map_or (λ n. bytes_eq n name) o false) is ∙ (bytes_eq-Decides name name).1 refl

missed_first : (b : Bool) (i : ℕ) (o : Option ℕ) → b ≡ true → cond b (Some i) o ≡ None → ⊥
missed_first true i o passes none = cc
missed_first false i o passes none = absurd (false≢true passes)

missed_rest : (b : Bool) (i : ℕ) (o : Option ℕ) → cond b (Some i) o ≡ None → o ≡ None
missed_rest true i o none = cc
missed_rest false i o none = none

search_misses : (files : List FileDescriptorProto) (name : List ℕ) (i g : ℕ) → name_at files g ≡ Some name → position_from (is_named name) i files ≡ None → ⊥
search_misses [] name i g has none = cc
search_misses (file ∷ more) name i zero has none =
    missed_first (is_named name file) i (position_from (is_named name) (i + 1) more) (named_own name file.name has) none
search_misses (file ∷ more) name i (suc g) has none =
    search_misses more name (i + 1) g has (missed_rest (is_named name file) i (position_from (is_named name) (i + 1) more) none)

no_file : (files : List FileDescriptorProto) (name : List ℕ) → number_of files name ≡ None → (g : ℕ) → name_at files g ≢ Some name
no_file files name none g has = search_misses files name 0 g has (sym (position_from-zero (is_named name) files) ∙ none)

-- a file with a name has a number by it
some_number : (files : List FileDescriptorProto) (name : List ℕ) (g : ℕ) (o : Option ℕ) → number_of files name ≡ o → name_at files g ≡ Some name → (h : ℕ) × (o ≡ Some h)
some_number files name g None is has = absurd (no_file files name is g has)
some_number files name g (Some h) is has = (h, refl)

no_number : (files : List FileDescriptorProto) (name : List ℕ) (some : FileDescriptorProto) (o : Option ℕ) → number_of files name ≡ o → ((g : ℕ) → name_at files g ≢ Some name) → o ≡ None
no_number files name some None is none = refl
no_number files name some (Some g) is none = absurd (none g (first_found files name g some is).1.has)

-- the files that the imports of a file name
pub named_by : (files : List FileDescriptorProto) (n : ℕ) (file : FileDescriptorProto) → slice_get files n ≡ Some file → named_of (rows_of files) n ≡ map (number_of files) file.dependency
named_by files n file is = ap (λ (o : Option FileImports). option_map_or (λ (row : FileImports). row.named) o []) (map_at (row_by (number_of files)) files n file is)

-- ---- numbers among others

either : (a b : Bool) → (a || b) ≡ true → (a ≡ true) ⊎ (b ≡ true)
either true b h = inl refl
either false b h = inr h

is_among : (g : ℕ) (numbers : List ℕ) → list_any (λ file. file == g) numbers ≡ true → Among numbers g
is_among g [] any = absurd (false≢true any)
is_among g (first ∷ more) any = elim (either (first == g) (list_any (λ file. file == g) more) any) [
  | inl here ↦ inl ((Decides-eqb first g).0 here)
  | inr there ↦ inr (is_among g more there)
]

or_right : (a b : Bool) → b ≡ true → (a || b) ≡ true
or_right true b h = refl
or_right false b h = h

any_among : (g : ℕ) (numbers : List ℕ) → Among numbers g → list_any (λ file. file == g) numbers ≡ true
any_among g [] there = absurd there
any_among g (first ∷ more) (inl is) = ap (λ b. b || list_any (λ file. file == g) more) ((Decides-eqb first g).1 is)
any_among g (first ∷ more) (inr there) = or_right (first == g) (list_any (λ file. file == g) more) (any_among g more there)

-- ---- what is listed is wrong

module _ (files : List FileDescriptorProto) (some : FileDescriptorProto) (imports : List (List ℕ)) where
  abbrev named : List (Option ℕ)
  named = map (number_of files) imports

  -- An import before the one with this index names the file.
  abbrev IsBefore : ℕ → ℕ → Type 0
  IsBefore i g = (j : ℕ) × (j < i) × (slice_get named j ≡ Some (Some g))

  one_kind : (i : ℕ) (kind : LinkFaultKind) → WrongImport files imports i kind → All (WrongImport files imports i) (kind ∷ [])
  one_kind i kind wrong = All-cons (WrongImport files imports i) kind [] wrong (All-nil (WrongImport files imports i))

  again : (i g : ℕ) → slice_get named i ≡ Some (Some g) → IsBefore i g → WrongImport files imports i RepeatedImport
  again i g is before =
      let this = get_map (number_of files) imports i (Some g) is in
      let that = get_map (number_of files) imports before.0 (Some g) before.2 in
      let found = (first_found files this.0 g some this.2).1.has in
      let other = (first_found files that.0 g some that.2).1.has in
      let same : that.0 ≡ this.0 = same_Some that.0 this.0 (sym other ∙ found) in
      NamesItAgain i before.0 g this.0 this.1 found before.1 (that.1 ∙ ap Some same)

  repeated : (i g : ℕ) (earlier : List ℕ) (b : Bool) → list_any (λ file. file == g) earlier ≡ b → slice_get named i ≡ Some (Some g) → ((h : ℕ) → Among earlier h → IsBefore i h) → All (WrongImport files imports i) (cond b (RepeatedImport ∷ []) [])
  repeated i g earlier true any is before = one_kind i RepeatedImport (again i g is (before g (is_among g earlier any)))
  repeated i g earlier false any is before = All-nil (WrongImport files imports i)

  import_wrong : (i : ℕ) (earlier : List ℕ) (o : Option ℕ) → slice_get named i ≡ Some o → ((h : ℕ) → Among earlier h → IsBefore i h) → All (WrongImport files imports i) (wrong_import earlier o)
  import_wrong i earlier None is before =
      let this = get_map (number_of files) imports i None is in
      one_kind i MissingImport (NamesNoFile i this.0 this.1 (no_file files this.0 this.2))
  import_wrong i earlier (Some g) is before = repeated i g earlier (list_any (λ file. file == g) earlier) refl is before

  earlier_yet : (i : ℕ) (earlier : List ℕ) (o : Option ℕ) → slice_get named i ≡ Some o → ((h : ℕ) → Among earlier h → IsBefore i h) → (h : ℕ) → Among (option_to_list o ++ earlier) h → IsBefore (i + 1) h
  earlier_yet i earlier None is before h there = let was = before h there in (was.0, omega (arith, was.1), was.2)
  earlier_yet i earlier (Some g) is before h (inl same) = (i, omega arith, is ∙ ap (λ file. Some (Some file)) same)
  earlier_yet i earlier (Some g) is before h (inr there) = let was = before h there in (was.0, omega (arith, was.1), was.2)

  module _ (n : ℕ) (P : LinkFault → Type 0) (each : (i : ℕ) (kind : LinkFaultKind) → WrongImport files imports i kind → P (fault_at n (DEPENDENCY ∷ []) (pos i) kind)) where
    imports_wrong : (i : ℕ) (earlier : List ℕ) (rest : List (Option ℕ)) → ((k m : ℕ) (o : Option ℕ) → m ≡ i + k → slice_get rest k ≡ Some o → slice_get named m ≡ Some o) → ((h : ℕ) → Among earlier h → IsBefore i h) → All P (import_faults_from n i earlier rest)
    imports_wrong i earlier [] there before = All-nil P
    imports_wrong i earlier (o ∷ more) there before =
        let is : slice_get named i ≡ Some o = there 0 i o (omega arith) refl in
        All-append P (faults_at n (DEPENDENCY ∷ []) (pos i) (wrong_import earlier o)) _
        (All-map P (fault_at n (DEPENDENCY ∷ []) (pos i)) (wrong_import earlier o)
        (All-weaker (WrongImport files imports i) (λ kind. P (fault_at n (DEPENDENCY ∷ []) (pos i) kind)) (each i) (wrong_import earlier o) (import_wrong i earlier o is before)))
        (imports_wrong (i + 1) (option_to_list o ++ earlier) more (λ k m next same found. there (suc k) m next (omega (arith, same)) found) (earlier_yet i earlier o is before))

    pub all_imports_wrong : All P (import_faults n named)
    all_imports_wrong = imports_wrong 0 [] named (λ k m o same is. subst (λ j. slice_get named j ≡ Some o) (omega (arith, same)) is) (λ h none. absurd none)

-- ---- what is wrong is listed

module _ (n : ℕ) where
  abbrev import_fault : ℕ → LinkFaultKind → LinkFault
  import_fault i kind = fault_at n (DEPENDENCY ∷ []) (pos i) kind

  missing_listed : (i : ℕ) (earlier : List ℕ) (rest : List (Option ℕ)) (k m : ℕ) → m ≡ i + k → slice_get rest k ≡ Some None → Among (import_faults_from n i earlier rest) (import_fault m MissingImport)
  missing_listed i earlier [] k m same is = cc
  missing_listed i earlier (o ∷ more) zero m same is =
      let here : i ≡ m = omega (arith, same) in
      among-left (faults_at n (DEPENDENCY ∷ []) (pos i) (wrong_import earlier o)) _ (import_fault m MissingImport)
      (subst (λ (x : Option ℕ). Among (faults_at n (DEPENDENCY ∷ []) (pos i) (wrong_import earlier x)) (import_fault m MissingImport)) (sym (same_Some o None is)) (inl (ap (λ at. import_fault at MissingImport) here)))
  missing_listed i earlier (o ∷ more) (suc k) m same is =
      among-right (faults_at n (DEPENDENCY ∷ []) (pos i) (wrong_import earlier o)) _ (import_fault m MissingImport)
      (missing_listed (i + 1) (option_to_list o ++ earlier) more k m (omega (arith, same)) is)

  -- The file is among the earlier ones, or an import before the one with this index names it.
  abbrev WasNamed : List ℕ → List (Option ℕ) → ℕ → ℕ → Type 0
  WasNamed earlier rest k g = Among earlier g ⊎ ((j : ℕ) × (j < k) × (slice_get rest j ≡ Some (Some g)))

  was_named : (earlier : List ℕ) (o : Option ℕ) (more : List (Option ℕ)) (k g : ℕ) → WasNamed earlier (o ∷ more) (suc k) g → WasNamed (option_to_list o ++ earlier) more k g
  was_named earlier o more k g (inl there) = inl (among-right (option_to_list o) earlier g there)
  was_named earlier o more k g (inr (zero, below, is)) =
      inl (subst (λ (x : Option ℕ). Among (option_to_list x ++ earlier) g) (sym (same_Some o (Some g) is)) (inl refl))
  was_named earlier o more k g (inr (suc j, below, is)) = inr (j, omega (arith, below), is)

  first_named : (earlier : List ℕ) (rest : List (Option ℕ)) (g : ℕ) → WasNamed earlier rest 0 g → Among earlier g
  first_named earlier rest g (inl there) = there
  first_named earlier rest g (inr (j, below, is)) = absurd (omega (arith, below))

  repeated_here : (i m g : ℕ) (earlier : List ℕ) → i ≡ m → Among earlier g → Among (faults_at n (DEPENDENCY ∷ []) (pos i) (wrong_import earlier (Some g))) (import_fault m RepeatedImport)
  repeated_here i m g earlier here there =
      subst (λ b. Among (faults_at n (DEPENDENCY ∷ []) (pos i) (cond b (RepeatedImport ∷ []) [])) (import_fault m RepeatedImport)) (sym (any_among g earlier there)) (inl (ap (λ at. import_fault at RepeatedImport) here))

  repeated_listed : (i : ℕ) (earlier : List ℕ) (rest : List (Option ℕ)) (k m g : ℕ) → m ≡ i + k → slice_get rest k ≡ Some (Some g) → WasNamed earlier rest k g → Among (import_faults_from n i earlier rest) (import_fault m RepeatedImport)
  repeated_listed i earlier [] k m g same is was = cc
  repeated_listed i earlier (o ∷ more) zero m g same is was =
      among-left (faults_at n (DEPENDENCY ∷ []) (pos i) (wrong_import earlier o)) _ (import_fault m RepeatedImport)
      (subst (λ (x : Option ℕ). Among (faults_at n (DEPENDENCY ∷ []) (pos i) (wrong_import earlier x)) (import_fault m RepeatedImport)) (sym (same_Some o (Some g) is))
      (repeated_here i m g earlier (omega (arith, same)) (first_named earlier (o ∷ more) g was)))
  repeated_listed i earlier (o ∷ more) (suc k) m g same is was =
      among-right (faults_at n (DEPENDENCY ∷ []) (pos i) (wrong_import earlier o)) _ (import_fault m RepeatedImport)
      (repeated_listed (i + 1) (option_to_list o ++ earlier) more k m g (omega (arith, same)) is (was_named earlier o more k g was))

  module _ (files : List FileDescriptorProto) (some : FileDescriptorProto) (imports : List (List ℕ)) where
    number_at : (i : ℕ) (name : List ℕ) (o : Option ℕ) → slice_get imports i ≡ Some name → number_of files name ≡ o → slice_get (map (number_of files) imports) i ≡ Some o
    number_at i name o is number = map_at (number_of files) imports i name is ∙ ap Some number

    pub import_listed : (i : ℕ) (kind : LinkFaultKind) → WrongImport files imports i kind → Among (import_faults_from n 0 [] (map (number_of files) imports)) (import_fault i kind)
    import_listed i kind wrong = elim wrong as (λ i kind _. Among (import_faults_from n 0 [] (map (number_of files) imports)) (import_fault i kind)) [
      | NamesNoFile i name is none ↦ missing_listed 0 [] (map (number_of files) imports) i i (omega arith) (number_at i name None is (no_number files name some (number_of files name) refl none))
      | NamesItAgain i earlier g name is has before was ↦
          let number = some_number files name g (number_of files name) refl has in
          repeated_listed 0 [] (map (number_of files) imports) i i number.0 (omega arith) (number_at i name (Some number.0) is number.1) (inr (earlier, before, number_at earlier name (Some number.0) was number.1))
    ]

-- What more files make of a table: what it has stays, and what comes is told of the later files.
use Rattle.std.proofs.Common.{◌≡◌, ◌≤◌, ◌&&◌, ◌||◌, ℕ, ◌+◌, Bool, true, false, cond, not, List, [], ◌∷◌, ◌++◌, add-zero, append-nil, append_assoc, drop, fold, map, Option, Some, None, bytes_eq, get_or, is_some, refl, sym, ap, subst, ◌∙◌, arith, length, length-append, slice_get, suc, zero}
use Rattle.std.specs.Prelude.{All, Contains}
use Rattle.std.specs.List.{AllPass, list_any, position_from}
use Rattle.std.specs.Option.{unwrap_or}
use Rattle.std.proofs.Math.Seq.{drop-append_seam}
use Rattle.std.proofs.lemmas.Bool.Decides.{Decides-eqb}
use Rattle.std.proofs.lemmas.Iterator.Adapters.{position_from-zero}
use Rattle.std.proofs.lemmas.List.Elements.{All-append, All-cons, All-head, All-map, All-nil, All-tail}
use Rattle.std.proofs.lemmas.List.Sums.{fold-append}
use Rattle.std.proofs.lemmas.Option.{slice_get-get_or}
use Rattle.protox_descriptor.specs.declared.descriptor.FileDescriptorProto.{FileDescriptorProto}
use Rattle.protox_name_tree.proofs.Lemmas.{all_contained, contains_at, found_name, no_empty_name}
use Rattle.protox_name_tree.proofs.Lemmas.{tree_pushed}
use Rattle.protox_name_tree.specs.Tree.{AreTreeNames, Names, can_stand, has_innermost, number_of, own_name, place_of_name}
use Rattle.protox_names.proofs.Lemmas.{identifiers_are_one_part, parts_of_joined, parts_within}
use Rattle.protox_names.proofs.Lemmas.{scopes_at_dot}
use Rattle.protox_names.specs.Names.{is_dot, is_identifier, is_one_part, parts, scopes}
use Rattle.protox_scopes.specs.declared.kind.Kind.{Kind}
use Rattle.protox_symbols.specs.Symbols.{Table}
use Rattle.protox_symbols.specs.Things.{Entry, entries, entries_from, entry_of, file_entries, no_things, package_entries, package_entry, packages, table_of, with_entry}
use Rattle.protox_symbols.specs.declared.thing.Thing.{Thing}
use Rattle.protox_walk.specs.Declarations.{file_declarations, text_of}

-- ---- the first that passes a test

front_if : (b : Bool) (i n : ℕ) (o o' : Option ℕ) → (o ≡ Some n → o' ≡ Some n) → cond b (Some i) o ≡ Some n → cond b (Some i) o' ≡ Some n
front_if true i n o o' more found = found
front_if false i n o o' more found = more found

none_if : (b : Bool) (i : ℕ) (o : Option ℕ) → cond b (Some i) o ≡ None → (b ≡ false) × (o ≡ None)
none_if true i o none = cc
none_if false i o none = (refl, none)

least_if : (b : Bool) (i n : ℕ) (o : Option ℕ) → (o ≡ Some n → i ≤ n) → cond b (Some i) o ≡ Some n → i ≤ n
least_if true i n o more found = subst (λ k. i ≤ k) (ap (λ (found : Option ℕ). unwrap_or found i) found) (omega arith)
least_if false i n o more found = more found

some_none : (n : ℕ) → Some n ≡ None → ⊥
some_none n h = cc

module _ {X : Type 0} (test : X → Bool) where
  pub from_front : (xs ys : List X) (i n : ℕ) → position_from test i xs ≡ Some n → position_from test i (xs ++ ys) ≡ Some n
  from_front [] ys i n found = cc
  from_front (x ∷ xs) ys i n found = front_if (test x) i n (position_from test (i + 1) xs) (position_from test (i + 1) (xs ++ ys)) (from_front xs ys (i + 1) n) found

  from_behind : (xs ys : List X) (i : ℕ) → position_from test i xs ≡ None → position_from test i (xs ++ ys) ≡ position_from test (i + length xs) ys
  from_behind [] ys i none = ap (λ k. position_from test k ys) (sym (add-zero i))
  from_behind (x ∷ xs) ys i none =
      let both = none_if (test x) i (position_from test (i + 1) xs) none in
      ap (λ b. cond b (Some i) (position_from test (i + 1) (xs ++ ys))) both.0
      ∙ from_behind xs ys (i + 1) both.1
      ∙ ap (λ k. position_from test k ys) (omega arith)

  from_least : (xs : List X) (i n : ℕ) → position_from test i xs ≡ Some n → i ≤ n
  from_least [] i n found = cc
  from_least (x ∷ xs) i n found = least_if (test x) i n (position_from test (i + 1) xs) (λ h. omega (arith, from_least xs (i + 1) n h)) found

  from_none : (xs ys : List X) (i : ℕ) (o : Option ℕ) → position_from test i xs ≡ o → position_from test i (xs ++ ys) ≡ None → position_from test i xs ≡ None
  from_none xs ys i None is none = is
  from_none xs ys i (Some n) is none = absurd (some_none n (sym (from_front xs ys i n is) ∙ none))

-- ---- the place of a name

module _ (names more : List (List ℕ)) (name : List ℕ) where
  abbrev is_it : List ℕ → Bool
  is_it each = bytes_eq each name

  pub place_front : (n : ℕ) → place_of_name names name ≡ Some n → place_of_name (names ++ more) name ≡ Some n
  place_front n found = position_from-zero is_it (names ++ more) ∙ from_front is_it names more 0 n (sym (position_from-zero is_it names) ∙ found)

  pub place_behind : (n : ℕ) → place_of_name names name ≡ None → place_of_name (names ++ more) name ≡ Some n → length names ≤ n
  place_behind n none found =
      let least : 0 + length names ≤ n =
      from_least is_it more (0 + length names) n
      (sym (from_behind is_it names more 0 (sym (position_from-zero is_it names) ∙ none)) ∙ sym (position_from-zero is_it (names ++ more)) ∙ found) in
      omega (arith, least)

  pub place_none : place_of_name (names ++ more) name ≡ None → place_of_name names name ≡ None
  place_none none =
      position_from-zero is_it names
      ∙ from_none is_it names more 0 (position_from is_it 0 names) refl (sym (position_from-zero is_it (names ++ more)) ∙ none)

-- ---- scopes

record IsCut (full s : List ℕ) (outer : List (List ℕ)) : Type 0 where
  own : List ℕ
  whole : full ≡ s ++ 46 ∷ own
  around : outer ≡ scopes s
  one : is_one_part own ≡ true

none_mapped : (byte : ℕ) (ss : List (List ℕ)) (more : List (List ℕ)) → map (λ scope. byte ∷ scope) ss ++ more ≡ [] → (ss ≡ []) × (more ≡ [])
none_mapped byte [] more none = (refl, none)
none_mapped byte (s ∷ ss) more none = cc

no_last : (dot : Bool) → ◌≡◌ {A = List (List ℕ)} (cond dot ([] ∷ []) []) [] → dot ≡ false
no_last true none = cc
no_last false none = refl

alone : (name : List ℕ) → scopes name ≡ [] → is_one_part name ≡ true
alone [] none = refl
alone (byte ∷ rest) none =
    let both = none_mapped byte (scopes rest) (cond (is_dot byte) ([] ∷ []) []) none in
    ap (λ b. not (b || list_any is_dot rest)) (no_last (is_dot byte) both.1) ∙ alone rest both.0

first_scope : (s s' : List ℕ) (ss ss' : List (List ℕ)) → s ∷ ss ≡ s' ∷ ss' → (s ≡ s') × (ss ≡ ss')
first_scope s s' ss ss' same = (ap (λ (all : List (List ℕ)). get_or all 0 s) same, ap (drop 1) same)

-- where a name has a dot, the innermost scope ends before its last one
cut_dot : (byte : ℕ) (rest s : List ℕ) (outer : List (List ℕ)) (dot : Bool) → is_dot byte ≡ dot → scopes rest ≡ [] → ◌≡◌ {A = List (List ℕ)} (cond dot ([] ∷ []) []) (s ∷ outer) → IsCut (byte ∷ rest) s outer
cut_dot byte rest s outer false is none same = cc
cut_dot byte rest s outer true is none same =
    let parts = first_scope [] s [] outer same in
    record {
      own = rest;
      whole = ap (λ b. b ∷ rest) ((Decides-eqb byte 46).0 is) ∙ ap (λ scope. scope ++ 46 ∷ rest) parts.0;
      around = sym parts.1 ∙ ap scopes parts.0;
      one = alone rest none;
    }

cut_inner : (byte : ℕ) (rest s : List ℕ) (outer inner : List (List ℕ)) → scopes rest ≡ inner → ((s' : List ℕ) (outer' : List (List ℕ)) → scopes rest ≡ s' ∷ outer' → IsCut rest s' outer') → map (λ scope. byte ∷ scope) inner ++ cond (is_dot byte) ([] ∷ []) [] ≡ s ∷ outer → IsCut (byte ∷ rest) s outer
cut_inner byte rest s outer [] is behind same = cut_dot byte rest s outer (is_dot byte) refl is same
cut_inner byte rest s outer (s' ∷ outer') is behind same =
    let cut = behind s' outer' is in
    let parts = first_scope (byte ∷ s') s (map (λ scope. byte ∷ scope) outer' ++ cond (is_dot byte) ([] ∷ []) []) outer same in
    record {
      own = cut.own;
      whole = ap (λ name. byte ∷ name) cut.whole ∙ ap (λ scope. scope ++ 46 ∷ cut.own) parts.0;
      around = sym parts.1 ∙ ap (λ ss. map (λ scope. byte ∷ scope) ss ++ cond (is_dot byte) ([] ∷ []) []) cut.around ∙ ap scopes parts.0;
      one = cut.one;
    }

cut_at_last : (full s : List ℕ) (outer : List (List ℕ)) → scopes full ≡ s ∷ outer → IsCut full s outer
cut_at_last [] s outer same = cc
cut_at_last (byte ∷ rest) s outer same = cut_inner byte rest s outer (scopes rest) refl (cut_at_last rest) same

-- ---- the names of a table are those of a tree

abbrev HasIdentifiers : List ℕ → Type 0
HasIdentifiers name = AllPass is_identifier (parts name)

own_identifier : (name : List ℕ) → is_identifier name ≡ true → HasIdentifiers name
own_identifier name identifier =
    let one = identifiers_are_one_part name identifier in
    subst (AllPass is_identifier) (sym (parts_of_joined (name ∷ []) (omega arith) (All-cons (λ p. is_one_part p ≡ true) name [] one (All-nil (λ p. is_one_part p ≡ true)))))
    (All-cons (λ p. is_identifier p ≡ true) name [] identifier (All-nil (λ p. is_identifier p ≡ true)))

record Fits (names : List (List ℕ)) (full : List ℕ) : Type 0 where
  identifiers : HasIdentifiers full
  around : All (Contains names) (scopes full)

module _ (names : List (List ℕ)) (tree : AreTreeNames names) where
  fits_in : (s own : List ℕ) → Contains names s → is_identifier own ≡ true → Fits names (s ++ 46 ∷ own)
  fits_in [] own has identifier = absurd (no_empty_name names has.0 tree (slice_get-get_or names has.0 [] has.1 ∙ ap (λ name. Some name) has.2))
  fits_in (byte ∷ scope) own has identifier =
      let s = byte ∷ scope in
      record {
        identifiers = subst (AllPass is_identifier) (sym (parts_within s own (λ empty. cc)))
            (All-append (λ p. is_identifier p ≡ true) (parts s) (parts own) (all_contained HasIdentifiers names s tree.identifiers has) (own_identifier own identifier));
        around = subst (All (Contains names)) (sym (scopes_at_dot s own (identifiers_are_one_part own identifier)))
            (All-cons (Contains names) s (scopes s) has (all_contained (λ name. All (Contains names) (scopes name)) names s tree.closed has));
      }

both : (a b : Bool) → (a && b) ≡ true → (a ≡ true) × (b ≡ true)
both true b h = (refl, h)
both false b h = cc

found_in : (names : List (List ℕ)) (s : List ℕ) (o : Option ℕ) → place_of_name names s ≡ o → is_some o ≡ true → Contains names s
found_in names s None is found = cc
found_in names s (Some n) is found = contains_at names n s (found_name names s n is)

missing : (o : Option ℕ) → is_some o ≡ false → o ≡ None
missing None h = refl
missing (Some n) h = cc

module _ (t : Names) (tree : AreTreeNames t.full_names) where
  fits_behind : (full : List ℕ) (around : List (List ℕ)) → scopes full ≡ around → (has_innermost t around && is_identifier (own_name full around)) ≡ true → Fits t.full_names full
  fits_behind full [] none stand = record {
    identifiers = own_identifier full stand;
    around = subst (All (Contains t.full_names)) (sym none) (All-nil (Contains t.full_names));
  }
  fits_behind full (s ∷ outer) is stand =
      let cut = cut_at_last full s outer is in
      let parts = both (is_some (number_of t s)) (is_identifier (drop (length s + 1) full)) stand in
      let own : drop (length s + 1) full ≡ cut.own = ap (drop (length s + 1)) (cut.whole ∙ sym (append_assoc s (46 ∷ []) cut.own)) ∙ ap (λ n. drop n ((s ++ 46 ∷ []) ++ cut.own)) (sym (length-append s (46 ∷ []))) ∙ drop-append_seam (s ++ 46 ∷ []) cut.own in
      subst (Fits t.full_names) (sym cut.whole)
      (fits_in t.full_names tree s cut.own (found_in t.full_names s (number_of t s) refl parts.0) (ap is_identifier (sym own) ∙ parts.1))

  tree_if : (full : List ℕ) (kind : Kind) (stand known : Bool) → can_stand t full ≡ stand → is_some (number_of t full) ≡ known
      → AreTreeNames (cond stand (cond known t (record { full_names = t.full_names ++ full ∷ []; kinds = t.kinds ++ kind ∷ [] })) t).full_names
  tree_if full kind false known is found = tree
  tree_if full kind true true is found = tree
  tree_if full kind true false is found =
      let fits = fits_behind full (scopes full) refl is in
      tree_pushed t.full_names full tree (missing (number_of t full) found) fits.identifiers fits.around

none_there : (name : List ℕ) (n : ℕ) → place_of_name [] name ≡ Some n → ⊥
none_there name n found = cc

none_at : (n : ℕ) (name : List ℕ) → slice_get [] n ≡ Some name → ⊥
none_at zero name at = cc
none_at (suc n) name at = cc

no_names : AreTreeNames []
no_names = record {
  numbered = record {
    key_at = λ name n found. absurd (none_there name n found);
    number_of = λ name n at. absurd (none_at n name at);
  };
  identifiers = All-nil HasIdentifiers;
  closed = All-nil (λ name. All (Contains []) (scopes name));
}

tree_of : (t : Table) (es : List Entry) → AreTreeNames t.names.full_names → AreTreeNames (fold with_entry t es).names.full_names
tree_of t [] tree = tree
tree_of t (e ∷ es) tree = tree_of (with_entry t e) es (tree_if t.names tree e.full_name e.kind (can_stand t.names e.full_name) (is_some (number_of t.names e.full_name)) refl refl)

pub table_tree : (files : List FileDescriptorProto) → AreTreeNames (table_of files).names.full_names
table_tree files = tree_of no_things (entries files) no_names

-- ---- a table has as many kinds and things as names

pub record IsEven (t : Table) : Type 0 where
  pub kinds : length t.names.kinds ≡ length t.names.full_names
  pub things : length t.things ≡ length t.names.full_names

even_if : (t : Table) (e : Entry) (stand known : Bool) → IsEven t
    → IsEven (record { names = cond stand (cond known t.names (record { full_names = t.names.full_names ++ e.full_name ∷ []; kinds = t.names.kinds ++ e.kind ∷ [] })) t.names; things = cond (stand && not known) (t.things ++ e.thing ∷ []) t.things })
even_if t e false known even = even
even_if t e true true even = even
even_if t e true false even = record {
  kinds = length-append t.names.kinds (e.kind ∷ []) ∙ ap (λ n. n + 1) even.kinds ∙ sym (length-append t.names.full_names (e.full_name ∷ []));
  things = length-append t.things (e.thing ∷ []) ∙ ap (λ n. n + 1) even.things ∙ sym (length-append t.names.full_names (e.full_name ∷ []));
}

even_of : (t : Table) (es : List Entry) → IsEven t → IsEven (fold with_entry t es)
even_of t [] even = even
even_of t (e ∷ es) even = even_of (with_entry t e) es (even_if t e (can_stand t.names e.full_name) (is_some (number_of t.names e.full_name)) even)

pub table_even : (files : List FileDescriptorProto) → IsEven (table_of files)
table_even files = even_of no_things (entries files) (record { kinds = refl; things = refl })

-- ---- a table that grows

-- The second table is the first one with more names. None of these is in the first, and all that
-- they name is declared in files from this number on.
pub record Grows (first : ℕ) (t t' : Table) : Type 0 where
  pub more_names : List (List ℕ)
  pub more_kinds : List Kind
  pub more_things : List Thing
  pub names : t'.names.full_names ≡ t.names.full_names ++ more_names
  pub kinds : t'.names.kinds ≡ t.names.kinds ++ more_kinds
  pub things : t'.things ≡ t.things ++ more_things
  pub fresh : All (λ name. place_of_name t.names.full_names name ≡ None) more_names
  pub later : All (λ thing. first ≤ thing.file) more_things

grows_not : (first : ℕ) (t : Table) → Grows first t t
grows_not first t = record {
  more_names = [];
  more_kinds = [];
  more_things = [];
  names = sym (append-nil t.names.full_names);
  kinds = sym (append-nil t.names.kinds);
  things = sym (append-nil t.things);
  fresh = All-nil (λ name. place_of_name t.names.full_names name ≡ None);
  later = All-nil (λ (thing : Thing). first ≤ thing.file);
}

grows_if : (first : ℕ) (t t' : Table) (e : Entry) (stand known : Bool) → Grows first t t' → first ≤ e.thing.file → is_some (number_of t'.names e.full_name) ≡ known
    → Grows first t (record { names = cond stand (cond known t'.names (record { full_names = t'.names.full_names ++ e.full_name ∷ []; kinds = t'.names.kinds ++ e.kind ∷ [] })) t'.names; things = cond (stand && not known) (t'.things ++ e.thing ∷ []) t'.things })
grows_if first t t' e false known grown late is = grown
grows_if first t t' e true true grown late is = grown
grows_if first t t' e true false grown late is = record {
  more_names = grown.more_names ++ e.full_name ∷ [];
  more_kinds = grown.more_kinds ++ e.kind ∷ [];
  more_things = grown.more_things ++ e.thing ∷ [];
  names = ap (λ names. names ++ e.full_name ∷ []) grown.names ∙ append_assoc t.names.full_names grown.more_names (e.full_name ∷ []);
  kinds = ap (λ kinds. kinds ++ e.kind ∷ []) grown.kinds ∙ append_assoc t.names.kinds grown.more_kinds (e.kind ∷ []);
  things = ap (λ things. things ++ e.thing ∷ []) grown.things ∙ append_assoc t.things grown.more_things (e.thing ∷ []);
  fresh = All-append (λ name. place_of_name t.names.full_names name ≡ None) grown.more_names (e.full_name ∷ []) grown.fresh
      (All-cons (λ name. place_of_name t.names.full_names name ≡ None) e.full_name []
      (place_none t.names.full_names grown.more_names e.full_name (ap (λ names. place_of_name names e.full_name) (sym grown.names) ∙ missing (number_of t'.names e.full_name) is))
      (All-nil (λ name. place_of_name t.names.full_names name ≡ None)));
  later = All-append (λ (thing : Thing). first ≤ thing.file) grown.more_things (e.thing ∷ []) grown.later
      (All-cons (λ (thing : Thing). first ≤ thing.file) e.thing [] late (All-nil (λ (thing : Thing). first ≤ thing.file)));
}

grows_by : (first : ℕ) (t t' : Table) (es : List Entry) → All (λ (e : Entry). first ≤ e.thing.file) es → Grows first t t' → Grows first t (fold with_entry t' es)
grows_by first t t' [] late grown = grown
grows_by first t t' (e ∷ es) late grown =
    grows_by first t (with_entry t' e) es (All-tail (λ (e : Entry). first ≤ e.thing.file) e es late)
    (grows_if first t t' e (can_stand t'.names e.full_name) (is_some (number_of t'.names e.full_name)) grown (All-head (λ (e : Entry). first ≤ e.thing.file) e es late) refl)

-- ---- more files

entries_append : (n : ℕ) (files more : List FileDescriptorProto) → entries_from n (files ++ more) ≡ entries_from n files ++ entries_from (n + length files) more
entries_append n [] more = ap (λ k. entries_from k more) (sym (add-zero n))
entries_append n (file ∷ files) more =
    ap (λ es. file_entries n file ++ es) (entries_append (n + 1) files more ∙ ap (λ k. entries_from (n + 1) files ++ entries_from k more) (omega arith))
    ∙ sym (append_assoc (file_entries n file) (entries_from (n + 1) files) (entries_from (n + length (file ∷ files)) more))

every : {X : Type 0} (P : X → Type 0) (xs : List X) → ((x : X) → P x) → All P xs
every P [] each = All-nil P
every P (x ∷ xs) each = All-cons P x xs (each x) (every P xs each)

entries_late : (first n : ℕ) (files : List FileDescriptorProto) → first ≤ n → All (λ (e : Entry). first ≤ e.thing.file) (entries_from n files)
entries_late first n [] late = All-nil (λ (e : Entry). first ≤ e.thing.file)
entries_late first n (file ∷ more) late =
    let IsLate = λ (e : Entry). first ≤ e.thing.file in
    All-append IsLate (file_entries n file) (entries_from (n + 1) more)
    (All-append IsLate (package_entries n (text_of file.«package»)) (map (entry_of n) (file_declarations file))
    (All-map IsLate (package_entry n) (packages (text_of file.«package»)) (every (λ name. first ≤ n) (packages (text_of file.«package»)) (λ name. late)))
    (All-map IsLate (entry_of n) (file_declarations file) (every (λ d. first ≤ n) (file_declarations file) (λ d. late))))
    (entries_late first (n + 1) more (omega (arith, late)))

pub table_grows : (files more : List FileDescriptorProto) → Grows (length files) (table_of files) (table_of (files ++ more))
table_grows files more =
    let grown : Grows (length files) (table_of files) (fold with_entry (table_of files) (entries_from (length files) more)) = grows_by (length files) (table_of files) (table_of files) (entries_from (length files) more) (entries_late (length files) (length files) more (omega arith)) (grows_not (length files) (table_of files)) in
    subst (Grows (length files) (table_of files)) (sym (ap (fold with_entry no_things) (entries_append 0 files more ∙ ap (λ k. entries_from 0 files ++ entries_from k more) (omega arith)) ∙ fold-append with_entry no_things (entries_from 0 files) (entries_from (length files) more))) grown

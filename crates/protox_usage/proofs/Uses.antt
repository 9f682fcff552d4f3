-- What was noted tells which imports a file uses.
use Rattle.std.proofs.Common.{◌≡◌, ◌<◌, ◌==◌, ◌&&◌, ◌||◌, inl, inr, ℕ, zero, suc, Bool, true, false, not, List, [], ◌∷◌, filter, fold, get_or, length, map, replicate, Option, Some, None, refl, sym, ap, ◌∙◌, arith}
use Rattle.std.specs.Prelude.{position, slice_get}
use Rattle.std.specs.List.{flat_map, list_any, range_with_len}
use Rattle.std.specs.Option.{option_and_then, option_map_or}
use Rattle.std.proofs.lemmas.Bool.{true≢false}
use Rattle.std.proofs.lemmas.Bool.Decides.{leb_tells}
use Rattle.std.proofs.lemmas.Option.{none-some}
use Rattle.std.proofs.lemmas.List.{get_or-replicate, get_or_past, length-map, length-replicate}
use Rattle.std.proofs.lemmas.List.Quantifiers.{position-Some}
use Rattle.protox_descriptor.specs.declared.descriptor.FileDescriptorProto.{FileDescriptorProto}
use Rattle.protox_imports.specs.Names.{is_named, number_of}
use Rattle.protox_imports.specs.Rows.{named_of, row_by, rows_of}
use Rattle.protox_imports.specs.declared.row.FileImports.{FileImports}
use Rattle.protox_name_tree.specs.Tree.{IsNameTree, kind_at}
use Rattle.protox_scopes.specs.declared.kind.Kind.{Kind}
use Rattle.protox_scopes.specs.declared.kind.Kind.TheVariants as kind
use Rattle.protox_symbols.specs.Symbols.{Table}
use Rattle.protox_symbols.specs.Things.{table_of}
use Rattle.protox_usage.proofs.Adding.{same_kept}
use Rattle.protox_usage.proofs.Noting.{noted_marks}
use Rattle.protox_usage.specs.First.{AreFirst, file_as, file_of, first_in_package}
use Rattle.protox_usage.specs.Known.{is_not_found}
use Rattle.protox_usage.specs.Lookups.{Lookup, lookups_in_file, may_use_all}
use Rattle.protox_usage.specs.Met.{met}
use Rattle.protox_usage.specs.Searched.{with_mark}
use Rattle.protox_usage.specs.Unused.{file_named, has_public, is_of_file, is_public, is_unused, unused_imports, uses_file}
use Rattle.protox_usage.specs.declared.searcher.Found.{Found}
use Rattle.protox_views.specs.Views.{seen}

-- ---- the file of a number

file_as_same : (table : Table) (f g : ℕ → Option ℕ) (k : Kind) (m : ℕ) → (k ≡ kind.Package → f m ≡ g m) → file_as table f k m ≡ file_as table g k m
file_as_same table f g kind.Package m same = same refl
file_as_same table f g kind.Message m same = refl
file_as_same table f g kind.Enum m same = refl
file_as_same table f g kind.Service m same = refl
file_as_same table f g kind.Member m same = refl

member_is_no_package : kind.Member ≡ kind.Package → ⊥
member_is_no_package is = absurd (true≢false (ap is_member is)) where
  is_member : Kind → Bool
  is_member kind.Member = true
  is_member kind.Package = false
  is_member kind.Message = false
  is_member kind.Enum = false
  is_member kind.Service = false

-- Where two say the same of each number of the table, they do so of all.
file_same : (table : Table) (f g : ℕ → Option ℕ) → IsNameTree table.names → ((n : ℕ) → n < length table.names.full_names → f n ≡ g n) → (m : ℕ) → file_of table f m ≡ file_of table g m
file_same table f g tree same m = file_as_same table f g (kind_at table.names m) m (λ is.
    elim (leb_tells (length table.names.full_names) m) [
      | inl (_, past) ↦ absurd (member_is_no_package (sym (get_or_past table.names.kinds m kind.Member (omega (arith, past, tree.each_kind))) ∙ is))
      | inr (_, below) ↦ same m below
    ])

-- ---- which files are used

any_same : (p q : ℕ → Bool) → ((m : ℕ) → p m ≡ q m) → (ms : List ℕ) → list_any p ms ≡ list_any q ms
any_same p q same [] = refl
any_same p q same (m ∷ ms) = ap (λ b. b || list_any p ms) (same m) ∙ ap (λ b. q m || b) (any_same p q same ms)

position_below : {X : Type 0} (p : X → Bool) (xs : List X) (n : ℕ) → position p xs ≡ Some n → n < length xs
position_below p [] n is = absurd (none-some n is)
position_below p (x ∷ xs) n is = (position-Some p (x ∷ xs) n x is).0

-- The marks of all that the searches for these names come upon.
abbrev pub all_noted : Table → List Bool → List Bool → (ℕ → Option ℕ) → List Bool → List Lookup → List Bool
all_noted table sees packages first marks lookups =
    fold (λ ms m. with_mark ms (file_of table first m)) marks (flat_map (met (kind_at table.names) (seen table sees packages)) lookups)

-- the marks of all that was met, from no mark on
module _ (files : List FileDescriptorProto) (order : List ℕ) (sees packages : List Bool) (first : List (Option ℕ)) (file : FileDescriptorProto) (found : Found) where
  abbrev first_at : ℕ → Option ℕ
  first_at n = get_or first n None

  abbrev numbers : List ℕ
  numbers = flat_map (met (kind_at (table_of files).names) (seen (table_of files) sees packages)) (lookups_in_file file)

  pub record AreFound : Type 0 where
    pub tree : IsNameTree (table_of files).names
    pub are_first : AreFirst files order first
    pub used : found.used ≡ all_noted (table_of files) sees packages first_at (replicate (length files) false) (lookups_in_file file)
    pub guesses : found.guesses ≡ may_use_all file

  found_uses : (n : ℕ) → AreFound → n < length files → (found.guesses || get_or found.used n false) ≡ uses_file files order sees packages file n
  found_uses n are below =
      ap (λ b. b || get_or found.used n false) are.guesses
      ∙ ap (λ b. may_use_all file || b) (
      ap (λ marks. get_or marks n false) are.used
      ∙ noted_marks (file_of (table_of files) first_at) (replicate (length files) false) numbers n (omega (arith, below, length-replicate (length files) false))
      ∙ ap (λ b. b || list_any (λ m. option_map_or (λ f. f == n) (file_of (table_of files) first_at m) false) numbers) (get_or-replicate (length files) n false false below)
      ∙ any_same (λ m. option_map_or (λ f. f == n) (file_of (table_of files) first_at m) false) (is_of_file files order sees packages n)
      (λ m. ap (λ o. option_map_or (λ f. f == n) o false) (file_same (table_of files) first_at (first_in_package files order) are.tree are.are_first.told m)) numbers)

  -- ---- imports by their indices

  named_at_index : (names : List (List ℕ)) (i : ℕ) → get_or (map (number_of files) names) i None ≡ option_and_then (number_of files) (slice_get names i)
  named_at_index [] i = refl
  named_at_index (name ∷ names) zero = refl
  named_at_index (name ∷ names) (suc i) = named_at_index names i

  named_below : (o : Option (List ℕ)) (n : ℕ) → option_and_then (number_of files) o ≡ Some n → n < length files
  named_below None n is = absurd (none-some n is)
  named_below (Some name) n is = position_below (is_named name) files n is

  told_of : (i : ℕ) (o : Option ℕ) → AreFound → ((n : ℕ) → o ≡ Some n → n < length files)
      → option_map_or (λ n. not (is_public file i || has_public files n) && not (found.guesses || get_or found.used n false)) o false
      ≡ option_map_or (λ n. not (is_public file i || has_public files n) && not (uses_file files order sees packages file n)) o false
  told_of i None are below = refl
  told_of i (Some n) are below =
      ap (λ b. not (is_public file i || has_public files n) && not b) (found_uses n are (below n refl))

  index_same : (i : ℕ) → AreFound → is_not_found files file (map (number_of files) file.dependency) found i ≡ is_unused files order sees packages file i
  index_same i are =
      ap (λ o. option_map_or (λ n. not (is_public file i || has_public files n) && not (found.guesses || get_or found.used n false)) o false)
      (named_at_index file.dependency i)
      ∙ told_of i (file_named files file i) are (λ n is. named_below (slice_get file.dependency i) n is)

  pub found_unused : (named : List (Option ℕ)) (unused : List ℕ) → AreFound → named ≡ map (number_of files) file.dependency
      → unused ≡ filter (is_not_found files file named found) (range_with_len 0 (length named))
      → unused ≡ unused_imports files order sees packages file
  found_unused named unused are same is =
      is ∙ ap (λ (all : List (Option ℕ)). filter (is_not_found files file all found) (range_with_len 0 (length all))) same
      ∙ ap (λ count. filter (is_not_found files file (map (number_of files) file.dependency) found) (range_with_len 0 count)) (length-map file.dependency (number_of files))
      ∙ same_kept (is_not_found files file (map (number_of files) file.dependency) found) (is_unused files order sees packages file) 0 (length file.dependency) (λ i _. index_same i are)

-- the row of a file has what its imports name
rows_at : (all files : List FileDescriptorProto) (n : ℕ) (file : FileDescriptorProto) → slice_get files n ≡ Some file → named_of (map (row_by (number_of all)) files) n ≡ map (number_of all) file.dependency
rows_at all [] n file is = absurd (none-some file is)
rows_at all (first ∷ files) zero file is = ap (λ o. option_map_or (λ (f : FileDescriptorProto). map (number_of all) f.dependency) o []) is
rows_at all (first ∷ files) (suc n) file is = rows_at all files n file is

pub named_in_rows : (files : List FileDescriptorProto) (rows : List FileImports) (n : ℕ) (file : FileDescriptorProto) → rows ≡ rows_of files → slice_get files n ≡ Some file → named_of rows n ≡ map (number_of files) file.dependency
named_in_rows files rows n file same is = ap (λ (all : List FileImports). named_of all n) same ∙ rows_at files files n file is

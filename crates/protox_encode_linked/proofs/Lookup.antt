-- What is set at a path, by a look-up and after an insertion.
use Rattle.std.proofs.Common.{◌≡◌, ℕ, Bool, true, false, List, [], ◌∷◌, map, refl, sym, ap, ◌∙◌, Ordering, Less, Equal, Greater, Option, Some}
use Rattle.std.specs.Prelude.{cond}
use Rattle.std.specs.BTreeMap.{insert_entry}
use Rattle.std.specs.Cmp.Lexicographic.{slice_cmp, texts_ties}
use Rattle.std.specs.Map.{lookup}
use Rattle.std.specs.Option.{unwrap_or, option_map}
use Rattle.std.specs.Ordering.{is_eq, nat_cmp, match_ordering}
use Rattle.std.proofs.lemmas.Bool.{false≢true}
use Rattle.std.proofs.lemmas.Cmp.{nat_list_cmp_total, tied_itself}
use Rattle.std.proofs.lemmas.Map.Lookups.{exact_bytes}
use Rattle.protox_encode_linked.specs.Setting.{Path, OptionsSet, same_path, set_at}

first_or : (b : Bool) (bytes : List ℕ) (o : Option (List ℕ)) → unwrap_or (cond b (Some bytes) o) [] ≡ cond b bytes (unwrap_or o [])
first_or true bytes o = refl
first_or false bytes o = refl

-- what is set where a path comes first
first_at : (p : Path) (bytes : List ℕ) (set : OptionsSet) (path : Path) → set_at ((p, bytes) ∷ set) path ≡ cond (same_path path p) bytes (set_at set path)
first_at p bytes set path = first_or (same_path path p) bytes (lookup (same_path path) set)

over : (b : Bool) (x y z : List ℕ) → cond b x z ≡ cond b x (cond b y z)
over true x y z = refl
over false x y z = refl

swapped : (b c : Bool) (x y z : List ℕ) → (b ≡ true → c ≡ true → ⊥) → cond b x (cond c y z) ≡ cond c y (cond b x z)
swapped true true x y z apart = absurd (apart refl refl)
swapped true false x y z apart = refl
swapped false c x y z apart = refl

tied : (o : Ordering) → is_eq o ≡ true → o ≡ Equal
tied Less e = absurd (false≢true e)
tied Equal e = refl
tied Greater e = absurd (false≢true e)

same : (p q : Path) → same_path p q ≡ true → p ≡ q
same p q e = exact_bytes p q (tied (slice_cmp nat_cmp p q) (sym (texts_ties p q) ∙ e))

-- paths of which one is greater are not the same path
apart : (p q path : Path) → slice_cmp nat_cmp p q ≡ Greater → same_path path q ≡ true → same_path path p ≡ true → ⊥
apart p q path greater at_q at_p =
    let is : p ≡ q = sym (same path p at_p) ∙ same path q at_q in
    let equal : slice_cmp nat_cmp p q ≡ Equal = ap (slice_cmp nat_cmp p) (sym is) ∙ tied_itself nat_list_cmp_total p in
    let no : Greater ≡ Equal = sym greater ∙ equal in cc

module _ {K V : Type 0} (numbers : K → List ℕ) (held : V → List ℕ) where
  -- the paths and bytes of entries
  abbrev pub seen : List (K × V) → OptionsSet
  seen es = map (λ e. (numbers e.0, held e.1)) es

  first_found : (b : Bool) (value : V) (o : Option V) → unwrap_or (option_map held (cond b (Some value) o)) [] ≡ cond b (held value) (unwrap_or (option_map held o) [])
  first_found true value o = refl
  first_found false value o = refl

  -- what a look-up in the entries gives
  pub set_at-lookup : (path : Path) (es : List (K × V))
      → unwrap_or (option_map held (lookup (λ k. is_eq (slice_cmp nat_cmp path (numbers k))) es)) [] ≡ set_at (seen es) path
  set_at-lookup path [] = refl
  set_at-lookup path (e ∷ es) =
      first_found (is_eq (slice_cmp nat_cmp path (numbers e.0))) e.1 (lookup (λ k. is_eq (slice_cmp nat_cmp path (numbers k))) es)
      ∙ ap (λ rest. cond (is_eq (slice_cmp nat_cmp path (numbers e.0))) (held e.1) rest) (set_at-lookup path es)
      ∙ ap (λ b. cond b (held e.1) (set_at (seen es) path)) (sym (texts_ties path (numbers e.0)))
      ∙ sym (first_at (numbers e.0) (held e.1) (seen es) path)

  -- what is set once an entry is put in
  pub set_at-insert : (es : List (K × V)) (key : K) (value : V) (path : Path)
      → set_at (seen (insert_entry (λ x y. slice_cmp nat_cmp (numbers x) (numbers y)) es key value)) path
      ≡ cond (same_path path (numbers key)) (held value) (set_at (seen es) path)
  set_at-insert [] key value path = first_at (numbers key) (held value) [] path
  set_at-insert (e ∷ es) key value path = go (slice_cmp nat_cmp (numbers key) (numbers e.0)) refl (set_at-insert es key value path) where
    here : Bool
    here = same_path path (numbers key)

    there : Bool
    there = same_path path (numbers e.0)

    rest : List ℕ
    rest = set_at (seen es) path

    behind : List (K × V)
    behind = insert_entry (λ x y. slice_cmp nat_cmp (numbers x) (numbers y)) es key value

    go : (o : Ordering) → slice_cmp nat_cmp (numbers key) (numbers e.0) ≡ o
        → set_at (seen behind) path ≡ cond here (held value) rest
        → set_at (seen (match_ordering o ((key, value) ∷ e ∷ es) ((e.0, value) ∷ es) (e ∷ behind))) path
        ≡ cond here (held value) (set_at (seen (e ∷ es)) path)
    go Less is more = first_at (numbers key) (held value) (seen (e ∷ es)) path
    go Equal is more =
        first_at (numbers e.0) (held value) (seen es) path
        ∙ over there (held value) (held e.1) rest
        ∙ ap (λ (p : Path). cond (same_path path p) (held value) (cond there (held e.1) rest)) (sym (exact_bytes (numbers key) (numbers e.0) is))
        ∙ ap (cond here (held value)) (sym (first_at (numbers e.0) (held e.1) (seen es) path))
    go Greater is more =
        first_at (numbers e.0) (held e.1) (seen behind) path
        ∙ ap (cond there (held e.1)) more
        ∙ swapped there here (held e.1) (held value) rest (apart (numbers key) (numbers e.0) path is)
        ∙ ap (cond here (held value)) (sym (first_at (numbers e.0) (held e.1) (seen es) path))

-- Paths that are added one by one, and those to what stands in braces.
use Rattle.std.proofs.Common.{◌≡◌, ◌<◌, ◌+◌, ℕ, Bool, true, false, List, [], ◌∷◌, ◌++◌, length, drop, get_or, Some, refl, sym, ap, subst, ◌∙◌, append_assoc, arith}
use Rattle.std.specs.Prelude.{◌||◌}
use Rattle.std.proofs.lemmas.List.{drop_more}
use Rattle.protox_interpret.specs.Settings.{paths_from}
use Rattle.protox_message_bytes.specs.declared.entry.Entry.{Entry}
use Rattle.protox_message_bytes.specs.declared.entry.Entry.TheVariants as entry
use Rattle.protox_set_paths.proofs.Lemmas.{begins_on, goes_on}
use Rattle.protox_set_paths.specs.Paths.{begins_with, is_set, path_of}

-- ---- one path

-- the path, unless it is empty
abbrev pub if_any : List ℕ → List (List ℕ)
if_any [] = []
if_any (n ∷ path) = (n ∷ path) ∷ []

-- what begins a front begins what goes on behind it
begins_front : (q front rest : List ℕ) → begins_with q front ≡ true → begins_with q (front ++ rest) ≡ true
begins_front q front rest begun =
    let (more, is) = goes_on q front begun in
    subst (λ p. begins_with q p ≡ true) (sym (ap (λ p. p ++ rest) is ∙ append_assoc q more rest)) (begins_on q (more ++ rest))

covered : (longer shorter before : Bool) → (shorter ≡ true → longer ≡ true) → (longer || ((shorter || false) || before)) ≡ ((longer || false) || before)
covered true shorter before within = refl
covered false false before within = refl
covered false true before within = absurd (let e : false ≡ true = within refl in cc)

first : (longer before : Bool) → (longer || (false || before)) ≡ ((longer || false) || before)
first true before = refl
first false before = refl

-- one number more
pub path_grows : (front : List ℕ) (n : ℕ) (q : List ℕ) (before : Bool)
    → (begins_with q (front ++ n ∷ []) || (is_set (if_any front) q || before)) ≡ (is_set (if_any (front ++ n ∷ [])) q || before)
path_grows [] n q before = first (begins_with q (n ∷ [])) before
path_grows (m ∷ front) n q before =
    covered (begins_with q (m ∷ front ++ n ∷ [])) (begins_with q (m ∷ front)) before (begins_front q (m ∷ front) (n ∷ []))

-- ---- the paths in a message

-- The paths stand at these places.
abbrev pub AtPlaces : List (List ℕ) → List ℕ → List (List ℕ) → Type 0
AtPlaces set [] [] = Unit {0}
AtPlaces set [] (path ∷ paths) = ⊥
AtPlaces set (place ∷ places) [] = ⊥
AtPlaces set (place ∷ places) (path ∷ paths) = (path_of set place ≡ Some path) × AtPlaces set places paths

-- What is set now, with what the entries from the ith on set, is what was set before, with what all of
-- them set. The messages that are open stand at these places.
pub record Progress (before now : List (List ℕ)) (entries : List Entry) (i : ℕ) (places path : List ℕ) : Type 0 where
  pub paths : List (List ℕ)
  pub at : AtPlaces now places paths
  pub is : (q : List ℕ) → (is_set (paths_from paths (drop i entries)) q || is_set now q) ≡ (is_set (paths_from (path ∷ []) entries) q || is_set before q)

pub none_yet : (set : List (List ℕ)) (entries : List Entry) (place : ℕ) (path : List ℕ) → path_of set place ≡ Some path
    → Progress set set entries 0 (place ∷ []) path
none_yet set entries place path at = record { paths = path ∷ []; at = (at, tt); is = λ q. refl }

-- the entries from the ith on begin with it
front_is : (entries : List Entry) (i : ℕ) (it is : Entry) → i < length entries → it ≡ get_or entries i it → it ≡ is → drop i entries ≡ is ∷ drop (i + 1) entries
front_is entries i it is below at_it here = drop_more entries i it below ∙ ap (λ e. e ∷ drop (i + 1) entries) (sym at_it ∙ here)

abbrev pub Keeps : List (List ℕ) → List (List ℕ) → Type 0
Keeps old new = (n : ℕ) (path : List ℕ) → path_of old n ≡ Some path → path_of new n ≡ Some path

still_at : (old new : List (List ℕ)) (places : List ℕ) (paths : List (List ℕ)) → Keeps old new → AtPlaces old places paths → AtPlaces new places paths
still_at old new [] [] kept at = tt
still_at old new [] (path ∷ paths) kept at = at
still_at old new (place ∷ places) [] kept at = at
still_at old new (place ∷ places) (path ∷ paths) kept at = (kept place path at.0, still_at old new places paths kept at.1)

moved : (one others now : Bool) → (others || (one || now)) ≡ ((one || others) || now)
moved true true now = refl
moved true false now = refl
moved false true now = refl
moved false false now = refl

module _ (before now new : List (List ℕ)) (entries : List Entry) (i : ℕ) (top : ℕ) (rest path : List ℕ) (number : ℕ) where
  -- The path with this number behind that of the innermost message is set.
  abbrev pub IsEntered : Type 0
  IsEntered = (path : List ℕ) → path_of now top ≡ Some path → (q : List ℕ) → is_set new q ≡ (begins_with q (path ++ number ∷ []) || is_set now q)

  pub value_taken : (it : Entry) (packed : Bool) (value : _) → i < length entries → it ≡ get_or entries i it → it ≡ entry.Value number packed value
      → Keeps now new → IsEntered → Progress before now entries i (top ∷ rest) path → Progress before new entries (i + 1) (top ∷ rest) path
  value_taken it packed value below at_it here kept entered p = go p.paths p.at p.is where
    go : (paths : List (List ℕ)) → AtPlaces now (top ∷ rest) paths
        → ((q : List ℕ) → (is_set (paths_from paths (drop i entries)) q || is_set now q) ≡ (is_set (paths_from (path ∷ []) entries) q || is_set before q))
        → Progress before new entries (i + 1) (top ∷ rest) path
    go [] at is = absurd at
    go (inner ∷ outer) at is = record {
      paths = inner ∷ outer;
      at = still_at now new (top ∷ rest) (inner ∷ outer) kept at;
      is = λ q.
          ap (λ b. is_set (paths_from (inner ∷ outer) (drop (i + 1) entries)) q || b) (entered inner at.0 q)
          ∙ moved (begins_with q (inner ++ number ∷ [])) (is_set (paths_from (inner ∷ outer) (drop (i + 1) entries)) q) (is_set now q)
          ∙ sym (ap (λ es. is_set (paths_from (inner ∷ outer) es) q || is_set now q) (front_is entries i it _ below at_it here))
          ∙ is q;
    }

  pub message_opened : (it : Entry) (group : Bool) (next : ℕ) → i < length entries → it ≡ get_or entries i it → it ≡ entry.Open number group
      → Keeps now new → IsEntered → ((path : List ℕ) → path_of now top ≡ Some path → path_of new next ≡ Some (path ++ number ∷ []))
      → Progress before now entries i (top ∷ rest) path → Progress before new entries (i + 1) (next ∷ top ∷ rest) path
  message_opened it group next below at_it here kept entered led p = go p.paths p.at p.is where
    go : (paths : List (List ℕ)) → AtPlaces now (top ∷ rest) paths
        → ((q : List ℕ) → (is_set (paths_from paths (drop i entries)) q || is_set now q) ≡ (is_set (paths_from (path ∷ []) entries) q || is_set before q))
        → Progress before new entries (i + 1) (next ∷ top ∷ rest) path
    go [] at is = absurd at
    go (inner ∷ outer) at is = record {
      paths = (inner ++ number ∷ []) ∷ inner ∷ outer;
      at = (led inner at.0, still_at now new (top ∷ rest) (inner ∷ outer) kept at);
      is = λ q.
          ap (λ b. is_set (paths_from ((inner ++ number ∷ []) ∷ inner ∷ outer) (drop (i + 1) entries)) q || b) (entered inner at.0 q)
          ∙ moved (begins_with q (inner ++ number ∷ [])) (is_set (paths_from ((inner ++ number ∷ []) ∷ inner ∷ outer) (drop (i + 1) entries)) q) (is_set now q)
          ∙ sym (ap (λ es. is_set (paths_from (inner ∷ outer) es) q || is_set now q) (front_is entries i it _ below at_it here))
          ∙ is q;
    }

module _ (before now : List (List ℕ)) (entries : List Entry) (i : ℕ) (top : ℕ) (path : List ℕ) where
  pub message_closed : (it : Entry) (outer : ℕ) (rest : List ℕ) → i < length entries → it ≡ get_or entries i it → it ≡ entry.Close
      → Progress before now entries i (top ∷ outer ∷ rest) path → Progress before now entries (i + 1) (outer ∷ rest) path
  message_closed it outer rest below at_it here p = go p.paths p.at p.is where
    go : (paths : List (List ℕ)) → AtPlaces now (top ∷ outer ∷ rest) paths
        → ((q : List ℕ) → (is_set (paths_from paths (drop i entries)) q || is_set now q) ≡ (is_set (paths_from (path ∷ []) entries) q || is_set before q))
        → Progress before now entries (i + 1) (outer ∷ rest) path
    go [] at is = absurd at
    go (inner ∷ others) at is = record {
      paths = others;
      at = at.1;
      is = λ q. sym (ap (λ es. is_set (paths_from (inner ∷ others) es) q || is_set now q) (front_is entries i it entry.Close below at_it here)) ∙ is q;
    }

  -- where nothing is open any more, nothing more is set
  pub nothing_open : (it : Entry) → i < length entries → it ≡ get_or entries i it → it ≡ entry.Close → Progress before now entries i (top ∷ []) path
      → (q : List ℕ) → is_set now q ≡ (is_set (paths_from (path ∷ []) entries) q || is_set before q)
  nothing_open it below at_it here p = go p.paths p.at p.is where
    go : (paths : List (List ℕ)) → AtPlaces now (top ∷ []) paths
        → ((q : List ℕ) → (is_set (paths_from paths (drop i entries)) q || is_set now q) ≡ (is_set (paths_from (path ∷ []) entries) q || is_set before q))
        → (q : List ℕ) → is_set now q ≡ (is_set (paths_from (path ∷ []) entries) q || is_set before q)
    go [] at is q = absurd at
    go (inner ∷ []) at is q = sym (ap (λ es. is_set (paths_from (inner ∷ []) es) q || is_set now q) (front_is entries i it entry.Close below at_it here)) ∙ is q
    go (inner ∷ other ∷ others) at is q = absurd at.1

none_left : (paths : List (List ℕ)) → paths_from paths [] ≡ []
none_left [] = refl
none_left (path ∷ paths) = refl

-- nothing is left of an empty list
pub no_items : {A : Type 0} (xs : List A) → length xs ≡ 0 → xs ≡ []
no_items [] none = refl
no_items (x ∷ xs) none = absurd (omega (arith, none))

-- all entries are taken
pub all_taken : (before now : List (List ℕ)) (entries : List Entry) (i : ℕ) (places path : List ℕ) → drop i entries ≡ []
    → Progress before now entries i places path
    → (q : List ℕ) → is_set now q ≡ (is_set (paths_from (path ∷ []) entries) q || is_set before q)
all_taken before now entries i places path none p q =
    sym (ap (λ es. is_set (paths_from p.paths es) q || is_set now q) none ∙ ap (λ ps. is_set ps q || is_set now q) (none_left p.paths)) ∙ p.is q

-- ---- both

both_added : (here inside before : Bool) → (inside || ((here || false) || before)) ≡ ((here || inside) || before)
both_added true true before = refl
both_added true false before = refl
both_added false true before = refl
both_added false false before = refl

pub paths_added : (path : List ℕ) (paths before now new : List (List ℕ)) → ((q : List ℕ) → is_set now q ≡ (is_set (path ∷ []) q || is_set before q))
    → ((q : List ℕ) → is_set new q ≡ (is_set paths q || is_set now q))
    → (q : List ℕ) → is_set new q ≡ (is_set (path ∷ paths) q || is_set before q)
paths_added path paths before now new one others q =
    others q ∙ ap (λ b. is_set paths q || b) (one q) ∙ both_added (begins_with q path) (is_set paths q) (is_set before q)

-- The way from a package outwards, one step each time.
use Rattle.std.proofs.Common.{◌≡◌, ◌≢◌, ◌<◌, ◌≤◌, ◌==◌, ◌||◌, ◌++◌, drop, take, append-nil, ◌⊎◌, inl, inr, ℕ, Bool, true, false, List, [], ◌∷◌, length, Option, Some, None, bytes_eq, refl, sym, ap, subst, ◌∙◌, arith, unwrap_or}
use Rattle.std.specs.List.{All, list_any}
use Rattle.std.proofs.lemmas.Bool.Decides.{eqb_tells}
use Rattle.std.proofs.lemmas.List.{drop_all, take_all}
use Rattle.std.proofs.lemmas.List.Elements.{All-head}
use Rattle.std.proofs.lemmas.Option.{same_Some, slice_get_past, unwrap_or-slice_get}
use Rattle.std.proofs.lemmas.Slice.Eq.{bytes_eq-Decides}
use Rattle.protox_name_tree.proofs.Lemmas.{known_name, known_some}
use Rattle.protox_name_tree.specs.Tree.{AreTreeNames, IsNameTree, Names, name_at}
use Rattle.protox_names.proofs.Lemmas.{scopes_are_shorter}
use Rattle.protox_names.specs.Names.{scopes}
use Rattle.protox_names.specs.Tree.{name_of_place}
use Rattle.protox_scopes.specs.Scopes.{IsOuter}
use Rattle.protox_views.specs.Packages.{is_on_the_way}

is_true_or : (b : Bool) → (b ≡ true) ⊎ (b ≡ false)
is_true_or true = inl refl
is_true_or false = inr refl

-- outside of the number itself, the way is the way from its scope
way_outwards : (names : Names) (n q : ℕ) (outer : Option ℕ) → IsOuter (name_at names) q outer → list_any (λ scope. bytes_eq scope (name_at names n)) (scopes (name_at names q)) ≡ is_on_the_way names n outer
way_outwards names n q None is = ap (list_any (λ scope. bytes_eq scope (name_at names n))) is
way_outwards names n q (Some o) is = ap (list_any (λ scope. bytes_eq scope (name_at names n))) is

-- a full name has one number
same_number : (names : Names) (n q : ℕ) → AreTreeNames names.full_names → n < length names.full_names → q < length names.full_names → name_at names q ≡ name_at names n → q ≡ n
same_number names n q tree here there same =
    same_Some q n (sym (tree.numbered.number_of (name_at names q) q (known_name names.full_names q there))
    ∙ tree.numbered.number_of (name_at names q) n (known_name names.full_names n here ∙ ap (λ name. Some name) (sym same)))

pub past_name : (names : Names) (q : ℕ) → length names.full_names ≤ q → name_at names q ≡ []
past_name names q past = sym (unwrap_or-slice_get names.full_names q []) ∙ ap (λ name. unwrap_or name []) (slice_get_past names.full_names q past)

pub is_below : (q n : ℕ) → (q < n) ⊎ (n ≤ q)
is_below q n = grind arith

other_name : (names : Names) (n q : ℕ) → AreTreeNames names.full_names → n < length names.full_names → (q ≡ n → ⊥) → bytes_eq (name_at names q) (name_at names n) ≡ false
other_name names n q tree here other =
    elim (is_true_or (bytes_eq (name_at names q) (name_at names n))) [
      | inr unequal ↦ unequal
      | inl equal ↦
          let same : name_at names q ≡ name_at names n = (bytes_eq-Decides (name_at names q) (name_at names n)).0 equal in
          absurd (elim (is_below q (length names.full_names)) [
            | inl below ↦ other (same_number names n q tree here below same)
            | inr past ↦ known_some names.full_names n tree here (sym same ∙ past_name names q past)
          ])
    ]

-- The way from a number begins with itself, and goes on from its scope.
pub way_step : (names : Names) (n q : ℕ) (outer : Option ℕ) → IsNameTree names → n < length names.full_names → IsOuter (name_at names) q outer
    → is_on_the_way names n (Some q) ≡ ((n == q) || is_on_the_way names n outer)
way_step names n q outer tree here is = elim (eqb_tells n q) [
  | inl (equal, same) ↦
      ap (λ first. first || list_any (λ scope. bytes_eq scope (name_at names n)) (scopes (name_at names q))) ((bytes_eq-Decides (name_at names q) (name_at names n)).1 (ap (name_at names) (sym same)))
      ∙ sym (ap (λ first. first || is_on_the_way names n outer) equal)
  | inr (unequal, other) ↦
      ap (λ first. first || list_any (λ scope. bytes_eq scope (name_at names n)) (scopes (name_at names q))) (other_name names n q tree.names here (λ same. other (sym same)))
      ∙ way_outwards names n q outer is
      ∙ sym (ap (λ first. first || is_on_the_way names n outer) unequal)
]

-- a number past the last one is that of no package
pub no_way : (names : Names) (n q : ℕ) → IsNameTree names → n < length names.full_names → length names.full_names ≤ q → is_on_the_way names n (Some q) ≡ false
no_way names n q tree here past =
    ap (λ first. first || list_any (λ scope. bytes_eq scope (name_at names n)) (scopes (name_at names q))) (other_name names n q tree.names here (λ same. omega (arith, same, here, past)))
    ∙ ap (λ name. list_any (λ scope. bytes_eq scope (name_at names n)) (scopes name)) (past_name names q past)

some_length : (name : List ℕ) → name ≢ [] → 0 < length name
some_length [] some = absurd (some refl)
some_length (byte ∷ name) some = omega arith

-- outwards names get shorter
pub shorter_outwards : (names : Names) (q : ℕ) (outer : Option ℕ) → IsNameTree names → q < length names.full_names → IsOuter (name_at names) q outer → length (name_of_place (name_at names) outer) < length (name_at names q)
shorter_outwards names q None tree known is = some_length (name_at names q) (known_some names.full_names q tree.names known)
shorter_outwards names q (Some o) tree known is =
    All-head (λ scope. length scope < length (name_at names q)) (name_at names o) (scopes (name_at names o))
    (subst (All (λ scope. length scope < length (name_at names q))) is (scopes_are_shorter (name_at names q)))

-- a list that was written through a slice of all of it
pub written_whole : {X : Type 0} (written items : List X) (len : ℕ) → length written ≡ length items → len ≡ length items → take len (written ++ drop (length written) items) ≡ written
written_whole written items len same is =
    ap (λ rest. take len (written ++ rest)) (drop_all (length written) items (omega (arith, same)))
    ∙ ap (take len) (append-nil written) ∙ take_all len written (omega (arith, same, is))

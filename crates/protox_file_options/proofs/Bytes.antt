-- The bytes at the paths of places that differ.
use Rattle.std.proofs.Common.{◌≡◌, ◌≢◌, ◌∙◌, ℕ, Bool, List, true, false, [], ◌∷◌, ◌++◌, ap, cond, map, refl, subst, sym}
use Rattle.std.proofs.lemmas.Slice.Eq.{bytes_eq-Decides}
use Rattle.protox_descriptor.specs.declared.descriptor.FileDescriptorProto.{FileDescriptorProto}
use Rattle.protox_encode_linked.specs.Setting.{same_path, set_at}
use Rattle.protox_file_options.proofs.Each.{Each, all_each, each_all, each_weaker}
use Rattle.protox_file_options.proofs.Paths.{Apart, places_apart}
use Rattle.protox_file_options.specs.Interpreted.{IsInterpreted, Taken, bytes_of, faults_of, moves_of_all}
use Rattle.protox_file_options.specs.Outcomes.{Outcome, Sets, Wrong, names_of}
use Rattle.protox_file_options.specs.Places.{Place, key_of, places_of}
use Rattle.protox_file_options.specs.declared.answer.InterpretedFile.{InterpretedFile}
use Rattle.protox_file_options.specs.inner.Added.{AreAdded, bytes_behind, bytes_from}
use Rattle.protox_views.specs.declared.view.View.{View}

-- ---- one place

not_true : (b : Bool) → b ≢ true → b ≡ false
not_true true no_way = absurd (no_way refl)
not_true false no_way = refl

not_same : (q path : List ℕ) → path ≢ q → same_path q path ≡ false
not_same q path other = not_true (same_path q path) (λ same. other (sym ((bytes_eq-Decides q path).0 same)))

-- A place of another path leaves the bytes alone.
others : (q bytes : List ℕ) (place : Place) (outcome : Outcome) → key_of place ≢ q → bytes_behind q bytes place outcome ≡ bytes
others q bytes place (Sets set) other = ap (λ same. cond same set.bytes.items bytes) (not_same q (key_of place) other)
others q bytes place (Wrong fault) other = refl

-- At its own path stands what it sets.
set_itself : (place : Place) (outcome : Outcome) → bytes_behind (key_of place) [] place outcome ≡ bytes_of outcome
set_itself place (Sets set) = ap (λ same. cond same set.bytes.items []) ((bytes_eq-Decides (key_of place) (key_of place)).1 refl)
set_itself place (Wrong fault) = refl

-- ---- places

abbrev place_of : Taken → Place
place_of t = t.place

-- Places of other paths leave the bytes alone.
all_others : (q bytes : List ℕ) (taken : List Taken) → Each (λ t. key_of t.place ≢ q) taken → bytes_from q bytes taken ≡ bytes
all_others q bytes [] h = refl
all_others q bytes (t ∷ ts) h = all_others q (bytes_behind q bytes t.place t.outcome) ts h.1 ∙ others q bytes t.place t.outcome h.0

-- the same of the paths of places
of_places : (P : Place → Type 0) (taken : List Taken) → Each P (map place_of taken) → Each (λ t. P t.place) taken
of_places P [] h = tt
of_places P (t ∷ ts) h = (h.0, of_places P ts h.1)

-- what stands at the paths of some places behind all
abbrev Stands : List Taken → Taken → Type 0
Stands all t = bytes_from (key_of t.place) [] all ≡ bytes_of t.outcome

one_before : (t : Taken) (all rest : List Taken) → Each (λ u. key_of t.place ≢ key_of u.place) rest → Each (Stands all) rest → Each (Stands (t ∷ all)) rest
one_before t all [] other h = tt
one_before t all (u ∷ us) other h = (
  ap (λ bytes. bytes_from (key_of u.place) bytes all) (others (key_of u.place) [] t.place t.outcome other.0) ∙ h.0,
  one_before t all us other.1 h.1,
)

each_stands : (taken : List Taken) → Apart (map place_of taken) → Each (Stands taken) taken
each_stands [] apart = tt
each_stands (t ∷ ts) apart =
    let other : Each (λ u. key_of t.place ≢ key_of u.place) ts = of_places (λ p. key_of t.place ≢ key_of p) ts apart.0 in (
      all_others (key_of t.place) (bytes_behind (key_of t.place) [] t.place t.outcome) ts
          (each_weaker (λ u. key_of t.place ≢ key_of u.place) (λ u. key_of u.place ≢ key_of t.place) (λ u apart same. apart (sym same)) ts other)
          ∙ set_itself t.place t.outcome,
      one_before t ts ts other (each_stands ts apart.1),
    )

-- ---- an answer

-- what is added to an empty answer
pub all_interpreted : (view : View) (files : List FileDescriptorProto) (file : FileDescriptorProto) (empty answer : InterpretedFile)
    → empty.faults.items ≡ [] → empty.moves.items ≡ [] → empty.options ≡ [] → AreAdded view files empty (places_of file) answer → IsInterpreted view files file answer
all_interpreted view files file empty answer no_fault no_move no_bytes added =
    let at : (q : List ℕ) → set_at answer.options q ≡ bytes_from q [] added.taken =
    λ q. added.options q ∙ ap (λ set. bytes_from q (set_at set q) added.taken) no_bytes in
    let apart : Apart (map place_of added.taken) = subst Apart (sym added.in_order) (places_apart file) in
    record {
      taken = added.taken;
      places = added.in_order;
      outcomes = added.outcomes;
      faults = added.faults ∙ ap (λ faults. faults ++ faults_of (names_of view) added.taken) no_fault;
      moves = added.moves ∙ ap (λ moves. moves ++ moves_of_all added.taken) no_move;
      bytes = each_all (λ t. set_at answer.options (key_of t.place) ≡ bytes_of t.outcome) added.taken
          (each_weaker (Stands added.taken) (λ t. set_at answer.options (key_of t.place) ≡ bytes_of t.outcome)
          (λ t stands. at (key_of t.place) ∙ stands) added.taken (each_stands added.taken apart));
      nothing_else = λ q other. at q ∙ all_others q [] added.taken (all_each (λ t. key_of t.place ≢ q) added.taken other);
    }

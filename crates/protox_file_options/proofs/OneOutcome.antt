-- Whether all statements of a file are right is told in one way.
use Rattle.std.proofs.Common.{◌≡◌, ◌++◌, List, [], ◌∷◌, map, Some, None, refl, sym, ◌∙◌, ap, subst}
use Rattle.std.specs.Prelude.{All}
use Rattle.std.proofs.lemmas.List.Elements.{All-cons, All-head, All-nil, All-tail}
use Rattle.protox_descriptor.specs.declared.descriptor.FileDescriptorProto.{FileDescriptorProto}
use Rattle.protox_file_options.specs.Interpreted.{IsInterpreted, Taken, faults_at, faults_of}
use Rattle.protox_file_options.specs.Outcomes.{IsOutcome, IsSite, Outcome, Sets, Wrong, names_of}
use Rattle.protox_file_options.specs.Outcomes.IsOutcome.{AllSet, HasNoType, OneWrong}
use Rattle.protox_file_options.specs.Places.{Place}
use Rattle.protox_file_options.specs.declared.answer.InterpretedFile.{InterpretedFile}
use Rattle.protox_interpret.proofs.Lemmas.{SeeTheSame, never_both_there}
use Rattle.protox_interpret.specs.declared.site.Interpreted.{Interpreted}
use Rattle.protox_interpret.specs.declared.site.Site.{Site}
use Rattle.protox_name_tree.specs.Tree.{Names, number_of}
use Rattle.protox_symbols.specs.Symbols.{Table}
use Rattle.protox_views.specs.declared.view.View.{View}

-- ---- places where all is right

abbrev pub IsRight : Taken → Type 0
IsRight t = (set : Interpreted) × (t.outcome ≡ Sets set)

none_of_both : {A : Type 0} (xs ys : List A) → xs ++ ys ≡ [] → (xs ≡ []) × (ys ≡ [])
none_of_both [] ys e = (refl, e)
none_of_both (x ∷ xs) ys e = absurd cc

right_outcome : (names : Names) (place : Place) (outcome : Outcome) → faults_at names place outcome ≡ [] → (set : Interpreted) × (outcome ≡ Sets set)
right_outcome names place (Sets set) e = (set, refl)
right_outcome names place (Wrong fault) e = absurd cc

all_right : (names : Names) (taken : List Taken) → faults_of names taken ≡ [] → All IsRight taken
all_right names [] e = All-nil IsRight
all_right names (t ∷ more) e =
    let both = none_of_both (faults_at names t.place t.outcome) (faults_of names more) e in
    All-cons IsRight t more (right_outcome names t.place t.outcome both.0) (all_right names more both.1)

-- ---- what two views tell

-- Both views show the same.
pub record ShowTheSame (here there : View) : Type 0 where
  pub symbols : here.symbols.now ≡ there.symbols.now
  pub sees : here.sees.now ≡ there.sees.now
  pub packages : here.packages ≡ there.packages

some_in : {A : Type 0} (x y : A) → Some x ≡ Some y → x ≡ y
some_in x y e = cc

module _ (here there : View) (files : List FileDescriptorProto) (same : ShowTheSame here there) where
  sites_see : (place : Place) (a b : Site) → IsSite here files place a → IsSite there files place b → SeeTheSame a b
  sites_see place a b is is' = record {
    symbols = ap (λ (v : View). v.symbols.now) is.view ∙ (same.symbols ∙ sym (ap (λ (v : View). v.symbols.now) is'.view));
    sees = ap (λ (v : View). v.sees.now) is.view ∙ (same.sees ∙ sym (ap (λ (v : View). v.sees.now) is'.view));
    packages = ap (λ (v : View). v.packages) is.view ∙ (same.packages ∙ sym (ap (λ (v : View). v.packages) is'.view));
    files = is.files ∙ sym is'.files;
    scope = is.scope ∙ (ap (λ (t : Table). number_of t.names place.scope) same.symbols ∙ sym is'.scope);
    message = some_in a.message b.message (is.message ∙ (ap (λ (t : Table). number_of t.names place.options) same.symbols ∙ sym is'.message));
  }

  has_type : (place : Place) (a : Site) → IsSite here files place a → number_of (names_of there) place.options ≡ None → ⊥
  has_type place a is none =
      let no : Some a.message ≡ None = is.message ∙ (ap (λ (t : Table). number_of t.names place.options) same.symbols ∙ none) in cc

  outcome_there : (place : Place) (one other : Outcome) → IsOutcome here files place one → IsOutcome there files place other
      → (set : Interpreted) → one ≡ Sets set → (found : Interpreted) × (other ≡ Sets found)
  outcome_there place one other is (AllSet b answer site a) set e = (answer, refl)
  outcome_there place one other (HasNoType none) (HasNoType none') set e = absurd cc
  outcome_there place one other (AllSet a answer site is) (HasNoType none) set e = absurd (has_type place a site none)
  outcome_there place one other (OneWrong a wrong site first) (HasNoType none) set e = absurd cc
  outcome_there place one other (HasNoType none) (OneWrong b wrong site first) set e = absurd cc
  outcome_there place one other (AllSet a answer site is) (OneWrong b wrong site' first) set e =
      absurd (never_both_there a b place.statements answer wrong (sites_see place a b site site') is first)
  outcome_there place one other (OneWrong a wrong site first) (OneWrong b wrong' site' first') set e = absurd cc

  places_head : (t u : Taken) (more others : List Taken) → map (λ (t : Taken). t.place) (t ∷ more) ≡ map (λ (t : Taken). t.place) (u ∷ others) → t.place ≡ u.place
  places_head t u more others e = cc

  places_tail : (t u : Taken) (more others : List Taken) → map (λ (t : Taken). t.place) (t ∷ more) ≡ map (λ (t : Taken). t.place) (u ∷ others)
      → map (λ (t : Taken). t.place) more ≡ map (λ (t : Taken). t.place) others
  places_tail t u more others e = cc

  right_there : (taken others : List Taken) → map (λ (t : Taken). t.place) taken ≡ map (λ (t : Taken). t.place) others
      → All (λ t. IsOutcome here files t.place t.outcome) taken → All (λ t. IsOutcome there files t.place t.outcome) others
      → All IsRight taken → All IsRight others
  right_there taken [] e a b right = All-nil IsRight
  right_there [] (u ∷ others) e a b right = absurd cc
  right_there (t ∷ more) (u ∷ others) e a b right =
      let is = All-head (λ (t : Taken). IsOutcome here files t.place t.outcome) t more a in
      let is' = All-head (λ (t : Taken). IsOutcome there files t.place t.outcome) u others b in
      let set = All-head IsRight t more right in
      All-cons IsRight u others
      (outcome_there u.place t.outcome u.outcome
      (subst (λ (p : Place). IsOutcome here files p t.outcome) (places_head t u more others e) is) is' set.0 set.1)
      (right_there more others (places_tail t u more others e)
      (All-tail (λ (t : Taken). IsOutcome here files t.place t.outcome) t more a)
      (All-tail (λ (t : Taken). IsOutcome there files t.place t.outcome) u others b)
      (All-tail IsRight t more right))

  -- Where nothing is wrong in one answer, all is right in another.
  pub others_right : (file : FileDescriptorProto) (one other : InterpretedFile) (a : IsInterpreted here files file one)
      (b : IsInterpreted there files file other) → one.faults.items ≡ [] → All IsRight b.taken
  others_right file one other a b none =
      right_there a.taken b.taken (a.places ∙ sym b.places) a.outcomes b.outcomes
      (all_right (names_of here) a.taken (sym a.faults ∙ none))

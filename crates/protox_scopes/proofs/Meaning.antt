-- A search finds just what the name stands for.
use Rattle.std.proofs.Common.{◌≡◌, ℕ, Bool, true, false, cond, List, [], ◌∷◌, ◌++◌, map, drop, Option, Some, None, refl, sym, ap, ◌∙◌}
use Rattle.std.proofs.lemmas.Bool.{false≢true, true≢false}
use Rattle.std.proofs.lemmas.List.Elements.{All-cons, All-head, All-nil, All-tail}
use Rattle.protox_names.specs.Names.{front, is_absolute, is_one_part, scopes, within}
use Rattle.protox_names.proofs.Lemmas.{front_of_one_part}
use Rattle.protox_scopes.specs.declared.kind.Kind.{Kind}
use Rattle.protox_scopes.specs.declared.kind.Wanted.{Wanted}
use Rattle.protox_scopes.specs.declared.step.Step.{Step}
use Rattle.protox_scopes.specs.declared.step.Step.TheVariants.{Ends, GoesOn}
use Rattle.protox_scopes.specs.Laws.{DotIsSafe, OneMeaning, ResolveIsMeaning}
use Rattle.protox_scopes.specs.Scopes.{first_end, fits, holds_names, resolve, step, step_from}
use Rattle.protox_scopes.specs.StandsFor.{HasFirstPart, IsInnermost, NoneHasFirstPart, StandsFor, can_mean}
use Rattle.protox_scopes.specs.StandsFor.StandsFor.{FullName, InScope, AtTop}

module _ {Thing : Type 0} (kind : Thing → Kind) (seen : List ℕ → Option Thing) (wanted : Wanted) (name : List ℕ) where
  abbrev Has : List ℕ → Type 0
  Has scope = HasFirstPart kind seen wanted name scope

  abbrev Misses : List ℕ → Type 0
  Misses scope = Has scope → ⊥

  abbrev pub at : List ℕ → Step Thing
  at scope = step kind seen wanted name scope

  -- what a search in a scope does, and why
  data Searched (scope : List ℕ) : Type 0 where
    Passes : Misses scope → at scope ≡ GoesOn → Searched scope
    Stops : Has scope → at scope ≡ Ends (seen (within scope name)) → Searched scope

  -- ---- one scope

  missed_none : (scope : List ℕ) → seen (within scope (front name)) ≡ None → Misses scope
  missed_none scope e has = let both : None ≡ Some has.0 = sym e ∙ has.1 in cc

  missed_other : (scope : List ℕ) (thing : Thing) → seen (within scope (front name)) ≡ Some thing → can_mean kind seen wanted name thing ≡ false → Misses scope
  missed_other scope thing e cannot has =
      let both : Some thing ≡ Some has.0 = sym e ∙ has.1 in
      let same : thing ≡ has.0 = cc in
      false≢true (sym cannot ∙ ap (can_mean kind seen wanted name) same ∙ has.2)

  -- a name of one part is found where its first part is
  found_alone : (scope : List ℕ) (thing : Thing) → is_one_part name ≡ true → seen (within scope (front name)) ≡ Some thing → Some thing ≡ seen (within scope name)
  found_alone scope thing alone e = sym e ∙ ap (λ part. seen (within scope part)) (front_of_one_part name alone)

  opened : (scope : List ℕ) (thing : Thing) (alone : Bool) → seen (within scope (front name)) ≡ Some thing → is_one_part name ≡ alone → at scope ≡ cond alone (cond (fits wanted (kind thing)) (Ends (Some thing)) GoesOn) (cond (holds_names (kind thing)) (Ends (seen (within scope name))) GoesOn)
  opened scope thing alone e is =
      ap (step_from kind seen wanted name scope) e
      ∙ ap (λ b. cond b (cond (fits wanted (kind thing)) (Ends (Some thing)) GoesOn) (cond (holds_names (kind thing)) (Ends (seen (within scope name))) GoesOn)) is

  meant : (thing : Thing) (alone can : Bool) → is_one_part name ≡ alone → cond alone (fits wanted (kind thing)) (holds_names (kind thing)) ≡ can → can_mean kind seen wanted name thing ≡ can
  meant thing alone can is fit = ap (λ b. cond b (fits wanted (kind thing)) (holds_names (kind thing))) is ∙ fit

  searched_some : (scope : List ℕ) (thing : Thing) (alone can : Bool) → seen (within scope (front name)) ≡ Some thing → is_one_part name ≡ alone → cond alone (fits wanted (kind thing)) (holds_names (kind thing)) ≡ can → Searched scope
  searched_some scope thing true true e is fit =
      Stops (thing, e, meant thing true true is fit) (opened scope thing true e is ∙ ap (λ b. cond b (Ends (Some thing)) GoesOn) fit ∙ ap Ends (found_alone scope thing is e))
  searched_some scope thing true false e is fit =
      Passes (missed_other scope thing e (meant thing true false is fit)) (opened scope thing true e is ∙ ap (λ b. cond b (Ends (Some thing)) GoesOn) fit)
  searched_some scope thing false true e is fit =
      Stops (thing, e, meant thing false true is fit) (opened scope thing false e is ∙ ap (λ b. cond b (Ends (seen (within scope name))) GoesOn) fit)
  searched_some scope thing false false e is fit =
      Passes (missed_other scope thing e (meant thing false false is fit)) (opened scope thing false e is ∙ ap (λ b. cond b (Ends (seen (within scope name))) GoesOn) fit)

  searched_from : (scope : List ℕ) (found : Option Thing) → seen (within scope (front name)) ≡ found → Searched scope
  searched_from scope None e = Passes (missed_none scope e) (ap (step_from kind seen wanted name scope) e)
  searched_from scope (Some thing) e =
      searched_some scope thing (is_one_part name) (can_mean kind seen wanted name thing) e refl refl

  searched : (scope : List ℕ) → Searched scope
  searched scope = searched_from scope (seen (within scope (front name))) refl

  -- ---- one scope after another

  -- what the scopes give, where the last resort is `last`
  abbrev pub outwards : List (List ℕ) → Option Thing → Option Thing
  outwards around last = first_end (map at around) last

  data Meant (around : List (List ℕ)) (last : Option Thing) (thing : Thing) : Type 0 where
    Inside : (scope : List ℕ) → IsInnermost kind seen wanted name around scope → seen (within scope name) ≡ Some thing → Meant around last thing
    Last : NoneHasFirstPart kind seen wanted name around → last ≡ Some thing → Meant around last thing

  -- one more scope that is passed by, further in
  meant_further : (scope : List ℕ) (around : List (List ℕ)) (last : Option Thing) (thing : Thing) → Misses scope → Meant around last thing → Meant (scope ∷ around) last thing
  meant_further scope around last thing misses (Inside other innermost found) =
      Inside other (record {
        inner = scope ∷ innermost.inner;
        outer = innermost.outer;
        order = ap (λ l. scope ∷ l) innermost.order;
        passed = All-cons Misses scope innermost.inner misses innermost.passed;
        has = innermost.has;
      }) found
  meant_further scope around last thing misses (Last none found) = Last (All-cons Misses scope around misses none) found

  meant_here : (scope : List ℕ) (around : List (List ℕ)) (last : Option Thing) (thing : Thing) → Has scope → seen (within scope name) ≡ Some thing → Meant (scope ∷ around) last thing
  meant_here scope around last thing has found =
      Inside scope (record { inner = []; outer = around; order = refl; passed = All-nil Misses; has = has }) found

  found_is_meant : (around : List (List ℕ)) (last : Option Thing) (thing : Thing) → outwards around last ≡ Some thing → Meant around last thing
  found_is_meant [] last thing e = Last (All-nil Misses) e
  found_is_meant (scope ∷ around) last thing e = elim (searched scope) [
    | Passes misses passes ↦ meant_further scope around last thing misses (found_is_meant around last thing (sym (ap (λ s. first_end (s ∷ map at around) last) passes) ∙ e))
    | Stops has stops ↦ meant_here scope around last thing has (sym (ap (λ s. first_end (s ∷ map at around) last) stops) ∙ e)
  ]

  -- where no scope has the first part, the search comes to the last resort
  to_the_last : (around : List (List ℕ)) (last : Option Thing) → NoneHasFirstPart kind seen wanted name around → outwards around last ≡ last
  to_the_last [] last none = refl
  to_the_last (scope ∷ around) last none = elim (searched scope) [
    | Passes misses passes ↦ ap (λ s. first_end (s ∷ map at around) last) passes ∙ to_the_last around last (All-tail Misses scope around none)
    | Stops has stops ↦ absurd (All-head Misses scope around none has)
  ]

  to_the_scope : (inner : List (List ℕ)) (scope : List ℕ) (outer : List (List ℕ)) (last : Option Thing) → NoneHasFirstPart kind seen wanted name inner → Has scope → outwards (inner ++ scope ∷ outer) last ≡ seen (within scope name)
  to_the_scope [] scope outer last none has = elim (searched scope) [
    | Passes misses passes ↦ absurd (misses has)
    | Stops has' stops ↦ ap (λ s. first_end (s ∷ map at outer) last) stops
  ]
  to_the_scope (first ∷ inner) scope outer last none has = elim (searched first) [
    | Passes misses passes ↦ ap (λ s. first_end (s ∷ map at (inner ++ scope ∷ outer)) last) passes ∙ to_the_scope inner scope outer last (All-tail Misses first inner none) has
    | Stops has' stops ↦ absurd (All-head Misses first inner none has')
  ]

  -- A search in the nameless scope finds nothing else than the last resort.
  pub nameless_is_last : outwards ([] ∷ []) (seen name) ≡ seen name
  nameless_is_last = elim (searched []) [
    | Passes misses passes ↦ ap (λ s. first_end (s ∷ []) (seen name)) passes
    | Stops has stops ↦ ap (λ s. first_end (s ∷ []) (seen name)) stops
  ]

  -- ---- a search, and the meaning

  of_full_name : (user : List ℕ) → is_absolute name ≡ true → resolve kind seen wanted name user ≡ seen (drop 1 name)
  of_full_name user h = ap (λ b. cond b (seen (drop 1 name)) (outwards (scopes user) (seen name))) h

  pub of_relative : (user : List ℕ) → is_absolute name ≡ false → resolve kind seen wanted name user ≡ outwards (scopes user) (seen name)
  of_relative user h = ap (λ b. cond b (seen (drop 1 name)) (outwards (scopes user) (seen name))) h

  meaning_from : (user : List ℕ) (thing : Thing) → is_absolute name ≡ false → Meant (scopes user) (seen name) thing → StandsFor kind seen wanted name user thing
  meaning_from user thing h (Inside scope innermost found) = InScope h scope innermost found
  meaning_from user thing h (Last none found) = AtTop h none found

  meaning_by : (user : List ℕ) (thing : Thing) (absolute : Bool) → is_absolute name ≡ absolute → resolve kind seen wanted name user ≡ Some thing → StandsFor kind seen wanted name user thing
  meaning_by user thing true h found = FullName h (sym (of_full_name user h) ∙ found)
  meaning_by user thing false h found = meaning_from user thing h (found_is_meant (scopes user) (seen name) thing (sym (of_relative user h) ∙ found))

  pub meaning_of_found : (user : List ℕ) (thing : Thing) → resolve kind seen wanted name user ≡ Some thing → StandsFor kind seen wanted name user thing
  meaning_of_found user thing found = meaning_by user thing (is_absolute name) refl found

  pub found_by_meaning : (user : List ℕ) (thing : Thing) → StandsFor kind seen wanted name user thing → resolve kind seen wanted name user ≡ Some thing
  found_by_meaning user thing (FullName h found) = of_full_name user h ∙ found
  found_by_meaning user thing (InScope h scope innermost found) =
      of_relative user h ∙ ap (λ l. outwards l (seen name)) innermost.order
      ∙ to_the_scope innermost.inner scope innermost.outer (seen name) innermost.passed innermost.has ∙ found
  found_by_meaning user thing (AtTop h none found) = of_relative user h ∙ to_the_last (scopes user) (seen name) none ∙ found

same_some : {Thing : Type 0} (one other : Thing) → Some one ≡ Some other → one ≡ other
same_some one other h = cc

pub resolve_is_meaning : ResolveIsMeaning
resolve_is_meaning kind seen wanted name user thing = (meaning_of_found kind seen wanted name user thing, found_by_meaning kind seen wanted name user thing)

pub one_meaning : OneMeaning
one_meaning kind seen wanted name user one other first second =
    same_some one other (sym (found_by_meaning kind seen wanted name user one first) ∙ found_by_meaning kind seen wanted name user other second)

pub dot_is_safe : DotIsSafe
dot_is_safe kind seen wanted wanted' name user user' thing dot (FullName h found) = FullName h found
dot_is_safe kind seen wanted wanted' name user user' thing dot (InScope h scope innermost found) = absurd (true≢false (sym dot ∙ h))
dot_is_safe kind seen wanted wanted' name user user' thing dot (AtTop h none found) = absurd (true≢false (sym dot ∙ h))

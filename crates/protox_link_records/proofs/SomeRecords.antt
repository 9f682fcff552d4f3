-- Files with which something is wrong have a record.
use Rattle.std.proofs.Common.{◌≡◌, ◌≢◌, ◌⊎◌, inl, inr, ℕ, Bool, List, [], ◌∷◌, ◌++◌, refl, sym, subst, ◌∙◌}
use Rattle.std.specs.List.{flat_map}
use Rattle.std.specs.Prelude.{Contains}
use Rattle.std.proofs.lemmas.List.Elements.{All-cons, All-contains, All-nil, Contains-push}
use Rattle.protox_descriptor.specs.declared.descriptor.FileDescriptorProto.{FileDescriptorProto}
use Rattle.protox_link.proofs.Lemmas.{none_of_first, none_of_second, told_is_wrong}
use Rattle.protox_link.specs.Link.{AreOfFiles, IsOfCircle}
use Rattle.protox_link.specs.Wrong.{WrongLink}
use Rattle.protox_link_fault.specs.declared.LinkFault.{LinkFault}
use Rattle.protox_link_records.proofs.EachTold.{each_is_told}
use Rattle.protox_link_records.specs.LinkPlaces.{fault_place, file_told}
use Rattle.protox_link_records.specs.LinkRecords.{AreTold, NoFault, OneMore, error_record, fault_records}
use Rattle.protox_link_text.specs.Told.{errors_of}
use Rattle.protox_link_text.specs.declared.error.LinkError.{LinkError}
use Rattle.protox_link_records.specs.declared.places.Place.{Place}
use Rattle.protox_records.specs.Records.{number}
use Rattle.protox_symbols.specs.Things.{table_of}

pub some_bytes : (n : ℕ) → number n ≢ []
unfolding number
some_bytes n = λ none. cc

pub more_than_none : {X : Type 0} (xs ys : List X) → xs ≢ [] → xs ++ ys ≢ []
more_than_none xs ys some = λ none. some (none_of_first xs ys none)

pub some_of_some : {A B : Type 0} (f : A → List B) → ((x : A) → f x ≢ []) → (xs : List A) → xs ≢ [] → flat_map f xs ≢ []
some_of_some f each [] some = λ none. some refl
some_of_some f each (x ∷ xs) some = more_than_none (f x) (flat_map f xs) (each x)

no_one : {X : Type 0} (x : X) → x ∷ [] ≢ []
no_one x = λ none. cc

alone : {X : Type 0} (x y : X) → Contains (x ∷ []) y → x ≡ y
alone x y has = All-contains (λ z. x ≡ z) (x ∷ []) y (All-cons (λ z. x ≡ z) x [] refl (All-nil (λ z. x ≡ z))) has

record_of_error : (file : ℕ) (place : Place) (error : LinkError) → error_record file place error ≢ []
record_of_error file place error = more_than_none (number file) _ (some_bytes file)

module _ (sources : List (List ℕ)) (files : List FileDescriptorProto) where
  abbrev IsWrong : LinkFault → Type 0
  IsWrong fault = WrongLink files fault ⊎ IsOfCircle files fault

  fault_has_records : (sees packages : List Bool) (fault : LinkFault) → IsWrong fault → fault_records sources files sees packages fault ≢ []
  fault_has_records sees packages fault wrong =
      some_of_some (error_record (file_told fault.file fault.kind) (fault_place sources files fault))
      (record_of_error (file_told fault.file fault.kind) (fault_place sources files fault))
      (errors_of files (table_of files) sees packages fault)
      (each_is_told files fault sees packages wrong)

  last_has_records : (faults : List LinkFault) (bytes : List ℕ) → AreTold sources files faults bytes → ((fault : LinkFault) → Contains faults fault → IsWrong fault) → faults ≢ [] → bytes ≢ []
  last_has_records faults bytes told = elim told as (λ faults bytes _. ((fault : LinkFault) → Contains faults fault → IsWrong fault) → faults ≢ [] → bytes ≢ []) [
    | NoFault ↦ λ each some none. some refl
    | OneMore before bytes fault sees packages so_far seen ↦ λ each some none.
        fault_has_records sees packages fault (each fault (Contains-push before fault)) (none_of_second bytes (fault_records sources files sees packages fault) none)
  ]

  each_wrong : (faults : List LinkFault) → AreOfFiles files faults → (fault : LinkFault) → Contains faults fault → IsWrong fault
  each_wrong faults (inl circle) fault has =
      inr (subst (IsOfCircle files) (alone circle.0 fault (subst (λ (told : List LinkFault). Contains told fault) circle.1 has)) circle.2)
  each_wrong faults (inr wrong) fault has = inl (told_is_wrong files faults wrong.1 fault has)

  some_faults : (faults : List LinkFault) → AreOfFiles files faults → faults ≢ []
  some_faults faults (inl circle) = λ none. absurd (no_one circle.0 (sym circle.1 ∙ none))
  some_faults faults (inr wrong) = wrong.0

  -- The records of what is wrong with files aren't empty.
  pub some_records : (faults : List LinkFault) (bytes : List ℕ) → AreTold sources files faults bytes → AreOfFiles files faults → bytes ≢ []
  some_records faults bytes told wrong = last_has_records faults bytes told (each_wrong faults wrong) (some_faults faults wrong)

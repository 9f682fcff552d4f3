-- What is interpreted is read back.
use Rattle.std.proofs.Common.{◌≡◌, ℕ, ◌+◌, suc, zero, List, [], ◌∷◌, ◌++◌, arith, refl, subst, sym, ◌∙◌}
use Rattle.std.specs.Prelude.{All, slice_index_or}
use Rattle.std.proofs.lemmas.List.Elements.{All-map}
use Rattle.protox_descriptor.specs.declared.descriptor.FileDescriptorProto.{FileDescriptorProto}
use Rattle.protox_encode_linked.specs.Setting.{set_at}
use Rattle.protox_file_options.specs.Interpreted.{Taken, bytes_of, faults_at, faults_of}
use Rattle.protox_file_options.specs.Outcomes.{IsOutcome, Outcome, AllSet, HasNoType, OneWrong, names_of}
use Rattle.protox_file_options.specs.Places.{Place, key_of}
use Rattle.protox_file_options.specs.declared.answer.InterpretedFile.{InterpretedFile}
use Rattle.protox_name_tree.specs.Tree.{Names}
use Rattle.protox_reading.proofs.Lemmas.{options_read_back}
use Rattle.protox_reading.specs.Statements.{IsReadBack}
use Rattle.protox_set_options.specs.Read.{AreFrom, IsInterpretedIn}
use Rattle.protox_set_options.specs.ReadBack.{AreReadBackFrom, IsFileReadBack, IsPlaceReadBack}
use Rattle.protox_views.specs.declared.view.View.{View}

-- ---- no fault

none_of_both : {A : Type 0} (xs ys : List A) → xs ++ ys ≡ [] → (xs ≡ []) × (ys ≡ [])
none_of_both [] ys e = (refl, e)
none_of_both (x ∷ xs) ys e = absurd cc

-- Where nothing is told of any, nothing is told of each.
module _ (names : Names) where
  none_at : (taken : List Taken) → faults_of names taken ≡ [] → All (λ t. faults_at names t.place t.outcome ≡ []) taken
  none_at [] none k d below = absurd (omega (arith, below))
  none_at (t ∷ more) none zero d below = (none_of_both (faults_at names t.place t.outcome) (faults_of names more) none).0
  none_at (t ∷ more) none (suc k) d below = none_at more (none_of_both (faults_at names t.place t.outcome) (faults_of names more) none).1 k d (omega (arith, below))

-- ---- a place

module _ (view : View) (files : List FileDescriptorProto) (place : Place) (bytes : List ℕ) where
  place_read_back : (outcome : Outcome) → IsOutcome view files place outcome → bytes ≡ bytes_of outcome → faults_at (names_of view) place outcome ≡ []
      → IsPlaceReadBack view files place bytes
  place_read_back _ (AllSet here answer site is) e none = record {
    here = here;
    site = site;
    read = subst (IsReadBack here place.statements) (sym e) (options_read_back here place.statements answer is);
  }
  place_read_back _ (HasNoType no_type) e none = absurd cc
  place_read_back _ (OneWrong here wrong site is) e none = absurd cc

-- ---- a file

pub file_read_back : (files : List FileDescriptorProto) (number : ℕ) (file : FileDescriptorProto) (answer : InterpretedFile)
    → IsInterpretedIn files number file answer → IsFileReadBack files number file answer
file_read_back files number file answer it none =
    let view = it.0 in
    let is = it.2 in
    let IsRead = λ (place : Place). IsPlaceReadBack view files place (set_at answer.options (key_of place)) in
    let each = none_at (names_of view) is.taken (sym is.faults ∙ none) in (
      view,
      it.1,
      subst (All IsRead) is.places
          (All-map IsRead (λ (t : Taken). t.place) is.taken (λ k d below.
          let t = slice_index_or is.taken k d in
          place_read_back view files t.place (set_at answer.options (key_of t.place)) t.outcome (is.outcomes k d below) (is.bytes k d below) (each k d below))),
    )

-- ---- all files

pub all_read_back : (files : List FileDescriptorProto) (number : ℕ) (some : List FileDescriptorProto) (answers : List InterpretedFile)
    → AreFrom files number some answers → AreReadBackFrom files number some answers
all_read_back files number [] [] are = tt
all_read_back files number [] (answer ∷ answers) are = absurd are
all_read_back files number (file ∷ more) [] are = absurd are
all_read_back files number (file ∷ more) (answer ∷ answers) are =
    (file_read_back files number file answer are.0, all_read_back files (number + 1) more answers are.1)

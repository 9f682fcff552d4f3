-- Files read one behind another.
use Rattle.std.proofs.Common.{◌≡◌, ℕ, ◌+◌, ◌<◌, ◌≤◌, List, [], ◌∷◌, ◌++◌, ap, append-nil, append_assoc, drop, get_or, length, refl, subst, sym, ◌∙◌}
use Rattle.std.specs.Prelude.{All}
use Rattle.std.proofs.lemmas.List.Elements.{All-cons, All-nil}
use Rattle.std.proofs.lemmas.List.{drop_all, drop_more}
use Rattle.protox_descriptor.specs.declared.descriptor.FileDescriptorProto.{FileDescriptorProto}
use Rattle.protox_file_options.specs.Interpreted.{Taken, faults_at, faults_of}
use Rattle.protox_file_options.specs.Outcomes.{Outcome, Sets, Wrong, names_of}
use Rattle.protox_file_options.specs.Places.{Place}
use Rattle.protox_file_options.specs.declared.answer.InterpretedFile.{InterpretedFile}
use Rattle.protox_file_options.specs.declared.answer.PlaceFault.{PlaceFault}
use Rattle.protox_option_records.specs.OptionRecords.{AStatement, AreRead, AreReadFrom, AreRecordsAt, FileAt, IsFileRead, IsRecordAt, NoPlace, NoType, RightPlace, WrongPlace, file_at}
use Rattle.protox_records.specs.Records.{number}
use Rattle.protox_set_options.specs.Read.{AreFrom}

-- ---- nothing to tell

module _ (at : FileAt) where
  right_at : (t : Taken) (outcome : Outcome) (more : List Taken) → t.outcome ≡ outcome → faults_at (names_of at.view) t.place outcome ++ faults_of (names_of at.view) more ≡ []
      → (faults_of (names_of at.view) more ≡ [] → AreRecordsAt at more []) → AreRecordsAt at (t ∷ more) []
  right_at t (Sets set) more is none behind = RightPlace t more [] set is (behind none)
  right_at t (Wrong wrong) more is none behind = absurd cc

  -- Without a fault there is no record.
  pub none_told : (taken : List Taken) → faults_of (names_of at.view) taken ≡ [] → AreRecordsAt at taken []
  none_told [] none = NoPlace
  none_told (t ∷ more) none = right_at t t.outcome more refl none (none_told more)

  no_record : (place : Place) (wrong : PlaceFault) (front bytes : List ℕ) → IsRecordAt at place wrong front → front ++ bytes ≡ [] → ⊥
  unfolding number
  no_record place _ _ bytes NoType e = absurd cc
  no_record place _ _ bytes (AStatement wrong here statement text site there words) e = absurd cc

  -- Without a record there is no fault.
  pub none_wrong : (taken : List Taken) (bytes : List ℕ) → AreRecordsAt at taken bytes → bytes ≡ [] → faults_of (names_of at.view) taken ≡ []
  none_wrong _ _ NoPlace e = refl
  none_wrong _ bytes (RightPlace t more _ set is rest) e =
      ap (λ (o : Outcome). faults_at (names_of at.view) t.place o ++ faults_of (names_of at.view) more) is ∙ none_wrong more bytes rest e
  none_wrong _ _ (WrongPlace t more front bytes wrong is here rest) e = absurd (no_record t.place wrong front bytes here e)

-- ---- files

module _ (sources : List (List ℕ)) (files : List FileDescriptorProto) where
  -- What is read of the files that are left completes what there is.
  abbrev pub Completes : ℕ → List InterpretedFile → List ℕ → Type 0
  Completes i answers bytes =
      (rest : List InterpretedFile) (more : List ℕ) → AreReadFrom sources files i (drop i files) rest more → AreRead sources files (answers ++ rest) (bytes ++ more)

  pub one_read : (i : ℕ) (file : FileDescriptorProto) (answers after : List InterpretedFile) (answer : InterpretedFile) (bytes told behind : List ℕ)
      → i < length files → file ≡ get_or files i file → IsFileRead sources files i file answer told → after ≡ answers ++ answer ∷ [] → behind ≡ bytes ++ told
      → Completes i answers bytes → Completes (i + 1) after behind
  one_read i file answers after answer bytes told behind below is here added put before rest more left =
      let all : AreRead sources files (answers ++ (answer ∷ rest)) (bytes ++ (told ++ more)) =
      before (answer ∷ rest) (told ++ more)
      (subst (λ (fs : List FileDescriptorProto). AreReadFrom sources files i fs (answer ∷ rest) (told ++ more))
      (sym (drop_more files i file below ∙ ap (λ (f : FileDescriptorProto). f ∷ drop (i + 1) files) (sym is)))
      (told, more, here, left, refl)) in
      subst (λ (l : List InterpretedFile). AreRead sources files l (behind ++ more)) (sym (ap (λ l. l ++ rest) added ∙ append_assoc answers (answer ∷ []) rest))
      (subst (AreRead sources files (answers ++ (answer ∷ rest))) (sym (ap (λ l. l ++ more) put ∙ append_assoc bytes told more)) all)

  pub all_read : (i : ℕ) (answers : List InterpretedFile) (bytes : List ℕ) → length files ≤ i → Completes i answers bytes → AreRead sources files answers bytes
  all_read i answers bytes end before =
      subst (λ (l : List InterpretedFile). AreRead sources files l bytes) (append-nil answers)
      (subst (AreRead sources files (answers ++ [])) (append-nil bytes)
      (before [] [] (subst (λ (fs : List FileDescriptorProto). AreReadFrom sources files i fs [] []) (sym (drop_all i files end)) refl)))

  -- What is read is interpreted.
  pub interpreted_of : (i : ℕ) (some : List FileDescriptorProto) (answers : List InterpretedFile) (bytes : List ℕ) → AreReadFrom sources files i some answers bytes
      → AreFrom files i some answers
  interpreted_of i [] [] bytes are = tt
  interpreted_of i [] (answer ∷ answers) bytes are = absurd are
  interpreted_of i (file ∷ more) [] bytes are = absurd are
  interpreted_of i (file ∷ more) (answer ∷ answers) bytes are =
      ((are.2.view, are.2.of_file, are.2.interpreted), interpreted_of (i + 1) more answers are.1 are.3)

  none_of_both : (xs ys : List ℕ) → xs ++ ys ≡ [] → (xs ≡ []) × (ys ≡ [])
  none_of_both [] ys e = (refl, e)
  none_of_both (x ∷ xs) ys e = absurd cc

  file_right : (i : ℕ) (file : FileDescriptorProto) (answer : InterpretedFile) (bytes : List ℕ) → IsFileRead sources files i file answer bytes → bytes ≡ [] → answer.faults.items ≡ []
  file_right i file answer bytes is none = is.interpreted.faults ∙ none_wrong (file_at sources files i file is.view) is.interpreted.taken bytes is.told none

  pub all_right : (i : ℕ) (some : List FileDescriptorProto) (answers : List InterpretedFile) (bytes : List ℕ) → AreReadFrom sources files i some answers bytes → bytes ≡ []
      → All (λ answer. answer.faults.items ≡ []) answers
  all_right i [] [] bytes are none = All-nil (λ (answer : InterpretedFile). answer.faults.items ≡ [])
  all_right i [] (answer ∷ answers) bytes are none = absurd are
  all_right i (file ∷ more) [] bytes are none = absurd are
  all_right i (file ∷ more) (answer ∷ answers) bytes are none =
      let both = none_of_both are.0 are.1 (sym are.4 ∙ none) in
      All-cons (λ (a : InterpretedFile). a.faults.items ≡ []) answer answers (file_right i file answer are.0 are.2 both.0) (all_right (i + 1) more answers are.1 are.3 both.1)

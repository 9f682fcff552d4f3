-- Where all statements are right, there is no record.
use Rattle.std.proofs.Common.{◌≡◌, ℕ, ◌+◌, List, [], ◌∷◌, ◌++◌, refl, sym, ◌∙◌, ap}
use Rattle.std.specs.Prelude.{All}
use Rattle.std.proofs.lemmas.List.Elements.{All-head, All-tail}
use Rattle.protox_descriptor.specs.declared.descriptor.FileDescriptorProto.{FileDescriptorProto}
use Rattle.protox_file_options.proofs.Lemmas.{IsRight, others_right}
use Rattle.protox_file_options.specs.Interpreted.{Taken}
use Rattle.protox_file_options.specs.Outcomes.{Outcome, Sets, Wrong}
use Rattle.protox_file_options.specs.declared.answer.InterpretedFile.{InterpretedFile}
use Rattle.protox_file_options.specs.declared.answer.PlaceFault.{PlaceFault}
use Rattle.protox_interpret.specs.declared.site.Interpreted.{Interpreted}
use Rattle.protox_option_records.specs.OptionRecords.{AreReadFrom, AreRecordsAt, FileAt, IsFileRead, NoPlace, RightPlace, WrongPlace, file_at}
use Rattle.protox_set_options.proofs.Lemmas.{same_views}
use Rattle.protox_set_options.specs.Read.{AreFrom, IsInterpretedIn}

not_both : (outcome : Outcome) (set : Interpreted) (wrong : PlaceFault) → outcome ≡ Sets set → outcome ≡ Wrong wrong → ⊥
not_both outcome set wrong e f = let no : Sets set ≡ Wrong wrong = sym e ∙ f in cc

none_at : (at : FileAt) (taken : List Taken) (bytes : List ℕ) → AreRecordsAt at taken bytes → All IsRight taken → bytes ≡ []
none_at at _ _ NoPlace right = refl
none_at at _ bytes (RightPlace t more _ set is rest) right = none_at at more bytes rest (All-tail IsRight t more right)
none_at at _ _ (WrongPlace t more front bytes wrong is here rest) right =
    let set = All-head IsRight t more right in
    absurd (not_both t.outcome set.0 wrong set.1 is)

module _ (sources : List (List ℕ)) (files : List FileDescriptorProto) where
  none_of_file : (i : ℕ) (file : FileDescriptorProto) (answer other : InterpretedFile) (bytes : List ℕ) → IsFileRead sources files i file answer bytes
      → IsInterpretedIn files i file other → other.faults.items ≡ [] → bytes ≡ []
  none_of_file i file answer other bytes is there none =
      none_at (file_at sources files i file is.view) is.interpreted.taken bytes is.told
      (others_right there.0 is.view files (same_views files i there.0 is.view there.1 is.of_file) file other answer there.2 is.interpreted none)

  -- Where all statements of the files are right, there is no record.
  pub none_of_files : (i : ℕ) (some : List FileDescriptorProto) (answers others : List InterpretedFile) (bytes : List ℕ)
      → AreReadFrom sources files i some answers bytes → AreFrom files i some others → All (λ answer. answer.faults.items ≡ []) others → bytes ≡ []
  none_of_files i [] [] others bytes are there none = are
  none_of_files i [] (answer ∷ answers) others bytes are there none = absurd are
  none_of_files i (file ∷ more) [] others bytes are there none = absurd are
  none_of_files i (file ∷ more) (answer ∷ answers) [] bytes are there none = absurd there
  none_of_files i (file ∷ more) (answer ∷ answers) (other ∷ others) bytes are there none =
      let front = none_of_file i file answer other are.0 are.2 there.0 (All-head (λ (answer : InterpretedFile). answer.faults.items ≡ []) other others none) in
      let rest = none_of_files (i + 1) more answers others are.1 are.3 there.1 (All-tail (λ (answer : InterpretedFile). answer.faults.items ≡ []) other others none) in
      are.4 ∙ (ap (λ (x : List ℕ). x ++ are.1) front ∙ rest)

-- Files one behind another.
use Rattle.std.proofs.Common.{◌≡◌, ℕ, ◌+◌, ◌<◌, ◌≤◌, List, [], ◌∷◌, ◌++◌, ap, append-nil, append_assoc, drop, get_or, length, subst, sym, ◌∙◌}
use Rattle.std.proofs.lemmas.List.{drop_all, drop_more}
use Rattle.protox_descriptor.specs.declared.descriptor.FileDescriptorProto.{FileDescriptorProto}
use Rattle.protox_file_options.specs.declared.answer.InterpretedFile.{InterpretedFile}
use Rattle.protox_set_options.specs.Read.{AreFrom, AreInterpreted, IsInterpretedIn}

-- What is answered of the files that are left completes what there is.
abbrev pub Completes : List FileDescriptorProto → ℕ → List InterpretedFile → Type 0
Completes files i answers = (rest : List InterpretedFile) → AreFrom files i (drop i files) rest → AreInterpreted files (answers ++ rest)

pub one_more : (files : List FileDescriptorProto) (i : ℕ) (file : FileDescriptorProto) (answers : List InterpretedFile) (answer : InterpretedFile)
    → i < length files → file ≡ get_or files i file → IsInterpretedIn files i file answer
    → Completes files i answers → Completes files (i + 1) (answers ++ answer ∷ [])
one_more files i file answers answer below is here before rest behind =
    subst (AreInterpreted files) (sym (append_assoc answers (answer ∷ []) rest))
    (before (answer ∷ rest)
    (subst (λ (left : List FileDescriptorProto). AreFrom files i left (answer ∷ rest))
    (sym (drop_more files i file below ∙ ap (λ (f : FileDescriptorProto). f ∷ drop (i + 1) files) (sym is)))
    (here, behind)))

pub all_done : (files : List FileDescriptorProto) (i : ℕ) (answers : List InterpretedFile) → length files ≤ i
    → Completes files i answers → AreInterpreted files answers
all_done files i answers end before =
    subst (AreInterpreted files) (append-nil answers)
    (before [] (subst (λ (left : List FileDescriptorProto). AreFrom files i left []) (sym (drop_all i files end)) tt))

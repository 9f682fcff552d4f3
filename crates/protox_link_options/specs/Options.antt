-- Whether the options of linked files are right, and what they ask is so.
use Rattle.std.specs.Prelude.{◌≡◌, ◌≢◌, ◌⊎◌, ⊤, ℕ, List, [], All}
use Rattle.protox_descriptor.specs.declared.descriptor.FileDescriptorProto.{FileDescriptorProto}
use Rattle.protox_file_options.specs.declared.answer.InterpretedFile.{InterpretedFile}
use Rattle.protox_link_bytes.specs.declared.failure.LinkSourcesFailure.{LinkSourcesFailure}
use Rattle.protox_link_bytes.specs.declared.failure.LinkSourcesFailure.TheVariants.{Refused, OutOfMemory}
use Rattle.protox_option_checks.specs.Checks.{check_faults}
use Rattle.protox_option_records.specs.CheckRecords.{check_records}
use Rattle.protox_option_records.specs.OptionRecords.{AreRead}
use Rattle.protox_set_options.specs.Read.{AreInterpreted}
use Rattle.protox_set_options.specs.ReadBack.{AreReadBack}
use Rattle.protox_symbols.specs.Things.{table_of}

-- The answers are what the statements of the files' options set. None of these is wrong, what they say is read back from the bytes, and what options
-- ask of what has them is so.
pub record AreRight (files : List FileDescriptorProto) (answers : List InterpretedFile) : Type 0 where
  pub interpreted : AreInterpreted files answers
  pub none_wrong : All (λ answer. answer.faults.items ≡ []) answers
  pub reads_back : AreReadBack files answers
  pub checked : check_faults (table_of files) files ≡ []

-- Some statement is wrong, and the bytes are the records of all that is wrong with statements.
pub record AreWrongStatements (sources : List (List ℕ)) (files : List FileDescriptorProto) (bytes : List ℕ) : Type 0 where
  pub answers : List InterpretedFile
  pub read : AreRead sources files answers bytes
  pub some : bytes ≢ []

-- Something that options ask is not so, and the bytes are the records of all that isn't.
pub record AreWrongUses (sources : List (List ℕ)) (files : List FileDescriptorProto) (bytes : List ℕ) : Type 0 where
  pub some : check_faults (table_of files) files ≢ []
  pub told : bytes ≡ check_records sources files (table_of files) (check_faults (table_of files) files)

abbrev pub AreWrongOptions : List (List ℕ) → List FileDescriptorProto → List ℕ → Type 0
AreWrongOptions sources files bytes = AreWrongStatements sources files bytes ⊎ AreWrongUses sources files bytes

-- Why options set nothing. Memory may run out at any files.
abbrev pub IsOptionFailure : List (List ℕ) → List FileDescriptorProto → LinkSourcesFailure → Type 0
IsOptionFailure sources files (Refused bytes) = AreWrongOptions sources files bytes.items
IsOptionFailure sources files OutOfMemory = ⊤

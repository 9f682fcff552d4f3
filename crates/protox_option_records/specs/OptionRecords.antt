-- How what is wrong with the options of linked files stands as bytes: a record for each fault.
use Rattle.std.specs.Prelude.{◌≡◌, ℕ, ◌+◌, Bool, true, false, List, [], ◌∷◌, ◌++◌, Some, codes, pos, slice_get, slice_index_or}
use Rattle.protox_brace_text.specs.Texts.{IsTold}
use Rattle.protox_descriptor.specs.declared.descriptor.FileDescriptorProto.{FileDescriptorProto}
use Rattle.protox_descriptor.specs.declared.descriptor.options.UninterpretedOption.{UninterpretedOption}
use Rattle.protox_descriptor.specs.declared.tag.TheConstants as tag
use Rattle.protox_file_options.specs.Interpreted.{IsInterpreted, Taken}
use Rattle.protox_file_options.specs.Outcomes.{IsSite, Sets, Wrong}
use Rattle.protox_file_options.specs.Places.{Place}
use Rattle.protox_file_options.specs.declared.answer.InterpretedFile.{InterpretedFile}
use Rattle.protox_file_options.specs.declared.answer.PlaceFault.{PlaceFault}
use Rattle.protox_file_options.specs.declared.answer.PlaceFault.TheVariants as fault
use Rattle.protox_interpret.specs.declared.fault.StatementFault.{StatementFault}
use Rattle.protox_interpret.specs.declared.fault.StatementFaultKind.{StatementFaultKind}
use Rattle.protox_interpret.specs.declared.fault.StatementFaultKind.TheVariants.{Name, AlreadySet, Value, Token, Text, Aggregate}
use Rattle.protox_interpret.specs.declared.site.Interpreted.{Interpreted}
use Rattle.protox_interpret.specs.declared.site.Site.{Site}
use Rattle.protox_link_records.specs.LinkPlaces.{place_in}
use Rattle.protox_link_records.specs.LinkRecords.{record_with}
use Rattle.protox_option_records.specs.OptionKinds.{no_type_kind, statement_kind}
use Rattle.protox_option_text.specs.Texts.{statement_text}
use Rattle.protox_set_options.specs.Read.{IsViewOf}
use Rattle.protox_views.specs.declared.view.View.{View}
use Rattle.protox_walk.specs.Declarations.{Path, text_of}

-- ---- texts

-- whether the text in braces is wrong
abbrev pub is_in_braces : StatementFaultKind → Bool
is_in_braces (Name fault) = false
is_in_braces AlreadySet = false
is_in_braces (Value fault) = false
is_in_braces (Token span) = true
is_in_braces (Text fault) = true
is_in_braces (Aggregate fault) = true

-- What is told of a statement. Of a text in braces it is also told what is wrong there.
pub data IsTextOf (here : Site) (statement : UninterpretedOption) (kind : StatementFaultKind) : List ℕ → Type 0 where
  OutsideBraces : is_in_braces kind ≡ false → IsTextOf here statement kind (statement_text here statement kind)
  InBraces : (told : List ℕ) → is_in_braces kind ≡ true → IsTold here (text_of statement.aggregate_value) kind told
      → IsTextOf here statement kind (statement_text here statement kind ++ (codes ": " ++ told))

-- ---- records

-- A file of linked files: its number, its source, and what it sees of their table.
pub record FileAt : Type 0 where
  pub number : ℕ
  pub source : List ℕ
  pub file : FileDescriptorProto
  pub view : View
  pub files : List FileDescriptorProto

-- the path of the statement with an index, of the options message at a path
abbrev pub path_of_statement : Path → ℕ → Path
path_of_statement path index = path ++ tag.UNINTERPRETED_OPTION ∷ pos index ∷ []

-- the record of an options message whose type no file declares
abbrev pub no_type_record : FileAt → Path → List ℕ
no_type_record at path =
    record_with at.number no_type_kind (place_in at.source at.file path) (codes "no file declares what options there are here")

-- the record of a statement of the options message at a path, with this text
abbrev pub statement_record : FileAt → Path → StatementFault → List ℕ → List ℕ
statement_record at path wrong text =
    record_with at.number (statement_kind wrong.kind) (place_in at.source at.file (path_of_statement path wrong.index)) text

-- The bytes are the record of what is wrong at a place of the file.
pub data IsRecordAt (at : FileAt) (place : Place) : PlaceFault → List ℕ → Type 0 where
  NoType : IsRecordAt at place fault.NoType (no_type_record at place.path)
  AStatement : (wrong : StatementFault) (here : Site) (statement : UninterpretedOption) (text : List ℕ) → IsSite at.view at.files place here
      → slice_get place.statements wrong.index ≡ Some statement → IsTextOf here statement wrong.kind text
      → IsRecordAt at place (fault.Statement wrong) (statement_record at place.path wrong text)

-- The bytes are the records of what is wrong at these places, in order.
pub data AreRecordsAt (at : FileAt) : List Taken → List ℕ → Type 0 where
  NoPlace : AreRecordsAt at [] []
  RightPlace : (t : Taken) (more : List Taken) (bytes : List ℕ) (set : Interpreted) → t.outcome ≡ Sets set → AreRecordsAt at more bytes
      → AreRecordsAt at (t ∷ more) bytes
  WrongPlace : (t : Taken) (more : List Taken) (front bytes : List ℕ) (wrong : PlaceFault) → t.outcome ≡ Wrong wrong
      → IsRecordAt at t.place wrong front → AreRecordsAt at more bytes → AreRecordsAt at (t ∷ more) (front ++ bytes)

-- ---- files

-- the text of the file with a number
abbrev pub text_at : List (List ℕ) → ℕ → List ℕ
text_at sources number = slice_index_or sources number []

abbrev pub file_at : List (List ℕ) → List FileDescriptorProto → ℕ → FileDescriptorProto → View → FileAt
file_at sources files number file view = record { number = number; source = text_at sources number; file = file; view = view; files = files }

-- The options of a file are interpreted, by what it sees of the files, and the bytes are the records of what is wrong with them.
pub record IsFileRead (sources : List (List ℕ)) (files : List FileDescriptorProto) (number : ℕ) (file : FileDescriptorProto) (answer : InterpretedFile) (bytes : List ℕ) : Type 0 where
  pub view : View
  pub of_file : IsViewOf files number view
  pub interpreted : IsInterpreted view files file answer
  pub told : AreRecordsAt (file_at sources files number file view) interpreted.taken bytes

-- So it is for these files, of which the first has this number.
abbrev pub AreReadFrom : List (List ℕ) → List FileDescriptorProto → ℕ → List FileDescriptorProto → List InterpretedFile → List ℕ → Type 0
AreReadFrom sources files number [] [] bytes = bytes ≡ []
AreReadFrom sources files number [] (answer ∷ answers) bytes = ⊥
AreReadFrom sources files number (file ∷ more) [] bytes = ⊥
AreReadFrom sources files number (file ∷ more) (answer ∷ answers) bytes =
    (front rest : List ℕ) × IsFileRead sources files number file answer front × AreReadFrom sources files (number + 1) more answers rest × (bytes ≡ front ++ rest)

abbrev pub AreRead : List (List ℕ) → List FileDescriptorProto → List InterpretedFile → List ℕ → Type 0
AreRead sources files answers bytes = AreReadFrom sources files 0 files answers bytes

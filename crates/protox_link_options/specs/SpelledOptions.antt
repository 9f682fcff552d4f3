-- The bytes of a linked set with what the options of its files set.
use Rattle.std.specs.Prelude.{◌≡◌, ◌≤◌, ◌^◌, ℕ, List, [], ◌∷◌, Some, length, option_map, slice_get, slice_index_or}
use Rattle.std.specs.List.{flat_map}
use Rattle.protox_descriptor.specs.declared.descriptor.FileDescriptorProto.{FileDescriptorProto}
use Rattle.protox_descriptor.specs.declared.descriptor.SourceCodeInfo.{SourceCodeInfo}
use Rattle.protox_encode.specs.Wire.{message}
use Rattle.protox_encode_linked.specs.Linked.{file_set}
use Rattle.protox_file_options.specs.declared.answer.InterpretedFile.{InterpretedFile}
use Rattle.protox_link.specs.declared.set.LinkedSet.{LinkedSet}
use Rattle.protox_moved.specs.Moved.{after_moves}
use Rattle.protox_moved.specs.declared.Move.{Move}

-- ---- one file

-- the file, in which the locations of statements have the paths of what they set
abbrev pub moved_file : List Move → FileDescriptorProto → FileDescriptorProto
moved_file moves file =
    record file { source_code_info = option_map (λ (info : SourceCodeInfo). record info { location = after_moves moves info.location }) file.source_code_info }

-- its entry in the set, with what its options set
abbrev pub entry_of : FileDescriptorProto → InterpretedFile → List ℕ
entry_of file answer = message (file_set answer.options (moved_file answer.moves.items file))

-- ---- all files

abbrev pub entries_of : List FileDescriptorProto → List InterpretedFile → List (List ℕ)
entries_of [] answers = []
entries_of (file ∷ files) [] = []
entries_of (file ∷ files) (answer ∷ answers) = entry_of file answer ∷ entries_of files answers

-- the entries with these numbers, one behind the other
abbrev pub joined : List (List ℕ) → List ℕ → List ℕ
joined entries order = flat_map (λ n. slice_index_or entries n []) order

abbrev pub set_bytes : LinkedSet → List InterpretedFile → List ℕ
set_bytes set answers = joined (entries_of set.files.items answers) set.order.items

-- ---- limits

-- The entry of some file takes 2 GiB or more.
pub record IsLargeEntry (files : List FileDescriptorProto) (answers : List InterpretedFile) : Type 0 where
  pub number : ℕ
  pub entry : List ℕ
  pub is : slice_get (entries_of files answers) number ≡ Some entry
  pub large : 2 ^ 31 ≤ length entry

-- So does the entry of some file, or the whole set.
pub data IsTooLarge (set : LinkedSet) (answers : List InterpretedFile) : Type 0 where
  AFile : IsLargeEntry set.files.items answers → IsTooLarge set answers
  TheSet : 2 ^ 31 ≤ length (set_bytes set answers) → IsTooLarge set answers

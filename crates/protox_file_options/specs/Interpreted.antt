-- What is answered of the options messages of a file.
use Rattle.std.specs.Prelude.{◌≡◌, ◌≢◌, ℕ, List, [], ◌∷◌, All, map}
use Rattle.std.specs.List.{flat_map}
use Rattle.protox_descriptor.specs.declared.descriptor.FileDescriptorProto.{FileDescriptorProto}
use Rattle.protox_encode_linked.specs.Setting.{Path, set_at}
use Rattle.protox_file_options.specs.Moves.{moves_of}
use Rattle.protox_file_options.specs.Outcomes.{IsOutcome, Outcome, Sets, Wrong, names_of}
use Rattle.protox_file_options.specs.Places.{Place, key_of, places_of}
use Rattle.protox_file_options.specs.declared.answer.InterpretedFile.{InterpretedFile}
use Rattle.protox_file_options.specs.declared.answer.OptionsFault.{OptionsFault}
use Rattle.protox_interpret.specs.Answers.{path_seen}
use Rattle.protox_moved.specs.declared.Move.{Move}
use Rattle.protox_name_tree.specs.Tree.{Names, number_of}
use Rattle.protox_views.specs.declared.view.View.{View}

-- A place whose statements were interpreted, and what came of them.
pub record Taken : Type 0 where
  pub place : Place
  pub outcome : Outcome

-- what is told of a place, if something is wrong there: its path, the numbers of its scope and of
-- the type of its options, and what is wrong
abbrev pub faults_at : Names → Place → Outcome → List OptionsFault
faults_at names place (Sets set) = []
faults_at names place (Wrong fault) = record {
  path = place.path;
  scope = number_of names place.scope;
  message = number_of names place.options;
  fault = fault;
} ∷ []

abbrev pub faults_of : Names → List Taken → List OptionsFault
faults_of names taken = flat_map (λ t. faults_at names t.place t.outcome) taken

-- the bytes that are set; where something is wrong, there are none
abbrev pub bytes_of : Outcome → List ℕ
bytes_of (Sets set) = set.bytes.items
bytes_of (Wrong fault) = []

-- Where the locations of the statements go. Where something is wrong, they stay.
abbrev pub moves_at : Place → Outcome → List Move
moves_at place (Sets set) = moves_of place.path (map path_seen set.paths.items)
moves_at place (Wrong fault) = []

abbrev pub moves_of_all : List Taken → List Move
moves_of_all taken = flat_map (λ t. moves_at t.place t.outcome) taken

-- The statements at each place of the file were interpreted. What is wrong is told in the order of
-- the places, and so are the moves. At the path of each place stands what its statements set, and
-- nothing stands anywhere else.
pub record IsInterpreted (view : View) (files : List FileDescriptorProto) (file : FileDescriptorProto) (answer : InterpretedFile) : Type 0 where
  pub taken : List Taken
  pub places : map (λ t. t.place) taken ≡ places_of file
  pub outcomes : All (λ t. IsOutcome view files t.place t.outcome) taken
  pub faults : answer.faults.items ≡ faults_of (names_of view) taken
  pub moves : answer.moves.items ≡ moves_of_all taken
  pub bytes : All (λ t. set_at answer.options (key_of t.place) ≡ bytes_of t.outcome) taken
  pub nothing_else : (q : Path) → All (λ t. key_of t.place ≢ q) taken → set_at answer.options q ≡ []

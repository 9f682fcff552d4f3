-- What is added to an answer.
use Rattle.std.specs.Prelude.{◌≡◌, ℕ, ℤ, List, ◌++◌, All, fold, map, unsigned_abs, if◌then◌else◌}
use Rattle.protox_descriptor.specs.declared.descriptor.FileDescriptorProto.{FileDescriptorProto}
use Rattle.protox_encode_linked.specs.Setting.{Path, same_path, set_at}
use Rattle.protox_file_options.specs.Interpreted.{Taken, faults_of, moves_of_all}
use Rattle.protox_file_options.specs.Moves.{moves_of}
use Rattle.protox_file_options.specs.Outcomes.{IsOutcome, Outcome, Sets, Wrong, names_of}
use Rattle.protox_file_options.specs.Places.{Place, key_of}
use Rattle.protox_file_options.specs.declared.answer.InterpretedFile.{InterpretedFile}
use Rattle.protox_file_options.specs.declared.interpreter.Interpreter.{Interpreter}
use Rattle.protox_interpret.specs.Answers.{path_seen}
use Rattle.protox_interpret.specs.declared.site.Interpreted.{Interpreted}
use Rattle.protox_views.specs.declared.view.View.{View}

-- ---- bytes

-- the bytes at a path, behind a place; these are the bytes before it
abbrev pub bytes_behind : Path → List ℕ → Place → Outcome → List ℕ
bytes_behind q bytes place (Sets set) = if same_path q (key_of place) then set.bytes.items else bytes
bytes_behind q bytes place (Wrong fault) = bytes

-- the bytes at a path, behind places
abbrev pub bytes_from : Path → List ℕ → List Taken → List ℕ
bytes_from q bytes taken = fold (λ before t. bytes_behind q before t.place t.outcome) bytes taken

-- ---- answers

-- What the statements of the options message at a path set is kept beside what there was.
pub record Keeps (old : InterpretedFile) (path : List ℤ) (set : Interpreted) (new : InterpretedFile) : Type 0 where
  pub options : (q : Path) → set_at new.options q ≡ (if same_path q (map unsigned_abs path) then set.bytes.items else set_at old.options q)
  pub moves : new.moves.items ≡ old.moves.items ++ moves_of path (map path_seen set.paths.items)
  pub faults : new.faults ≡ old.faults

-- The statements at these places were interpreted, and what came of them was added.
pub record AreAdded (view : View) (files : List FileDescriptorProto) (old : InterpretedFile) (places : List Place) (new : InterpretedFile) : Type 0 where
  pub taken : List Taken
  pub in_order : map (λ t. t.place) taken ≡ places
  pub outcomes : All (λ t. IsOutcome view files t.place t.outcome) taken
  pub faults : new.faults.items ≡ old.faults.items ++ faults_of (names_of view) taken
  pub moves : new.moves.items ≡ old.moves.items ++ moves_of_all taken
  pub options : (q : Path) → set_at new.options q ≡ bytes_from q (set_at old.options q) taken

-- What came of these places was added to the answer of an interpreter, which is else as it was.
pub record Adds (old : Interpreter) (places : List Place) (new : Interpreter) : Type 0 where
  pub view : new.view.now ≡ old.view.now
  pub files : new.files.now ≡ old.files.now
  pub added : AreAdded old.view.now old.files.now old.answer places new.answer

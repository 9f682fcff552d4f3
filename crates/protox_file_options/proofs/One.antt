-- What comes of one place.
use Rattle.std.proofs.Common.{◌≡◌, ℕ, ◌==◌, false, List, Option, [], ◌∷◌, ◌++◌, ap, append-nil, cond, length, map, refl, sym, ◌∙◌, unsigned_abs}
use Rattle.std.proofs.lemmas.Bool.{false≢true}
use Rattle.std.proofs.lemmas.List.Elements.{All-cons, All-nil}
use Rattle.protox_descriptor.specs.declared.descriptor.FileDescriptorProto.{FileDescriptorProto}
use Rattle.protox_descriptor.specs.declared.descriptor.options.UninterpretedOption.{UninterpretedOption}
use Rattle.protox_encode_linked.specs.Setting.{same_path, set_at}
use Rattle.protox_file_options.specs.Interpreted.{Taken, faults_at, moves_at}
use Rattle.protox_file_options.specs.Moves.{moves_of}
use Rattle.protox_file_options.specs.Outcomes.{IsOutcome, Outcome, Sets, Wrong, names_of}
use Rattle.protox_file_options.specs.Places.{Place, place_if_any}
use Rattle.protox_file_options.specs.declared.answer.InterpretedFile.{InterpretedFile}
use Rattle.protox_file_options.specs.declared.answer.OptionsFault.{OptionsFault}
use Rattle.protox_file_options.specs.declared.answer.PlaceFault.{PlaceFault}
use Rattle.protox_file_options.specs.declared.interpreter.Interpreter.{Interpreter}
use Rattle.protox_file_options.specs.inner.Added.{Adds, AreAdded, bytes_behind}
use Rattle.protox_interpret.specs.Answers.{path_seen}
use Rattle.protox_interpret.specs.declared.site.Interpreted.{Interpreted}
use Rattle.protox_moved.specs.declared.Move.{Move}
use Rattle.protox_name_tree.specs.Tree.{number_of}
use Rattle.protox_views.specs.declared.view.View.{View}
use Rattle.protox_walk.specs.Declarations.{Path}

-- ---- the place

abbrev pub place : Path → List ℕ → List ℕ → List UninterpretedOption → Place
place path scope options statements = record { path = path; scope = scope; options = options; statements = statements }

-- the place of statements of which there is one at least
pub some_place : (path : Path) (scope options : List ℕ) (statements : List UninterpretedOption) → (length statements == 0) ≡ false
    → place_if_any path scope options statements ≡ place path scope options statements ∷ []
some_place path scope options [] e = absurd (false≢true (sym e))
some_place path scope options (statement ∷ more) e = refl

-- ---- answers

one_outcome : (view : View) (files : List FileDescriptorProto) (at : Place) (outcome : Outcome) (a b : InterpretedFile)
    → IsOutcome view files at outcome → b.faults.items ≡ a.faults.items ++ faults_at (names_of view) at outcome
    → b.moves.items ≡ a.moves.items ++ moves_at at outcome
    → ((q : List ℕ) → set_at b.options q ≡ bytes_behind q (set_at a.options q) at outcome)
    → AreAdded view files a (at ∷ []) b
one_outcome view files at outcome a b is faults moves options = record {
  taken = record { place = at; outcome = outcome } ∷ [];
  in_order = refl;
  outcomes = All-cons (λ (t : Taken). IsOutcome view files t.place t.outcome) (record { place = at; outcome = outcome }) [] is (All-nil (λ (t : Taken). IsOutcome view files t.place t.outcome));
  faults = faults ∙ ap (λ (l : List OptionsFault). a.faults.items ++ l) (sym (append-nil (faults_at (names_of view) at outcome)));
  moves = moves ∙ ap (λ (l : List Move). a.moves.items ++ l) (sym (append-nil (moves_at at outcome)));
  options = options;
}

-- ---- interpreters

adds_one : (a b : Interpreter) (at : Place) → b.view.now ≡ a.view.now → b.files.now ≡ a.files.now
    → AreAdded a.view.now a.files.now a.answer (at ∷ []) b.answer → Adds a (at ∷ []) b
adds_one a b at view files added = record {
  view = view;
  files = files;
  added = added;
}

-- Something is wrong at the place, and it is noted.
pub adds_fault : (a b : Interpreter) (path : Path) (scope options : List ℕ) (statements : List UninterpretedOption) (n m : Option ℕ) (fault : PlaceFault)
    → b.view.now ≡ a.view.now → b.files.now ≡ a.files.now → b.answer.options ≡ a.answer.options → b.answer.moves.items ≡ a.answer.moves.items
    → n ≡ number_of (names_of a.view.now) scope → m ≡ number_of (names_of a.view.now) options
    → IsOutcome a.view.now a.files.now (place path scope options statements) (Wrong fault)
    → b.answer.faults.items ≡ a.answer.faults.items ++ record { path = path; scope = n; message = m; fault = fault } ∷ []
    → Adds a (place path scope options statements ∷ []) b
adds_fault a b path scope options statements n m fault view files kept stayed scope_is message_is is noted =
    let told : Option ℕ → Option ℕ → List OptionsFault = λ i j. a.answer.faults.items ++ record { path = path; scope = i; message = j; fault = fault } ∷ [] in
    adds_one a b (place path scope options statements) view files
    (one_outcome a.view.now a.files.now (place path scope options statements) (Wrong fault) a.answer b.answer is
    (noted ∙ ap (λ (i : Option ℕ). told i m) scope_is ∙ ap (λ (j : Option ℕ). told (number_of (names_of a.view.now) scope) j) message_is)
    (stayed ∙ sym (append-nil a.answer.moves.items))
    (λ q. ap (λ set. set_at set q) kept))

-- The statements at the place set this, and it is kept.
pub adds_set : (a b : Interpreter) (path : Path) (scope options : List ℕ) (statements : List UninterpretedOption) (set : Interpreted)
    → b.view.now ≡ a.view.now → b.files.now ≡ a.files.now → b.answer.faults ≡ a.answer.faults
    → IsOutcome a.view.now a.files.now (place path scope options statements) (Sets set)
    → b.answer.moves.items ≡ a.answer.moves.items ++ moves_of path (map path_seen set.paths.items)
    → ((q : List ℕ) → set_at b.answer.options q ≡ cond (same_path q (map unsigned_abs path)) set.bytes.items (set_at a.answer.options q))
    → Adds a (place path scope options statements ∷ []) b
adds_set a b path scope options statements set view files kept is moved put =
    adds_one a b (place path scope options statements) view files
    (one_outcome a.view.now a.files.now (place path scope options statements) (Sets set) a.answer b.answer is
    (ap (λ faults. faults.items) kept ∙ sym (append-nil a.answer.faults.items)) moved put)

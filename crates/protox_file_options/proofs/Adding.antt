-- Places one behind another.
use Rattle.std.proofs.Common.{ℕ, List, [], ◌∷◌, ◌++◌, ap, append-nil, append_assoc, map, refl, subst, sym, ◌∙◌}
use Rattle.std.proofs.lemmas.List.{map-append}
use Rattle.std.proofs.lemmas.List.Elements.{All-append, All-nil}
use Rattle.std.proofs.lemmas.Grind.{flat_map-append, fold-append}
use Rattle.std.specs.List.{FoldsTo}
use Rattle.protox_descriptor.specs.declared.descriptor.FileDescriptorProto.{FileDescriptorProto}
use Rattle.protox_encode_linked.specs.Setting.{set_at}
use Rattle.protox_file_options.specs.Interpreted.{Taken, faults_at, faults_of, moves_at, moves_of_all}
use Rattle.protox_file_options.specs.Outcomes.{IsOutcome, names_of}
use Rattle.protox_file_options.specs.Places.{Place}
use Rattle.protox_file_options.specs.declared.answer.InterpretedFile.{InterpretedFile}
use Rattle.protox_file_options.specs.declared.answer.OptionsFault.{OptionsFault}
use Rattle.protox_file_options.specs.declared.interpreter.Interpreter.{Interpreter}
use Rattle.protox_file_options.specs.inner.Added.{Adds, AreAdded, bytes_behind, bytes_from}
use Rattle.protox_moved.specs.declared.Move.{Move}
use Rattle.protox_views.specs.declared.view.View.{View}

-- ---- answers

-- No place adds nothing.
pub nothing_added : (view : View) (files : List FileDescriptorProto) (a : InterpretedFile) → AreAdded view files a [] a
nothing_added view files a = record {
  taken = [];
  in_order = refl;
  outcomes = All-nil (λ t. IsOutcome view files t.place t.outcome);
  faults = sym (append-nil a.faults.items);
  moves = sym (append-nil a.moves.items);
  options = λ q. refl;
}

-- places behind others
pub added_behind : (view : View) (files : List FileDescriptorProto) (a b c : InterpretedFile) (xs ys : List Place)
    → AreAdded view files a xs b → AreAdded view files b ys c → AreAdded view files a (xs ++ ys) c
added_behind view files a b c xs ys p q =
    let at : Taken → List OptionsFault = λ t. faults_at (names_of view) t.place t.outcome in
    let to : Taken → List Move = λ t. moves_at t.place t.outcome in
    record {
      taken = p.taken ++ q.taken;
      in_order = map-append (λ (t : Taken). t.place) p.taken q.taken ∙ ap (λ (l : List Place). l ++ map (λ (t : Taken). t.place) q.taken) p.in_order ∙ ap (λ (l : List Place). xs ++ l) q.in_order;
      outcomes = All-append (λ (t : Taken). IsOutcome view files t.place t.outcome) p.taken q.taken p.outcomes q.outcomes;
      faults =
          q.faults ∙ ap (λ (l : List OptionsFault). l ++ faults_of (names_of view) q.taken) p.faults
          ∙ append_assoc a.faults.items (faults_of (names_of view) p.taken) (faults_of (names_of view) q.taken)
          ∙ ap (λ (l : List OptionsFault). a.faults.items ++ l) (sym (flat_map-append at p.taken q.taken));
      moves =
          q.moves ∙ ap (λ (l : List Move). l ++ moves_of_all q.taken) p.moves
          ∙ append_assoc a.moves.items (moves_of_all p.taken) (moves_of_all q.taken)
          ∙ ap (λ (l : List Move). a.moves.items ++ l) (sym (flat_map-append to p.taken q.taken));
      options = λ path.
          q.options path ∙ ap (λ (l : List ℕ). bytes_from path l q.taken) (p.options path)
          ∙ sym (fold-append (λ before (t : Taken). bytes_behind path before t.place t.outcome) (set_at a.options path) p.taken q.taken);
    }

-- ---- interpreters

pub adds_nothing : (a : Interpreter) → Adds a [] a
adds_nothing a = record {
  view = refl;
  files = refl;
  added = nothing_added a.view.now a.files.now a.answer;
}

pub adds_behind : (a b c : Interpreter) (xs ys : List Place) → Adds a xs b → Adds b ys c → Adds a (xs ++ ys) c
adds_behind a b c xs ys p q =
    let in_files : AreAdded b.view.now a.files.now b.answer ys c.answer =
    subst (λ (files : List FileDescriptorProto). AreAdded b.view.now files b.answer ys c.answer) p.files q.added in
    let in_both : AreAdded a.view.now a.files.now b.answer ys c.answer =
    subst (λ (view : View). AreAdded view a.files.now b.answer ys c.answer) p.view in_files in
    record {
      view = q.view ∙ p.view;
      files = q.files ∙ p.files;
      added = added_behind a.view.now a.files.now a.answer b.answer c.answer xs ys p.added in_both;
    }

-- places taken one by one
pub adds_all : (a b : Interpreter) (places : List Place) → FoldsTo (λ old place new. Adds old (place ∷ []) new) a places b → Adds a places b
adds_all a b [] p = subst (λ (c : Interpreter). Adds a [] c) p (adds_nothing a)
adds_all a b (x ∷ xs) p = adds_behind a p.0 b (x ∷ []) xs p.1 (adds_all p.0 b xs p.2)

-- From the judgement of a source's table to what holds for the source.
use Rattle.std.proofs.Common.{◌≡◌, ℕ, List, length, Result, Ok, Err, IfOk, IfErr, MatchResult, sym, ap, ◌∙◌}
use Rattle.protox_fault.specs.declared.error.SyntaxFailure.{SyntaxFailure}
use Rattle.protox_fault.specs.declared.error.SyntaxFailure.TheVariants.{Faults, OutOfMemory}
use Rattle.protox_lexeme.specs.Lexemes.{cut}
use Rattle.protox_lexeme.specs.Table.{Table, table_of}
use Rattle.protox_ast.specs.Accepted.{Fits, FaultsLieIn, IsAccepted, IsFileOf, IsOutOfMemory}
use Rattle.protox_ast.specs.Ast as ast
use Rattle.protox_ast.specs.Places.{Place, placed}
use Rattle.protox_ast.specs.Tree as tree
use Rattle.protox_ast.specs.declared.ast.File.{File}
use Rattle.protox_grammar.specs.Reads.{read}
use Rattle.protox_grammar.proofs.Lemmas as main
use Rattle.protox_grammar.proofs.Lemmas.{ok_is}
use Rattle.protox_declarations.specs.inner.Options.{here}
use Rattle.protox_syntax.specs.inner.ParsedTable.{IsWhole, ParsesTable, RefusesTable}
use Rattle.protox_syntax.specs.inner.Statements.{levels}
use Rattle.protox_syntax.proofs.Modes.{no-faults}

module _ (source : List ℕ) where
  abbrev pub tab : Table
  tab = table_of (cut 0 source)

  -- a tree that the source's tokens spell is read as that tree, without a fault
  accepted-whole : (f : tree.File Place) → IsAccepted source f → IsWhole tab f
  accepted-whole f a =
      let r = (main.accepts_iff here levels (placed tab) f).1 (a.spells, a.levels) in
      (r, (no-faults (cut 0 source) f a.spells a.levels).1 (a.nothing_wrong, a.clean))

  -- a tree that is read without a fault is one that the tokens spell
  whole-accepted : (f : tree.File Place) → Fits source → IsWhole tab f → IsAccepted source f
  whole-accepted f fits w =
      let s = (main.accepts_iff here levels (placed tab) f).0 w.0 in
      let n = (no-faults (cut 0 source) f s.0 s.1).0 w.1 in
      record { fits = fits; spells = s.0; clean = n.1; levels = s.1; nothing_wrong = n.0 }

  pub parsed-found : Fits source → (r : Result File SyntaxFailure) → ParsesTable tab (length source) r → IfOk r (IsFileOf source)
  parsed-found fits (Ok file) j = (j.0, whole-accepted j.0 fits j.1, j.2)
  parsed-found fits (Err e) j = tt

  -- rows are read as one tree
  one-read : (f g : tree.File Place) → read levels (placed tab) ≡ Ok f → read levels (placed tab) ≡ Ok g → f ≡ g
  one-read f g h k = ok_is f g (sym h ∙ k)

  refused-only : (e : SyntaxFailure) (f : tree.File Place) → RefusesTable tab (length source) e → IsWhole tab f → IsOutOfMemory e
  refused-only OutOfMemory f j w = tt
  refused-only (Faults v) f j w = absurd (j.2 f w)

  pub parsed-only : (r : Result File SyntaxFailure) → ParsesTable tab (length source) r → (f : tree.File Place) → IsAccepted source f → MatchResult r (λ file. file ≡ ast.file (length source) f) IsOutOfMemory
  parsed-only (Ok file) j f a = j.2 ∙ ap (ast.file (length source)) (one-read j.0 f j.1.0 (accepted-whole f a).0)
  parsed-only (Err e) j f a = refused-only e f j (accepted-whole f a)

  pub parsed-refused : Fits source → (r : Result File SyntaxFailure) → ParsesTable tab (length source) r → IfErr r (FaultsLieIn source)
  parsed-refused fits (Ok file) j = tt
  parsed-refused fits (Err OutOfMemory) j = tt
  parsed-refused fits (Err (Faults v)) j = (fits, j.0, j.1)

  -- A source has at most one tree with which it is accepted.
  pub one-accepted : (f g : tree.File Place) → IsAccepted source f → IsAccepted source g → f ≡ g
  one-accepted f g a b = main.one_tree here (placed tab) f g a.spells b.spells

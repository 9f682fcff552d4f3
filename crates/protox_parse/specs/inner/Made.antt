-- What has been made of the items of a source, while it is read.
use Rattle.std.specs.Prelude.{◌≡◌, ℕ, List, [], ◌∷◌, ◌++◌}
use Rattle.protox_ast.specs.Accepted.{IsFileOf}
use Rattle.protox_ast.specs.declared.ast.File.{File}
use Rattle.protox_ast.specs.declared.ast.FileItem.{FileItem}
use Rattle.protox_ast.specs.declared.ast.Syntax.{Syntax}
use Rattle.protox_checks.specs.Checks.{AreListedOfItems}
use Rattle.protox_fault.specs.declared.error.ParseErrorKind.{ParseErrorKind}
use Rattle.protox_generate.specs.declared.draft.FileDraft.{FileDraft}
use Rattle.protox_generate.specs.inner.Taken.{IsTaken}
use Rattle.protox_parse.specs.declared.translate.Translation.{Translation}

-- Faults that are listed so come behind those that were known.
pub record AddsListed (AreListed : List ParseErrorKind → Type 0) (old new : List ParseErrorKind) : Type 0 where
  pub own : List ParseErrorKind
  pub listed : AreListed own
  pub behind : new ≡ old ++ own

-- The draft has taken the first of these items of a file with this source and syntax. The others are
-- kept.
pub record AreInHand (source : List ℕ) (syntax : Syntax) (items : List FileItem) (draft : FileDraft) (kept : List FileItem) : Type 0 where
  pub first : List FileItem
  pub split : first ++ kept ≡ items
  pub taken : IsTaken source syntax first draft

-- These are the items so far. Their faults are known. If there are none, each item is taken or kept.
pub record IsSoFar (source : List ℕ) (syntax : Syntax) (items : List FileItem) (made : Translation) : Type 0 where
  pub listed : AreListedOfItems syntax items made.faults.items
  pub in_hand : made.faults.items ≡ [] → AreInHand source syntax items made.draft made.kept

-- The item comes behind the items so far.
abbrev pub TakesNext : Syntax → Translation → FileItem → Translation → Type 0
TakesNext syntax old item new = (source : List ℕ) (items : List FileItem) → IsSoFar source syntax items old → IsSoFar source syntax (items ++ item ∷ []) new

-- The file is that of the source, the head is the file without its items, and these are the items so
-- far.
pub record IsRead (source : List ℕ) (file head : File) (made : Translation) : Type 0 where
  pub of_source : IsFileOf source file
  pub head_is : head ≡ record file { items = [] }
  pub all : IsSoFar source file.syntax file.items made

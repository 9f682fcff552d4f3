-- The syntax tree of a source stands in it.
use Rattle.std.proofs.Common.{ℕ, List, length, sym, subst}
use Rattle.std.specs.Str.{IsUtf8}
use Rattle.protox_ast.proofs.Lemmas.{source-stands}
use Rattle.protox_ast.specs.Accepted.{IsFileOf}
use Rattle.protox_ast.specs.Siblings.{FileStands}
use Rattle.protox_ast.specs.declared.ast.File.{File}

pub file-stands : (source : List ℕ) (file : File) → IsUtf8 source → IsFileOf source file → FileStands (length source) file
file-stands source file u k = subst (FileStands (length source)) (sym k.2) (source-stands source u k.0 k.1.spells.0)

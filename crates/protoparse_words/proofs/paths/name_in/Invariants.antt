use Rattle.std.proofs.Common.{take}
use Rattle.std.specs.Prelude.{All}
use Rattle.protoparse_words.specs.Names.{IsOutside, texts}
use Rattle.protoparse_words.proofs.paths.name_in.Given as goal

abbrev pub invariant-loop-folder : goal.invariant-loop-folder
invariant-loop-folder l = All (IsOutside l.path) (take l.folder-index (texts l.folders))

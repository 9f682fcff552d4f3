use Rattle.std.proofs.Common.{◌≡◌, take, map}
use Rattle.std.specs.Prelude.{All}
use Rattle.protoparse_words.specs.Names.{texts}
use Rattle.protoparse_words.specs.Asking.{IsNamedTask, path_of}
use Rattle.protoparse_words.specs.Listing.{file_path}
use Rattle.protoparse_words.proofs.tasks_of.Given as goal

abbrev pub invariant-loop-file : goal.invariant-loop-file
invariant-loop-file l = record {
  paths : map path_of l.tasks.items ≡ map file_path (take l.file-index l.files);
  named : All (IsNamedTask (texts l.folders)) l.tasks.items;
}

use Rattle.std.proofs.Common.{[], false, map, refl, ap, ◌∙◌}
use Rattle.std.proofs.lemmas.List.Elements.{All-push, All-same}
use Rattle.protoparse_words.specs.Names.{texts}
use Rattle.protoparse_words.specs.Asking.{IsNamedTask, path_of}
use Rattle.protoparse_words.specs.Listing.{file_path}
use Rattle.protoparse_words.specs.declared.Mode.TheVariants.{Check}
use Rattle.protoparse_words.specs.declared.listed.File.{File}
use Rattle.protoparse_words.proofs.FilePaths.{one_more}
use Rattle.protoparse_words.proofs.tasks_of.Goals as goal

-- the file that a read past the end of a list would give
abbrev no_file : File
no_file = record { path = record { ref_ptr = (0, 0); now = [] }; how = record { mode = Check; source_info = false; color = false } }

pub loop-file-preserved : goal.loop-file-preserved
loop-file-preserved c =
    let items = c.in_ok-push-in-Some.ensures.items in
    let before = c.loop-file.invariant in
    record {
      paths = ap (map path_of) items ∙ one_more path_of file_path _ _ c.args.files.now c.loop-file.file-index no_file c.loop-file-test.true refl before.paths;
      named = All-same (IsNamedTask (texts c.args.folders.now)) _ _ items (All-push (IsNamedTask (texts c.args.folders.now)) _ _ before.named (rw c.in-Some.is at c.in_ok-name.ensures.found));
    }

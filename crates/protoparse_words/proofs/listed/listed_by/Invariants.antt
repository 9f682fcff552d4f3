use Rattle.std.proofs.Common.{◌≡◌, [], take, map}
use Rattle.std.specs.Prelude.{All}
use Rattle.std.specs.String.{string_bytes}
use Rattle.protoparse_words.specs.Asking.{IsName}
use Rattle.protoparse_words.specs.Listing.{file_path}
use Rattle.protoparse_words.specs.declared.listed.Next.TheVariants.{Any}
use Rattle.protoparse_words.proofs.listed.listed_by.Given as goal

abbrev pub invariant-loop-word : goal.invariant-loop-word
invariant-loop-word l = record {
  none : l.word-index ≡ 0 → (l.files.items ≡ []) × (l.state.next ≡ Any);
  any : All IsName l.words → l.state.next ≡ Any;
  folders : All IsName l.words → l.folders.items ≡ [];
  names : All IsName l.words → map file_path l.files.items ≡ map string_bytes (take l.word-index l.words);
}

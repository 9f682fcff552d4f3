use Rattle.std.proofs.Common.{◌≡◌, ◌≢◌, All, map, slice_index, string_bytes, sym, ap, subst, ◌∙◌, arith}
use Rattle.protoparse_words.specs.Asking.{IsName}
use Rattle.protoparse_words.specs.Listing.{file_path}
use Rattle.protoparse_words.specs.declared.listed.Word.TheVariants.{File as FileWord}
use Rattle.protoparse_words.proofs.FilePaths.{one_more}
use Rattle.protoparse_words.proofs.listed.listed_by.Goals as goal
use Rattle.protoparse_words.proofs.listed.listed_by.Goals.{in-Holds, in-Folder+in_ok-push-in-Folder, in-File+in_ok-push-in-File}

pub loop-word-preserved : goal.loop-word-preserved
loop-word-preserved c =
    let words = c.args.words.now in
    let i = c.loop-word.word-index in
    let item = c.word-item.result in
    let before = c.loop-word.invariant in
    let text_is = ap string_bytes (sym c.word-item.is) ∙ sym c.as_str-word.ensures.value in
    let file : All IsName words → c.word_of.result ≡ FileWord = λ names. c.word_of.ensures (before.any names) (subst (λ text. slice_index text 0 ≢ 45) text_is (names i item c.loop-word-test.true)) in
    elim c.match-word_of.branch [
      | in-Holds w ↦ record {
        none = λ zero. absurd (omega (arith, zero));
        any = λ names. cc (file names, w.in-Holds.is);
        folders = λ names. cc (file names, w.in-Holds.is);
        names = λ names. cc (file names, w.in-Holds.is);
      }
      | in-Folder+in_ok-push-in-Folder w ↦ record {
        none = λ zero. absurd (omega (arith, zero));
        any = λ names. cc (file names, w.in-Folder.is);
        folders = λ names. cc (file names, w.in-Folder.is);
        names = λ names. cc (file names, w.in-Folder.is);
      }
      | in-File+in_ok-push-in-File w ↦ record {
        none = λ zero. absurd (omega (arith, zero));
        any = λ names. ap (λ state. state.next) w.state-is ∙ before.any names;
        folders = λ names. ap (λ folders. folders.items) w.folders-is ∙ before.folders names;
        names = λ names. ap (λ files. map file_path files.items) w.files-is ∙ ap (map file_path) w.in_ok-push-in-File.ensures.items ∙ one_more file_path string_bytes _ _ words i item c.loop-word-test.true (sym text_is) (before.names names);
      }
    ]

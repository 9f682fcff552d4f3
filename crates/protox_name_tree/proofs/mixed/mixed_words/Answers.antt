use Rattle.std.proofs.Common.{◌∙◌}
use Rattle.protox_name_tree.proofs.Mixing.{words_mixed}
use Rattle.protox_name_tree.proofs.mixed.mixed_words.Goals as goal

pub words-preserved : goal.words-preserved
words-preserved c =
    let bytes = c.args.bytes.now in
    let at = c.words.at in
    record {
      so_far = rw (c.mixed-so_far.ensures.mixed, c.word.ensures.word) (words_mixed bytes at c.words.so_far c.words-test.true) ∙ c.words.invariant.so_far;
      small = c.mixed-so_far.ensures.small;
      within = c.words-test.true;
    }

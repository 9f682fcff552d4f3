use Rattle.std.proofs.Common.{arith}
use Rattle.protox_text_format.proofs.NameEnds.{words_at, words_front, words_end, words_more}
use Rattle.protox_text_format.proofs.names.behind_words.Goals as goal

pub words-init : goal.words-init
words-init c = record { within = omega arith; words = words_front c.args.pieces.now }

pub returns-in_default-behind : goal.returns-in_default-behind
returns-in_default-behind c =
    words_end c.args.pieces.now _ c.in-Some.more.now c.words.invariant.words c.in-Some.ensures c.in_default-behind.ensures

pub words-preserved : goal.words-preserved
words-preserved c = record {
  within = omega arith;
  words = words_at c.args.pieces.now _ (words_more c.args.pieces.now _ c.in-Some.more.now _
      c.words.invariant.words c.in-Some.ensures c.in-Some-behind.ensures);
}

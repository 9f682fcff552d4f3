use Rattle.std.proofs.Common.{not, eqb, get_or, refl, arith}
use Rattle.protox_lexeme.specs.declared.bytes.TheConstants.{WORD_BYTES}
use Rattle.protox_lexeme.specs.Lexicon.{is_word}
use Rattle.protox_lexeme.proofs.ByteTable.{agree_below, agree_at}
use Rattle.protox_lexeme.proofs.bytes.is_word.Goals as goal

pub returns : goal.returns
unfolding agree_below
returns c = agree_at (λ k. not (eqb (get_or WORD_BYTES k 0) 46)) is_word 256 c.args.b refl (omega arith)

use Rattle.std.proofs.Common.{sym, ◌∙◌, arith}
use Rattle.protox_lexeme.proofs.Keywords.{keyword-found, none-found, bytes-same, bytes-other}
use Rattle.protox_lexeme.proofs.class.class_of_word.Goals as goal

pub returns-then-class-ge-OTHER_WORD : goal.returns-then-class-ge-OTHER_WORD
returns-then-class-ge-OTHER_WORD c = none-found c.args.word.now c.candidate-class.result c.candidate-class.ensures (λ l e. omega (arith, l, c.if-class-ge-OTHER_WORD.true))

pub returns-then-eq : goal.returns-then-eq
returns-then-eq c = keyword-found c.args.word.now c.candidate-class.result (omega (arith, c.if-class-ge-OTHER_WORD.false)) (bytes-same _ _ (sym c.eq.ensures ∙ c.if-eq.true) ∙ c.keyword_of.ensures)

pub returns-else-eq : goal.returns-else-eq
returns-else-eq c = none-found c.args.word.now c.candidate-class.result c.candidate-class.ensures (λ l e. bytes-other _ _ (sym c.eq.ensures ∙ c.if-eq.false) (e ∙ sym c.keyword_of.ensures))

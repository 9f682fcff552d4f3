use Rattle.protox_parse.proofs.AnswerLaws as laws
use Rattle.protox_parse.proofs.laws.one_translation.Goals as goal

pub returns : goal.returns
returns c = laws.one_translation

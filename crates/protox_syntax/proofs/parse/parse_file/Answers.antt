use Rattle.protox_grammar.proofs.Lemmas as main
use Rattle.protox_declarations.specs.inner.Options.{here}
use Rattle.protox_syntax.proofs.Aggregates.{aggregates-lex-back}
use Rattle.protox_syntax.proofs.Answering.{listed-file, listed-only}
use Rattle.protox_syntax.proofs.parse.parse_file.Goals as goal

pub returns-in-Ok-clause-found : goal.returns-in-Ok-clause-found
returns-in-Ok-clause-found c = listed-file c.args.source.now c.in-Ok.file c.new-items.result c.read_source.new.to c.new-items.ensures c.in-Ok.ensures.taken

pub returns-in-Ok-clause-only : goal.returns-in-Ok-clause-only
returns-in-Ok-clause-only c f accepted = listed-only c.args.source.now c.in-Ok.file c.new-items.result c.read_source.new.to c.new-items.ensures c.in-Ok.ensures.taken f accepted

pub returns-in-Ok-clause-one_tree : goal.returns-in-Ok-clause-one_tree
returns-in-Ok-clause-one_tree c = main.one_tree tt

pub returns-in-Ok-clause-one_placed_tree : goal.returns-in-Ok-clause-one_placed_tree
returns-in-Ok-clause-one_placed_tree c = main.one_tree here

pub returns-in-Ok-clause-lexes_back : goal.returns-in-Ok-clause-lexes_back
returns-in-Ok-clause-lexes_back c = aggregates-lex-back c.args.source.now c.utf8.source

pub returns-in-Err-clause-one_tree : goal.returns-in-Err-clause-one_tree
returns-in-Err-clause-one_tree c = main.one_tree tt

pub returns-in-Err-clause-one_placed_tree : goal.returns-in-Err-clause-one_placed_tree
returns-in-Err-clause-one_placed_tree c = main.one_tree here

pub returns-in-Err-clause-lexes_back : goal.returns-in-Err-clause-lexes_back
returns-in-Err-clause-lexes_back c = aggregates-lex-back c.args.source.now c.utf8.source

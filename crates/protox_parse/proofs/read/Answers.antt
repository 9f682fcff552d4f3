use Rattle.std.proofs.Common.{subst, sym}
use Rattle.protox_parse.specs.FaultLists.{HasFaultsOf}
use Rattle.protox_parse.proofs.Making.{read_of}
use Rattle.protox_parse.proofs.Truths.{unread}
use Rattle.protox_parse.proofs.read.Goals as goal

pub returns-in-Ok-clause-found : goal.returns-in-Ok-clause-found
returns-in-Ok-clause-found c = read_of c.args.source.now c.in-Ok.head c.args.made.now c.read_source.new.to c.requires.none c.in-Ok.ensures.taken

pub returns-in-Err-Faults-clause-failure : goal.returns-in-Err-Faults-clause-failure
returns-in-Err-Faults-clause-failure c =
    let says = c.in-Err-Faults.ensures in
    unread c.args.source.now c.args.name.now c.in-Err-Faults.field-0 c.refused.result
    (subst (λ e. HasFaultsOf e c.refused.result) (sym c.in-Err-Faults.field-0-is) c.refused.ensures.same)
    c.refused.ensures.of_source
    (record {
      first = says.first;
      stands = says.stands;
      lexical = says.lexical;
      all_found = says.all_found;
      no_check_lost = says.no_check_lost;
      words = says.words;
    })

use Rattle.std.proofs.Common.{Err, subst}
use Rattle.std.specs.Option.{option_map}
use Rattle.protox_fault.specs.declared.error.SyntaxFailure.TheVariants.{Faults}
use Rattle.protox_syntax.proofs.Accepts.{parsed-only, parsed-refused}
use Rattle.protox_syntax.proofs.Answering.{front-refused, only-head, refused-by, taken-from}
use Rattle.protox_syntax.proofs.FaultsStand.{parsed-stands-result}
use Rattle.protox_syntax.proofs.LexicalAlone.{parsed-result}
use Rattle.protox_syntax.proofs.NoCheckLost.{parsed-none-lost}
use Rattle.protox_syntax.proofs.ParsedTableFirst.{parsed-first, parsed-found-all}
use Rattle.protox_syntax.proofs.TrueWords.{parsed-words}
use Rattle.protox_syntax.specs.inner.Front.{IsFront, IsRefusedFirst}
use Rattle.protox_syntax.specs.inner.OnWay.{table_in}
use Rattle.protox_syntax.proofs.parse.read_source.Goals as goal

pub returns-clause-taken : goal.returns-clause-taken
returns-clause-taken g c = taken-from c.args.source.now g.T.TakesItems.takes c.args.to.now c.read_parts.new.to c.requires c.read_parts.result c.read_parts.ensures.read

pub returns-clause-only : goal.returns-clause-only
returns-clause-only g c = only-head c.args.source.now g.T.TakesItems.takes c.args.to.now c.read_parts.new.to c.read_parts.result c.read_parts.ensures.read c.read_parts.ensures.refused

pub returns-clause-refused : goal.returns-clause-refused
returns-clause-refused g c = refused-by c.args.source.now c.read_parts.result _ c.read_parts.ensures.refused (parsed-refused c.args.source.now c.requires)

pub returns-clause-first : goal.returns-clause-first
returns-clause-first g c = refused-by c.args.source.now c.read_parts.result _ c.read_parts.ensures.refused (parsed-first c.args.source.now)

pub returns-clause-stands : goal.returns-clause-stands
returns-clause-stands g c = refused-by c.args.source.now c.read_parts.result _ c.read_parts.ensures.refused (parsed-stands-result c.args.source.now)

pub returns-clause-words : goal.returns-clause-words
returns-clause-words g c = refused-by c.args.source.now c.read_parts.result _ c.read_parts.ensures.refused (parsed-words c.args.source.now)

pub returns-clause-lexical : goal.returns-clause-lexical
returns-clause-lexical g c = refused-by c.args.source.now c.read_parts.result _ c.read_parts.ensures.refused (parsed-result c.args.source.now)

pub returns-clause-all_found : goal.returns-clause-all_found
returns-clause-all_found g c = refused-by c.args.source.now c.read_parts.result _ c.read_parts.ensures.refused (parsed-found-all c.args.source.now)

pub returns-clause-no_check_lost : goal.returns-clause-no_check_lost
returns-clause-no_check_lost g c = refused-by c.args.source.now c.read_parts.result _ c.read_parts.ensures.refused (parsed-none-lost c.args.source.now)

pub returns-in-Some-clause-refused : goal.returns-in-Some-clause-refused
returns-in-Some-clause-refused g c =
    let front : IsRefusedFirst (table_in c.args.source.now) c.in-Some.faults.items = subst (λ o. IsFront c.args.source.now (option_map (λ e. e.items) o)) c.in-Some.is c.in_ok-faults.ensures in
    parsed-refused c.args.source.now c.requires (Err (Faults c.in-Some.faults)) (front-refused c.args.source.now c.utf8.source c.requires c.in-Some.faults front)

pub returns-in-Some-clause-only : goal.returns-in-Some-clause-only
returns-in-Some-clause-only g c =
    let front : IsRefusedFirst (table_in c.args.source.now) c.in-Some.faults.items = subst (λ o. IsFront c.args.source.now (option_map (λ e. e.items) o)) c.in-Some.is c.in_ok-faults.ensures in
    parsed-only c.args.source.now (Err (Faults c.in-Some.faults)) (front-refused c.args.source.now c.utf8.source c.requires c.in-Some.faults front)

pub returns-in-Some-clause-first : goal.returns-in-Some-clause-first
returns-in-Some-clause-first g c =
    let front : IsRefusedFirst (table_in c.args.source.now) c.in-Some.faults.items = subst (λ o. IsFront c.args.source.now (option_map (λ e. e.items) o)) c.in-Some.is c.in_ok-faults.ensures in
    parsed-first c.args.source.now (Err (Faults c.in-Some.faults)) (front-refused c.args.source.now c.utf8.source c.requires c.in-Some.faults front)

pub returns-in-Some-clause-stands : goal.returns-in-Some-clause-stands
returns-in-Some-clause-stands g c =
    let front : IsRefusedFirst (table_in c.args.source.now) c.in-Some.faults.items = subst (λ o. IsFront c.args.source.now (option_map (λ e. e.items) o)) c.in-Some.is c.in_ok-faults.ensures in
    parsed-stands-result c.args.source.now (Err (Faults c.in-Some.faults)) (front-refused c.args.source.now c.utf8.source c.requires c.in-Some.faults front)

pub returns-in-Some-clause-words : goal.returns-in-Some-clause-words
returns-in-Some-clause-words g c =
    let front : IsRefusedFirst (table_in c.args.source.now) c.in-Some.faults.items = subst (λ o. IsFront c.args.source.now (option_map (λ e. e.items) o)) c.in-Some.is c.in_ok-faults.ensures in
    parsed-words c.args.source.now (Err (Faults c.in-Some.faults)) (front-refused c.args.source.now c.utf8.source c.requires c.in-Some.faults front)

pub returns-in-Some-clause-lexical : goal.returns-in-Some-clause-lexical
returns-in-Some-clause-lexical g c =
    let front : IsRefusedFirst (table_in c.args.source.now) c.in-Some.faults.items = subst (λ o. IsFront c.args.source.now (option_map (λ e. e.items) o)) c.in-Some.is c.in_ok-faults.ensures in
    parsed-result c.args.source.now (Err (Faults c.in-Some.faults)) (front-refused c.args.source.now c.utf8.source c.requires c.in-Some.faults front)

pub returns-in-Some-clause-all_found : goal.returns-in-Some-clause-all_found
returns-in-Some-clause-all_found g c =
    let front : IsRefusedFirst (table_in c.args.source.now) c.in-Some.faults.items = subst (λ o. IsFront c.args.source.now (option_map (λ e. e.items) o)) c.in-Some.is c.in_ok-faults.ensures in
    parsed-found-all c.args.source.now (Err (Faults c.in-Some.faults)) (front-refused c.args.source.now c.utf8.source c.requires c.in-Some.faults front)

pub returns-in-Some-clause-no_check_lost : goal.returns-in-Some-clause-no_check_lost
returns-in-Some-clause-no_check_lost g c =
    let front : IsRefusedFirst (table_in c.args.source.now) c.in-Some.faults.items = subst (λ o. IsFront c.args.source.now (option_map (λ e. e.items) o)) c.in-Some.is c.in_ok-faults.ensures in
    parsed-none-lost c.args.source.now (Err (Faults c.in-Some.faults)) (front-refused c.args.source.now c.utf8.source c.requires c.in-Some.faults front)

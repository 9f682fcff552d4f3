use Rattle.protox_imports.proofs.Seeing.{seen_all, sees_closed, sees_least}
use Rattle.protox_imports.specs.Rows.{ImportsIn, PassesOnIn}
use Rattle.protox_imports.proofs.seen.sees.Goals as goal

pub returns-clause-value : goal.returns-clause-value
returns-clause-value c =
    seen_all c.args.imports.now.files c.args.file c.in_ok-seen.seen.items c.in_ok-seen.ensures
    c.requires

pub returns-clause-least : goal.returns-clause-least
returns-clause-least c =
    let rows = c.args.imports.now.files in
    let all =
    seen_all rows c.args.file c.in_ok-seen.seen.items c.in_ok-seen.ensures c.requires in
    record {
      closed = sees_closed rows c.args.file _ c.args.imports.now.among all;
      least = λ holds closed h k.
          sees_least (ImportsIn rows) (PassesOnIn rows) c.args.file h holds closed ((all h).0 k);
    }

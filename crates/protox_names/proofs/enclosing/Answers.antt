use Rattle.std.proofs.Common.{Some, None}
use Rattle.protox_names.proofs.Found.{last_dot}
use Rattle.protox_names.proofs.enclosing.Goals as goal

pub returns-in_err-scope : goal.returns-in_err-scope
returns-in_err-scope c = record {
  scopes = rw c.from_residual.ensures (last_dot c.args.name.now None c.in_err-scope.ensures.cases);
  shorter = rw c.from_residual.ensures tt;
}

pub returns : goal.returns
returns c =
    let found = last_dot c.args.name.now (Some (c.in_ok-scope.scope, c.in_ok-scope.field-0-1)) c.in_ok-scope.ensures.cases in
    record { scopes = found.0; shorter = found.1 }

use Rattle.std.proofs.Common.{◌≡◌, ◌≤◌, ◌-◌, ◌++◌, [], ◌∷◌, Ok, cond, drop, take, sym, ap, ◌∙◌, arith, length}
use Rattle.protox_name_tree.specs.Tree.{name_at}
use Rattle.protox_names.specs.Tree.{name_of_place}
use Rattle.protox_settings.specs.Names.{is_last, step}
use Rattle.protox_settings.proofs.Parts.{first_of, last_when, stepped}
use Rattle.protox_settings.proofs.names.fields_from.Goals as goal

pub loop-rest-preserved : goal.loop-rest-preserved
loop-rest-preserved c =
    let view = c.args.view.now in
    let table = view.symbols.now in
    let scope = name_of_place (name_at table.names) c.args.scope in
    let rest = c.loop-rest.rest.now in
    let part = c.part-item.result in
    let more = take (length rest - 1) (drop 1 rest) in
    let some : 1 ≤ length rest = c.in-len1-up.len_at_least in
    let is : rest ≡ part ∷ more = first_of rest part some c.part-item.is in
    let led : step c.args.files.now table view.sees.now view.packages scope c.loop-rest.message part (is_last more) ≡ Ok (c.in-Ok.field, c.in-Ok.inner) =
    ap (step c.args.files.now table view.sees.now view.packages scope c.loop-rest.message part) (sym (c.is_empty.ensures ∙ last_when more)) ∙ sym c.step.ensures ∙ c.in-Ok.is in
    let pushed : c.push.new.self.items ≡ c.loop-rest.fields.items ++ c.in-Ok.field ∷ [] =
    c.push.ensures.items ∙ ap (λ b. cond b (c.loop-rest.fields.items ++ c.in-Ok.field ∷ []) c.loop-rest.fields.items) c.if-is_err.ensures.negation in
    record {
      found = stepped c.args.files.now table view.sees.now view.packages scope c.loop-rest.index c.loop-rest.message c.in-Ok.field c.in-Ok.inner c.loop-rest.fields.items c.push.new.self.items rest more part _ is led pushed c.loop-rest.invariant.found;
      counted = omega (arith, c.loop-rest.invariant.counted, ap length is);
    }

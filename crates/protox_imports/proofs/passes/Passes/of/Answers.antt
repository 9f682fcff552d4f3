use Rattle.std.proofs.Common.{◌∙◌, ◌<◌, List, Option, None, Bool, ap, get_or, length, replicate, subst, sym, arith}
use Rattle.std.proofs.lemmas.List.Elements.{All-get_or}
use Rattle.protox_imports.specs.Passing.{IsRow}
use Rattle.protox_imports.proofs.Passing.{all_made, none_made, one_made, public_made}
use Rattle.protox_imports.proofs.passes.Passes.of.Goals as goal

pub loop-file-init : goal.loop-file-init
loop-file-init c =
    none_made c.args.imports.now.files c.args.order.now c.in_ok-rows.rows.items (c.in_ok-rows.ensures ∙ ap (λ n. replicate n None) c.len.ensures)

pub row-requires-clause-known : goal.row-requires-clause-known
row-requires-clause-known c = λ g on.
    subst (λ (rows : List (Option (List Bool))). IsRow c.args.imports.now.files g (get_or rows g None)) (sym c.deref.ensures.value)
    (public_made c.args.imports.now.files c.args.order.now c.loop-file.file-index c.loop-file.rows.items c.requires c.args.imports.now.among c.loop-file-test.true c.loop-file.invariant g on)

pub loop-file-preserved : goal.loop-file-preserved
loop-file-preserved c =
    let order = c.args.order.now in
    let i = c.loop-file.file-index in
    let within : get_or order i 0 < length c.args.imports.now.files = All-get_or (λ f. f < length c.args.imports.now.files) order i 0 c.loop-file-test.true c.requires.within in
    one_made c.args.imports.now.files order i c.loop-file.rows.items c.in_ok-row.row c.requires c.loop-file-test.true (omega (arith, within, c.loop-file.invariant.count)) c.in_ok-row.ensures c.loop-file.invariant

pub returns : goal.returns
returns c = all_made c.args.imports.now.files c.args.order.now c.loop-file.file-index c.loop-file.rows.items c.requires (omega (arith, c.loop-file-test.false)) c.loop-file.invariant

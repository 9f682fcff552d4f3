use Rattle.std.proofs.Common.{◌∙◌, ℕ, List, Bool, false, true, Contains, ap, length, length-set, replicate, set, subst, sym, arith}
use Rattle.std.proofs.lemmas.Bool.Decides.{Decides-eqb}
use Rattle.std.proofs.lemmas.List.{length-replicate, nil_from_length}
use Rattle.protox_imports.specs.Rows.{PassesOnIn}
use Rattle.protox_imports.proofs.Passing.{alone, row_made}
use Rattle.protox_imports.proofs.Seeing.{passed_within}
use Rattle.protox_imports.proofs.passes.row.Goals as goal

pub returns-then-is_empty : goal.returns-then-is_empty
returns-then-is_empty c =
    alone c.args.imports.now.files c.args.file (sym c.public-public.ensures ∙ nil_from_length c.public-public.result.now ((Decides-eqb (length c.public-public.result.now) 0).0 (sym c.is_empty.ensures ∙ c.if-is_empty.true)))

pub add_rows-requires-clause-below : goal.add_rows-requires-clause-below
add_rows-requires-clause-below c = λ g there.
    let files = c.args.imports.now.files in
    let on : PassesOnIn files c.args.file g = subst (λ (xs : List ℕ). Contains xs g) c.public-public.ensures there in
    let below = passed_within files c.args.file g c.args.imports.now.within c.args.imports.now.among on in
    omega (arith, below, ap length (c.mark.ensures), length-set c.in_ok-marks.marks c.args.file true, ap length c.in_ok-marks.ensures, length-replicate c.len.result false, c.len.ensures)

pub returns : goal.returns
returns c =
    let files = c.args.imports.now.files in
    row_made files c.args.rows.now c.args.file c.requires.within c.public-public.result.now c.mark.new.self c.add_rows.new.marks c.public-public.ensures c.requires.known
    (c.mark.ensures ∙ ap (λ (marks : List Bool). set marks c.args.file true) (c.in_ok-marks.ensures ∙ ap (λ n. replicate n false) c.len.ensures)) c.add_rows.ensures

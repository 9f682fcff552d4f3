use Rattle.std.proofs.Common.{◌∙◌}
use Rattle.std.proofs.lemmas.Grind.{merely}
use Rattle.protox_imports.specs.inner.Numbers.{number_in}
use Rattle.protox_imports.proofs.ByName.{found_say, found_within, found_among}
use Rattle.protox_imports.proofs.NamesAgree.{found_agree}
use Rattle.protox_imports.proofs.imports.Imports.new.Goals as goal

pub invariant_of-result : goal.invariant_of-result
invariant_of-result c =
    let find = number_in c.in_ok-numbers.numbers in
    let e = c.from_vec.ensures ∙ c.in_ok-rows.ensures in
    record {
      within = found_within find c.args.files.now c.from_vec.result c.in_ok-numbers.ensures e;
      among = merely (found_among find c.args.files.now c.from_vec.result c.in_ok-numbers.ensures e);
    }

pub returns-clause-by_name : goal.returns-clause-by_name
returns-clause-by_name c =
    found_say (number_in c.in_ok-numbers.numbers) c.args.files.now c.from_vec.result
    c.in_ok-numbers.ensures (c.from_vec.ensures ∙ c.in_ok-rows.ensures)

pub returns-clause-agree : goal.returns-clause-agree
returns-clause-agree c =
    found_agree (number_in c.in_ok-numbers.numbers) c.args.files.now c.from_vec.result
    c.in_ok-numbers.ensures (c.from_vec.ensures ∙ c.in_ok-rows.ensures)

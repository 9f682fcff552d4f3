use Rattle.std.proofs.Common.{◌∙◌, length, refl, sym}
use Rattle.std.proofs.lemmas.Bool.{ltb-true}
use Rattle.std.proofs.lemmas.Option.{slice_get_read}
use Rattle.std.proofs.lemmas.Result.{on_ok_weaker}
use Rattle.protox_option_records.proofs.Lists.{other_path, this_path}
use Rattle.protox_option_records.specs.inner.Telling.{OfAnother, ToldHere}
use Rattle.protox_option_records.proofs.teller.TellerTakePlaces.take.Goals as goal

pub returns-then-ne : goal.returns-then-ne
returns-then-ne c =
    let self = c.args.self.now in
    let faults = self.faults.now in
    let found = c.in-Some.fault.now in
    let there = slice_get_read faults (length faults) self.told found refl (ltb-true self.told (length faults) (sym c.in-Some.ensures.lookup.0)) c.in-Some.ensures.lookup.1 in
    let other = other_path c.as_slice.result.now c.args.path.now (sym c.if-ne.true ∙ c.ne.ensures) in
    OfAnother found there (λ same. other (c.as_slice.ensures ∙ same)) refl

pub returns : goal.returns
returns c =
    let self = c.args.self.now in
    let faults = self.faults.now in
    let found = c.in-Some.fault.now in
    let there = slice_get_read faults (length faults) self.told found refl (ltb-true self.told (length faults) (sym c.in-Some.ensures.lookup.0)) c.in-Some.ensures.lookup.1 in
    let same = sym c.as_slice.ensures ∙ this_path c.as_slice.result.now c.args.path.now (sym c.if-ne.false ∙ c.ne.ensures) in
    on_ok_weaker c.push_fault.result (λ told. ToldHere found told.0 there same refl refl refl told.2 told.1) c.push_fault.ensures

use Rattle.std.proofs.Common.{◌∙◌, ◌++◌, List, ap, map, refl, subst, sym}
use Rattle.std.specs.List.{FoldsTo}
use Rattle.protox_file_options.proofs.Lemmas.{Apart, all_each, places_apart}
use Rattle.protox_file_options.specs.Interpreted.{Taken}
use Rattle.protox_file_options.specs.Outcomes.{IsOutcome}
use Rattle.protox_file_options.specs.Places.{Place, places_of}
use Rattle.protox_option_records.proofs.Telling.{all_told, place_of}
use Rattle.protox_option_records.specs.OptionRecords.{AreRecordsAt, FileAt}
use Rattle.protox_option_records.specs.declared.teller.Teller.{Teller}
use Rattle.protox_option_records.specs.inner.Telling.{Tells}
use Rattle.protox_option_records.proofs.teller.fault_records.Goals as goal

pub returns-in-Ok : goal.returns-in-Ok
returns-in-Ok c answer is same =
    let at = c.args.subject.now in
    let a : Teller = record { alloc = c.args.alloc; subject = c.args.subject; faults = c.args.faults; told = 0; out = c.new.result } in
    let b = c.in-Ok.teller in
    let folds : FoldsTo Tells a (map place_of is.taken) b =
    subst (λ (places : List Place). FoldsTo Tells a places b) (sym (is.places ∙ ap (λ (s : FileAt). places_of s.file) (sym c.subject.view_is))) c.in-Ok.ensures in
    let told =
    all_told at is.taken a b (all_each (λ (t : Taken). IsOutcome at.view at.files t.place t.outcome) is.taken is.outcomes)
    (subst Apart (sym is.places) (places_apart at.file)) refl (same ∙ is.faults) folds in
    subst (AreRecordsAt at is.taken) (sym (told.added ∙ ap (λ front. front ++ told.bytes) c.new.ensures.items)) told.records

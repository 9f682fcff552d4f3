use Rattle.std.proofs.Common.{◌≡◌, drop, map}
use Rattle.protox_aggregate.specs.Aggregates.{steps_from}
use Rattle.protox_aggregate.specs.Reading.{reading_of}
use Rattle.protox_text_format.specs.Spelling.{seen}
use Rattle.protox_aggregate.proofs.reading.take_all.Given as goal

-- the steps that are left lead on from what is read to what all steps lead to
abbrev pub invariant-loop-step : goal.invariant-loop-step
invariant-loop-step l =
    steps_from l.files l.view.symbols.now l.view.sees.now l.view.packages l.step (reading_of l.reader) (map seen (drop l.step l.items))
    ≡ steps_from l.files l.view.symbols.now l.view.sees.now l.view.packages 0 (reading_of l.fn.reader) (map seen l.items)

-- What other crates need of these proofs.
pub use Rattle.protox_grammar.proofs.Takes.{bind_ok, ok_is}
pub use Rattle.protox_grammar.proofs.Sets.{apart-at, byte_place-le, gated, or_false, place-le}
pub use Rattle.protox_grammar.proofs.Sets.{stops-then, within-at}
pub use Rattle.protox_grammar.proofs.Laws.{head-same}
pub use Rattle.protox_grammar.proofs.Reading.{IsRead, bind_err, cut-same, err-ok, head-stops}
pub use Rattle.protox_grammar.proofs.Reading.{map_err, ok-err, true-false}
pub use Rattle.protox_grammar.proofs.StepLists.{shallow-ends, take-front, tokens-append}
pub use Rattle.protox_grammar.proofs.StepLists.{until-at-most, until-front, until-note}
pub use Rattle.protox_grammar.proofs.Placing.{ArePlaced, IsPlaced, event_end, is_string_row}
pub use Rattle.protox_grammar.proofs.Placing.{last-past, last_row, placed-front}
pub use Rattle.protox_grammar.proofs.Tracing.{Halts}
pub use Rattle.protox_grammar.proofs.Forms.{Lawful, mark-laws, optional-laws, seq-laws, stops-none}
pub use Rattle.protox_grammar.proofs.Closed.{closed-read}
pub use Rattle.protox_grammar.proofs.Parts.{each-all, ident-laws, int-laws, string-laws}
pub use Rattle.protox_grammar.proofs.Parts.{syntax-laws}
pub use Rattle.protox_grammar.proofs.Options.{list-laws, option_body-laws, part-laws}
pub use Rattle.protox_grammar.proofs.Ranges.{name-laws, range-laws}
pub use Rattle.protox_grammar.proofs.Enums.{enum_element-laws, evalue-laws}
pub use Rattle.protox_grammar.proofs.Services.{rpc_element-laws, service_element-laws}
pub use Rattle.protox_grammar.proofs.Messages.{element-laws, extend_element-laws, field-laws}
pub use Rattle.protox_grammar.proofs.Messages.{oneof_element-laws, statement-laws}
pub use Rattle.protox_grammar.proofs.Depths.{body-laws}
pub use Rattle.protox_grammar.proofs.Notes.{IsShallow, notes, notes-append, shallow-front}
pub use Rattle.protox_grammar.proofs.Braced.{int-braced, options-braced}
pub use Rattle.protox_grammar.proofs.Told.{syntax-tells}
pub use Rattle.protox_grammar.proofs.Holding.{Holds, any-holds, holds-any, holds-left, holds-one}
pub use Rattle.protox_grammar.proofs.Holding.{holds-right}
pub use Rattle.protox_grammar.proofs.NotedFiles.{file-marks, file-noted}
pub use Rattle.protox_grammar.proofs.Located.{Located, locate}
pub use Rattle.protox_grammar.proofs.Main.{accepts_iff, ends-of, file_at, laws, may-of, one_tree}
pub use Rattle.protox_grammar.proofs.Main.{spelling, unexpected_row}
pub use Rattle.protox_grammar.proofs.Numbers.{numbered-at, shapes-append, shapes-length, string-at}
pub use Rattle.protox_grammar.proofs.Fronts.{ended, spelling-begins, too_deep, unexpected}
pub use Rattle.protox_grammar.proofs.PassedOver.{file-is, front-length, same-steps}
pub use Rattle.protox_grammar.proofs.NotedTrue.{noted-front}
pub use Rattle.protox_grammar.proofs.PlaceLaws.{noted_alike, placed-shapes, wrong_alike}
pub use Rattle.protox_grammar.proofs.InsideLaws.{inside_is_open, open_is_inside}
pub use Rattle.protox_grammar.proofs.TakenSteps.{none-deep, taken}
pub use Rattle.protox_grammar.proofs.DeepNoted.{too_deep_is_noted}
pub use Rattle.protox_grammar.proofs.samples.Sources.{IsMade, at, goes-on, joined, made, packages}
pub use Rattle.protox_grammar.proofs.Loops.{goes_on, is_done, star-turn, stops}
pub use Rattle.protox_grammar.proofs.Shows.{Shows, as_is, left-shows, paired, right-shows, seen_as}
pub use Rattle.protox_grammar.proofs.Shows.{seq-shows, shows-by, shows-eats, star-shows, then}
pub use Rattle.protox_grammar.proofs.Shows.{three, two}
pub use Rattle.protox_grammar.proofs.Telling.{AllLie, NotedLies, both-lie, notes-done, notes-turn}
pub use Rattle.protox_grammar.proofs.Telling.{past-append, plain-tells, star_notes, then-lie}
pub use Rattle.protox_grammar.proofs.Telling.{then-seen, told-append}
pub use Rattle.protox_grammar.proofs.NotesLie.{group-lie, import-lie, name-lie, package-lies}
pub use Rattle.protox_grammar.proofs.NotesLie.{run-lies, syntax-lie, word-lies}
pub use Rattle.protox_grammar.proofs.Shown.{Noting, Silent, both, choice, gather, list_of}
pub use Rattle.protox_grammar.proofs.Shown.{list_then, list_view, mapped_from, named, named_from}
pub use Rattle.protox_grammar.proofs.Shown.{one, optional, push, renamed, seen, shown_by, sign, the}
pub use Rattle.protox_grammar.proofs.Shown.{times, with_note}
pub use Rattle.protox_grammar.proofs.Opened.{Keeps, Opened, before, body_seen, keeps-of, node-keeps}
pub use Rattle.protox_grammar.proofs.Opened.{opened, opened_by, plain-keeps, sunk, sunk_notes}
pub use Rattle.protox_grammar.proofs.FineNotes.{faultless-first, faultless-last, fine-told}
pub use Rattle.protox_grammar.proofs.FineNotes.{told-fine}
pub use Rattle.protox_grammar.proofs.Stated.{KeepsFirst, Stated, again_notes, all-lie, all-says}
pub use Rattle.protox_grammar.proofs.Stated.{first-append, noted-append, or_first, packaged, stated}
pub use Rattle.protox_grammar.proofs.Stated.{stated-done, stated-turn, stated_choice, stated_notes}
pub use Rattle.protox_grammar.proofs.Stated.{stated_renamed}
pub use Rattle.protox_grammar.proofs.Kept.{choice-first, enum-first, extend-first, import-first}
pub use Rattle.protox_grammar.proofs.Kept.{message-first, option-first, package-first, plain-first}
pub use Rattle.protox_grammar.proofs.Kept.{service-first, syntax-first}
pub use Rattle.protox_grammar.proofs.NotedWrong.{noted-wrong}
pub use Rattle.protox_grammar.proofs.NotedModes.{mode_at, mode_of, told-mode}
pub use Rattle.protox_grammar.proofs.CleanModes.{clean-modes, in-append, in-none, invalid-some}
pub use Rattle.protox_grammar.proofs.CleanFronts.{AreClearTo, AreToldTo, IsFirstLexeme, clean-all}
pub use Rattle.protox_grammar.proofs.CleanFronts.{clean-through, first-lexeme, row-there, row-valid}
pub use Rattle.protox_grammar.proofs.ModeFaults.{all_from, faults-are}
pub use Rattle.protox_grammar.proofs.Tests.{mark-class, scalar-class, word-class}
pub use Rattle.protox_grammar.proofs.NonePassed.{AreTokensTo, none-passed, tokens-to}
pub use Rattle.protox_grammar.proofs.FirstCheck.{FirstCheck, fault_note, first-check}
pub use Rattle.protox_grammar.proofs.FirstWords.{placed-worded, same-told}
pub use Rattle.protox_grammar.proofs.CheckedFirst.{FirstOf, IsCheckedFirst, checked-first}
pub use Rattle.protox_grammar.proofs.CheckedFirst.{past-taken, taken-rows}
pub use Rattle.protox_grammar.proofs.Falling.{AreAbove, Fall, none-noted-of, told-in-order}
pub use Rattle.protox_grammar.proofs.FrontModes.{begins-at, is_open_behind, mode-of-all}
pub use Rattle.protox_grammar.proofs.FrontModes.{mode-of-front}
pub use Rattle.protox_grammar.proofs.Outside.{Outside, file-outside}
pub use Rattle.protox_grammar.proofs.DeepOutside.{mode-inside-all}

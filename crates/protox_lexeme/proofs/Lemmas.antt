-- What other crates need of these proofs.
pub use Rattle.protox_lexeme.proofs.Each.{Every, all_every}
pub use Rattle.protox_lexeme.proofs.Fitting.{In, OnlyIn, first_passes, fits_within, no_run}
pub use Rattle.protox_lexeme.proofs.Fitting.{one_then, one_then_rest, only_bound, passes_first}
pub use Rattle.protox_lexeme.proofs.Fitting.{run_more, some_bounds, some_fits, then_one_rest}
pub use Rattle.protox_lexeme.proofs.Margins.{AllPass, head_passes, rest_passes}
pub use Rattle.protox_lexeme.proofs.Numbers.{no_exponent}
pub use Rattle.protox_lexeme.proofs.NumberMatch.{at_exponent, at_plain, at_point, at_suffix}
pub use Rattle.protox_lexeme.proofs.NumberMatch.{at_zero, float_bound, number_case, number_plain}
pub use Rattle.protox_lexeme.proofs.NumberMatch.{number_zero}
pub use Rattle.protox_lexeme.proofs.ScanMatch.{at_block, at_digit, at_fraction, at_hash, at_letter}
pub use Rattle.protox_lexeme.proofs.ScanMatch.{at_line, at_mark, at_newline, at_other, at_quote}
pub use Rattle.protox_lexeme.proofs.ScanMatch.{letter_word, scan_case, scan_digit, scan_fraction}
pub use Rattle.protox_lexeme.proofs.ScanMatch.{scan_letter, scan_longest, scan_mark, scan_other}
pub use Rattle.protox_lexeme.proofs.ScanMatch.{scan_point, scan_quote}
pub use Rattle.protox_lexeme.proofs.Boundaries.{blanks_boundary, scan_block, scan_boundary}
pub use Rattle.protox_lexeme.proofs.Boundaries.{scan_line, scanned_mark, scanned_quote}
pub use Rattle.protox_lexeme.proofs.Cut.{cut_is_cut, cut_none, cut_some, first_moves, first_start}
pub use Rattle.protox_lexeme.proofs.Cut.{fits_some, only_cut}
pub use Rattle.protox_lexeme.proofs.Step.{step_boundary, step_cut}
pub use Rattle.protox_lexeme.proofs.Literal.{piece_some, pieces_end, pieces_last, pieces_more}
pub use Rattle.protox_lexeme.proofs.Literal.{pieces_turn}
pub use Rattle.protox_lexeme.proofs.OneKind.{mark_apart, one_kind}
pub use Rattle.protox_lexeme.proofs.Extents.{lexeme_stands}
pub use Rattle.protox_lexeme.proofs.Places.{lie, stand}
pub use Rattle.protox_lexeme.proofs.FaultModes.{IsOwnKind, IsRowKind, first-in-mode, kinds-of}
pub use Rattle.protox_lexeme.proofs.FaultOrder.{Rise, RiseWithin, key, keys, rise_joined}
pub use Rattle.protox_lexeme.proofs.FaultOrder.{rise_lower, twice}
pub use Rattle.protox_lexeme.proofs.TableOrder.{AreInOrder, filter_rises, gap_faults, list_rises}
pub use Rattle.protox_lexeme.proofs.TableOrder.{place_of, table_in_order}

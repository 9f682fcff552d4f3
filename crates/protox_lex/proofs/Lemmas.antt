-- What other crates need of these proofs.
pub use Rattle.protox_lex.proofs.LexesBack.{AtEnd, LexesAs, by_scan, front_is, ident_lexes}
pub use Rattle.protox_lex.proofs.LexesBack.{mark_lexes, rest_is, run_to}
pub use Rattle.protox_lex.proofs.NumbersBack.{float_lexes, int_lexes, word_passes}
pub use Rattle.protox_lex.proofs.StringsBack.{Spells, SpellsByte, double_piece, newline_piece}
pub use Rattle.protox_lex.proofs.StringsBack.{plain_byte, printed_spells, return_piece}
pub use Rattle.protox_lex.proofs.StringsBack.{single_piece, slash_piece, spelled_lexes, tab_piece}
pub use Rattle.protox_lex.proofs.ShapesBack.{Gives, gives, spelled_alone}
pub use Rattle.protox_lex.proofs.Printable.{printable_rows, utf8_bytes}
pub use Rattle.protox_lex.proofs.Tables.{faults_of_length, none_at_end}

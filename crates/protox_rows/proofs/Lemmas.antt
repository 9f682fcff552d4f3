-- What other crates need of these proofs.
pub use Rattle.protox_rows.proofs.Turns.{all_read, done, ends, last-notes, last-words, lifted, more}
pub use Rattle.protox_rows.proofs.Turns.{more-notes, more-words, no-notes, shorter}
pub use Rattle.protox_rows.proofs.PlacedRows.{drop-row, first-in, left-none, row-placed}
pub use Rattle.protox_rows.proofs.Exact.{Exact, Fits, Took, mapped-exact, seq-exact, under}
pub use Rattle.protox_rows.proofs.ExactForms.{choice-exact}
pub use Rattle.protox_rows.proofs.ExactLists.{last_more}
pub use Rattle.protox_rows.proofs.ExactSequences.{begun_with, from-exact, front-exact, list-exact}
pub use Rattle.protox_rows.proofs.ExactSequences.{list_more, option-exact, reread, reworded}
pub use Rattle.protox_rows.proofs.ExactWide.{wide-exact}
pub use Rattle.protox_rows.proofs.ExactTails.{tail-exact, tail_more}
pub use Rattle.protox_rows.proofs.ExactNames.{dot-exact, field_type-exact, float-exact}
pub use Rattle.protox_rows.proofs.ExactNames.{fullident-exact, ident-exact, int-exact}
pub use Rattle.protox_rows.proofs.ExactNames.{integer-exact, label-exact, list-more, mark-exact}
pub use Rattle.protox_rows.proofs.ExactNames.{minus-exact, or-none, renamed-words, strings-exact}
pub use Rattle.protox_rows.proofs.ExactNames.{type_more, typename-exact, word-exact}
pub use Rattle.protox_rows.proofs.ExactToEnd.{file-fits}

use Rattle.std.proofs.Common.{◌≡◌, ℕ, List, Ok, map}
use Rattle.protox_aggregate.specs.Aggregates.{entries_of}
use Rattle.protox_aggregate.specs.Whole.{IsWhole}
use Rattle.protox_aggregate.proofs.Whole.{if_ok, whole_entries}
use Rattle.protox_text_format.specs.Spelling.{AMessage, Spells, seen}
use Rattle.protox_text_format.specs.declared.item.Piece.{Piece}
use Rattle.protox_aggregate.proofs.reading.entries_of.Goals as goal

pub returns-clause-whole : goal.returns-clause-whole
returns-clause-whole c =
    let view = c.args.view.now in
    let told = map seen c.args.items.now in
    if_ok c.read_entries.result
    (λ entries. entries_of c.args.files.now view.symbols.now view.sees.now view.packages c.args.message told ≡ Ok entries.items)
    (λ entries. (levels : ℕ) (pieces : List Piece) → Spells AMessage levels pieces told → IsWhole entries.items)
    (λ entries said levels pieces spells. whole_entries c.args.files.now view.symbols.now view.sees.now view.packages c.args.message levels pieces told entries.items spells said)
    c.read_entries.ensures.said

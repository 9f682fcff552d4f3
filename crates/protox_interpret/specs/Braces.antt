-- What a text in braces says.
use Rattle.std.specs.Prelude.{◌≡◌, ℕ, List, All, Ok, Err, map}
use Rattle.protox_aggregate.specs.Aggregates.{entries_of}
use Rattle.protox_aggregate.specs.declared.fault.AggregateFault.{AggregateFault}
use Rattle.protox_fault.specs.Faults.{Span}
use Rattle.protox_interpret.specs.Sites.{table}
use Rattle.protox_interpret.specs.declared.fault.StatementFaultKind.{StatementFaultKind}
use Rattle.protox_interpret.specs.declared.fault.StatementFaultKind.TheVariants as kind
use Rattle.protox_interpret.specs.declared.site.Site.{Site}
use Rattle.protox_lexeme.specs.Lexemes.{cut}
use Rattle.protox_lexeme.specs.Table.{rows_of}
use Rattle.protox_message_bytes.specs.Parts.{Parts, steps}
use Rattle.protox_text_format.specs.Failure.{IsFirst}
use Rattle.protox_text_format.specs.Pieces.{IsFaultless, IsFirstWrong, row_of}
use Rattle.protox_text_format.specs.Spelling.{AMessage, Spells, Step}
use Rattle.protox_text_format.specs.declared.fault.TextFault.{TextFault}
use Rattle.protox_text_format.specs.declared.item.Piece.{Piece}

-- The text consists of these tokens.
pub record IsCut (text : List ℕ) (pieces : List Piece) : Type 0 where
  pub all : map row_of pieces ≡ rows_of (cut 0 text)
  pub faultless : All IsFaultless (cut 0 text)

-- The text is a message of the type with this number, which holds these parts.
pub record IsMessage (here : Site) (message : ℕ) (text : List ℕ) (parts : Parts) : Type 0 where
  pub pieces : List Piece
  pub read : List Step
  pub cut : IsCut text pieces
  pub spelled : Spells AMessage 100 pieces read
  pub said : entries_of here.files.now (table here) here.view.now.sees.now here.view.now.packages message read ≡ Ok (steps parts)

-- It isn't one, for this reason.
pub data IsNoMessage (here : Site) (message : ℕ) (text : List ℕ) : StatementFaultKind → Type 0 where
  NoToken : (span : Span) → IsFirstWrong (cut 0 text) span → IsNoMessage here message text (kind.Token span)
  NoText : (pieces : List Piece) (fault : TextFault) → IsCut text pieces → IsFirst pieces fault → IsNoMessage here message text (kind.Text fault)
  SaysNothing : (pieces : List Piece) (read : List Step) (fault : AggregateFault) → IsCut text pieces → Spells AMessage 100 pieces read
      → entries_of here.files.now (table here) here.view.now.sees.now here.view.now.packages message read ≡ Err fault
      → IsNoMessage here message text (kind.Aggregate fault)

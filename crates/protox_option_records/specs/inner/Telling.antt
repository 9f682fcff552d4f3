-- What a teller adds at a place.
use Rattle.std.specs.Prelude.{◌≡◌, ◌≢◌, ℕ, ◌+◌, List, [], ◌++◌, Some, None, slice_get}
use Rattle.protox_descriptor.specs.declared.descriptor.options.UninterpretedOption.{UninterpretedOption}
use Rattle.protox_file_options.specs.Places.{Place}
use Rattle.protox_file_options.specs.declared.answer.OptionsFault.{OptionsFault}
use Rattle.protox_file_options.specs.declared.answer.PlaceFault.TheVariants as fault
use Rattle.protox_interpret.specs.declared.fault.StatementFault.{StatementFault}
use Rattle.protox_interpret.specs.declared.site.Site.{Site}
use Rattle.protox_option_records.specs.OptionRecords.{FileAt, IsTextOf, no_type_record, statement_record}
use Rattle.protox_option_records.specs.declared.teller.Teller.{Teller}
use Rattle.protox_walk.specs.Declarations.{Path}

-- the site that a fault tells
pub record IsHere (at : FileAt) (found : OptionsFault) (here : Site) : Type 0 where
  pub view : here.view.now ≡ at.view
  pub files : here.files.now ≡ at.files
  pub scope : here.scope ≡ found.scope
  pub message : (m : ℕ) → found.message ≡ Some m → here.message ≡ m

-- The bytes are the record of a fault, where these statements stand at the path. Without the statement that is wrong there is none.
pub data IsRecordOf (at : FileAt) (path : Path) (statements : List UninterpretedOption) (found : OptionsFault) : List ℕ → Type 0 where
  OfNoType : found.fault ≡ fault.NoType → IsRecordOf at path statements found (no_type_record at path)
  OfNothing : (wrong : StatementFault) → found.fault ≡ fault.Statement wrong → slice_get statements wrong.index ≡ None
      → IsRecordOf at path statements found []
  OfStatement : (wrong : StatementFault) (here : Site) (statement : UninterpretedOption) (text : List ℕ) → found.fault ≡ fault.Statement wrong
      → IsHere at found here → slice_get statements wrong.index ≡ Some statement → IsTextOf here statement wrong.kind text
      → IsRecordOf at path statements found (statement_record at path wrong text)

-- What a teller does at a place: nothing, if all faults are told, or if the next one is of another place; else it tells it.
pub data Tells (old : Teller) (place : Place) (new : Teller) : Type 0 where
  NothingLeft : slice_get old.faults.now old.told ≡ None → new ≡ old → Tells old place new
  OfAnother : (found : OptionsFault) → slice_get old.faults.now old.told ≡ Some found → found.path ≢ place.path → new ≡ old → Tells old place new
  ToldHere : (found : OptionsFault) (bytes : List ℕ) → slice_get old.faults.now old.told ≡ Some found → found.path ≡ place.path
      → new.subject ≡ old.subject → new.faults ≡ old.faults → new.told ≡ old.told + 1 → new.out.items ≡ old.out.items ++ bytes
      → IsRecordOf old.subject.now place.path place.statements found bytes → Tells old place new

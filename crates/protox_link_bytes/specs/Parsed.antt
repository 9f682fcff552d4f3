-- What parsing makes of the files of a list.
use Rattle.std.specs.Prelude.{⊤, ℕ, List, [], ◌∷◌, ◌++◌, ◌≢◌, All, length}
use Rattle.protox_ast.specs.Accepted.{IsAccepted}
use Rattle.protox_ast.specs.Ast as ast_of
use Rattle.protox_ast.specs.Places.{Place}
use Rattle.protox_ast.specs.Tree as tree
use Rattle.protox_descriptor.specs.declared.descriptor.FileDescriptorProto.{FileDescriptorProto}
use Rattle.protox_generate.specs.File.{AreSorted}
use Rattle.protox_link_bytes.specs.Given.{GivenFile}
use Rattle.protox_link_bytes.specs.declared.parsing.Parsed.{Parsed}
use Rattle.protox_link_bytes.specs.declared.parsing.Parsed.TheVariants.{Files, Refused}
use Rattle.protox_link_records.specs.LinkRecords.{syntax_records}
use Rattle.protox_parse.specs.Failures.{IsRefusalOf}
use Rattle.protox_parse.specs.FaultLists.{AreAllFound, AreLexicalAlone, AreListedOf, AreStanding, ExpectsTruly, NoCheckIsLost}
use Rattle.protox_parse.specs.Files.{IsFile, IsTranslation}
use Rattle.protox_parse.specs.FirstFault.{BeginsWithFirst}
use Rattle.protox_parse.specs.Refusal.{Refusal}
use Rattle.protox_parse.specs.declared.failure.ParseFailure.TheVariants as failed

-- The source is no file, and of the refusal holds what `parse` promises.
pub record IsRefusal (name source : List ℕ) (refusal : Refusal) : Type 0 where
  pub wrong : IsFile source → ⊥
  pub of_source : IsRefusalOf name source (failed.Refused refusal)
  pub first : BeginsWithFirst source (failed.Refused refusal)
  pub checked : (f : tree.File Place) → IsAccepted source f → AreListedOf (ast_of.file (length source) f) (failed.Refused refusal)
  pub stands : AreStanding source (failed.Refused refusal)
  pub lexical : AreLexicalAlone source (failed.Refused refusal)
  pub all_found : AreAllFound source (failed.Refused refusal)
  pub no_check_lost : NoCheckIsLost source (failed.Refused refusal)
  pub words : ExpectsTruly source (failed.Refused refusal)

-- Each source is a file.
abbrev pub AreFiles : List GivenFile → Type 0
AreFiles sources = All (λ file. IsFile file.source) sources

-- The descriptors are the translations of the sources, one of each, in order.
abbrev pub AreTranslations : List GivenFile → List FileDescriptorProto → Type 0
AreTranslations [] [] = ⊤
AreTranslations (file ∷ sources) (d ∷ files) = IsTranslation file.name file.source d × AreTranslations sources files
AreTranslations [] (d ∷ files) = ⊥
AreTranslations (file ∷ sources) [] = ⊥

-- The bytes are the records of the faults of syntax of these files, in order. A source that is a file has none.
pub data AreSyntaxRecords : List GivenFile → List ℕ → Type 0 where
  NoFile : AreSyntaxRecords [] []
  RightFile : (sources : List GivenFile) (bytes : List ℕ) (file : GivenFile) → AreSyntaxRecords sources bytes → IsFile file.source
      → AreSyntaxRecords (sources ++ file ∷ []) bytes
  WrongFile : (sources : List GivenFile) (bytes : List ℕ) (file : GivenFile) (refusal : Refusal) → AreSyntaxRecords sources bytes
      → IsRefusal file.name file.source refusal
      → AreSyntaxRecords (sources ++ file ∷ []) (bytes ++ syntax_records (length sources) refusal.source refusal.errors)

-- Some source is no file, and the bytes are the records of all faults of syntax. There is one at least.
pub record HaveSyntaxFaults (sources : List GivenFile) (bytes : List ℕ) : Type 0 where
  pub wrong : AreFiles sources → ⊥
  pub told : AreSyntaxRecords sources bytes
  pub some : bytes ≢ []

-- All sources are files, of which these are the descriptors. The locations of each are sorted by path.
pub record AreParsed (sources : List GivenFile) (files : List FileDescriptorProto) : Type 0 where
  pub translated : AreTranslations sources files
  pub sorted : All AreSorted files
  pub told : AreSyntaxRecords sources []

abbrev pub IsParsedOf : List GivenFile → Parsed → Type 0
IsParsedOf sources (Files files) = AreParsed sources files.items
IsParsedOf sources (Refused bytes) = HaveSyntaxFaults sources bytes.items

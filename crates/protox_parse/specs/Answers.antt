-- What is said of an answer for a source, all in one: of a file, and of a failure. `parse` says each
-- of these facts in a clause of its own.
use Rattle.std.specs.Prelude.{ℕ, List}
use Rattle.protox_descriptor.specs.declared.descriptor.FileDescriptorProto.{FileDescriptorProto}
use Rattle.protox_describe.specs.Oneofs.{HasRealFirst}
use Rattle.protox_generate.specs.Commented.{AreCommentedOnce}
use Rattle.protox_generate.specs.File.{AreLocated, AreSorted}
use Rattle.protox_generate.specs.NamePaths.{HasPlaces}
use Rattle.protox_generate.specs.Names.{HasNames}
use Rattle.protox_parse.specs.Failures.{IsRefusalOf}
use Rattle.protox_parse.specs.FaultLists.{AreAllFound, AreLexicalAlone, AreStanding, ExpectsTruly, NoCheckIsLost}
use Rattle.protox_parse.specs.FirstFault.{BeginsWithFirst}
use Rattle.protox_parse.specs.declared.failure.ParseFailure.{ParseFailure}

-- The laws of a descriptor hold of the one that is answered for a source.
pub record HasFileLaws (source : List ℕ) (file : FileDescriptorProto) : Type 0 where
  pub located : AreLocated file
  pub sorted : AreSorted file
  pub oneofs : HasRealFirst file
  pub named : HasNames source file
  pub placed : HasPlaces file
  pub commented_once : AreCommentedOnce source file

-- The laws of a failure hold of the one that is answered for a source.
pub record HasFailureLaws (name source : List ℕ) (failure : ParseFailure) : Type 0 where
  pub refused : IsRefusalOf name source failure
  pub first : BeginsWithFirst source failure
  pub stands : AreStanding source failure
  pub lexical : AreLexicalAlone source failure
  pub all_found : AreAllFound source failure
  pub no_check_lost : NoCheckIsLost source failure
  pub words : ExpectsTruly source failure

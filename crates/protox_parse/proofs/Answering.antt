-- The descriptor of a source's file has the laws of a descriptor.
use Rattle.std.proofs.Common.{◌≡◌, ℕ, List, sym, subst}
use Rattle.std.specs.Str.{IsUtf8}
use Rattle.protox_ast.specs.Accepted.{IsFileOf}
use Rattle.protox_ast.specs.declared.ast.File.{File}
use Rattle.protox_checks.specs.Faults.{IsFaultless}
use Rattle.protox_descriptor.specs.declared.descriptor.FileDescriptorProto.{FileDescriptorProto}
use Rattle.protox_describe.specs.Oneofs.{HasRealFirst}
use Rattle.protox_generate.proofs.Lemmas.{answer-commented, answer-first, answer-named}
use Rattle.protox_generate.proofs.Lemmas.{answer-placed, file-stands}
use Rattle.protox_generate.specs.Commented.{AreCommentedOnce}
use Rattle.protox_generate.specs.File.{AreLocated, AreSorted, file_descriptor}
use Rattle.protox_generate.specs.NamePaths.{HasPlaces}
use Rattle.protox_generate.specs.Names.{HasNames}
use Rattle.protox_locate.proofs.Lemmas.{in-order}
use Rattle.protox_locate.specs.Locations.{file_locations}
use Rattle.protox_parse.specs.Answers.{HasFileLaws}
use Rattle.protox_places.proofs.Lemmas.{sorted-by-path}
use Rattle.protox_places.specs.Lines.{span_numbers}
use Rattle.protox_places.specs.Order.{StartsBefore}

module _ (name source : List ℕ) (u : IsUtf8 source) (file : File) (of_source : IsFileOf source file) (d : FileDescriptorProto) (is : d ≡ file_descriptor name source file) where
  located : AreLocated d
  unfolding file_descriptor
  located = subst AreLocated (sym is) (in-order source _ file (file-stands source file u of_source))

  sorted : AreSorted d
  unfolding file_descriptor
  sorted = subst AreSorted (sym is) (sorted-by-path StartsBefore (file_locations (span_numbers source) file) (in-order source _ file (file-stands source file u of_source)))

  oneofs : IsFaultless file → HasRealFirst d
  oneofs faultless = answer-first name source file d faultless is

  named : HasNames source d
  named = answer-named name source file d u of_source is

  in_places : HasPlaces d
  in_places = answer-placed name source file d is

  commented_once : AreCommentedOnce source d
  commented_once = answer-commented name source file d u of_source is

  pub laws : IsFaultless file → HasFileLaws source d
  laws faultless = record {
    located = located;
    sorted = sorted;
    oneofs = oneofs faultless;
    named = named;
    placed = in_places;
    commented_once = commented_once;
  }

-- What is read from the options of linked files.
use Rattle.std.specs.Prelude.{◌≡◌, ℕ, ◌+◌, List, [], ◌∷◌, All}
use Rattle.protox_descriptor.specs.declared.descriptor.FileDescriptorProto.{FileDescriptorProto}
use Rattle.protox_encode_linked.specs.Setting.{set_at}
use Rattle.protox_file_options.specs.Outcomes.{IsSite}
use Rattle.protox_file_options.specs.Places.{Place, key_of, places_of}
use Rattle.protox_file_options.specs.declared.answer.InterpretedFile.{InterpretedFile}
use Rattle.protox_interpret.specs.declared.site.Site.{Site}
use Rattle.protox_reading.specs.Statements.{IsReadBack}
use Rattle.protox_set_options.specs.Read.{IsViewOf}
use Rattle.protox_views.specs.declared.view.View.{View}

-- In these bytes is found what the statements at the place say, and nothing else.
pub record IsPlaceReadBack (view : View) (files : List FileDescriptorProto) (place : Place) (bytes : List ℕ) : Type 0 where
  pub here : Site
  pub site : IsSite view files place here
  pub read : IsReadBack here place.statements bytes

-- Where nothing is wrong with the options of the file with this number, the bytes that stand at the
-- path of each place are read back.
abbrev pub IsFileReadBack : List FileDescriptorProto → ℕ → FileDescriptorProto → InterpretedFile → Type 0
IsFileReadBack files number file answer =
    answer.faults.items ≡ []
    → (view : View) × IsViewOf files number view × All (λ place. IsPlaceReadBack view files place (set_at answer.options (key_of place))) (places_of file)

-- So it is for these files, of which the first has this number.
abbrev pub AreReadBackFrom : List FileDescriptorProto → ℕ → List FileDescriptorProto → List InterpretedFile → Type 0
AreReadBackFrom files number [] [] = Unit {0}
AreReadBackFrom files number [] (answer ∷ answers) = ⊥
AreReadBackFrom files number (file ∷ more) [] = ⊥
AreReadBackFrom files number (file ∷ more) (answer ∷ answers) =
    IsFileReadBack files number file answer × AreReadBackFrom files (number + 1) more answers

abbrev pub AreReadBack : List FileDescriptorProto → List InterpretedFile → Type 0
AreReadBack files answers = AreReadBackFrom files 0 files answers

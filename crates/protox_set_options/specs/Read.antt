-- What is answered of the options of linked files.
use Rattle.std.specs.Prelude.{◌≡◌, ℕ, ◌+◌, List, [], ◌∷◌}
use Rattle.protox_descriptor.specs.declared.descriptor.FileDescriptorProto.{FileDescriptorProto}
use Rattle.protox_file_options.specs.Interpreted.{IsInterpreted}
use Rattle.protox_file_options.specs.declared.answer.InterpretedFile.{InterpretedFile}
use Rattle.protox_link.specs.Resolver.{IsOfFile}
use Rattle.protox_link.specs.declared.resolver.FileNames.{FileNames}
use Rattle.protox_views.specs.FilesOf.{seen_packages}
use Rattle.protox_views.specs.declared.view.View.{View}

-- The view is of what the file with this number sees of the files.
pub record IsViewOf (files : List FileDescriptorProto) (number : ℕ) (view : View) : Type 0 where
  pub names : FileNames
  pub of_file : IsOfFile files number names
  pub table : view.symbols.now ≡ names.symbols.now
  pub sees : view.sees.now ≡ names.sees
  pub packages : view.packages ≡ seen_packages names.sees names.packages.now

-- The statements of the file with this number are interpreted by what it sees.
abbrev pub IsInterpretedIn : List FileDescriptorProto → ℕ → FileDescriptorProto → InterpretedFile → Type 0
IsInterpretedIn files number file answer = (view : View) × IsViewOf files number view × IsInterpreted view files file answer

-- So are those of these files, of which the first has this number.
abbrev pub AreFrom : List FileDescriptorProto → ℕ → List FileDescriptorProto → List InterpretedFile → Type 0
AreFrom files number [] [] = Unit {0}
AreFrom files number [] (answer ∷ answers) = ⊥
AreFrom files number (file ∷ more) [] = ⊥
AreFrom files number (file ∷ more) (answer ∷ answers) =
    IsInterpretedIn files number file answer × AreFrom files (number + 1) more answers

abbrev pub AreInterpreted : List FileDescriptorProto → List InterpretedFile → Type 0
AreInterpreted files answers = AreFrom files 0 files answers

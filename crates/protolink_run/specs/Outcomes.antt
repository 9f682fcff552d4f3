-- What was done where all is well, and words that are plain.
use Rattle.std.specs.Prelude.{◌≢◌, ℕ, List, [], All, slice_index, string_bytes}
use Rattle.std.specs.declared.alloc.Global.{Global}
use Rattle.std.specs.declared.string.String.{String}
use Rattle.protox_descriptor.specs.declared.descriptor.FileDescriptorProto.{FileDescriptorProto}
use Rattle.protox_link.specs.Link.{NothingIsWrong}
use Rattle.protox_parse.specs.Files.{IsTranslation}

-- The word is a file's name: it isn't empty, and begins neither with a hyphen nor with `@`.
pub record IsPlainWord (word : String Global) : Type 0 where
  pub some : string_bytes word ≢ []
  pub no_option : slice_index (string_bytes word) 0 ≢ 45
  pub no_list : slice_index (string_bytes word) 0 ≢ 64

-- `holds` tells which text a host may hold under a path.
module _ {H : Type 0} (holds : H → List ℕ → List ℕ → Type 0) (host : H) where
  -- A file of this name was read: it is the translation of a text that the host holds.
  pub record IsRead (name : List ℕ) (file : FileDescriptorProto) : Type 0 where
    pub path : List ℕ
    pub text : List ℕ
    pub held : holds host path text
    pub translated : IsTranslation name text file

  -- the same, of some name
  abbrev pub IsReadFile : FileDescriptorProto → Type 0
  IsReadFile file = (name : List ℕ) × IsRead name file

  -- Files were read, at least one, in which nothing is wrong. So all that they import is among them,
  -- and they don't import one another in a circle.
  pub record AreRight : Type 0 where
    pub files : List FileDescriptorProto
    pub some : files ≢ []
    pub read : All IsReadFile files
    pub right : NothingIsWrong files

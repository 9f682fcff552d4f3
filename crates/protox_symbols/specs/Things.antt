-- What is declared in a list of files, by full names, and where.
use Rattle.std.specs.Prelude.{ℕ, ◌+◌, List, [], ◌∷◌, ◌++◌, fold, map, reverse}
use Rattle.protox_descriptor.specs.declared.descriptor.FileDescriptorProto.{FileDescriptorProto}
use Rattle.protox_names.specs.Names.{scopes}
use Rattle.protox_scopes.specs.declared.kind.Kind.{Kind}
use Rattle.protox_scopes.specs.declared.kind.Kind.TheVariants as kind
use Rattle.protox_walk.specs.Declarations.{file_declarations, text_of}
use Rattle.protox_walk.specs.Parts.{Declared, Described, Message, Field, Oneof, Enum, Value, Service, Method}
use Rattle.protox_symbols.specs.Symbols.{Table, with_thing}
use Rattle.protox_symbols.specs.declared.thing.Thing.{Thing}

-- A full name, and what is declared with it.
pub record Entry : Type 0 where
  pub full_name : List ℕ
  pub kind : Kind
  pub thing : Thing

-- what a declaration is to one that names it
abbrev pub kind_of : Described → Kind
kind_of (Message message) = kind.Message
kind_of (Field field) = kind.Member
kind_of (Oneof oneof) = kind.Member
kind_of (Enum enum) = kind.Enum
kind_of (Value value) = kind.Member
kind_of (Service service) = kind.Service
kind_of (Method method) = kind.Member

-- a declaration of the file with a number
abbrev pub entry_of : ℕ → Declared → Entry
entry_of file d = record {
  full_name = d.full_name;
  kind = kind_of d.part;
  thing = record { file = file; path = d.path };
}

-- ---- packages

-- The package and the packages around it, from the outside in. Of `a.b.c` these are `a`, `a.b` and
-- `a.b.c`. The nameless package is none.
abbrev pub packages : List ℕ → List (List ℕ)
packages [] = []
packages (byte ∷ rest) = reverse ((byte ∷ rest) ∷ scopes (byte ∷ rest))

-- a package with this full name, as the file with a number has it
abbrev pub package_entry : ℕ → List ℕ → Entry
package_entry file name = record {
  full_name = name;
  kind = kind.Package;
  thing = record { file = file; path = [] };
}

abbrev pub package_entries : ℕ → List ℕ → List Entry
package_entries file name = map (package_entry file) (packages name)

-- ---- files

-- all of the file with a number: its packages first, and then its declarations
abbrev pub file_entries : ℕ → FileDescriptorProto → List Entry
file_entries number file =
    package_entries number (text_of file.«package») ++ map (entry_of number) (file_declarations file)

-- all of the files, of which the first has the number n
abbrev pub entries_from : ℕ → List FileDescriptorProto → List Entry
entries_from n [] = []
entries_from n (file ∷ more) = file_entries n file ++ entries_from (n + 1) more

-- all of a list of files, file by file
abbrev pub entries : List FileDescriptorProto → List Entry
entries files = entries_from 0 files

-- ---- their table

abbrev pub with_entry : Table → Entry → Table
with_entry table entry = with_thing table entry.full_name entry.kind entry.thing

-- a table of nothing
abbrev pub no_things : Table
no_things = record { names = record { full_names = []; kinds = [] }; things = [] }

-- The table of a list of files: entry by entry, the full names that can stand in it. So of two with
-- one full name the first stays, and nothing stands in a scope that doesn't.
abbrev pub table_of : List FileDescriptorProto → Table
table_of files = fold with_entry no_things (entries files)

-- All that is wrong with a file of a set, as far as names go.
use Rattle.std.specs.Prelude.{ℕ, Bool, List, ◌++◌, Option}
use Rattle.protox_descriptor.specs.declared.descriptor.FileDescriptorProto.{FileDescriptorProto}
use Rattle.protox_link_checks.specs.Faults.{all_declared_faults}
use Rattle.protox_link_checks.specs.Imports.{import_faults, package_faults}
use Rattle.protox_link_checks.specs.Proto3.{proto3_faults}
use Rattle.protox_link_fault.specs.declared.LinkFault.{LinkFault}
use Rattle.protox_symbols.specs.Symbols.{Table}
use Rattle.protox_walk.specs.Declarations.{text_of}

-- First its imports, then its package, then what it declares, and then what is wrong in proto3 alone.
-- `imports` has the file that each import names; `sees` and `packages` tell what the file sees of the
-- table.
abbrev pub file_faults : Table → List Bool → List Bool → ℕ → List (Option ℕ) → FileDescriptorProto → List LinkFault
file_faults table sees packages number imports file =
    import_faults number imports
    ++ (package_faults table number (text_of file.«package»)
    ++ (all_declared_faults table sees packages number file ++ proto3_faults number file))

-- What holds of what is told, whatever the files are.
use Rattle.std.specs.Prelude.{◌≢◌, ◌⊎◌, Bool, List, []}
use Rattle.protox_descriptor.specs.declared.descriptor.FileDescriptorProto.{FileDescriptorProto}
use Rattle.protox_link.specs.Link.{IsOfCircle}
use Rattle.protox_link.specs.Wrong.{WrongLink}
use Rattle.protox_link_fault.specs.declared.LinkFault.{LinkFault}
use Rattle.protox_link_text.specs.Told.{errors_of}
use Rattle.protox_symbols.specs.Things.{table_of}

-- Something is told of each fault of files, and of each circle of imports, whatever the file sees.
abbrev pub EachIsTold : Type 0
EachIsTold = (files : List FileDescriptorProto) (fault : LinkFault) (sees packages : List Bool)
    → WrongLink files fault ⊎ IsOfCircle files fault → errors_of files (table_of files) sees packages fault ≢ []

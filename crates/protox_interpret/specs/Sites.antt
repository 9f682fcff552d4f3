-- What is read at a place where statements stand.
use Rattle.std.specs.Prelude.{ℕ, List, Result}
use Rattle.protox_descriptor.specs.declared.descriptor.uninterpreted_option.NamePart.{NamePart}
use Rattle.protox_interpret.specs.declared.site.Site.{Site}
use Rattle.protox_name_tree.specs.Tree.{name_at}
use Rattle.protox_names.specs.Tree.{name_of_place}
use Rattle.protox_settings.specs.Names.{fields_of}
use Rattle.protox_settings.specs.declared.fault.NameFault.{NameFault}
use Rattle.protox_symbols.specs.Symbols.{Table}

-- the table of what the files declare
abbrev pub table : Site → Table
table here = here.view.now.symbols.now

-- the full name of the scope in which what has the options stands
abbrev pub scope : Site → List ℕ
scope here = name_of_place (name_at (table here).names) here.scope

-- the fields that a name goes through, by their numbers in the table
abbrev pub named : Site → List NamePart → Result (List ℕ) NameFault
named here name = fields_of here.files.now (table here) here.view.now.sees.now here.view.now.packages (scope here) here.message name

use Rattle.std.proofs.Common.{◌≡◌, fold, length}
use denote.Text.{Utf8}
use denote.Shadow.{shadow}
use Rattle.protox_names.specs.Names.{within}
use Rattle.protox_symbols.specs.Scopes.{scope_name}
use Rattle.protox_symbols.specs.Things.{package_entries, with_entry}
use Rattle.protox_symbols.proofs.Packages.{left}
use Rattle.protox_symbols.proofs.symbols.Symbols.declare_package.Given as goal

-- the rest of the name, in the scope so far, is the whole name, and what is left completes all
abbrev pub invariant-loop-part : goal.invariant-loop-part
invariant-loop-part l = record {
  text : shadow (Utf8 l.rest);
  whole : within (scope_name l.self l.scope) l.rest ≡ l.name;
  completes : fold with_entry l.self (left l.file (scope_name l.self l.scope) l.rest) ≡ fold with_entry l.fn.self (package_entries l.file l.name);
}

abbrev pub decreases-loop-part : goal.decreases-loop-part
decreases-loop-part l = length l.rest

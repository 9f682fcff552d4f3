-- Each part of a name, and each string, takes a row.
use Rattle.std.proofs.Common.{[], None, refl}
use Rattle.protox_ast.specs.Spelling as s
use Rattle.protox_ast.specs.Places.{Place}
use Rattle.protox_grammar.specs.Reader.{Consumes}
use Rattle.protox_grammar.proofs.Lemmas.{mark-laws, seq-laws, shows-eats}
use Rattle.protox_grammar.proofs.Lemmas as parts
use Rattle.protox_rows.specs.inner.Names as names
pub use Rattle.protox_rows.specs.inner.Names.{name_and_span}
use Rattle.protox_rows.specs.inner.Strings as runs
pub use Rattle.protox_rows.specs.inner.Strings.{joined}

-- some place
abbrev pub here : Place
here = record { span = record { start = 0; end = 0 }; detached = []; leading = None; trailing = None }

pub more_part-eats : Consumes (names.more_part).code
more_part-eats = shows-eats (seq-laws (mark-laws here s.dot) (parts.ident-laws here) refl) (names.more_part).shows

pub string-eats : Consumes (runs.string).code
string-eats = shows-eats (parts.string-laws here) (runs.string).shows

-- Each part of a list, or between braces, takes a row.
use Rattle.std.proofs.Common.{refl}
use Rattle.protox_ast.specs.Spelling as s
use Rattle.protox_grammar.specs.Reader.{Consumes}
use Rattle.protox_grammar.proofs.Lemmas as grammar
use Rattle.protox_grammar.proofs.Lemmas.{mark-laws, seq-laws, shows-eats}
use Rattle.protox_declarations.specs.inner.Options.{here}
use Rattle.protox_declarations.specs.inner.Enums.{enum_element}
use Rattle.protox_declarations.specs.inner.Ranges.{more_range, more_name}
use Rattle.protox_declarations.specs.inner.Services.{rpc_element, service_element}

pub more_range-eats : Consumes (more_range).code
more_range-eats = shows-eats (seq-laws (mark-laws here s.comma) (grammar.range-laws here) refl) (more_range).shows

pub more_name-eats : Consumes (more_name).code
more_name-eats = shows-eats (seq-laws (mark-laws here s.comma) (grammar.name-laws here) refl) (more_name).shows

pub enum_element-eats : Consumes (enum_element).code
enum_element-eats = shows-eats (grammar.enum_element-laws here) (enum_element).shows

pub rpc_element-eats : Consumes (rpc_element).code
rpc_element-eats = shows-eats (grammar.rpc_element-laws here) (rpc_element).shows

pub service_element-eats : Consumes (service_element).code
service_element-eats = shows-eats (grammar.service_element-laws here) (service_element).shows

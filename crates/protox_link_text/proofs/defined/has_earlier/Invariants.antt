use Rattle.std.proofs.Common.{◌≡◌, bytes_eq, drop}
use Rattle.std.specs.List.{list_any}
use Rattle.protox_link_text.specs.Places.{text_of}
use Rattle.protox_link_text.specs.Told.{before}
use Rattle.protox_link_text.proofs.defined.has_earlier.Given as goal

abbrev pub invariant-loop-value : goal.invariant-loop-value
invariant-loop-value l = list_any (λ value. bytes_eq (text_of value.name) l.name) (drop l.value-index (before l.fn.values l.fn.index)) ≡ list_any (λ value. bytes_eq (text_of value.name) l.name) (before l.fn.values l.fn.index)

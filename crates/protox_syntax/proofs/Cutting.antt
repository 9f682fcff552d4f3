-- Parts that are cut from a source.
use Rattle.std.proofs.Common.{ℕ, List, Bool, drop, length, leb, leb-true}
use Rattle.protox_lexeme.specs.Lexemes.{cut}
use Rattle.protox_lexeme.specs.Table.{Table}
use Rattle.protox_lex.proofs.Lemmas.{none_at_end}
use Rattle.protox_lex.specs.Parts.{IsPart}
use Rattle.protox_syntax.specs.inner.Parts.{IsPartOf}

pub part-of : (source : List ℕ) (from : ℕ) (table : Table) (end : ℕ) (begins : Bool) → IsPart source from table end → IsPartOf (cut from (drop from source)) (record { table = table; begins = begins; ends = leb (length source) end })
part-of source from table end begins p = record {
  inside = p.lexemes;
  behind = cut end (drop end source);
  split = p.ends;
  table_is = p.is;
  ended_here = λ e. none_at_end source end (leb-true (length source) end e);
}

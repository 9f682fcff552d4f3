-- The laws of a rule that anything may follow.
use Rattle.std.proofs.Common.{Bool}
use Rattle.protox_grammar.specs.Reader.{Refusal, Unexpected, Deep}
use Rattle.protox_grammar.specs.Class.{Set, none}
use Rattle.protox_grammar.specs.Rule.{Rule}
use Rattle.protox_grammar.proofs.Laws.{IsSpelled}
use Rattle.protox_grammar.proofs.Reading.{Concerns, IsRead}
use Rattle.protox_grammar.proofs.Tracing.{IsTraced, viable-of}
use Rattle.protox_grammar.proofs.Forms.{Lawful, stops-none}

pub sealed-spelled : {M A : Type 0} {r : Rule M A} {e : Bool} {f : Set} → IsSpelled r e f none → IsSpelled (record { spell = r.spell; may = r.may; fits = r.fits; ends = λ t z. r.may t; read = r.read; steps = r.steps; trace = r.trace }) e f none
sealed-spelled l = record {
  starts = λ t z h. l.starts t z (l.follow t z h (stops-none z));
  follow = λ t z m s. m;
  ahead = λ t s y z h. h;
  once = λ t u y z p q h. l.once t u y z (l.follow t y p (stops-none y)) (l.follow u z q (stops-none z)) h;
}

pub sealed-traced : {M A : Type 0} {r : Rule M A} {e : Bool} {f : Set} → Lawful r e f none → IsTraced (record { spell = r.spell; may = r.may; fits = r.fits; ends = λ t z. r.may t; read = r.read; steps = r.steps; trace = r.trace })
sealed-traced l = record {
  rows = l.traced.rows;
  quiet = l.traced.quiet;
  placed = λ t z h. l.traced.placed t z (l.spelled.follow t z h (stops-none z));
  ok = l.traced.ok;
  halts = λ xs e h. let v = l.traced.halts xs e h in record { rest = v.rest; parts = v.parts; left_is = v.left_is; placed = v.placed; tree = v.tree; tree_may = v.tree_may; later = v.later; goes_on = v.goes_on; deep = v.deep };
  stops = l.traced.stops;
  agrees = λ front rest t z more h q alike. l.traced.agrees front rest t z more (l.spelled.follow t z h (stops-none z)) q alike;
}

pub sealed-read : {M A : Type 0} {r : Rule M A} {e : Bool} {f : Set} → Lawful r e f none → IsRead (record { spell = r.spell; may = r.may; fits = r.fits; ends = λ t z. r.may t; read = r.read; steps = r.steps; trace = r.trace })
sealed-read {M} {A} {r = r} l = record {
  some = l.read.some;
  some_may = l.read.some_may;
  within = l.read.within;
  takes = λ xs x h. let k = l.read.takes xs x h in record { parts = k.parts; fits = k.fits; ends = l.read.within x.0 k.fits };
  again = λ t z h k. l.read.again t z h (l.spelled.follow t z k (stops-none z));
  viable = viable-of (record { spell = r.spell; may = r.may; fits = r.fits; ends = λ t z. r.may t; read = r.read; steps = r.steps; trace = r.trace }) (sealed-traced l);
  tight = λ d front s rest n h t z more c k j. l.read.tight d front s rest n h t z more (sealed-concerned d t c) (l.spelled.follow t z k (stops-none z)) j;
  short = λ xs h t z k j. l.read.short xs h t z (l.spelled.follow t z k (stops-none z)) j;
}
  where
    sealed-concerned : (d : Refusal) (t : A) → Concerns (record { spell = r.spell; may = r.may; fits = r.fits; ends = λ t z. r.may t; read = r.read; steps = r.steps; trace = r.trace }) d t → Concerns r d t
    sealed-concerned (Unexpected n) t c = tt
    sealed-concerned (Deep n) t c = c

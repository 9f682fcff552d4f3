use Rattle.std.proofs.Common.{◌≤◌, ℕ, arith, drop, leb, length, sym, subst}
use Rattle.std.proofs.lemmas.Bool.{le-leb}
use Rattle.std.proofs.lemmas.Str.{IsCharBoundary-from_drop}
use Rattle.std.specs.Option.{is_none}
use Rattle.std.specs.Str.{IsCharBoundary}
use Rattle.protox_lexeme.specs.Lexemes.{cut}
use Rattle.protox_syntax.specs.inner.Parts.{IsPartOf, lexemes_from}
use Rattle.protox_syntax.proofs.Cutting.{part-of}
use Rattle.protox_syntax.proofs.parts.cut_part.Goals as goal
use Rattle.protox_syntax.proofs.parts.cut_part.Goals.{in-Some, in-None}

pub part_or_rest-requires-clause-boundary : goal.part_or_rest-requires-clause-boundary
part_or_rest-requires-clause-boundary c =
    let source = c.args.source.now in
    elim c.match-progress.branch [
      | in-Some w ↦ subst (λ (from : ℕ). IsCharBoundary source from) (sym w.from-is) (c.requires w.in-Some.last w.in-Some.is)
      | in-None w ↦ subst (λ (from : ℕ). IsCharBoundary source from) (sym w.from-is) (IsCharBoundary-from_drop source 0 (omega arith) c.utf8.source)
    ]

pub returns-clause-part : goal.returns-clause-part
returns-clause-part c =
    let source = c.args.source.now in
    let part = part-of source c.match-progress.from c.in_ok-table.table c.in_ok-table.end c.is_none.result c.in_ok-table.ensures.part in
    let at = λ (from : ℕ) (o : _). IsPartOf (lexemes_from source o) (record { table = c.in_ok-table.table; begins = c.is_none.result; ends = leb (length source) c.in_ok-table.end }) in
    elim c.match-progress.branch [
      | in-Some w ↦ subst (at 0) (sym w.in-Some.is) (subst (λ (from : ℕ). IsPartOf (cut from (drop from source)) (record { table = c.in_ok-table.table; begins = c.is_none.result; ends = leb (length source) c.in_ok-table.end })) w.from-is part)
      | in-None w ↦ subst (at 0) (sym w.in-None.is) (subst (λ (from : ℕ). IsPartOf (cut from (drop from source)) (record { table = c.in_ok-table.table; begins = c.is_none.result; ends = leb (length source) c.in_ok-table.end })) w.from-is part)
    ]

pub part_or_rest-requires-clause-order : goal.part_or_rest-requires-clause-order
part_or_rest-requires-clause-order c =
    let source = c.args.source.now in
    let within : c.match-progress.from ≤ length source = elim c.match-progress.branch [
      | in-Some w ↦ let at = (c.requires w.in-Some.last w.in-Some.is).0 in omega (arith, w.from-is, at)
      | in-None w ↦ omega (arith, w.from-is)
    ] in
    omega (arith, within, c.max.ensures, c.min-until.ensures)

pub returns-clause-ends : goal.returns-clause-ends
returns-clause-ends c whole =
    le-leb (length c.args.source.now) c.in_ok-table.end
    (omega (arith, whole, c.max.ensures, c.min-until.ensures, c.in_ok-table.ensures.past))

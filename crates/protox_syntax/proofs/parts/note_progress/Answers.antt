use Rattle.std.proofs.Common.{◌≡◌, ◌++◌, inl, inr, None, Some, sym, ap, subst, ◌∙◌}
use Rattle.protox_fault.specs.Faults.{Span}
use Rattle.protox_syntax.specs.declared.parts.Progress.{Progress}
use Rattle.protox_syntax.specs.inner.Parts.{IsLast, IsNoted, IsOpen}
use Rattle.protox_syntax.proofs.Noting.{left-count, none-read, noted-none, noted-some, start-is, table-at}
use Rattle.protox_syntax.proofs.parts.note_progress.Goals as goal
use Rattle.protox_syntax.proofs.parts.note_progress.Goals.{then-part, else-part}

pub returns-in_default-clause-noted : goal.returns-in_default-clause-noted
returns-in_default-clause-noted c source gone head i opens = by i.last
  where
    by : IsLast c.args.part.now.begins i.first i.read i.f → IsNoted source i.first (i.outside ++ i.read) i.f c.args.progress.now
    by (inl n) = noted-none source c.args.part.now c.args.rows.now gone head i c.args.progress.now opens n.0
    by (inr n) =
        let is = c.last_read.ensures.some n.1 n.2 i.left n.4 (table-at source c.args.part.now c.args.rows.now gone head i n.1 n.2 n.3) (left-count source c.args.part.now c.args.rows.now gone head i) in
        absurd (c.in_default.not-Some _ is)

pub returns-clause-noted : goal.returns-clause-noted
returns-clause-noted c source gone head i opens = by i.last
  where
    by : IsLast c.args.part.now.begins i.first i.read i.f → IsNoted source i.first (i.outside ++ i.read) i.f (record { start = c.if-part.progress.start; last = Some c.in-Some.last })
    by (inl n) =
        let clash : None ≡ Some c.in-Some.last = sym (c.last_read.ensures.none (none-read source c.args.part.now c.args.rows.now gone head i n.0)) ∙ c.in-Some.is in
        absurd cc
    by (inr n) =
        let is = c.last_read.ensures.some n.1 n.2 i.left n.4 (table-at source c.args.part.now c.args.rows.now gone head i n.1 n.2 n.3) (left-count source c.args.part.now c.args.rows.now gone head i) in
        noted-some source c.args.part.now c.args.rows.now gone head i (record { start = c.if-part.progress.start; last = Some c.in-Some.last }) n.1 n.2 n.0 n.3 n.4 (sym c.in-Some.is ∙ is)
        (elim c.if-part.branch [
          | then-part w ↦ ap (λ (p : Progress). p.start) w.progress-is ∙ ap (λ (v : Span). v.start) w.span_in.ensures ∙ start-is source c.args.part.now c.args.rows.now gone head i n.1 n.2 w.if-part.true n.3 n.4
          | else-part w ↦ ap (λ (p : Progress). p.start) w.progress-is ∙ subst (λ b. IsOpen source b c.args.progress.now) w.if-part.false opens
        ])

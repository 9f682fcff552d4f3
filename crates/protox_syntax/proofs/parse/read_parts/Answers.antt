use Rattle.std.proofs.Common.{◌++◌, [], List, None, length, true, false, arith, refl, sym, ap, subst}
use Rattle.std.specs.List.{FoldsTo}
use Rattle.protox_ast.specs.declared.ast.File.{File}
use Rattle.protox_ast.specs.declared.ast.FileItem.{FileItem}
use Rattle.protox_syntax.proofs.Answering.{between-handed, between-none, read-into, taken-more}
use Rattle.protox_syntax.proofs.Standing.{last-within}
use Rattle.protox_syntax.specs.inner.Parts.{IsBetween, IsTurned}
use Rattle.protox_syntax.specs.inner.ReadInto.{IsReadInto}
use Rattle.protox_syntax.proofs.parse.read_parts.Goals as goal

pub parts-init : goal.parts-init
parts-init g c = record {
  gone = [];
  between = subst (λ (h : File). IsBetween c.args.source.now (record { start = length c.args.source.now; last = None }) [] h) (sym c.no_file-head.ensures) (between-none c.args.source.now);
  taken = refl;
}

pub parts-preserved : goal.parts-preserved
parts-preserved g c =
    let source = c.args.source.now in
    let i = c.parts.invariant in
    let turned = c.in_ok-ends.ensures.turned i.gone i.between in
    let between = subst (λ b. IsTurned source i.gone b c.read_part.new.progress c.read_part.new.head) c.if-ends.false turned in
    let takes = g.T.TakesItems.takes in
    let handed = c.in_ok-hand_over.ensures in
    record {
      gone = i.gone ++ c.read_part.new.head.items;
      between = subst (λ (h : File). IsBetween source c.read_part.new.progress (i.gone ++ c.read_part.new.head.items) h) (sym handed.head) (between-handed source c.read_part.new.progress i.gone c.read_part.new.head between);
      taken = subst (λ (h : File). FoldsTo (takes h.syntax) c.args.to.now (i.gone ++ c.read_part.new.head.items) c.hand_over.new.to) (sym handed.head)
          (taken-more takes source c.parts.progress i.gone c.parts.head c.read_part.new.head c.args.to.now c.parts.to c.hand_over.new.to i.between c.in_ok-ends.ensures.syntax i.taken handed.taken);
    }

pub parts-smaller : goal.parts-smaller
parts-smaller g c =
    let source = c.args.source.now in
    let i = c.parts.invariant in
    let turned = c.in_ok-ends.ensures.turned i.gone i.between in
    let between = subst (λ b. IsTurned source i.gone b c.read_part.new.progress c.read_part.new.head) c.if-ends.false turned in
    let within = last-within source c.utf8.source c.read_part.new.progress i.gone c.read_part.new.head between in
    omega (arith, within, c.in_ok-ends.ensures.further c.if-ends.false)

pub returns-then-ends-clause-read : goal.returns-then-ends-clause-read
returns-then-ends-clause-read g c =
    let source = c.args.source.now in
    let i = c.parts.invariant in
    let turned = c.in_ok-ends.ensures.turned i.gone i.between in
    let all = subst (λ b. IsTurned source i.gone b c.read_part.new.progress c.read_part.new.head) c.if-ends.true turned in
    let takes = g.T.TakesItems.takes in
    let handed = c.in_ok-hand_over.ensures in
    subst (λ (xs : List FileItem). IsReadInto takes source (record c.hand_over.new.head { items = xs }) c.args.to.now c.hand_over.new.to) (sym c.new.ensures)
    (subst (λ (h : File). IsReadInto takes source h c.args.to.now c.hand_over.new.to) (sym (ap (λ (h : File). record h { items = [] }) handed.head))
    (read-into takes source i.gone c.read_part.new.head c.args.to.now c.hand_over.new.to all
    (taken-more takes source c.parts.progress i.gone c.parts.head c.read_part.new.head c.args.to.now c.parts.to c.hand_over.new.to i.between c.in_ok-ends.ensures.syntax i.taken handed.taken)))

pub read_part-requires-clause-between : goal.read_part-requires-clause-between
read_part-requires-clause-between g c = (c.parts.invariant.gone, c.parts.invariant.between)

use Rattle.std.proofs.Common.{◌<◌, ◌≤◌, ◌+◌, ◌++◌, ◌∷◌, [], length, drop, ap, sym, refl, ◌∙◌, subst, inl, inr, append-nil, append_assoc, arith}
use Rattle.std.proofs.lemmas.Bool.{eqb-true, eqb-false}
use Rattle.std.proofs.lemmas.List.Elements.{All-nil, All-push}
use Rattle.std.proofs.lemmas.Str.{IsCharBoundary-end}
use Rattle.std.specs.List.{All}
use Rattle.protox_lexeme.specs.Lexemes as spec
use Rattle.protox_lex.specs.TableView.{finished}
use Rattle.protox_lexeme.proofs.Lemmas.{cut_none, step_boundary, step_cut}
use Rattle.protox_lex.proofs.Tables.{all_but_more, end_of_more, ends_with}
use Rattle.protox_lex.proofs.table_draft.draft.Goals as goal

pub lexemes-init : goal.lexemes-init
lexemes-init c = record {
  boundary = c.requires.boundary;
  lexemes = [];
  whole = λ rest. refl;
  ends = refl;
  stopped = All-nil (λ x. x.stop ≤ c.args.from);
  before = All-nil (λ x. x.stop < c.args.until);
  stops = refl;
}

pub lexemes-preserved : goal.lexemes-preserved
lexemes-preserved c =
    let s = c.skip_blanks-blanks.ensures in
    let rest = c.range_from.result.now in
    let text = c.skip_blanks-blanks.result.1.now in
    let n = c.skip_blanks-blanks.result.0 in
    let at = c.lexemes.at in
    let source = c.args.source.now in
    let start = at + n in
    let stop = c.in_ok-at.at in
    let nonempty = eqb-false (length text) 0 (sym c.is_empty.ensures ∙ c.if-is_empty.false) in
    let some_text : 0 < length text = omega arith in
    let read = c.in_ok-at.ensures in
    let i = c.lexemes.invariant in
    let x = spec.first_lexeme start text in
    let turn = step_cut source rest text at n start stop c.range_from.ensures.value s.len s.rest some_text refl read.stop in
    record {
      boundary = step_boundary source rest text at n start stop i.boundary.0 c.range_from.ensures.value (omega (arith, s.lens)) (s.rest ∙ ap (λ k. drop k rest) (sym s.len)) refl read.within.0 read.boundary;
      lexemes = i.lexemes ++ x ∷ [];
      whole = λ more. read.value more ∙ i.whole (x ∷ more) ∙ ap (finished c.args.begun) (sym (append_assoc i.lexemes (x ∷ []) more));
      ends = i.ends ∙ ap (λ xs. i.lexemes ++ xs) turn ∙ sym (append_assoc i.lexemes (x ∷ []) (spec.cut stop (drop stop source)));
      stopped = All-push (λ y. y.stop ≤ stop) i.lexemes x (λ k d h. let earlier = i.stopped k d h in omega (arith, earlier, read.within.0)) (omega (arith, read.stop));
      before = subst (All (λ y. y.stop < c.args.until)) (sym (all_but_more i.lexemes x)) (λ k d h. let earlier = i.stopped k d h in omega (arith, earlier, c.lexemes-test));
      stops = read.stop ∙ sym (end_of_more c.args.from i.lexemes x);
    }

pub returns-then-is_empty-clause-table : goal.returns-then-is_empty-clause-table
returns-then-is_empty-clause-table c =
    let at = c.lexemes.at in
    let source = c.args.source.now in
    let i = c.lexemes.invariant in
    let s = c.skip_blanks-blanks.ensures in
    let nothing = eqb-true (length c.skip_blanks-blanks.result.1.now) 0 (sym c.is_empty.ensures ∙ c.if-is_empty.true) in
    let none = ap (spec.cut at) (sym c.range_from.ensures.value) ∙ cut_none at c.range_from.result.now (omega (arith, s.len, s.lens)) in (
      i.lexemes,
      i.whole,
      record {
        ends = ends_with source c.args.from at i.lexemes i.ends none;
        stopped = λ k d h. let earlier = i.stopped k d h in omega (arith, earlier, i.boundary.0);
        before = i.before;
        stops = inr (refl, i.ends ∙ ap (λ ys. i.lexemes ++ ys) none ∙ append-nil i.lexemes);
      },
    )

pub returns-then-is_empty-clause-boundary : goal.returns-then-is_empty-clause-boundary
returns-then-is_empty-clause-boundary c = IsCharBoundary-end c.args.source.now

pub returns-clause-table : goal.returns-clause-table
returns-clause-table c =
    let i = c.lexemes.invariant in
    (i.lexemes, i.whole, record { ends = i.ends; stopped = i.stopped; before = i.before; stops = inl i.stops })

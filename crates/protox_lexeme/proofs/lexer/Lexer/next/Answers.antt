use Rattle.std.proofs.Common.{◌≡◌, ◌+◌, ◌++◌, drop, length, ap, sym, ◌∙◌, refl, ◌<◌, arith}
use Rattle.protox_lexeme.specs.Lexemes as spec
use Rattle.protox_fault.specs.Faults.{faults_in}
use Rattle.std.proofs.lemmas.Bool.{eqb-true, eqb-false}
use Rattle.protox_lexeme.specs.State.{State}
use Rattle.protox_lexeme.proofs.Cut.{cut_none, first_start}
use Rattle.protox_lexeme.proofs.Step.{step_boundary, step_cut, answers, takes_none}
use Rattle.protox_lexeme.proofs.lexer.Lexer.next.Goals as goal

pub returns-then-is_empty-clause-ok : goal.returns-then-is_empty-clause-ok
returns-then-is_empty-clause-ok c =
    let s = c.skip_blanks-blanks.ensures in
    let text = c.skip_blanks-blanks.result.1.now in
    let nothing : length text ≡ 0 = eqb-true (length text) 0 (sym c.is_empty.ensures ∙ c.if-is_empty.true) in
    (ap (λ v. v.left) (sym c.self.view_is) ∙ ap (spec.cut c.self.inside.at) (sym c.range_from.ensures.value) ∙ cut_none c.self.inside.at c.range_from.result.now (omega (arith, s.len, s.lens)), refl)

pub invariant_of-self : goal.invariant_of-self
invariant_of-self c =
    let s = c.skip_blanks-blanks.ensures in
    let rest = c.range_from.result.now in
    step_boundary c.self.inside.source.now rest c.skip_blanks-blanks.result.1.now c.self.inside.at c.skip_blanks-blanks.result.0 (c.self.inside.at + c.skip_blanks-blanks.result.0) c.in-Ok.stop
    c.self.invariant.0 c.range_from.ensures.value (omega (arith, s.lens)) (s.rest ∙ ap (λ k. drop k rest) (sym s.len)) refl c.in-Ok.ensures.within.0 c.in-Ok.ensures.boundary

pub returns-in-Ok-clause-ok : goal.returns-in-Ok-clause-ok
returns-in-Ok-clause-ok c =
    let s = c.skip_blanks-blanks.ensures in
    let rest = c.range_from.result.now in
    let text = c.skip_blanks-blanks.result.1.now in
    let inside = c.self.inside in
    let v = c.in-Ok.ensures.value in
    let start = inside.at + c.skip_blanks-blanks.result.0 in
    let x = spec.first_lexeme start text in
    let nonempty = eqb-false (length text) 0 (sym c.is_empty.ensures ∙ c.if-is_empty.false) in
    let some_text : 0 < length text = omega arith in
    let old = c.args.self.now in
    let new : State = record {
      source = inside.source.now;
      left = spec.cut c.in-Ok.stop (drop c.in-Ok.stop inside.source.now);
      start = start;
      stop = c.in-Ok.stop;
      errors = c.read_into.new.errors.items;
      text_format = inside.text_format;
      failed = inside.failed;
    } in
    let view = c.self.view_is in
    let left = ap (λ w. w.left) (sym view) ∙ step_cut inside.source.now rest text inside.at c.skip_blanks-blanks.result.0 start c.in-Ok.stop c.range_from.ensures.value s.len s.rest some_text refl v.2 in
    let mode = ap (λ w. w.text_format) view in
    let errors : c.read_into.new.errors.items ≡ old.errors ++ faults_in old.text_format x.faults =
    v.3 ∙ ap (λ w. w.errors ++ faults_in w.text_format x.faults) view in
    answers old new c.in-Ok.token x left v.0 v.1 (ap (λ w. w.source) view) (sym (first_start start text)) v.2 errors mode (ap (λ w. w.failed) view)

pub returns-in-Err-clause-free : goal.returns-in-Err-clause-free
returns-in-Err-clause-free c live h =
    let s = c.skip_blanks-blanks.ensures in
    let rest = c.range_from.result.now in
    let text = c.skip_blanks-blanks.result.1.now in
    let inside = c.self.inside in
    let start = inside.at + c.skip_blanks-blanks.result.0 in
    let x = spec.first_lexeme start text in
    let nonempty = eqb-false (length text) 0 (sym c.is_empty.ensures ∙ c.if-is_empty.false) in
    let some_text : 0 < length text = omega arith in
    let left = ap (λ w. w.left) (sym c.self.view_is) ∙ step_cut inside.source.now rest text inside.at c.skip_blanks-blanks.result.0 start x.stop c.range_from.ensures.value s.len s.rest some_text refl refl in
    let (borrowed, faults) = takes_none c.args.self.now x _ left h in
    c.in-Err.ensures.free borrowed (ap (λ w. faults_in w.text_format x.faults) c.self.view_is ∙ faults)

use Rattle.std.proofs.Common.{◌≡◌, ◌∙◌, ◌+◌, ap, refl, get_or, drop, take, length, ◌-◌, length-drop, rules, arith}
use Rattle.std.proofs.lemmas.Bool.{false≢true}
use Rattle.std.proofs.lemmas.List.{take_rest}
use Rattle.protox_lexeme.specs.Lexemes as lexemes
use Rattle.protox_lexeme.specs.Pieces.{reading_of, piece_of}
use Rattle.protox_lexeme.specs.Strings as spec
use Rattle.protox_lexeme.proofs.Literal.{ok_map, whole_last, whole_more, whole_next, whole_out, break_faulty, out_faulty, goes_on}
use Rattle.protox_lexeme.proofs.string.read_literal.Goals as goal

pub returns-in-Ends-clause-value : goal.returns-in-Ends-clause-value
returns-in-Ends-clause-value c =
    let quote = get_or c.args.bytes.now 0 0 in
    let x = lexemes.string c.args.start c.args.bytes.now in
    let w = whole_last c.args.start c.pieces.at quote c.args.bytes.now (reading_of c.pieces.reader) x c.pieces.invariant.whole spec.ends c.pieces-test.true (c.in-Ends.ensures.value ∙ ap (spec.piece quote) (take_rest c.args.bytes.now c.pieces.at)) refl in
    ok_map c.end.result _ _ (λ f h. h c.args.start ∙ w) c.end.ensures.value

pub returns-in-Ends-clause-free : goal.returns-in-Ends-clause-free
returns-in-Ends-clause-free c b e =
    let quote = get_or c.args.bytes.now 0 0 in
    let x = lexemes.string c.args.start c.args.bytes.now in
    let w = whole_last c.args.start c.pieces.at quote c.args.bytes.now (reading_of c.pieces.reader) x c.pieces.invariant.whole spec.ends c.pieces-test.true (c.in-Ends.ensures.value ∙ ap (spec.piece quote) (take_rest c.args.bytes.now c.pieces.at)) refl in
    c.end.ensures.free (ap (λ y. y.faults) w ∙ e)

pub returns-in-Breaks-clause-value : goal.returns-in-Breaks-clause-value
returns-in-Breaks-clause-value c =
    let quote = get_or c.args.bytes.now 0 0 in
    let x = lexemes.string c.args.start c.args.bytes.now in
    let w = whole_last c.args.start c.pieces.at quote c.args.bytes.now (reading_of c.pieces.reader) x c.pieces.invariant.whole spec.breaks c.pieces-test.true (c.in-Breaks.ensures.value ∙ ap (spec.piece quote) (take_rest c.args.bytes.now c.pieces.at)) refl in
    ok_map c.break_off.result _ _ (λ f h. h c.args.start ∙ w) c.break_off.ensures.value

pub returns-in-Breaks-clause-free : goal.returns-in-Breaks-clause-free
returns-in-Breaks-clause-free c b e =
    let quote = get_or c.args.bytes.now 0 0 in
    let x = lexemes.string c.args.start c.args.bytes.now in
    let w = whole_last c.args.start c.pieces.at quote c.args.bytes.now (reading_of c.pieces.reader) x c.pieces.invariant.whole spec.breaks c.pieces-test.true (c.in-Breaks.ensures.value ∙ ap (spec.piece quote) (take_rest c.args.bytes.now c.pieces.at)) refl in
    absurd (break_faulty c.args.start (c.args.start + c.pieces.at) (reading_of c.pieces.reader) (ap (λ y. y.faults) w ∙ e))

pub returns-in_err-next-in_default : goal.returns-in_err-next-in_default
returns-in_err-next-in_default c = record {
  value = search rules;
  within = search rules;
  last = search rules;
  free = λ b e.
      let quote = get_or c.args.bytes.now 0 0 in
      let bytes = c.args.bytes.now in
      let rest = take (length bytes - c.pieces.at) (drop c.pieces.at bytes) in
      let x = lexemes.string c.args.start bytes in
      let p = piece_of rest c.read_piece-piece.result in
      let same = c.read_piece-piece.ensures.value ∙ ap (spec.piece quote) (take_rest bytes c.pieces.at) in
      let w = whole_more c.args.start c.pieces.at quote bytes (reading_of c.pieces.reader) x c.pieces.invariant.whole p c.pieces-test.true same (goes_on rest c.read_piece-piece.result c.in_default.not-Ends c.in_default.not-Breaks) in
      absurd (false≢true (c.in_err-next-in_default.ensures.free c.args.start (spec.pieces quote (drop (c.pieces.at + spec.piece_len p) bytes)) (ap (λ y. y.borrowed) w ∙ b) (ap (λ y. y.faults) w ∙ e)));
}

pub pieces-preserved : goal.pieces-preserved
pieces-preserved c =
    let quote = get_or c.args.bytes.now 0 0 in
    let bytes = c.args.bytes.now in
    let rest = take (length bytes - c.pieces.at) (drop c.pieces.at bytes) in
    let same_rest : rest ≡ drop c.pieces.at bytes = take_rest bytes c.pieces.at in
    let x = lexemes.string c.args.start bytes in
    let p = piece_of rest c.read_piece-piece.result in
    let same = c.read_piece-piece.ensures.value ∙ ap (spec.piece quote) same_rest in
    let moves = c.in_ok-next-in_default.ensures.moves in
    let size : length rest ≡ length bytes - c.pieces.at = ap length same_rest ∙ length-drop c.pieces.at bytes in
    record {
      low = omega arith;
      high = omega (arith, moves.1);
      whole = whole_next c.args.start c.pieces.at quote bytes (reading_of c.pieces.reader) x c.pieces.invariant.whole p (reading_of c.in_ok-next-in_default.next) c.in_ok-next-in_default.len c.pieces-test.true same
          (goes_on rest c.read_piece-piece.result c.in_default.not-Ends c.in_default.not-Breaks) c.in_ok-next-in_default.ensures.len c.in_ok-next-in_default.ensures.value;
    }

pub returns-clause-value : goal.returns-clause-value
returns-clause-value c =
    let quote = get_or c.args.bytes.now 0 0 in
    let x = lexemes.string c.args.start c.args.bytes.now in
    let w = whole_out c.args.start c.pieces.at quote c.args.bytes.now (reading_of c.pieces.reader) x c.pieces.invariant.whole (omega arith) in
    ok_map c.run_out.result _ _ (λ f h. h c.args.start ∙ w) c.run_out.ensures.value

pub returns-clause-free : goal.returns-clause-free
returns-clause-free c b e =
    let quote = get_or c.args.bytes.now 0 0 in
    let x = lexemes.string c.args.start c.args.bytes.now in
    let w = whole_out c.args.start c.pieces.at quote c.args.bytes.now (reading_of c.pieces.reader) x c.pieces.invariant.whole (omega arith) in
    absurd (out_faulty c.args.start (c.args.start + c.pieces.at) (reading_of c.pieces.reader) (ap (λ y. y.faults) w ∙ e))

use Rattle.std.proofs.Common.{◌≡◌, ◌<◌, false, length, take, ap, sym, ◌∙◌, arith}
use Rattle.std.proofs.lemmas.Bool.{eqb-false}
use Rattle.std.specs.Prelude.{slice_index}
use Rattle.std.specs.Option.{is_none}
use Rattle.protox_lexeme.specs.Lexicon.{is_blank}
use Rattle.protox_lexeme.specs.Scanning.{scan}
use Rattle.protox_syntax.proofs.Fronts.{not-back, starts-by-first-byte}
use Rattle.protox_syntax.proofs.front.starts_invalid.Goals as goal

pub returns : goal.returns
returns c =
    let source = c.args.source.now in
    let bytes = c.as_bytes-bytes.result.now in
    let same : bytes ≡ source = c.as_bytes-bytes.ensures.value in
    let some = eqb-false (length bytes) 0 (sym c.is_empty.ensures ∙ c.if-is_empty.false) in
    let some_byte : 0 < length source = omega (arith, ap length same) in
    let plain : is_blank (slice_index source 0) ≡ false =
    ap (λ b. is_blank (slice_index b 0)) (sym same) ∙ ap is_blank (sym c.byte_at.ensures) ∙ sym c.is_blank.ensures ∙ c.if-is_blank.false in
    not-back c.is_none.result _ (sym c.is_none.ensures) ∙ ap is_none c.scan.ensures.value ∙ ap (λ b. is_none (scan (take 1 b))) same ∙ starts-by-first-byte source some_byte plain

use Rattle.std.proofs.Common.{◌≡◌, ◌∙◌, ◌+◌, ◌∷◌, ℕ, List, length, take, subst, length-take-le}
use Rattle.std.proofs.lemmas.Bool.{false≢true}
use Rattle.protox_lexeme.specs.Pieces.{reading_of, finished}
use Rattle.protox_lexeme.specs.Strings as spec
use Rattle.protox_lexeme.proofs.string.take_piece.Goals as goal

pub returns-in_err-take_run-in-Run-clause-free : goal.returns-in_err-take_run-in-Run-clause-free
returns-in_err-take_run-in-Run-clause-free c start ps =
    rw c.in-Run.is (λ b e. absurd (false≢true (c.in_err-take_run-in-Run.ensures.free start ps b e)))

pub returns-in_ok-take_run-in-Run-clause-value : goal.returns-in_ok-take_run-in-Run-clause-value
returns-in_ok-take_run-in-Run-clause-value c start ps =
    let within = rw c.in-Run.is at c.requires.within in
    let run = take c.in-Run.len c.args.rest.now in
    let size : length run ≡ c.in-Run.len = length-take-le c.in-Run.len c.args.rest.now within.1 in
    let P : ℕ → Type 0 = λ k. finished start (reading_of c.in_ok-take_run-in-Run.field-0) (c.args.at + k) ps ≡ finished start (reading_of c.args.reader) c.args.at (spec.run run ∷ ps) in
    rw c.in-Run.is (subst P size (c.in_ok-take_run-in-Run.ensures.value start ps))

pub returns-in_ok-take_bytes-in-Byte-clause-value : goal.returns-in_ok-take_bytes-in-Byte-clause-value
returns-in_ok-take_bytes-in-Byte-clause-value c start ps =
    rw c.in-Byte.is (c.in_ok-take_bytes-in-Byte.ensures.value start ps)

pub returns-in_ok-take_bytes-in-Char-clause-value : goal.returns-in_ok-take_bytes-in-Char-clause-value
returns-in_ok-take_bytes-in-Char-clause-value c start ps =
    rw c.in-Char.is (
    let P : List ℕ → Type 0 = λ bytes. finished start (reading_of c.in_ok-take_bytes-in-Char.field-0) (c.args.at + c.in-Char.len) ps ≡ finished start (reading_of c.args.reader) c.args.at (spec.adds bytes c.in-Char.len ∷ ps) in
    subst P (c.as_bytes.ensures.value ∙ c.encode_utf8-text.ensures.value) (c.in_ok-take_bytes-in-Char.ensures.value start ps))

pub returns-in-Wrong-clause-value : goal.returns-in-Wrong-clause-value
returns-in-Wrong-clause-value c start ps = rw c.in-Wrong.is (c.take_wrong.ensures start ps)

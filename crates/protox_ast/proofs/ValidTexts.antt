-- What the test for UTF-8 answers.
use Rattle.std.proofs.Common.{◌≡◌, ℕ, true, List, length}
use Rattle.std.specs.Str.{IsUtf8}
use Rattle.std.specs.Str.Lossy.{utf8_valid_len}
use Rattle.std.proofs.lemmas.Bool.{eq-eqb}
use Rattle.std.proofs.lemmas.Str.{utf8_valid_len-IsUtf8}
use Rattle.protox_ast.specs.Checks.{is_text}

pub text-ok : (bs : List ℕ) → IsUtf8 bs → is_text bs ≡ true
text-ok bs h = eq-eqb (utf8_valid_len bs) (length bs) (utf8_valid_len-IsUtf8 bs h)

-- The text of ASCII bytes is these bytes.
use Rattle.std.proofs.Common.{◌≡◌, ℕ, zero, suc, true, List, [], ◌∷◌, arith}
use Rattle.std.specs.Prelude.{nat_lt}
use Rattle.std.specs.List.{list_all}
use Rattle.std.specs.Str.{IsAscii}
use Rattle.std.proofs.lemmas.Bool.{and_parts}
use Rattle.std.proofs.lemmas.Bool.Decides.{Decides-ltb}
use Rattle.std.proofs.lemmas.Str.{IsUtf8-from_ascii}
use Rattle.bstr.proofs.lemmas.EncodeLemmas.{lossy_chars-utf8}
use Rattle.protox_ast.specs.AstParts.{text_of}

pub ascii-if : (bytes : List ℕ) → list_all (λ b. nat_lt b 128) bytes ≡ true → IsAscii bytes
ascii-if [] e i = omega arith
ascii-if (b ∷ bs) e zero = (Decides-ltb b 128).0 (and_parts (nat_lt b 128) (list_all (λ c. nat_lt c 128) bs) e).0
ascii-if (b ∷ bs) e (suc i) = ascii-if bs (and_parts (nat_lt b 128) (list_all (λ c. nat_lt c 128) bs) e).1 i

pub text-same : (bytes : List ℕ) → list_all (λ b. nat_lt b 128) bytes ≡ true → text_of bytes ≡ bytes
text-same bytes e = lossy_chars-utf8 bytes (IsUtf8-from_ascii bytes (ascii-if bytes e))

-- The tests of tokens are exact.
use Rattle.std.proofs.Common.{◌≡◌, ℕ, true, List, refl, ap}
use Rattle.std.proofs.lemmas.Slice.Eq.{bytes_eq-Decides}
use Rattle.std.proofs.lemmas.Bool.{eqb-true, eq-eqb}
use Rattle.protox_lexeme.specs.Shapes.{Shape, Ident, Mark}
use Rattle.protox_grammar.specs.Reader.{is_token}

pub word-exact : (w : List ℕ) (s : Shape) → is_token (Ident w) s ≡ true → s ≡ Ident w
word-exact w (Ident t) h = ap Ident ((bytes_eq-Decides t w).0 h)
word-exact w _ h = absurd cc

pub word-back : (w : List ℕ) → is_token (Ident w) (Ident w) ≡ true
word-back w = (bytes_eq-Decides w w).1 refl

pub mark-exact : (a : ℕ) (s : Shape) → is_token (Mark a) s ≡ true → s ≡ Mark a
mark-exact a (Mark b) h = ap Mark (eqb-true b a h)
mark-exact a _ h = absurd cc

pub mark-back : (a : ℕ) → is_token (Mark a) (Mark a) ≡ true
mark-back a = eq-eqb a a refl

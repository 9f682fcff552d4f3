use Rattle.std.proofs.Common.{◌≡◌, ℕ, not, eqb, ◌&&◌, false, inl, inr, List, take, get_or, cond, refl, sym, subst, ap, ◌∙◌, Option, Some, None}
use Rattle.std.proofs.Math.Bool.{and-false}
use Rattle.std.proofs.lemmas.Bool.{cases_Bool}
use Rattle.std.specs.Prelude.{IfSome}
use Rattle.protox_lexeme.specs.Lexemes.{integer, plain, value_fits, integer_value, prefix_of}
use Rattle.protox_lexeme.specs.Lexicon.{is_letter}
use Rattle.protox_lexeme.specs.Shapes.{Int}
use Rattle.protox_lexeme.proofs.number.faultless_value.Goals as goal

abbrev IsValue : List ℕ → ℕ → Option ℕ → Type 0
IsValue bytes n r = IfSome r (λ v. (start : ℕ) → integer start bytes n ≡ plain (Int v) start n)

faultless : (bytes : List ℕ) (n : ℕ) (r : Option ℕ) → is_letter (get_or bytes n 0) ≡ false → r ≡ cond (value_fits (take n bytes)) (Some (integer_value (take n bytes))) None → IsValue bytes n r
faultless bytes n r apart e =
    let P : Option ℕ → Type 0 = λ o. IsValue bytes n o in
    elim (cases_Bool (value_fits (take n bytes))) [
      | inl fits ↦
          let given : r ≡ Some (integer_value (take n bytes)) = rw fits at e in
          subst P (sym given) (λ start. rw (apart, and-false (not (eqb (prefix_of (take n bytes)) 0 && eqb (get_or bytes 0 0) 48)), fits) refl)
      | inr large ↦
          let given : r ≡ None = rw large at e in
          subst P (sym given) tt
    ]

pub returns : goal.returns
returns c =
    let apart : is_letter (get_or c.args.bytes.now c.args.len 0) ≡ false = ap is_letter (sym c.byte_at.ensures) ∙ sym c.is_in.ensures ∙ c.if-is_in.false in
    faultless c.args.bytes.now c.args.len c.integer_value.result apart c.integer_value.ensures

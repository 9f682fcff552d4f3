use Rattle.std.proofs.Common.{◌≡◌, ℕ, zero, suc, Bool, false, List, [], ◌∷◌, codes, drop, slice_get, Option, refl, sym, ap, ◌∙◌, subst}
use Rattle.std.specs.Option.{option_map}
use Rattle.protox_lexeme.specs.Lexemes.{Lexeme, plain, cut, cut_from, first_lexeme}
use Rattle.protox_lexeme.specs.Scanning.{scan, number, zero_number, fraction_len, tail_len, suffix_len, exponent_len, signed_len}
use Rattle.protox_lexeme.specs.Shapes.{Shape, Ident, Str, Int, Float, LineComment}
use Rattle.protox_lexeme.specs.State.{TakeNone}
use Rattle.protox_lexeme.specs.Strings.{pieces, pieces_from, piece}
use Rattle.protox_lex.proofs.laws.five_lexemes.Goals as goal

abbrev text : List ℕ
text = codes "foo 'bar' 12 .5 // c\n"

abbrev lexemes : List Lexeme
lexemes =
    plain (Ident (codes "foo")) 0 3 ∷ plain (Str (codes "bar")) 4 5 ∷ plain (Int 12) 10 2 ∷ plain (Float (codes ".5")) 13 2 ∷ plain (LineComment (codes " c\n")) 16 5 ∷ []

are_cut : cut 0 text ≡ lexemes
unfolding cut cut_from first_lexeme scan number zero_number fraction_len tail_len suffix_len exponent_len signed_len pieces pieces_from piece
are_cut = refl

all_free : TakeNone false lexemes
all_free = ((refl, refl), ((refl, refl), ((refl, refl), ((refl, refl), ((refl, refl), tt)))))

free_behind : (k : ℕ) (ls : List Lexeme) → TakeNone false ls → TakeNone false (drop k ls)
free_behind zero ls h = h
free_behind (suc k) [] h = h
free_behind (suc k) (x ∷ ls) h = free_behind k ls h.1

abbrev first_shape : List Lexeme → Option Shape
first_shape ls = option_map (λ x. x.shape) (slice_get ls 0)

free_from : (k : ℕ) (mode : Bool) (left : List Lexeme) → mode ≡ false → left ≡ drop k lexemes → TakeNone mode left
free_from k mode left m l =
    let P : Bool → Type 0 = λ b. TakeNone b left in
    let Q : List Lexeme → Type 0 = λ ls. TakeNone false ls in
    subst P (sym m) (subst Q (sym l) (free_behind k lexemes all_free))

pub next_of_free-first-requires-clause-free : goal.next_of_free-first-requires-clause-free
next_of_free-first-requires-clause-free c =
    let s = c.lexer-lexer.ensures in
    free_from 0 _ _ (ap (λ v. v.text_format) s) (ap (λ v. v.left) s ∙ are_cut)

pub next_of_free-second-requires-clause-free : goal.next_of_free-second-requires-clause-free
next_of_free-second-requires-clause-free c =
    let s = c.lexer-lexer.ensures in
    let m0 = ap (λ v. v.text_format) s in
    let l0 = ap (λ v. v.left) s ∙ are_cut in
    let m1 = c.next_of_free-first.ensures.mode ∙ m0 in
    let l1 = c.next_of_free-first.ensures.left ∙ ap (drop 1) l0 in
    free_from 1 _ _ m1 l1

pub next_of_free-third-requires-clause-free : goal.next_of_free-third-requires-clause-free
next_of_free-third-requires-clause-free c =
    let s = c.lexer-lexer.ensures in
    let m0 = ap (λ v. v.text_format) s in
    let l0 = ap (λ v. v.left) s ∙ are_cut in
    let m1 = c.next_of_free-first.ensures.mode ∙ m0 in
    let l1 = c.next_of_free-first.ensures.left ∙ ap (drop 1) l0 in
    let m2 = c.next_of_free-second.ensures.mode ∙ m1 in
    let l2 = c.next_of_free-second.ensures.left ∙ ap (drop 1) l1 in
    free_from 2 _ _ m2 l2

pub next_of_free-fourth-requires-clause-free : goal.next_of_free-fourth-requires-clause-free
next_of_free-fourth-requires-clause-free c =
    let s = c.lexer-lexer.ensures in
    let m0 = ap (λ v. v.text_format) s in
    let l0 = ap (λ v. v.left) s ∙ are_cut in
    let m1 = c.next_of_free-first.ensures.mode ∙ m0 in
    let l1 = c.next_of_free-first.ensures.left ∙ ap (drop 1) l0 in
    let m2 = c.next_of_free-second.ensures.mode ∙ m1 in
    let l2 = c.next_of_free-second.ensures.left ∙ ap (drop 1) l1 in
    let m3 = c.next_of_free-third.ensures.mode ∙ m2 in
    let l3 = c.next_of_free-third.ensures.left ∙ ap (drop 1) l2 in
    free_from 3 _ _ m3 l3

pub next_of_free-fifth-requires-clause-free : goal.next_of_free-fifth-requires-clause-free
next_of_free-fifth-requires-clause-free c =
    let s = c.lexer-lexer.ensures in
    let m0 = ap (λ v. v.text_format) s in
    let l0 = ap (λ v. v.left) s ∙ are_cut in
    let m1 = c.next_of_free-first.ensures.mode ∙ m0 in
    let l1 = c.next_of_free-first.ensures.left ∙ ap (drop 1) l0 in
    let m2 = c.next_of_free-second.ensures.mode ∙ m1 in
    let l2 = c.next_of_free-second.ensures.left ∙ ap (drop 1) l1 in
    let m3 = c.next_of_free-third.ensures.mode ∙ m2 in
    let l3 = c.next_of_free-third.ensures.left ∙ ap (drop 1) l2 in
    let m4 = c.next_of_free-fourth.ensures.mode ∙ m3 in
    let l4 = c.next_of_free-fourth.ensures.left ∙ ap (drop 1) l3 in
    free_from 4 _ _ m4 l4

pub returns : goal.returns
returns c =
    let s = c.lexer-lexer.ensures in
    let l0 = ap (λ v. v.left) s ∙ are_cut in
    let l1 = c.next_of_free-first.ensures.left ∙ ap (drop 1) l0 in
    let l2 = c.next_of_free-second.ensures.left ∙ ap (drop 1) l1 in
    let l3 = c.next_of_free-third.ensures.left ∙ ap (drop 1) l2 in
    let l4 = c.next_of_free-fourth.ensures.left ∙ ap (drop 1) l3 in
    let e0 = c.next_of_free-first.ensures.first ∙ ap first_shape l0 in
    let e1 = c.next_of_free-second.ensures.first ∙ ap first_shape l1 in
    let e2 = c.next_of_free-third.ensures.first ∙ ap first_shape l2 in
    let e3 = c.next_of_free-fourth.ensures.first ∙ ap first_shape l3 in
    let e4 = c.next_of_free-fifth.ensures.first ∙ ap first_shape l4 in
    rw (e0, e1, e2, e3, e4) refl

-- The tests of tokens are tests of their classes.
use Rattle.std.proofs.Common.{◌≡◌, ℕ, suc, ◌+◌, ◌<◌, ◌≤◌, Bool, true, false, ◌||◌, cond, eqb, List, [], ◌∷◌, map, length, Option, Some, is_some, refl, sym, ap, ◌∙◌, arith}
use Rattle.std.proofs.lemmas.Slice.Eq.{bytes_eq-Decides}
use Rattle.std.proofs.lemmas.Bool.{eqb-true, eq-eqb, ne_eqb, ltb-true}
use Rattle.std.specs.Prelude.{nat_lt}
use Rattle.std.specs.Str.{bytes_eq}
use Rattle.protox_lexeme.specs.Shapes.{Shape, Ident, Int, Float, Str, Mark, LineComment, BlockComment, Newline, Invalid}
use Rattle.protox_grammar.specs.Class.{class, place, keywords, marks, byte_place, only, among}
use Rattle.protox_grammar.specs.Reader.{is_token, any_word}
use Rattle.protox_grammar.specs.Rules.{find_scalar, all_scalars, see_scalar, scalar_set}
use Rattle.protox_ast.specs.Tree as t
use Rattle.protox_ast.specs.Spelling.{scalar_word}
use Rattle.protox_ast.specs.Keywords.{scalars}
use Rattle.protox_grammar.proofs.Sets.{place-le, and_true}
use Rattle.protox_grammar.proofs.Begin.{place-apart, places, known}

-- Two tests with the same answers.
pub same-test : (a b : Bool) → (a ≡ true → b ≡ true) → (b ≡ true → a ≡ true) → a ≡ b
same-test true b f g = sym (f refl)
same-test false true f g = g refl
same-test false false f g = refl

pub word-class : (w : List ℕ) (i : ℕ) → place keywords w ≡ i → i < 38 → (s : Shape) → is_token (Ident w) s ≡ only i (class s)
word-class w i e l (Ident t) = same-test _ _
    (λ h. eq-eqb (place keywords t) i (ap (place keywords) ((bytes_eq-Decides t w).0 h) ∙ e))
    (λ h. (bytes_eq-Decides t w).1 (place-apart keywords t w (eqb-true (place keywords t) i h ∙ sym e) (omega (arith, e, l))))
word-class w i e l (Int n) = sym (ne_eqb 39 i (λ h. omega (arith, h, l)))
word-class w i e l (Float n) = sym (ne_eqb 40 i (λ h. omega (arith, h, l)))
word-class w i e l (Str n) = sym (ne_eqb 41 i (λ h. omega (arith, h, l)))
word-class w i e l (Mark n) = sym (ne_eqb (42 + byte_place marks n) i (λ h. omega (arith, h, l)))
word-class w i e l (LineComment n) = sym (ne_eqb 59 i (λ h. omega (arith, h, l)))
word-class w i e l (BlockComment n) = sym (ne_eqb 59 i (λ h. omega (arith, h, l)))
word-class w i e l Newline = sym (ne_eqb 59 i (λ h. omega (arith, h, l)))
word-class w i e l Invalid = sym (ne_eqb 59 i (λ h. omega (arith, h, l)))

byte-placed : (t w w0 : ℕ) (ws : List ℕ) (b c : Bool) → eqb t w0 ≡ b → eqb w w0 ≡ c → cond b 0 (suc (byte_place ws t)) ≡ cond c 0 (suc (byte_place ws w)) → cond c 0 (suc (byte_place ws w)) < suc (length ws) → (byte_place ws t ≡ byte_place ws w → byte_place ws w < length ws → t ≡ w) → t ≡ w
byte-placed t w w0 ws true true p q e l h = eqb-true t w0 p ∙ sym (eqb-true w w0 q)
byte-placed t w w0 ws true false p q e l h = absurd (omega arith)
byte-placed t w w0 ws false true p q e l h = absurd (omega arith)
byte-placed t w w0 ws false false p q e l h = h (omega arith) (omega arith)

pub byte-apart : (ws : List ℕ) (t w : ℕ) → byte_place ws t ≡ byte_place ws w → byte_place ws w < length ws → t ≡ w
byte-apart [] t w e l = absurd (omega arith)
byte-apart (w0 ∷ ws) t w e l = byte-placed t w w0 ws (eqb t w0) (eqb w w0) refl refl e l (byte-apart ws t w)

pub mark-class : (b i : ℕ) → 42 + byte_place marks b ≡ i → i < 58 → (s : Shape) → is_token (Mark b) s ≡ only i (class s)
mark-class b i e l (Ident t) = sym (ne_eqb (place keywords t) i (λ h. omega (arith, h, e, place-le keywords t)))
mark-class b i e l (Int n) = sym (ne_eqb 39 i (λ h. omega (arith, h, e)))
mark-class b i e l (Float n) = sym (ne_eqb 40 i (λ h. omega (arith, h, e)))
mark-class b i e l (Str n) = sym (ne_eqb 41 i (λ h. omega (arith, h, e)))
mark-class b i e l (Mark n) = same-test _ _
    (λ h. eq-eqb (42 + byte_place marks n) i (ap (λ k. 42 + byte_place marks k) (eqb-true n b h) ∙ e))
    (λ h. let p = eqb-true (42 + byte_place marks n) i h in eq-eqb n b (byte-apart marks n b (omega (arith, p, e)) (omega (arith, e, l))))
mark-class b i e l (LineComment n) = sym (ne_eqb 59 i (λ h. omega (arith, h, l)))
mark-class b i e l (BlockComment n) = sym (ne_eqb 59 i (λ h. omega (arith, h, l)))
mark-class b i e l Newline = sym (ne_eqb 59 i (λ h. omega (arith, h, l)))
mark-class b i e l Invalid = sym (ne_eqb 59 i (λ h. omega (arith, h, l)))

-- The class of each of these words is a class of words.
none-past : (ws : List (List ℕ)) → known ws ≡ true → (n : ℕ) → 38 ≤ n → among (places ws) n ≡ false
none-past [] h n l = refl
none-past (w ∷ ws) h n l =
    let both = and_true (nat_lt (place keywords w) 38) (known ws) h in
    let lt : place keywords w < 38 = ltb-true (place keywords w) 38 both.0 in
    rw (ne_eqb n (place keywords w) (λ e. omega (arith, e, lt, l))) (none-past ws both.1 n l)

or-same : (a b c d : Bool) → a ≡ b → c ≡ d → a || c ≡ b || d
or-same a b c d e f = rw (e, f) refl

any-class : (ws : List (List ℕ)) → known ws ≡ true → (t : List ℕ) → any_word ws t ≡ among (places ws) (place keywords t)
any-class [] h t = refl
any-class (w ∷ ws) h t =
    let both = and_true (nat_lt (place keywords w) 38) (known ws) h in
    or-same _ _ _ _ (word-class w (place keywords w) refl (ltb-true (place keywords w) 38 both.0) (Ident t)) (any-class ws both.1 t)

found-by : (x : t.Scalar) (r : Option t.Scalar) (b c : Bool) → is_some r ≡ c → is_some (cond b (Some x) r) ≡ b || c
found-by x r true c e = refl
found-by x r false c e = e

found-any : (xs : List t.Scalar) (w : List ℕ) → is_some (find_scalar xs w) ≡ any_word (map scalar_word xs) w
found-any [] w = refl
found-any (x ∷ xs) w = found-by x (find_scalar xs w) (bytes_eq w (scalar_word x)) (any_word (map scalar_word xs) w) (found-any xs w)

pub scalar-class : (s : Shape) → is_some (see_scalar s) ≡ scalar_set (class s)
scalar-class (Ident w) = found-any all_scalars w ∙ any-class scalars refl w
scalar-class (Mark n) = sym (none-past scalars refl (42 + byte_place marks n) (omega arith))
scalar-class _ = refl

-- Each declaration between the braces of a body takes a row.
use Rattle.std.proofs.Common.{◌≡◌, ◌-◌, ℕ, zero, suc, List, [], ◌∷◌, Option, Some, None, Result, Ok, Err, length, ap, refl, ◌∙◌, arith}
use Rattle.protox_fault.specs.Faults.{Span}
use Rattle.protox_lexeme.specs.Shapes.{Row, Rows}
use Rattle.protox_ast.specs.KeywordWalk as k
use Rattle.protox_ast.specs.Places.{Place}
use Rattle.protox_grammar.specs.Bodies as bodies
use Rattle.protox_grammar.specs.Reader as reader
use Rattle.protox_grammar.specs.Reader.{Consumes, Refusal, leaf, see_word, ◌>>=◌}
use Rattle.protox_grammar.proofs.Lemmas.{bind_ok, err-ok, ok_is, seen_as, shows-eats, sunk_notes}
use Rattle.protox_grammar.proofs.Lemmas as grammar
use Rattle.protox_declarations.specs.inner.Options.{here}
use Rattle.protox_ast.specs.declared.ast.Ident as ident_type
use Rattle.protox_rows.specs.inner.Names.{ident}
use Rattle.protox_rows.specs.declared.expected.Expected.{Expected}
use Rattle.protox_rows.specs.declared.refused.Refused.{Refused}
use Rattle.protox_rows.specs.declared.refused.Refused.TheVariants.{OutOfMemory, At, TooDeep}
use Rattle.protox_rows.specs.inner.Outcome.{Fails}
use Rattle.protox_declarations.specs.inner.Bodies as messages
use Rattle.protox_declarations.specs.inner.BodyWords as said

pub element-eats : (n : ℕ) → Consumes (messages.element_at n)
element-eats n = shows-eats (grammar.element-laws here k.KeepsMbody (bodies.FitsMbody n) (bodies.unsealed n).read (bodies.unsealed n).steps (bodies.unsealed n).trace (grammar.body-laws here n)) (messages.element n (messages.mbody_at n)).shows

pub oneof_element-eats : (n : ℕ) → Consumes (messages.oneof_element_at n)
oneof_element-eats n = shows-eats (grammar.oneof_element-laws here k.KeepsMbody (bodies.FitsMbody n) (bodies.unsealed n).read (bodies.unsealed n).steps (bodies.unsealed n).trace (grammar.body-laws here n)) (messages.oneof_element n (messages.mbody_at n)).shows

pub extend_element-eats : (n : ℕ) → Consumes (messages.extend_element_at n)
extend_element-eats n = shows-eats (grammar.extend_element-laws here k.KeepsMbody (bodies.FitsMbody n) (bodies.unsealed n).read (bodies.unsealed n).steps (bodies.unsealed n).trace (grammar.body-laws here n)) (messages.extend_element n (messages.mbody_at n)).shows

-- ---- a declaration that is added to a value as soon as it is read

-- What is read, if the value with it is.
pub added : {A B : Type 0} (add : A → B) (read : Result (A × Rows Place) Refusal) (new : B) (left : Rows Place) → (read >>= seen_as add) ≡ Ok (new, left) → (x : A) × (read ≡ Ok (x, left)) × (add x ≡ new)
added add read new left e =
    let p = bind_ok read (seen_as add) (new, left) e in
    let same = ok_is (add p.0.0, p.0.1) (new, left) p.2 in
    (p.0.0, p.1 ∙ ap (λ (v : Rows Place). Ok (p.0.0, v)) (ap (λ v. v.1) same), ap (λ v. v.0) same)

-- Nothing is read, if the value with it isn't.
pub unadded : {A B : Type 0} (e : Refused) (add : A → B) (read : Result (A × Rows Place) Refusal) → Fails e (read >>= seen_as add) → Fails e read
unadded OutOfMemory add read h = tt
unadded (At left expected) add (Ok x) h = absurd cc
unadded (At left expected) add (Err d) h = cc
unadded (TooDeep left) add (Ok x) h = absurd cc
unadded (TooDeep left) add (Err d) h = cc

-- ---- levels

-- a level below
pub one_level : (n : ℕ) → (n ≡ 0 → ⊥) → (w : Span) (xs : Rows Place) → (messages.mbody_at n).notes w xs ≡ messages.braces_notes (n - 1) xs
unfolding messages.mbody_at
one_level zero h w xs = absurd (h refl)
one_level (suc n) h w xs =
    let same : n ≡ suc n - 1 = omega arith in
    ap (λ m. messages.braces_notes m xs) same

pub no_level : (n : ℕ) → n ≡ 0 → (w : Span) (xs : Rows Place) → (messages.mbody_at n).notes w xs ≡ sunk_notes w xs
unfolding messages.mbody_at
no_level n h w xs = rw h refl

-- The words where no level is left, and where some are.
pub no_words : (n : ℕ) → n ≡ 0 → (e : Expected) (xs : Rows Place) → said.mbody_at n e xs ≡ e
unfolding said.mbody_at
no_words n h e xs = rw h refl

pub words_below : (n : ℕ) → (n ≡ 0 → ⊥) → (e : Expected) (xs : Rows Place) → said.mbody_at n e xs ≡ said.braces_at (n - 1) e xs
unfolding said.mbody_at
words_below zero h e xs = absurd (h refl)
words_below (suc n) h e xs =
    let same : n ≡ suc n - 1 = omega arith in
    ap (λ m. said.braces_at m e xs) same

-- ---- an identifier is one row

seen-one : (r : Row Place) (rs : Rows Place) (o : Option (List ℕ)) (x : (List ℕ × Place) × Rows Place) → reader.seen r rs o ≡ Ok x → length (r ∷ rs) ≡ suc (length x.1)
seen-one r rs (Some v) x e = ap (λ (y : (List ℕ × Place) × Rows Place). suc (length y.1)) (ok_is ((v, r.at), rs) x e)
seen-one r rs None x e = absurd (err-ok x _ e)

word-one : (xs : Rows Place) (x : (List ℕ × Place) × Rows Place) → leaf see_word xs ≡ Ok x → length xs ≡ suc (length x.1)
unfolding leaf
word-one [] x e = absurd (err-ok x _ e)
word-one (r ∷ rs) x e = seen-one r rs (see_word r.shape) x e

pub ident-one : (xs ys : Rows Place) (i : ident_type.Ident) → (ident).code xs ≡ Ok (i, ys) → length xs ≡ suc (length ys)
unfolding ident
ident-one xs ys i e =
    let p = bind_ok (leaf see_word xs) (λ x. Ok (record { value = x.0.0; span = x.0.1.span }, x.1)) (i, ys) e in
    let same = ok_is (record { value = p.0.0.0; span = p.0.0.1.span }, p.0.1) (i, ys) p.2 in
    omega (arith, word-one xs p.0 p.1, ap (λ (y : ident_type.Ident × Rows Place). length y.1) same)

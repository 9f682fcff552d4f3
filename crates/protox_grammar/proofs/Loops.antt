-- A loop that reads while the next row passes a test.
use Rattle.std.proofs.Common.{◌≡◌, ℕ, zero, suc, ◌<◌, Bool, true, false, cond, List, [], ◌∷◌, length, Result, Ok, Err, refl, ap, arith}
use Rattle.protox_lexeme.specs.Shapes.{Shape, Rows}
use Rattle.protox_grammar.specs.Reader.{Refusal, Reader, ◌>>=◌, head_in, star_at, star, gathered, Consumes}

-- One turn, whose two outcomes are known.
abbrev turn : {M A : Type 0} → (Rows M → Result (List A × Rows M) Refusal) → Result (A × Rows M) Refusal → Result (List A × Rows M) Refusal
turn again read = read >>= λ x. again x.1 >>= λ y. Ok (x.0 ∷ y.0, y.1)

turn-same : {M A : Type 0} (f g : Rows M → Result (List A × Rows M) Refusal) (read : Result (A × Rows M) Refusal) → ((x : A × Rows M) → read ≡ Ok x → f x.1 ≡ g x.1) → turn f read ≡ turn g read
turn-same f g (Ok x) h = ap (λ r. r >>= λ y. Ok (x.0 ∷ y.0, y.1)) (h x refl)
turn-same f g (Err e) h = refl

cond-same : {X : Type 0} (b : Bool) (x y z : X) → x ≡ y → cond b x z ≡ cond b y z
cond-same b x y z e = ap (λ v. cond b v z) e

star-enough : {M A : Type 0} (p : Shape → Bool) (a : Reader M A) → Consumes a → (n m : ℕ) (xs : Rows M) → length xs < n → length xs < m → star_at p a n xs ≡ star_at p a m xs
unfolding star_at
star-enough p a eats zero m xs h k = absurd (omega arith)
star-enough p a eats (suc n) zero xs h k = absurd (omega arith)
star-enough p a eats (suc n) (suc m) xs h k = cond-same (head_in p xs) _ _ _ (turn-same (star_at p a n) (star_at p a m) (a xs) (λ x e. star-enough p a eats n m x.1 (omega (arith, eats xs x e)) (omega (arith, eats xs x e))))

pub star-turn : {M A : Type 0} (p : Shape → Bool) (a : Reader M A) → Consumes a → (xs : Rows M) → star p a xs ≡ cond (head_in p xs) (a xs >>= λ x. star p a x.1 >>= λ y. Ok (x.0 ∷ y.0, y.1)) (Ok ([], xs))
unfolding star star_at
star-turn p a eats xs = cond-same (head_in p xs) _ _ _ (turn-same (star_at p a (length xs)) (star p a) (a xs) (λ x e. star-enough p a eats (length xs) (suc (length x.1)) x.1 (eats xs x e) (omega arith)))

regroup : {M A B : Type 0} (add : B → A → B) (b : B) (x : A) (read : Result (List A × Rows M) Refusal) → gathered add b (read >>= λ y. Ok (x ∷ y.0, y.1)) ≡ gathered add (add b x) read
regroup add b x (Ok y) = refl
regroup add b x (Err e) = refl

pub goes_on : {M A B : Type 0} (add : B → A → B) (p : Shape → Bool) (a : Reader M A) → Consumes a → (b : B) (xs after : Rows M) (x : A) → head_in p xs ≡ true → a xs ≡ Ok (x, after)
    → gathered add b (star p a xs) ≡ gathered add (add b x) (star p a after)
goes_on add p a eats b xs after x more read = rw (star-turn p a eats xs, more, read) (regroup add b x (star p a after))

pub stops : {M A B : Type 0} (add : B → A → B) (p : Shape → Bool) (a : Reader M A) → Consumes a → (b : B) (xs : Rows M) (e : Refusal) → head_in p xs ≡ true → a xs ≡ Err e
    → gathered add b (star p a xs) ≡ Err e
stops add p a eats b xs e more read = rw (star-turn p a eats xs, more, read) refl

pub is_done : {M A B : Type 0} (add : B → A → B) (p : Shape → Bool) (a : Reader M A) → Consumes a → (b : B) (xs : Rows M) → head_in p xs ≡ false
    → gathered add b (star p a xs) ≡ Ok (b, xs)
is_done add p a eats b xs none = rw (star-turn p a eats xs, none) refl

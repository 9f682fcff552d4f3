-- The front of a text fits a pattern exactly when it is a word of it.
use Rattle.std.proofs.Common.{◌≡◌, ℕ, zero, suc, ◌+◌, ◌≤◌, Bool, true, inl, inr, List, [], ◌∷◌, ◌++◌, length, take, drop, refl, sym, ap, ◌∙◌, subst, append_assoc, length-append, zero-add, arith}
use Rattle.std.proofs.lemmas.Bool.{and_parts}
use Rattle.std.proofs.lemmas.List.{drop_at}
use Rattle.std.specs.List.{prefix_len, list_all}
use Rattle.protox_lexeme.specs.Pattern.{Pattern, one, many, ◌⋅◌, ◌∣◌, maybe, Fits}
use Rattle.protox_lex.specs.Words.{IsWordOf}
use Rattle.protox_lexeme.proofs.Lemmas.{first_passes}

nothing : (n : ℕ) → take {A = ℕ} n [] ≡ []
nothing zero = refl
nothing (suc n) = refl

take_parts : (i j : ℕ) (text : List ℕ) → take (i + j) text ≡ take i text ++ take j (drop i text)
take_parts zero j text = rw zero-add refl
take_parts (suc i) j [] = nothing (suc i + j) ∙ sym (nothing j)
take_parts (suc i) j (b ∷ text) =
    let more : suc i + j ≡ suc (i + j) = omega arith in
    ap (λ k. take k (b ∷ text)) more ∙ ap (λ t. b ∷ t) (take_parts i j text)

run_word : (p : ℕ → Bool) (text : List ℕ) (n : ℕ) → n ≤ prefix_len p text → list_all p (take n text) ≡ true
run_word p text zero h = refl
run_word p [] (suc n) h = refl
run_word p (b ∷ text) (suc n) h =
    let passes : p b ≡ true = first_passes p (b ∷ text) (omega arith) in
    let more : suc n ≤ 1 + prefix_len p text = rw passes at h in
    rw passes (run_word p text n (omega arith))

word_run : (p : ℕ → Bool) (word rest : List ℕ) → list_all p word ≡ true → length word ≤ prefix_len p (word ++ rest)
word_run p [] rest h = omega arith
word_run p (b ∷ word) rest h =
    let (passes, more) = and_parts (p b) (list_all p word) h in
    rw passes (omega (arith, word_run p word rest more))

pub fits_word : (p : Pattern) (text : List ℕ) (n : ℕ) → Fits p text n → IsWordOf p (take n text)
fits_word (one p) [] n (is_one, starts) = absurd (omega arith)
fits_word (one p) (b ∷ text) n (is_one, starts) = (b, first_passes p (b ∷ text) starts, ap (λ k. take k (b ∷ text)) is_one)
fits_word (many p) text n run = run_word p text n run
fits_word (a ⋅ b) text n (i, j, size, f, g) =
    (take i text, take j (drop i text), ap (λ k. take k text) size ∙ take_parts i j text, fits_word a text i f, fits_word b (drop i text) j g)
fits_word (a ∣ b) text n (inl f) = inl (fits_word a text n f)
fits_word (a ∣ b) text n (inr f) = inr (fits_word b text n f)
fits_word (maybe a) text n (inl none) = inl (ap (λ k. take k text) none)
fits_word (maybe a) text n (inr f) = inr (fits_word a text n f)

pub word_fits : (p : Pattern) (word rest : List ℕ) → IsWordOf p word → Fits p (word ++ rest) (length word)
word_fits (one p) word rest (b, passes, e) =
    let P : List ℕ → Type 0 = λ w. Fits (one p) (w ++ rest) (length w) in
    subst P (sym e) (refl, rw passes (omega arith))
word_fits (many p) word rest h = word_run p word rest h
word_fits (a ⋅ b) word rest (x, y, e, f, g) =
    let P : List ℕ → Type 0 = λ w. Fits (a ⋅ b) (w ++ rest) (length w) in
    let Q : List ℕ → Type 0 = λ t. Fits a t (length x) in
    let R : List ℕ → Type 0 = λ t. Fits b t (length y) in
    let whole = append_assoc x y rest in
    let past : drop (length x) ((x ++ y) ++ rest) ≡ y ++ rest = ap (drop (length x)) whole ∙ drop_at x (y ++ rest) (length x) refl in
    subst P (sym e) (length x, length y, length-append x y, subst Q (sym whole) (word_fits a x (y ++ rest) f), subst R (sym past) (word_fits b y rest g))
word_fits (a ∣ b) word rest (inl f) = inl (word_fits a word rest f)
word_fits (a ∣ b) word rest (inr f) = inr (word_fits b word rest f)
word_fits (maybe a) word rest (inl none) = inl (ap length none)
word_fits (maybe a) word rest (inr f) = inr (word_fits a word rest f)

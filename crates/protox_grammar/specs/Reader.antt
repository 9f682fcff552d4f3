-- Reading rows from left to right, up to the first row that doesn't fit.
use Rattle.std.specs.Prelude.{◌≡◌, ◌<◌, ℕ, zero, suc, List, [], ◌∷◌, length, Bool, false, ◌||◌, if◌then◌else◌, ◌==◌, Option, Some, None, Result, Ok, Err}
use Rattle.std.specs.Str.{bytes_eq}
pub use Rattle.protox_ast.specs.Spells.{is_string}
use Rattle.protox_lexeme.specs.Shapes.{Shape, Ident, Int, Float, Str, Mark, Row, Rows}

-- Why rows are not read: a row doesn't fit, or it opens a body that is too deep. The number counts
-- the rows that are left, from that row on.
pub data Refusal : Type 0 where
  Unexpected : ℕ → Refusal
  Deep : ℕ → Refusal

-- Whether a token is the wanted word or mark.
abbrev pub is_token : Shape → Shape → Bool
is_token (Ident w) (Ident t) = bytes_eq t w
is_token (Mark a) (Mark b) = b == a
is_token _ _ = false

-- Whether the word is one of these.
abbrev pub any_word : List (List ℕ) → List ℕ → Bool
any_word [] t = false
any_word (w ∷ ws) t = bytes_eq t w || any_word ws t

-- Whether the token is one of these words.
abbrev pub is_word_of : List (List ℕ) → Shape → Bool
is_word_of ws (Ident t) = any_word ws t
is_word_of ws _ = false

infixl 10 ◌>>=◌
-- Goes on with a value that was read. A refusal stays as it is.
abbrev pub ◌>>=◌ : {A B : Type 0} → Result A Refusal → (A → Result B Refusal) → Result B Refusal
(Ok x) >>= f = f x
(Err e) >>= f = Err e

-- A reader gives a value and the rows that are left, or a refusal.
abbrev pub Reader : Type 0 → Type 0 → Type 0
Reader M A = Rows M → Result (A × Rows M) Refusal

-- Whether the next row passes the test.
abbrev pub head_in : {M : Type 0} → (Shape → Bool) → Rows M → Bool
head_in p [] = false
head_in p (r ∷ rs) = p r.shape

-- The next row doesn't fit.
abbrev pub refuse : {M A : Type 0} → Rows M → Result A Refusal
refuse rs = Err (Unexpected (length rs))

-- Reads this token.
unfoldable pub fixed : {M : Type 0} → Shape → Reader M M
fixed w [] = Err (Unexpected 0)
fixed w (r ∷ rs) = if is_token w r.shape then Ok (r.at, rs) else refuse (r ∷ rs)

-- Looks at this token only: what it opens is too deep.
unfoldable pub too_deep : {M A : Type 0} → Shape → Reader M A
too_deep w [] = Err (Unexpected 0)
too_deep w (r ∷ rs) = if is_token w r.shape then Err (Deep (length (r ∷ rs))) else refuse (r ∷ rs)

-- The value of a token, if it has one, else a refusal.
abbrev pub seen : {M X : Type 0} → Row M → Rows M → Option X → Result ((X × M) × Rows M) Refusal
seen r rs (Some x) = Ok ((x, r.at), rs)
seen r rs None = refuse (r ∷ rs)

-- Reads a token with a value.
unfoldable pub leaf : {M X : Type 0} → (Shape → Option X) → Reader M (X × M)
leaf see [] = Err (Unexpected 0)
leaf see (r ∷ rs) = seen r rs (see r.shape)

-- Reads one thing, and then another.
abbrev pub seq : {M A B : Type 0} → Reader M A → Reader M B → Reader M (A × B)
seq a b xs = a xs >>= λ x. b x.1 >>= λ y. Ok ((x.0, y.0), y.1)

-- Reads, and changes the value.
abbrev pub mapped : {M A B : Type 0} → (A → B) → Reader M A → Reader M B
mapped f a xs = a xs >>= λ x. Ok (f x.0, x.1)

-- Reads the first if the next token passes the test, else the second.
abbrev pub either : {M A : Type 0} → (Shape → Bool) → Reader M A → Reader M A → Reader M A
either p a b xs = if head_in p xs then a xs else b xs

-- Refuses if the next token passes the test.
abbrev pub unstarted : {M A : Type 0} → (Shape → Bool) → Reader M A → Reader M A
unstarted p a xs = if head_in p xs then refuse xs else a xs

-- Reads what may be absent, if the next token passes the test.
abbrev pub optional : {M A : Type 0} → (Shape → Bool) → Reader M A → Reader M (Option A)
optional p a xs = either p (mapped Some a) (λ ys. Ok (None, ys)) xs

-- Reads nothing.
abbrev pub nothing : {M : Type 0} → Reader M (Unit {0})
nothing xs = Ok (tt, xs)

-- Reads again and again, as long as the next token passes the test. The number bounds the turns,
-- and each turn takes a row.
unfoldable pub star_at : {M A : Type 0} → (Shape → Bool) → Reader M A → ℕ → Reader M (List A)
star_at p a zero xs = refuse xs
star_at p a (suc n) xs = if head_in p xs then (a xs >>= λ x. star_at p a n x.1 >>= λ y. Ok (x.0 ∷ y.0, y.1)) else Ok ([], xs)

-- Reads again and again, as long as the next token passes the test.
unfoldable pub star : {M A : Type 0} → (Shape → Bool) → Reader M A → Reader M (List A)
star p a xs = star_at p a (suc (length xs)) xs

-- Adds the values to b, one after another.
abbrev pub folded : {A B : Type 0} → (B → A → B) → B → List A → B
folded add b [] = b
folded add b (x ∷ xs) = folded add (add b x) xs

-- Adds the values that were read to b, one after another.
abbrev pub gathered : {M A B : Type 0} → (B → A → B) → B → Result (List A × Rows M) Refusal → Result (B × Rows M) Refusal
gathered add b read = read >>= λ x. Ok (folded add b x.0, x.1)

-- The reader takes at least one row.
abbrev pub Consumes : {M A : Type 0} → Reader M A → Type 0
Consumes {M} {A} a = (xs : Rows M) (x : A × Rows M) → a xs ≡ Ok x → length x.1 < length xs

-- ---- the values of tokens

-- The text of a word.
abbrev pub see_word : Shape → Option (List ℕ)
see_word (Ident t) = Some t
see_word _ = None

-- The value of an integer.
abbrev pub see_integer : Shape → Option ℕ
see_integer (Int n) = Some n
see_integer _ = None

-- The value of a string.
abbrev pub see_text : Shape → Option (List ℕ)
see_text (Str t) = Some t
see_text _ = None

-- The text of a float.
abbrev pub see_float : Shape → Option (List ℕ)
see_float (Float t) = Some t
see_float _ = None

-- Bytes that are written one after another.
use Rattle.std.proofs.Common.{◌≡◌, ℕ, zero, suc, ◌+◌, ◌<◌, ◌≤◌, List, [], ◌∷◌, ◌++◌, codes, length, take, get_or, flat_map, Option, Some, None, Result, Ok, Err, OnOk, refl, ap, sym, subst, ◌∙◌, append_assoc, append-nil, add-one, arith}
use Rattle.std.specs.Io.KnownBytes.{Appends}
use Rattle.std.proofs.lemmas.List.{take_more}
use Rattle.protox_descriptor.specs.Literal.{printed_byte}
use Rattle.protox_text.specs.TextLines.{At, closed, deeper, each, if_any, indent, opened, within}

-- nothing is written
pub nothing : (a : Option (List ℕ)) → Appends a a []
nothing None = tt
nothing (Some xs) = sym (append-nil xs)

-- one part, and then another
pub then : (a b c : Option (List ℕ)) (x y : List ℕ) → Appends a b x → Appends b c y → Appends a c (x ++ y)
then None b c x y h k = tt
then (Some xs) None c x y h k = absurd h
then (Some xs) (Some ys) None x y h k = absurd k
then (Some xs) (Some ys) (Some zs) x y h k = k ∙ ap (λ v. v ++ y) h ∙ append_assoc xs x y

-- ---- blanks

blanks-more : (depth : ℕ) → indent depth ++ codes "  " ≡ indent (suc depth)
blanks-more zero = refl
blanks-more (suc depth) = ap (λ v. codes "  " ++ v) (blanks-more depth)

-- one level more
pub indent-more : (a b c : Option (List ℕ)) (depth : ℕ) → Appends a b (indent depth) → Appends b c (codes "  ") → Appends a c (indent (depth + 1))
indent-more a b c depth h k = rw (add-one) (subst (λ v. Appends a c v) (blanks-more depth) (then a b c (indent depth) (codes "  ") h k))

pub ruleset blanks = (nothing, indent-more)

-- ---- like parts

flat-more : {A B : Type 0} (f : A → List B) (xs : List A) (y : A) → flat_map f (xs ++ y ∷ []) ≡ flat_map f xs ++ f y
flat-more f [] y = append-nil (f y)
flat-more f (x ∷ xs) y = ap (λ v. f x ++ v) (flat-more f xs y) ∙ sym (append_assoc (f x) (flat_map f xs) (f y))

module _ {A : Type 0} (text : A → At) (depth : ℕ) (name : List ℕ) (xs : List A) (i : ℕ) (a b : Option (List ℕ)) where
  -- the next part is written
  pub next-part : (c : Option (List ℕ)) (x : A) → Appends a b (each text (take i xs) depth name) → Appends b c (text x depth name)
      → x ≡ get_or xs i x → i < length xs → Appends a c (each text (take (i + 1) xs) depth name)
  next-part c x h k is lt =
      let more : take (i + 1) xs ≡ take i xs ++ x ∷ [] = take_more xs i x lt ∙ ap (λ y. take i xs ++ y ∷ []) (sym is) in
      subst (λ v. Appends a c v) (sym (ap (λ ys. each text ys depth name) more ∙ flat-more (λ y. text y depth name) (take i xs) x))
      (then a b c (each text (take i xs) depth name) (text x depth name) h k)

all-taken : {A : Type 0} (xs : List A) (i : ℕ) → length xs ≤ i → take i xs ≡ xs
all-taken [] zero h = refl
all-taken [] (suc i) h = refl
all-taken (x ∷ xs) zero h = absurd (omega (arith, h))
all-taken (x ∷ xs) (suc i) h = ap (λ ys. x ∷ ys) (all-taken xs i (omega (arith, h)))

-- behind the last there is no further one
pub last-part : {A : Type 0} (text : A → At) (depth : ℕ) (name : List ℕ) (xs : List A) (i : ℕ) (a b : Option (List ℕ))
    → Appends a b (each text (take i xs) depth name) → length xs ≤ i → Appends a b (each text xs depth name)
last-part text depth name xs i a b h le = subst (λ ys. Appends a b (each text ys depth name)) (all-taken xs i le) h

pub ruleset parts = (nothing, next-part, last-part)

-- ---- a last call, whose answer is returned

pub last : {X E : Type 0} (r : Result X E) (a b c : Option (List ℕ)) (x y : List ℕ) → Appends a b x → OnOk r (Appends b c y) → OnOk r (Appends a c (x ++ y))
last (Ok v) a b c x y h k = then a b c x y h k
last (Err e) a b c x y h k = tt

-- a message: it is opened, what is inside is written a level deeper, and it is closed
pub message : {X E : Type 0} (r : Result X E) (inside : ℕ → List ℕ) (d e : ℕ) (name : List ℕ) (a b c f : Option (List ℕ))
    → e ≡ deeper d → Appends a b (opened d name) → Appends b c (inside e) → OnOk r (Appends c f (closed d)) → OnOk r (Appends a f (within inside d name))
message r inside d e name a b c f is h k l =
    last r a b f (opened d name) (inside (deeper d) ++ closed d) h
    (last r b c f (inside (deeper d)) (closed d) (subst (λ n. Appends b c (inside n)) is k) l)

-- ---- what is known by an equal part

module _ {A : Type 0} (text : A → At) (d : ℕ) (n : List ℕ) (a b : Option (List ℕ)) where
  pub lent : (x y : Option A) → x ≡ y → Appends a b (if_any text x d n) → Appends a b (if_any text y d n)
  lent x y is h = subst (λ v. Appends a b (if_any text v d n)) is h

  pub lent-last : {X E : Type 0} (r : Result X E) (x y : Option A) → x ≡ y → OnOk r (Appends a b (if_any text x d n)) → OnOk r (Appends a b (if_any text y d n))
  lent-last r x y is h = subst (λ v. OnOk r (Appends a b (if_any text v d n))) is h

  pub listed : (xs ys : List A) → xs ≡ ys → Appends a b (each text xs d n) → Appends a b (each text ys d n)
  listed xs ys is h = subst (λ v. Appends a b (each text v d n)) is h

pub equally : {X E : Type 0} (r : Result X E) (a b : Option (List ℕ)) (x y : List ℕ) → x ≡ y → OnOk r (Appends a b x) → OnOk r (Appends a b y)
equally r a b x y is h = subst (λ v. OnOk r (Appends a b v)) is h

-- ---- a literal, byte by byte

-- the next byte is written
pub next-byte : (a b c : Option (List ℕ)) (bytes : List ℕ) (i x : ℕ) → Appends a b (flat_map printed_byte (take i bytes)) → Appends b c (printed_byte x)
    → x ≡ get_or bytes i x → i < length bytes → Appends a c (flat_map printed_byte (take (i + 1) bytes))
next-byte a b c bytes i x h k is lt =
    let more : take (i + 1) bytes ≡ take i bytes ++ x ∷ [] = take_more bytes i x lt ∙ ap (λ y. take i bytes ++ y ∷ []) (sym is) in
    subst (λ v. Appends a c v) (sym (ap (flat_map printed_byte) more ∙ flat-more printed_byte (take i bytes) x))
    (then a b c (flat_map printed_byte (take i bytes)) (printed_byte x) h k)

-- no further one
pub all-bytes : (a b : Option (List ℕ)) (bytes : List ℕ) (i : ℕ) → Appends a b (flat_map printed_byte (take i bytes)) → length bytes ≤ i → Appends a b (flat_map printed_byte bytes)
all-bytes a b bytes i h le = subst (λ ys. Appends a b (flat_map printed_byte ys)) (all-taken bytes i le) h

pub ruleset literal = (nothing, next-byte, all-bytes)

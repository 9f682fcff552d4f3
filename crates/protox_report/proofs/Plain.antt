-- A text of printable ASCII is shown as itself, with a column for each byte.
use Rattle.std.proofs.Common.{◌≡◌, ℕ, zero, suc, ◌+◌, ◌-◌, ◌<◌, ◌≤◌, false, List, [], ◌∷◌, ◌++◌, length, take, drop, get_or, replicate, Some, None, refl, ap, subst, ◌∙◌, append_assoc, add-one, arith}
use Rattle.std.specs.List.{flat_map}
use Rattle.std.specs.Prelude.{⊤}
use Rattle.std.specs.Str.{IsAscii, IsCharBoundary}
use Rattle.std.proofs.lemmas.Bool.{le-leb, lt-ltb}
use Rattle.std.proofs.lemmas.List.{length-replicate, replicate-append-replicate, take-replicate}
use Rattle.std.proofs.lemmas.Str.{IsCharBoundary-from_ascii, chars-IsAscii, encode_ascii}
use Rattle.std.proofs.lemmas.Str.Ascii.{IsAscii-cons, IsAscii-nil}
use Rattle.unicode_width.specs.Width.{char_width}
use Rattle.protox_report.specs.Shown.{columns, in_place, own_columns, shown, shown_character, under}

-- Each byte is a printable character of ASCII.
abbrev pub Printable : List ℕ → Type 0
Printable [] = ⊤
Printable (b ∷ bs) = (32 ≤ b) × (b ≤ 126) × Printable bs

-- one byte more
printable-suc : (bs : List ℕ) (i b : ℕ) → i < length bs → b ≡ get_or bs i b → 32 ≤ b → b ≤ 126 → Printable (drop (suc i) bs) → Printable (drop i bs)
printable-suc [] i b h is least most rest = absurd (omega (arith, h))
printable-suc (x ∷ bs) zero b h is least most rest = (subst (λ y. 32 ≤ y) is least, subst (λ y. y ≤ 126) is most, rest)
printable-suc (x ∷ bs) (suc i) b h is least most rest = printable-suc bs i b (omega (arith, h)) is least most rest

pub printable_more : (bs : List ℕ) (i b : ℕ) → i < length bs → b ≡ get_or bs i b → 32 ≤ b → b ≤ 126 → Printable (drop (i + 1) bs) → Printable (drop i bs)
printable_more bs i b h is least most rest = printable-suc bs i b h is least most (rw (add-one) at rest)

printable-ascii : (bs : List ℕ) → Printable bs → IsAscii bs
printable-ascii [] p = IsAscii-nil
printable-ascii (b ∷ bs) p = IsAscii-cons b bs (let m = p.1 in omega (arith, m)) (printable-ascii bs p.2)

width-one : (c : ℕ) → 32 ≤ c → c ≤ 126 → char_width false c ≡ Some 1
unfolding char_width
width-one c least most = rw (lt-ltb c 127 (omega (arith, most)), le-leb 32 c least) refl

one-column : (c : ℕ) → 32 ≤ c → c ≤ 126 → own_columns c ≡ Some 1
one-column c least most = rw (width-one c least most, own_columns) refl

character-itself : (c : ℕ) → 32 ≤ c → c ≤ 126 → shown_character c ≡ c ∷ []
character-itself c least most = rw (one-column c least most, shown_character) (encode_ascii c (omega (arith, most)))

flat-itself : (bs : List ℕ) → Printable bs → flat_map shown_character bs ≡ bs
flat-itself [] p = refl
flat-itself (b ∷ bs) p = ap (λ xs. xs ++ flat_map shown_character bs) (character-itself b p.0 p.1) ∙ ap (λ xs. b ∷ xs) (flat-itself bs p.2)

flat-marks : (mark : ℕ) (bs : List ℕ) → Printable bs → flat_map (λ c. replicate (columns c) mark) bs ≡ replicate (length bs) mark
flat-marks mark [] p = refl
flat-marks mark (b ∷ bs) p =
    ap (λ xs. xs ++ flat_map (λ c. replicate (columns c) mark) bs) (ap (λ o. replicate (elim o [ None ↦ length (in_place b) | Some n ↦ n ]) mark) (one-column b p.0 p.1)) ∙ ap (λ xs. mark ∷ xs) (flat-marks mark bs p.2)

pub shown-itself : (text : List ℕ) → Printable text → shown text ≡ text
shown-itself text p = ap (flat_map shown_character) (chars-IsAscii text (printable-ascii text p)) ∙ flat-itself text p

pub a-column-each : (text : List ℕ) → Printable text → (mark : ℕ) → under mark text ≡ replicate (length text) mark
a-column-each text p mark = ap (flat_map (λ c. replicate (columns c) mark)) (chars-IsAscii text (printable-ascii text p)) ∙ flat-marks mark text p

-- the loop has seen all bytes
pub all-printable : (bs : List ℕ) (i : ℕ) → (Printable (drop i bs) → Printable bs) → length bs ≤ i → Printable bs
all-printable bs i so h = so (none-left bs i h) where
  none-left : (xs : List ℕ) (j : ℕ) → length xs ≤ j → Printable (drop j xs)
  none-left [] zero h = tt
  none-left [] (suc j) h = tt
  none-left (x ∷ xs) zero h = absurd (omega (arith, h))
  none-left (x ∷ xs) (suc j) h = none-left xs j (omega (arith, h))

-- ---- marks, sixteen at once

module _ (old out : List ℕ) (mark count left : ℕ) (h : out ++ replicate left mark ≡ old ++ replicate count mark) where
  -- sixteen more
  pub sixteen-more : (new : List ℕ) → new ≡ out ++ replicate 16 mark → 16 ≤ left → new ++ replicate (left - 16) mark ≡ old ++ replicate count mark
  sixteen-more new is le =
      let all : replicate 16 mark ++ replicate (left - 16) mark ≡ replicate left mark = replicate-append-replicate 16 (left - 16) mark ∙ ap (λ n. replicate n mark) (omega (arith, le)) in
      ap (λ v. v ++ replicate (left - 16) mark) is ∙ append_assoc out (replicate 16 mark) (replicate (left - 16) mark) ∙ ap (λ v. out ++ v) all ∙ h

  -- the rest
  pub rest-of-marks : (new : List ℕ) → new ≡ out ++ take left (replicate 16 mark) → left < 16 → new ≡ old ++ replicate count mark
  rest-of-marks new is lt = is ∙ ap (λ v. out ++ v) (take-replicate left 16 mark (omega (arith, lt))) ∙ h

-- a front of them is a text
pub marks-boundary : (mark left : ℕ) → mark < 128 → left < 16 → IsCharBoundary (replicate 16 mark) left
marks-boundary mark left small lt = IsCharBoundary-from_ascii (replicate 16 mark) left (ascii 16) (rw (length-replicate 16 mark) (omega (arith, lt))) where
  ascii : (n : ℕ) → IsAscii (replicate n mark)
  ascii zero = IsAscii-nil
  ascii (suc n) = IsAscii-cons mark (replicate n mark) small (ascii n)

pub ruleset marks = (sixteen-more, rest-of-marks, marks-boundary)

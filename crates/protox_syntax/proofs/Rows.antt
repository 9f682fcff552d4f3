-- The rows of a part of a source are those of the whole, but for the last row of the part.
use Rattle.std.proofs.Common.{◌≡◌, ◌⊎◌, inl, inr, ℕ, suc, ◌+◌, ◌-◌, ◌≤◌, ◌<◌, Bool, true, false, cond, List, [], ◌∷◌, ◌++◌, length, drop, refl, sym, ap, subst, ◌∙◌, append-nil, append_assoc, length-drop, arith}
use Rattle.std.specs.List.{prefix_len}
use Rattle.std.proofs.lemmas.Bool.{cases_Bool, cases_lt}
use Rattle.std.proofs.lemmas.List.{drop-drop}
use Rattle.protox_fault.specs.Faults.{Span, span_from}
use Rattle.protox_lexeme.specs.Lexemes.{Lexeme, blanks, cut, first_lexeme}
use Rattle.protox_lexeme.specs.Lexicon.{is_blank}
use Rattle.protox_lexeme.specs.Shapes.{Shape, Row, Rows}
use Rattle.protox_lexeme.specs.Table.{gaps_of, in_front, is_gap, rows_of}
use Rattle.protox_lexeme.proofs.Lemmas.{cut_none, cut_some, first_moves, first_start}
use Rattle.protox_ast.specs.Places.{Place, next_gap, next_shape, place_of, placed_from}
use Rattle.protox_syntax.specs.inner.Parts.{places}

-- the row of a lexeme
abbrev pub row_of : Lexeme → Row Span
row_of x = record { shape = x.shape; at = span_from x.start x.stop }

-- the same, with these comments and newlines before them
abbrev places_behind : Bool → List Shape → List Lexeme → Rows Place
places_behind first ys xs = placed_from first (rows_of xs) (in_front ys (gaps_of xs))

in_front-none : (gaps : List (List Shape)) → in_front [] gaps ≡ gaps
in_front-none [] = refl
in_front-none (g ∷ gaps) = refl

in_front-both : (ys zs : List Shape) (gaps : List (List Shape)) → in_front ys (in_front zs gaps) ≡ in_front (ys ++ zs) gaps
in_front-both ys zs [] = refl
in_front-both ys zs (g ∷ gaps) = ap (λ v. v ∷ gaps) (sym (append_assoc ys zs g))

over-gap : (first : Bool) (ys : List Shape) (x : Lexeme) (xs : List Lexeme) → is_gap x.shape ≡ true → places_behind first ys (x ∷ xs) ≡ places_behind first (ys ++ x.shape ∷ []) xs
over-gap first ys x xs gap = rw gap (ap (placed_from first (rows_of xs)) (in_front-both ys (x.shape ∷ []) (gaps_of xs)))

-- the row of the first lexeme, with its place
abbrev placed_row : Bool → List Shape → Lexeme → List Lexeme → Row Place
placed_row first ys x xs = record { shape = x.shape; at = place_of first (row_of x) (ys ++ []) (gaps_of xs) (rows_of xs) }

over-row : (first : Bool) (ys : List Shape) (x : Lexeme) (xs : List Lexeme) → is_gap x.shape ≡ false
    → places_behind first ys (x ∷ xs) ≡ placed_row first ys x xs ∷ places false xs
over-row first ys x xs row = rw row refl

pub row-over : (x : Lexeme) (xs : List Lexeme) → is_gap x.shape ≡ false → rows_of (x ∷ xs) ≡ row_of x ∷ rows_of xs
row-over x xs row = rw row refl

-- a row that comes first
pub row-first : (first : Bool) (x : Lexeme) (xs : List Lexeme) → is_gap x.shape ≡ false → places first (x ∷ xs) ≡ record { shape = x.shape; at = place_of first (row_of x) [] (gaps_of xs) (rows_of xs) } ∷ places false xs
row-first first x xs row = rw row refl

pub gap-over : (x : Lexeme) (xs : List Lexeme) → is_gap x.shape ≡ true → rows_of (x ∷ xs) ≡ rows_of xs
gap-over x xs gap = rw gap refl

-- ---- what comes behind the next row doesn't matter

some-gaps : (xs : List Lexeme) → (g : List Shape) × (gs : List (List Shape)) × (gaps_of xs ≡ g ∷ gs)
some-gaps [] = ([], [], refl)
some-gaps (x ∷ xs) =
    elim (cases_Bool (is_gap x.shape)) [
      | inl gap ↦ let m = some-gaps xs in rw gap (x.shape ∷ m.0, m.1, ap (in_front (x.shape ∷ [])) m.2)
      | inr row ↦ rw row ([], gaps_of xs, refl)
    ]

next-in_front : (ys : List Shape) (xs : List Lexeme) → next_gap (in_front ys (gaps_of xs)) ≡ ys ++ next_gap (gaps_of xs)
next-in_front ys xs = let m = some-gaps xs in rw (m.2) refl

next-gap : (xs zs : List Lexeme) → (rows_of xs ≡ [] → ⊥) → next_gap (gaps_of (xs ++ zs)) ≡ next_gap (gaps_of xs)
next-gap [] zs some = absurd (some refl)
next-gap (x ∷ xs) zs some =
    elim (cases_Bool (is_gap x.shape)) [
      | inl gap ↦ rw gap (next-in_front (x.shape ∷ []) (xs ++ zs) ∙ ap (λ v. (x.shape ∷ []) ++ v) (next-gap xs zs (λ e. some (gap-over x xs gap ∙ e))) ∙ sym (next-in_front (x.shape ∷ []) xs))
      | inr row ↦ rw row refl
    ]

next-row : (xs zs : List Lexeme) → (rows_of xs ≡ [] → ⊥) → next_shape (rows_of (xs ++ zs)) ≡ next_shape (rows_of xs)
next-row [] zs some = absurd (some refl)
next-row (x ∷ xs) zs some =
    elim (cases_Bool (is_gap x.shape)) [
      | inl gap ↦ rw gap (next-row xs zs (λ e. some (gap-over x xs gap ∙ e)))
      | inr row ↦ rw row refl
    ]

-- the place of a row that another one follows, or nothing
same-place : (first : Bool) (row : Row Span) (gap : List Shape) (xs zs : List Lexeme) → (rows_of xs ≡ [] → ⊥) ⊎ (zs ≡ [])
    → place_of first row gap (gaps_of (xs ++ zs)) (rows_of (xs ++ zs)) ≡ place_of first row gap (gaps_of xs) (rows_of xs)
same-place first row gap xs zs (inl some) = rw (next-gap xs zs some, next-row xs zs some) refl
same-place first row gap xs zs (inr none) = ap (λ ys. place_of first row gap (gaps_of ys) (rows_of ys)) (ap (λ v. xs ++ v) none ∙ append-nil xs)

no-places : (xs : List Lexeme) → rows_of xs ≡ [] → places false xs ≡ []
no-places xs e = ap (λ rows. placed_from false rows (gaps_of xs)) e

-- ---- some rows are read

-- These rows of the lexemes are read, and more lexemes may follow. The last of the rows is that of a
-- lexeme, and the rows that are left are those of the lexemes behind it.
pub record IsRead (first : Bool) (ys : List Shape) (xs more : List Lexeme) (read left : Rows Place) : Type 0 where
  pub front : List Lexeme
  pub last : Lexeme
  pub back : List Lexeme
  pub split : xs ≡ front ++ last ∷ back
  pub row : is_gap last.shape ≡ false
  pub left_is : left ≡ places false back
  pub whole : places_behind first ys (xs ++ more) ≡ read ++ places false (back ++ more)
  pub others : Rows Place
  pub last_row : Row Place
  pub read_is : read ≡ others ++ last_row ∷ []
  pub last_at : last_row.at.span ≡ span_from last.start last.stop

pub heads : {A : Type 0} (x y : A) (xs ys : List A) → x ∷ xs ≡ y ∷ ys → (x ≡ y) × (xs ≡ ys)
heads x y xs ys e = (cc, cc)

-- there are rows if there are places
some-rows : (xs : List Lexeme) (left : Rows Place) → (left ≡ [] → ⊥) → places false xs ≡ left → rows_of xs ≡ [] → ⊥
some-rows xs left some e none = some (sym e ∙ no-places xs none)

module _ (more : List Lexeme) where
  same-row : (first : Bool) (ys : List Shape) (x : Lexeme) (xs : List Lexeme) → (rows_of xs ≡ [] → ⊥) ⊎ (more ≡ [])
      → placed_row first ys x (xs ++ more) ≡ placed_row first ys x xs
  same-row first ys x xs end = ap (λ (p : Place). record { shape = x.shape; at = p }) (same-place first (row_of x) (ys ++ []) xs more end)

  behind-gap : (first : Bool) (ys : List Shape) (x : Lexeme) (xs : List Lexeme) (r : Row Place) (rs left : Rows Place) → is_gap x.shape ≡ true → IsRead first (ys ++ x.shape ∷ []) xs more (r ∷ rs) left → IsRead first ys (x ∷ xs) more (r ∷ rs) left
  behind-gap first ys x xs r rs left gap m = record {
    front = x ∷ m.front;
    last = m.last;
    back = m.back;
    split = ap (λ v. x ∷ v) m.split;
    row = m.row;
    left_is = m.left_is;
    whole = over-gap first ys x (xs ++ more) gap ∙ m.whole;
    others = m.others;
    last_row = m.last_row;
    read_is = m.read_is;
    last_at = m.last_at;
  }

  -- the last row that is read
  at-last : (first : Bool) (ys : List Shape) (x : Lexeme) (xs : List Lexeme) (r : Row Place) (left : Rows Place) → is_gap x.shape ≡ false → (left ≡ [] → ⊥) ⊎ (more ≡ [])
      → placed_row first ys x xs ≡ r → places false xs ≡ left → IsRead first ys (x ∷ xs) more (r ∷ []) left
  at-last first ys x xs r left row end here rest = record {
    front = [];
    last = x;
    back = xs;
    split = refl;
    row = row;
    left_is = sym rest;
    whole = over-row first ys x (xs ++ more) row ∙ ap (λ v. v ∷ places false (xs ++ more)) (same-row first ys x xs (still end) ∙ here);
    others = [];
    last_row = r;
    read_is = refl;
    last_at = ap (λ (v : Row Place). v.at.span) (sym here);
  }
    where
      still : (left ≡ [] → ⊥) ⊎ (more ≡ []) → (rows_of xs ≡ [] → ⊥) ⊎ (more ≡ [])
      still (inl some) = inl (some-rows xs left some rest)
      still (inr none) = inr none

  -- more rows are read behind it
  behind-row : (first : Bool) (ys : List Shape) (x : Lexeme) (xs : List Lexeme) (r s : Row Place) (rs left : Rows Place) → is_gap x.shape ≡ false
      → placed_row first ys x xs ≡ r → places false xs ≡ s ∷ (rs ++ left) → IsRead false [] xs more (s ∷ rs) left → IsRead first ys (x ∷ xs) more (r ∷ (s ∷ rs)) left
  behind-row first ys x xs r s rs left row here rest m = record {
    front = x ∷ m.front;
    last = m.last;
    back = m.back;
    split = ap (λ v. x ∷ v) m.split;
    row = m.row;
    left_is = m.left_is;
    whole = over-row first ys x (xs ++ more) row ∙ (λ i. (same-row first ys x xs (inl (some-rows xs (s ∷ (rs ++ left)) (λ e. absurd cc) rest)) ∙ here) i ∷ (ap (placed_from false (rows_of (xs ++ more))) (sym (in_front-none (gaps_of (xs ++ more)))) ∙ m.whole) i);
    others = r ∷ m.others;
    last_row = m.last_row;
    read_is = ap (λ v. r ∷ v) m.read_is;
    last_at = m.last_at;
  }

  pub read-to : (first : Bool) (ys : List Shape) (xs : List Lexeme) (r : Row Place) (rs left : Rows Place) → (left ≡ [] → ⊥) ⊎ (more ≡ []) → places_behind first ys xs ≡ r ∷ (rs ++ left) → IsRead first ys xs more (r ∷ rs) left
  read-to first ys [] r rs left end e = absurd cc
  read-to first ys (x ∷ xs) r rs left end e =
      elim (cases_Bool (is_gap x.shape)) [
        | inl gap ↦ behind-gap first ys x xs r rs left gap (read-to first (ys ++ x.shape ∷ []) xs r rs left end (sym (over-gap first ys x xs gap) ∙ e))
        | inr row ↦ let h = heads _ r (places false xs) (rs ++ left) (sym (over-row first ys x xs row) ∙ e) in on (λ s rs e. read-to false [] xs s rs left end e) rs row h.0 h.1
      ]
    where
      on : ((s : Row Place) (rs : Rows Place) → places_behind false [] xs ≡ s ∷ (rs ++ left) → IsRead false [] xs more (s ∷ rs) left) → (rs : Rows Place) → is_gap x.shape ≡ false → placed_row first ys x xs ≡ r → places false xs ≡ rs ++ left → IsRead first ys (x ∷ xs) more (r ∷ rs) left
      on again [] row here rest = at-last first ys x xs r left row end here rest
      on again (s ∷ rs) row here rest = behind-row first ys x xs r s rs left row here rest (again s rs (ap (placed_from false (rows_of xs)) (in_front-none (gaps_of xs)) ∙ rest))

  -- These rows are read, and where some rows are left, or nothing follows, they are those of the
  -- whole.
  pub read-rows : (first : Bool) (xs : List Lexeme) (r : Row Place) (rs left : Rows Place) → (left ≡ [] → ⊥) ⊎ (more ≡ []) → places first xs ≡ (r ∷ rs) ++ left → IsRead first [] xs more (r ∷ rs) left
  read-rows first xs r rs left end e = read-to first [] xs r rs left end (ap (placed_from first (rows_of xs)) (in_front-none (gaps_of xs)) ∙ e)

pub whole-is : (first : Bool) (xs more : List Lexeme) (read left : Rows Place) (m : IsRead first [] xs more read left) → places first (xs ++ more) ≡ read ++ places false (m.back ++ more)
whole-is first xs more read left m = ap (placed_from first (rows_of (xs ++ more))) (sym (in_front-none (gaps_of (xs ++ more)))) ∙ m.whole

-- ---- the rows before a lexeme

pub rows-before : (front : List Lexeme) (x : Lexeme) (back : List Lexeme) → is_gap x.shape ≡ false → rows_of (front ++ x ∷ back) ≡ rows_of front ++ row_of x ∷ rows_of back
rows-before [] x back row = row-over x back row
rows-before (y ∷ front) x back row =
    elim (cases_Bool (is_gap y.shape)) [
      | inl gap ↦ gap-over y (front ++ x ∷ back) gap ∙ rows-before front x back row ∙ ap (λ v. v ++ row_of x ∷ rows_of back) (sym (gap-over y front gap))
      | inr more ↦ row-over y (front ++ x ∷ back) more ∙ ap (λ v. row_of y ∷ v) (rows-before front x back row) ∙ ap (λ v. v ++ row_of x ∷ rows_of back) (sym (row-over y front more))
    ]

-- ---- cutting from a lexeme on

prefix-past : {A : Type 0} (p : A → Bool) (xs : List A) → prefix_len p (drop (prefix_len p xs) xs) ≡ 0
prefix-past p [] = refl
prefix-past p (x ∷ xs) =
    elim (cases_Bool (p x)) [
      | inl passes ↦ rw passes (ap (λ i. prefix_len p (drop i (x ∷ xs))) (let one : 1 + prefix_len p xs ≡ suc (prefix_len p xs) = omega arith in one) ∙ prefix-past p xs)
      | inr stops ↦ rw stops (ap (λ b. cond b (1 + prefix_len p xs) 0) stops)
    ]

nothing-cut : (at : ℕ) (text : List ℕ) (front : List Lexeme) (x : Lexeme) (back : List Lexeme) → length text ≤ blanks text → cut at text ≡ front ++ x ∷ back → ⊥
nothing-cut at text [] x back none e = let same = sym (cut_none at text none) ∙ e in absurd cc
nothing-cut at text (f ∷ front) x back none e = let same = sym (cut_none at text none) ∙ e in absurd cc

-- the text from the first lexeme on
first-cut : (at : ℕ) (text : List ℕ) → blanks text < length text → let x = first_lexeme (at + blanks text) (drop (blanks text) text) in cut x.start (drop (x.start - at) text) ≡ x ∷ cut x.stop (drop (x.stop - at) text)
first-cut at text some =
    let rest = drop (blanks text) text in
    let x = first_lexeme (at + blanks text) rest in
    let starts : x.start ≡ at + blanks text = first_start (at + blanks text) rest in
    let moves = first_moves (at + blanks text) rest in
    let none : blanks rest ≡ 0 = prefix-past is_blank text in
    let long : length rest ≡ length text - blanks text = length-drop (blanks text) text in
    let past : x.start - at ≡ blanks text = omega (arith, starts) in
    let turn = cut_some (at + blanks text) rest (omega arith) in
    let same : first_lexeme ((at + blanks text) + blanks rest) (drop (blanks rest) rest) ≡ x = rw none (ap (λ k. first_lexeme k rest) (let k : (at + blanks text) + 0 ≡ at + blanks text = omega arith in k)) in
    let behind : drop (x.stop - (at + blanks text)) rest ≡ drop (x.stop - at) text = drop-drop (x.stop - (at + blanks text)) (blanks text) text ∙ ap (λ k. drop k text) (let k : blanks text + (x.stop - (at + blanks text)) ≡ x.stop - at = omega arith in k) in
    (λ i. cut (starts i) (drop (past i) text)) ∙ turn ∙ ap (λ (y : Lexeme). y ∷ cut y.stop (drop (y.stop - (at + blanks text)) rest)) same ∙ ap (λ t. x ∷ cut x.stop t) behind

abbrev IsCutFrom : ℕ → List ℕ → Lexeme → List Lexeme → Type 0
IsCutFrom at text x back = (x ∷ back ≡ cut x.start (drop (x.start - at) text)) × (at ≤ x.start)

at-front : (at : ℕ) (text : List ℕ) (x : Lexeme) (back : List Lexeme) → blanks text < length text → cut at text ≡ x ∷ back → IsCutFrom at text x back
at-front at text x back some e =
    let first = first_lexeme (at + blanks text) (drop (blanks text) text) in
    let h = heads first x (cut first.stop (drop (first.stop - at) text)) back (sym (cut_some at text some) ∙ e) in
    let starts : first.start ≡ at + blanks text = first_start (at + blanks text) (drop (blanks text) text) in
    subst (λ (y : Lexeme). IsCutFrom at text y back) h.0 (ap (λ v. first ∷ v) (sym h.1) ∙ sym (first-cut at text some), omega (arith, starts))

further : (at : ℕ) (text : List ℕ) (f : Lexeme) (front : List Lexeme) (x : Lexeme) (back : List Lexeme) → blanks text < length text → cut at text ≡ f ∷ (front ++ x ∷ back)
    → ((at : ℕ) (text : List ℕ) → cut at text ≡ front ++ x ∷ back → IsCutFrom at text x back) → IsCutFrom at text x back
further at text f front x back some e again =
    let first = first_lexeme (at + blanks text) (drop (blanks text) text) in
    let moves = first_moves (at + blanks text) (drop (blanks text) text) in
    let h = heads first f (cut first.stop (drop (first.stop - at) text)) (front ++ x ∷ back) (sym (cut_some at text some) ∙ e) in
    let k = again first.stop (drop (first.stop - at) text) h.1 in
    let past : (first.stop - at) + (x.start - first.stop) ≡ x.start - at = omega (arith, k.1) in
    (k.0 ∙ ap (cut x.start) (drop-drop (x.start - first.stop) (first.stop - at) text ∙ ap (λ n. drop n text) past), omega (arith, k.1))

-- From the start of a lexeme on, a text has this lexeme and those behind it.
pub cut-from : (at : ℕ) (text : List ℕ) (front : List Lexeme) (x : Lexeme) (back : List Lexeme) → cut at text ≡ front ++ x ∷ back → IsCutFrom at text x back
cut-from at text [] x back e =
    elim (cases_lt (blanks text) (length text)) [
      | inl some ↦ at-front at text x back some e
      | inr none ↦ absurd (nothing-cut at text [] x back none e)
    ]
cut-from at text (f ∷ front) x back e =
    elim (cases_lt (blanks text) (length text)) [
      | inl some ↦ further at text f front x back some e (λ at text e. cut-from at text front x back e)
      | inr none ↦ absurd (nothing-cut at text (f ∷ front) x back none e)
    ]

-- Cutting a source from one of its lexemes on gives that lexeme and those behind it.
pub source-from : (source : List ℕ) (front : List Lexeme) (x : Lexeme) (back : List Lexeme) → cut 0 source ≡ front ++ x ∷ back → cut x.start (drop x.start source) ≡ x ∷ back
source-from source front x back e = ap (λ k. cut x.start (drop k source)) (let same : x.start ≡ x.start - 0 = omega arith in same) ∙ sym (cut-from 0 source front x back e).0

-- Each comment of an accepted source stands in at most one field of one location.
use Rattle.std.proofs.Common.{◌≡◌, ℕ, ◌+◌, ◌<◌, ◌≤◌, Bool, true, false, if◌then◌else◌, ◌==◌, List, [], ◌∷◌, map, Option, Some, None, refl, ap, sym, subst, ◌∙◌, arith}
use Rattle.std.specs.Prelude.{option_map}
use Rattle.std.specs.Str.{bytes_eq}
use Rattle.std.proofs.lemmas.Bool.{ne_eqb}
use Rattle.std.proofs.lemmas.Bool.Decides.{Decides-eqb}
use Rattle.std.proofs.lemmas.Slice.Eq.{bytes_eq-Decides}
use Rattle.protox_lexeme.specs.Lexemes.{Lexeme}
use Rattle.protox_lexeme.specs.Shapes.{Row, Rows}
use Rattle.protox_lexeme.specs.Table.{table_of, rows_of, gaps_of}
use Rattle.protox_ast.proofs.Lemmas.{Stand}
use Rattle.protox_ast.specs.Keywords.{Each}
use Rattle.protox_ast.specs.Places.{Place, placed, placed_from}
use Rattle.protox_generate.proofs.Taking.{Weights, weigh, behind-zero}
use Rattle.protox_generate.proofs.GapsWeighed.{weights}
use Rattle.protox_generate.proofs.TextsNatural.{made_place, made_row, placed-made}
use Rattle.protox_generate.proofs.NumberedComments.{numbered, from-start, made, made-joins, gaps-made}

-- ---- texts that are the same

abbrev same : List (List ℕ) → List (List ℕ) → Bool
same [] [] = true
same [] (y ∷ ys) = false
same (x ∷ xs) [] = false
same (x ∷ xs) (y ∷ ys) = if bytes_eq x y then same xs ys else false

not-true : false ≡ true → ⊥
not-true e = subst (λ (c : Bool). elim c as (λ _. Type 0) [ true ↦ ⊥ | false ↦ Unit {0} ]) e tt

same-both : (b : Bool) (r : Bool) → (if b then r else false) ≡ true → (b ≡ true) × (r ≡ true)
same-both true r h = (refl, h)
same-both false r h = absurd (not-true h)

same-so : (xs ys : List (List ℕ)) → same xs ys ≡ true → xs ≡ ys
same-so [] [] h = refl
same-so [] (y ∷ ys) h = absurd (not-true h)
same-so (x ∷ xs) [] h = absurd (not-true h)
same-so (x ∷ xs) (y ∷ ys) h =
    let k = same-both (bytes_eq x y) (same xs ys) h in
    ap (λ z. z ∷ xs) ((bytes_eq-Decides x y).0 k.0) ∙ ap (λ zs. y ∷ zs) (same-so xs ys k.1)

same-one : (xs : List (List ℕ)) → same xs xs ≡ true
same-one [] = refl
same-one (x ∷ xs) = ap (λ b. if b then same xs xs else false) ((bytes_eq-Decides x x).1 refl) ∙ same-one xs

-- ---- rows by where they start

abbrev pub row_at : Rows Place → ℕ → Option (Row Place)
row_at [] start = None
row_at (r ∷ rows) start = if r.at.span.start == start then Some r else row_at rows start

abbrev pub place_in : Option (Row Place) → Place
place_in None = record { span = record { start = 0; end = 0 }; detached = []; leading = None; trailing = None }
place_in (Some r) = r.at

abbrev pub IsFound : Rows Place → Row Place → Type 0
IsFound rows r = row_at rows r.at.span.start ≡ Some r

if-false : (b : Bool) (x y : Option (Row Place)) → b ≡ false → (if b then x else y) ≡ y
if-false b x y h = ap (λ c. if c then x else y) h

if-true : (b : Bool) (x y : Option (Row Place)) → b ≡ true → (if b then x else y) ≡ x
if-true b x y h = ap (λ c. if c then x else y) h

found-behind : (r : Row Place) (all rows : Rows Place) (low high : ℕ) → Stand low high rows → r.at.span.start < low → Each (IsFound all) rows → Each (IsFound (r ∷ all)) rows
found-behind r all [] low high h l k = tt
found-behind r all (x ∷ rows) low high h l k = (
  if-false (r.at.span.start == x.at.span.start) (Some r) (row_at all x.at.span.start) (ne_eqb r.at.span.start x.at.span.start (λ e. omega (arith, e, l, h.0))) ∙ k.0,
  found-behind r all rows x.at.span.end high h.2 (omega (arith, l, h.0, h.1)) k.1,
)

pub found : (low high : ℕ) (rows : Rows Place) → Stand low high rows → Each (IsFound rows) rows
found low high [] h = tt
found low high (r ∷ rows) h = (
  if-true (r.at.span.start == r.at.span.start) (Some r) (row_at rows r.at.span.start) ((Decides-eqb r.at.span.start r.at.span.start).1 refl),
  found-behind r rows rows r.at.span.end high h.2 h.1 (found r.at.span.end high rows h.2),
)

-- ---- the places of numbers

module _ (lexemes : List Lexeme) where
  abbrev pub with_numbers : Rows Place
  with_numbers = placed_from true (rows_of lexemes) (gaps_of (numbered 0 lexemes))

  abbrev pub make : List ℕ → List ℕ
  make = made lexemes

  -- the numbers at a place
  abbrev pub numbers_at : Place → Place
  numbers_at p = place_in (row_at with_numbers p.span.start)

  pub rows-made : placed (table_of lexemes) ≡ map (made_row make) with_numbers
  rows-made = ap (placed_from true (rows_of lexemes)) (gaps-made lexemes 0 lexemes (from-start lexemes)) ∙ placed-made make (made-joins lexemes) true (rows_of lexemes) (gaps_of (numbered 0 lexemes))

  -- weights of the numbers at a place
  abbrev pub by_numbers : (List ℕ → ℕ) → Weights
  by_numbers e = record { first = λ p. (weights e).first (numbers_at p); last = λ p. (weights e).last (numbers_at p); mark = λ s p. 0; both = λ p q. 0 }

  pub weigh-numbers : (e : List ℕ → ℕ) (rows : Rows Place) → Each (IsFound with_numbers) rows → weigh (by_numbers e) (map (made_row make) rows) ≡ weigh (weights e) rows
  weigh-numbers e [] h = refl
  weigh-numbers e (r ∷ rows) h =
      let k : weigh (by_numbers e) (map (made_row make) (r ∷ [])) ≡ weigh (weights e) (r ∷ []) = ap (λ o. (weights e).first (place_in o) + (weights e).last (place_in o) + 0 + 0 + 0) h.0 in
      omega (
        arith,
        k,
        behind-zero (by_numbers e) (λ p q. omega arith) (made_place make r.at) (map (made_row make) rows),
        behind-zero (weights e) (λ p q. omega arith) r.at rows,
        weigh-numbers e rows h.1,
      )

  -- ---- texts that are not made of their numbers

  abbrev pub listed : Option (List ℕ) → List (List ℕ)
  listed None = []
  listed (Some text) = text ∷ []

  abbrev pub differ : List (List ℕ) → List (List ℕ) → ℕ
  differ a b = if same a b then 0 else 1

  abbrev pub false_texts : Weights
  false_texts = record {
    first = λ p. differ (map make (listed (numbers_at p).leading)) (listed p.leading) + differ (map make (numbers_at p).detached) p.detached;
    last = λ p. differ (map make (listed (numbers_at p).trailing)) (listed p.trailing);
    mark = λ s p. 0;
    both = λ p q. 0;
  }

  if-zero : (b : Bool) → (if b then 0 else 1) ≤ 0 → b ≡ true
  if-zero true h = refl
  if-zero false h = absurd (omega (arith, h))

  pub differ-none : (a b : List (List ℕ)) → differ a b ≤ 0 → a ≡ b
  differ-none a b h = same-so a b (if-zero (same a b) h)

  differ-same : (a b : List (List ℕ)) → a ≡ b → differ a b ≤ 0
  differ-same a b is = let e : differ a b ≡ 0 = ap (λ b'. differ a b') (sym is) ∙ ap (λ c. if c then 0 else 1) (same-one a) in omega (arith, e)

  listed-made : (o : Option (List ℕ)) → map make (listed o) ≡ listed (option_map make o)
  listed-made None = refl
  listed-made (Some text) = refl

  pub none-false : (rows : Rows Place) → Each (IsFound with_numbers) rows → weigh false_texts (map (made_row make) rows) ≤ 0
  none-false [] h = omega arith
  none-false (r ∷ rows) h =
      let p = made_place make r.at in
      omega (
        arith,
        none-false rows h.1,
        behind-zero false_texts (λ p q. omega arith) p (map (made_row make) rows),
        differ-same (map make (listed (numbers_at p).leading)) (listed p.leading) (ap (λ o. map make (listed (place_in o).leading)) h.0 ∙ listed-made r.at.leading),
        differ-same (map make (numbers_at p).detached) p.detached (ap (λ o. map make (place_in o).detached) h.0),
        differ-same (map make (listed (numbers_at p).trailing)) (listed p.trailing) (ap (λ o. map make (listed (place_in o).trailing)) h.0 ∙ listed-made r.at.trailing),
      )

-- The rows that a location takes comments from are rows of the source, in order.
use Rattle.std.proofs.Common.{◌≡◌, ℕ, ◌+◌, ◌-◌, ◌≤◌, Bool, true, false, if◌then◌else◌, ◌==◌, List, [], ◌∷◌, map, Option, Some, None, refl, ap, subst, arith}
use Rattle.std.proofs.lemmas.Bool.{eqb-true}
use Rattle.protox_lexeme.specs.Lexemes.{Lexeme}
use Rattle.protox_lexeme.specs.Shapes.{Shape, Mark, Row, Rows}
use Rattle.protox_ast.proofs.Lemmas.{Stand}
use Rattle.protox_ast.specs.Keywords.{Each}
use Rattle.protox_ast.specs.Places.{Place}
use Rattle.protox_generate.proofs.Once.{IsFound, make, row_at, with_numbers}
use Rattle.protox_generate.proofs.RowsAround.{IsAround, rows-around}
use Rattle.protox_generate.proofs.Taking.{Weights, open_brace, behind, weigh}
use Rattle.protox_generate.proofs.TextsNatural.{made_place, made_row}

abbrev pub is_open : Shape → Bool
is_open (Mark byte) = byte == 123
is_open other = false

not-true : false ≡ true → ⊥
not-true e = subst (λ (c : Bool). elim c as (λ _. Type 0) [ true ↦ ⊥ | false ↦ Unit {0} ]) e tt

opens : (s : Shape) → is_open s ≡ true → s ≡ open_brace
opens (Mark byte) h = ap Mark (eqb-true byte 123 h)
opens other h = absurd (not-true h)

-- 0 where this row has the place's end
abbrev pub untold : Place → Option (Row Place) → ℕ
untold p None = 1
untold p (Some r) = (r.at.span.end - p.span.end) + (p.span.end - r.at.span.end)

-- 0 where this row is `{`
abbrev pub unopened : Option (Row Place) → ℕ
unopened None = 1
unopened (Some r) = if is_open r.shape then 0 else 1

row-opens : (b : Bool) → (if b then 0 else 1) ≤ 0 → b ≡ true
row-opens true h = refl
row-opens false h = absurd (omega (arith, h))

twice : (b : Bool) → (if b then (if b then 0 else 1) else 0) ≤ 0
twice true = omega arith
twice false = omega arith

in-each : (P : Row Place → Type 0) (rows : Rows Place) (start : ℕ) (r : Row Place) → row_at rows start ≡ Some r → Each P rows → P r × (r.at.span.start ≡ start)
in-each P [] start r is h = absurd (none-some is)
  where
    none-some : None ≡ Some r → ⊥
    none-some e = subst (λ (o : Option (Row Place)). elim o as (λ _. Type 0) [ None ↦ Unit {0} | Some y ↦ ⊥ ]) e tt
in-each P (x ∷ rows) start r is h = go (λ e. in-each P rows start r e h.1) (x.at.span.start == start) refl is
  where
    the-row : Some x ≡ Some r → x ≡ r
    the-row e = ap (λ (o : Option (Row Place)). elim o as (λ _. Row Place) [ None ↦ x | Some y ↦ y ]) e

    go : (row_at rows start ≡ Some r → P r × (r.at.span.start ≡ start)) → (b : Bool) → (x.at.span.start == start) ≡ b → (if b then Some x else row_at rows start) ≡ Some r → P r × (r.at.span.start ≡ start)
    go later true same e = subst (λ y. P y × (y.at.span.start ≡ start)) (the-row e) (h.0, eqb-true x.at.span.start start same)
    go later false other e = later e

module _ (lexemes : List Lexeme) where
  -- a row of the source that stands at the place
  pub record Known (p : Place) : Type 0 where
    pub row : Row Place
    pub found : row_at (with_numbers lexemes) p.span.start ≡ Some row
    pub start : row.at.span.start ≡ p.span.start
    pub end : row.at.span.end ≡ p.span.end
    pub around : IsAround lexemes row

  -- two rows in order do not have this
  abbrev pub disorder : Weights
  disorder = record {
    first = λ p. 0;
    last = λ p. 0;
    mark = λ s p. if is_open s then unopened (row_at (with_numbers lexemes) p.span.start) else 0;
    both = λ p q. untold p (row_at (with_numbers lexemes) p.span.start) + untold q (row_at (with_numbers lexemes) q.span.start) + (p.span.start - q.span.start) + (p.span.end - q.span.end);
  }

  -- ---- of all rows

  told : (r : Row Place) → IsFound (with_numbers lexemes) r → untold (made_place (make lexemes) r.at) (row_at (with_numbers lexemes) r.at.span.start) ≤ 0
  told r h = let e : untold (made_place (make lexemes) r.at) (row_at (with_numbers lexemes) r.at.span.start) ≡ untold (made_place (make lexemes) r.at) (Some r) = ap (untold (made_place (make lexemes) r.at)) h in omega (arith, e)

  marked : (r : Row Place) → IsFound (with_numbers lexemes) r → disorder.mark r.shape (made_place (make lexemes) r.at) ≤ 0
  marked r h =
      let e : disorder.mark r.shape (made_place (make lexemes) r.at) ≡ (if is_open r.shape then unopened (Some r) else 0) = ap (λ o. if is_open r.shape then unopened o else 0) h in
      omega (arith, e, twice (is_open r.shape))

  in-order-behind : (r : Row Place) (rows : Rows Place) (low high : ℕ) → IsFound (with_numbers lexemes) r → r.at.span.start ≤ low → r.at.span.end ≤ low → Stand low high rows → Each (IsFound (with_numbers lexemes)) rows
      → behind disorder (made_place (make lexemes) r.at) (map (made_row (make lexemes)) rows) ≤ 0
  in-order-behind r [] low high here start end h k = omega arith
  in-order-behind r (x ∷ rows) low high here start end h k =
      omega (arith, told r here, told x k.0, start, end, h.0, h.1, in-order-behind r rows x.at.span.end high here (omega (arith, start, h.0, h.1)) (omega (arith, end, h.0, h.1)) h.2 k.1)

  pub in-order-all : (rows : Rows Place) (low high : ℕ) → Stand low high rows → Each (IsFound (with_numbers lexemes)) rows → weigh disorder (map (made_row (make lexemes)) rows) ≤ 0
  in-order-all [] low high h k = omega arith
  in-order-all (r ∷ rows) low high h k =
      omega (arith, marked r k.0, in-order-behind r rows r.at.span.end high k.0 (omega (arith, h.1)) (omega arith) h.2 k.1, in-order-all rows r.at.span.end high h.2 k.1)

  -- ---- of two that a location takes comments from

  known : (p : Place) (o : Option (Row Place)) → row_at (with_numbers lexemes) p.span.start ≡ o → untold p o ≤ 0 → Known p
  known p None is h = absurd (omega (arith, h))
  known p (Some r) is h =
      let e = in-each (IsAround lexemes) (with_numbers lexemes) p.span.start r is (rows-around lexemes) in
      record { row = r; found = is; start = e.1; end = omega (arith, h); around = e.0 }

  pub known-first : (p q : Place) → disorder.both p q ≤ 0 → Known p
  known-first p q h = known p (row_at (with_numbers lexemes) p.span.start) refl (omega (arith, h))

  pub known-second : (p q : Place) → disorder.both p q ≤ 0 → Known q
  known-second p q h = known q (row_at (with_numbers lexemes) q.span.start) refl (omega (arith, h))

  pub starts : (p q : Place) → disorder.both p q ≤ 0 → p.span.start ≤ q.span.start
  starts p q h = omega (arith, h)

  pub ends : (p q : Place) → disorder.both p q ≤ 0 → p.span.end ≤ q.span.end
  ends p q h = omega (arith, h)

  pub braced : (p : Place) (k : Known p) → disorder.mark open_brace p ≤ 0 → k.row.shape ≡ open_brace
  braced p k h =
      let e : unopened (row_at (with_numbers lexemes) p.span.start) ≡ unopened (Some k.row) = ap unopened k.found in
      opens k.row.shape (row-opens (is_open k.row.shape) (omega (arith, h, e)))

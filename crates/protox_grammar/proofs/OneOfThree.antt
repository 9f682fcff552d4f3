-- Each list of rows spells a file, or ends too soon, or has one unexpected row. Only one of these
-- holds.
use Rattle.std.proofs.Common.{◌≡◌, ◌≤◌, ◌<◌, ℕ, zero, suc, List, [], ◌∷◌, ◌++◌, length, Result, Ok, Err, refl, sym, ap, subst, ◌∙◌, append_assoc, arith, inl, inr, ◌⊎◌}
use Rattle.std.proofs.lemmas.List.{append-nil, length-append}
use Rattle.std.proofs.lemmas.Bool.{cases_lt}
use Rattle.protox_lexeme.specs.Shapes.{Shape, Row, Rows}
use Rattle.protox_ast.specs.Tree as t
use Rattle.protox_ast.specs.DepthWalk as d
use Rattle.protox_ast.specs.Spells.{Spells, BeginsFile, IsUnexpected, IsEnded, shapes}
use Rattle.protox_grammar.specs.Reader.{Refusal, Unexpected, Deep}
use Rattle.protox_grammar.specs.Reads.{read}
use Rattle.protox_grammar.specs.OneOfThree.{IsSpelling, HasUnexpected, OneOfThree}
use Rattle.protox_grammar.proofs.StepLists.{apart-of}
use Rattle.protox_grammar.proofs.Tracing.{opens-of}
use Rattle.protox_grammar.proofs.Fronts as fronts
use Rattle.protox_grammar.proofs.Main as main
use Rattle.protox_grammar.proofs.Stops.{TooDeepRow}

-- Of two beginnings of one list, the longer one goes on with what the shorter one lacks.
longer-front : {A : Type 0} (xs ys zs ws : List A) → xs ++ ys ≡ zs ++ ws → length xs ≤ length zs → (ks : List A) × (zs ≡ xs ++ ks)
longer-front xs ys zs ws e l = elim (apart-of xs ys zs ws e) [
  | inl c ↦ (c.0 ∷ c.1, c.2)
  | inr c ↦ elim c [
    | inl same ↦ ([], sym same.0 ∙ sym (append-nil xs))
    | inr less ↦ absurd (omega (arith, l, less))
  ]
]

-- After one more element.
one-more : {A : Type 0} (xs : List A) (x : A) (ys : List A) → (xs ++ (x ∷ [])) ++ ys ≡ xs ++ (x ∷ ys)
one-more xs x ys = append_assoc xs (x ∷ []) ys

module _ {M : Type 0} (m : M) where
  -- ---- one of them holds

  -- a file that begins with the rows up to an opening `{` begins with the rows up to each earlier
  -- row
  goes-on : (xs : Rows M) (x : Row M) (more zs : Rows M) (z : Row M) (ws : Rows M) (f : t.File M) → xs ++ (x ∷ more) ≡ zs ++ (z ∷ ws) → length xs ≤ length zs → (rest : Rows M) → Spells ((zs ++ (z ∷ [])) ++ rest) f
      → (on : Rows M) × Spells (xs ++ (x ∷ on)) f
  goes-on xs x more zs z ws f e l rest h =
      let k = longer-front (xs ++ (x ∷ [])) more (zs ++ (z ∷ [])) ws (one-more xs x more ∙ e ∙ sym (one-more zs z ws)) (omega (arith, l, length-append xs (x ∷ []), length-append zs (z ∷ []))) in
      (k.0 ++ rest, subst (λ rows. Spells rows f) (ap (λ u. u ++ rest) k.1 ∙ append_assoc (xs ++ (x ∷ [])) k.0 rest ∙ one-more xs x (k.0 ++ rest)) h)

  -- If a body is too deep, the rows are read again, as deep as some file that begins with its `{`.
  -- If a body is too deep then, it comes later.
  later : (n left next : ℕ) (rows : Rows M) (v : TooDeepRow n rows (suc left)) → read (d.depth v.begins.0) rows ≡ Err (Deep (suc next)) → next < left
  later n left next rows v h =
      let w = main.deep m (d.depth v.begins.0) next rows h in
      elim (cases_lt next left) [
        | inl less ↦ less
        | inr most ↦
            let before : length w.front ≤ length v.front = omega (arith, most, v.left_is, w.left_is, ap length (sym v.parts ∙ w.parts), length-append v.front (v.here ∷ v.rest), length-append w.front (w.here ∷ w.rest)) in
            let g = goes-on w.front w.here w.rest v.front v.here v.rest v.begins.0 (sym w.parts ∙ v.parts) before v.begins.1 v.begins.2 in
            absurd (omega (arith, w.deeper v.begins.0 g.0 g.1))
      ]

  abbrev One : Rows M → Type 0
  One rows = IsSpelling rows ⊎ (IsEnded (shapes rows) ⊎ HasUnexpected (shapes rows))

  -- for any depth, if a body that is too deep has at most this many rows left
  one_at : (turns n : ℕ) (rows : Rows M) → ((left : ℕ) → read n rows ≡ Err (Deep (suc left)) → left < turns) → (result : Result (t.File M) Refusal) → read n rows ≡ result → One rows
  one_at turns n rows few (Ok f) h = inl (f, ((main.accepts_iff m n rows f).0 h).0)
  one_at turns n rows few (Err (Unexpected zero)) h = inr (inl (fronts.ended m n rows h))
  one_at turns n rows few (Err (Unexpected (suc left))) h = let u = fronts.unexpected m n left rows h in inr (inr (u.0, u.2))
  one_at turns n rows few (Err (Deep zero)) h = absurd (omega (arith, (opens-of (main.file_at m n) (main.laws m n).traced 0 rows (main.failed-so m n rows (Deep 0) h)).left_is))
  one_at zero n rows few (Err (Deep (suc left))) h = absurd (omega (arith, few left h))
  one_at (suc turns) n rows few (Err (Deep (suc left))) h =
      let v = main.deep m n left rows h in
      one_at turns (d.depth v.begins.0) rows (λ next again. omega (arith, later n left next rows v again, few left h)) (read (d.depth v.begins.0) rows) refl

  is-one : (rows : Rows M) → One rows
  is-one rows = one_at (length rows) 0 rows (λ left h. let v = main.deep m 0 left rows h in omega (arith, v.left_is, ap length v.parts, length-append v.front (v.here ∷ v.rest))) (read 0 rows) refl

  -- ---- only one of them holds

  -- if some file begins with the tokens, none of them is unexpected
  none-unexpected : (ss : List Shape) → BeginsFile ss (length ss) → HasUnexpected ss → ⊥
  none-unexpected ss b h = h.1.2 (fronts.begins-before ss (suc h.0) (length ss) h.1.0 b)

  -- no token after an unexpected one is unexpected
  none-behind : (ss : List Shape) (n other : ℕ) → IsUnexpected ss n → IsUnexpected ss other → n < other → ⊥
  none-behind ss n other u v less = u.2 (fronts.begins-before ss (suc n) other less v.1)

  same-place : (ss : List Shape) (n other : ℕ) → IsUnexpected ss n → IsUnexpected ss other → n ≡ other
  same-place ss n other u v = elim (cases_lt n other) [
    | inl less ↦ absurd (none-behind ss n other u v less)
    | inr most ↦ elim (cases_lt other n) [
      | inl less ↦ absurd (none-behind ss other n v u less)
      | inr least ↦ omega (arith, most, least)
    ]
  ]

  pub one_of_three : OneOfThree M
  one_of_three rows = record {
    is_one = is-one rows;
    spelling_has_not_ended = λ f e. let g = fronts.spelling-numbered m rows f.0 f.1 in e.1 g.0 g.1;
    spelling_has_none_unexpected = λ f h. none-unexpected (shapes rows) (fronts.spelling-begins m rows f.0 f.1) h;
    ended_has_none_unexpected = λ e h. none-unexpected (shapes rows) e.0 h;
    one_place = same-place (shapes rows);
  }

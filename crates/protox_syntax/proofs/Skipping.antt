-- Rows that are skipped by number.
use Rattle.std.proofs.Common.{◌≡◌, ◌<◌, ◌≤◌, ◌-◌, ℕ, zero, suc, true, cond, [], ◌∷◌, drop, length, Some, None, option_map, sym, ap, ◌∙◌, false, arith}
use Rattle.std.proofs.lemmas.List.{length-append}
use Rattle.std.proofs.Math.Seq.{drop-append_seam}
use Rattle.std.specs.Prelude.{slice_get, slice_index_or}
use Rattle.protox_fault.specs.Faults.{Span}
use Rattle.protox_lexeme.specs.Shapes.{Row, Rows}
use Rattle.protox_lexeme.specs.Table.{Table}
use Rattle.protox_lexeme.specs.TokenClass.{class}
use Rattle.protox_ast.proofs.Lemmas.{as-many}
use Rattle.protox_ast.specs.Places.{Place, placed}
use Rattle.protox_grammar.specs.Class.{among, in_set}
use Rattle.protox_rows.specs.Rows.{bare_row, no_row}
use Rattle.protox_rows.proofs.Lemmas.{drop-row, left-none, row-placed}
use Rattle.protox_syntax.specs.inner.Recovery.{behind_block, from_statement, last_rows, statement_words}
use Rattle.protox_syntax.proofs.Recovering.{IsLastOf, block-last, drop-last, last-last}

-- The last rows are determined by their number.
pub counted-last : (all rows : Rows Place) → IsLastOf all rows → drop (length all - length rows) all ≡ rows
counted-last all rows h =
    let many : length all - length rows ≡ length h.0 = omega (arith, ap length h.1, length-append h.0 rows) in
    ap (λ n. drop n all) many ∙ ap (drop (length h.0)) h.1 ∙ drop-append_seam h.0 rows

-- There is a row with this number, and this is it.
got-some : (rows : Rows Span) (k c : ℕ) → Some c ≡ option_map (λ (r : Row Span). class r.shape) (slice_get rows k) → (k < length rows) × (class (slice_index_or rows k bare_row).shape ≡ c)
got-some [] zero c e = absurd cc
got-some [] (suc k) c e = absurd cc
got-some (r ∷ rs) zero c e = (omega arith, let f = e in cc)
got-some (r ∷ rs) (suc k) c e = let h = got-some rs k c e in (omega (arith, h.0), h.1)

got-none : (rows : Rows Span) (k : ℕ) → option_map (λ (r : Row Span). class r.shape) (slice_get rows k) ≡ None → length rows ≤ k
got-none [] k e = omega arith
got-none (r ∷ rs) zero e = absurd cc
got-none (r ∷ rs) (suc k) e = let h = got-none rs k e in omega (arith, h)

module _ (t : Table) (k : ℕ) where
  pub in-table : (c : ℕ) → Some c ≡ option_map (λ (r : Row Span). class r.shape) (slice_get t.rows k) → k < length t.rows
  in-table c e = (got-some t.rows k c e).0

  split-row : (c : ℕ) → Some c ≡ option_map (λ (r : Row Span). class r.shape) (slice_get t.rows k) → (r : Row Place) × (drop k (placed t) ≡ r ∷ drop (suc k) (placed t)) × (class r.shape ≡ c)
  split-row c e =
      let h = got-some t.rows k c e in (
        slice_index_or (placed t) k no_row,
        drop-row (placed t) k (omega (arith, h.0, as-many true t.rows t.gaps)),
        ap (λ (r : Row Place). class r.shape) (row-placed true t.rows t.gaps k no_row bare_row h.0) ∙ h.1,
      )

  -- A word that begins a statement stops the search.
  pub stops-at : (c : ℕ) → Some c ≡ option_map (λ (r : Row Span). class r.shape) (slice_get t.rows k) → true ≡ among statement_words c → drop k (placed t) ≡ from_statement (drop k (placed t))
  stops-at c e is =
      let s = split-row c e in
      let found : true ≡ in_set (among statement_words) s.0.shape = is ∙ ap (among statement_words) (sym s.2) in
      s.1 ∙ ap (λ b. cond b (s.0 ∷ drop (suc k) (placed t)) (from_statement (drop (suc k) (placed t)))) found ∙ ap from_statement (sym s.1)

  -- Any other is skipped.
  pub goes-on : (c : ℕ) → Some c ≡ option_map (λ (r : Row Span). class r.shape) (slice_get t.rows k) → among statement_words c ≡ false → from_statement (drop k (placed t)) ≡ from_statement (drop (suc k) (placed t))
  goes-on c e isnt =
      let s = split-row c e in
      let passed : in_set (among statement_words) s.0.shape ≡ false = ap (among statement_words) s.2 ∙ isnt in
      ap from_statement s.1 ∙ ap (λ b. cond b (s.0 ∷ drop (suc k) (placed t)) (from_statement (drop (suc k) (placed t)))) passed

  -- The rows at this number are those that are left when so many are counted.
  pub counted : k ≤ length t.rows → drop (length t.rows - (length t.rows - k)) (placed t) ≡ drop k (placed t)
  counted le = let back : length t.rows - (length t.rows - k) ≡ k = omega (arith, le) in ap (λ n. drop n (placed t)) back

  -- Behind the last row there is nothing to be found.
  pub ends-at : option_map (λ (r : Row Span). class r.shape) (slice_get t.rows k) ≡ None → drop (length t.rows - 0) (placed t) ≡ from_statement (drop k (placed t))
  ends-at e = left-none t (length t.rows - 0) (omega arith) ∙ ap from_statement (sym (left-none t k (got-none t.rows k e)))

-- What is left behind a block, counted.
pub behind-counted : (t : Table) (count : ℕ) → drop (length t.rows - length (behind_block 0 (last_rows t count))) (placed t) ≡ behind_block 0 (last_rows t count)
behind-counted t count =
    let rows = behind_block 0 (last_rows t count) in
    ap (λ n. drop (n - length rows) (placed t)) (sym (as-many true t.rows t.gaps)) ∙ counted-last (placed t) rows (last-last (placed t) (last_rows t count) rows (drop-last (length t.rows - count) (placed t)) (block-last 0 (last_rows t count)))

-- The text of an identifier stands at its span in the source.
use Rattle.std.proofs.Common.{◌≡◌, ℕ, ◌+◌, ◌-◌, ◌≤◌, Bool, true, false, inl, inr, List, [], ◌∷◌, length, take, drop, refl, sym, ap, ◌∙◌, subst, length-drop, drop-drop, arith}
use Rattle.std.proofs.lemmas.Bool.{cases_Bool, false≢true}
use Rattle.std.proofs.lemmas.Str.{IsUtf8-drop}
use Rattle.std.specs.Str.{IsUtf8}
use Rattle.protox_ast.specs.Basics.{Each}
use Rattle.protox_ast.specs.Places.{Place, later_gaps, placed, placed_from}
use Rattle.protox_fault.specs.Faults.{Span, span_from}
use Rattle.protox_lexeme.proofs.Lemmas.{blanks_boundary, cut_is_cut, fits_within, lexeme_stands}
use Rattle.protox_lexeme.specs.declared.scan.Kind.{Kind}
use Rattle.protox_lexeme.specs.declared.scan.Kind.TheVariants as kind
use Rattle.protox_lexeme.specs.Lexemes.{Lexeme, IsCut, IsLexeme, blanks, cut, lexeme}
use Rattle.protox_lexeme.specs.Lexicon.{pattern}
use Rattle.protox_lexeme.specs.Shapes.{Shape, Ident, Row, Rows}
use Rattle.protox_lexeme.specs.Table.{is_gap, rows_of, table_of}

-- the text of a span in the source
pub record TextAt (source : List ℕ) (span : Span) (text : List ℕ) : Type 0 where
  pub in_order : span.start ≤ span.end
  pub within : span.end ≤ length source
  pub is : take (span.end - span.start) (drop span.start source) ≡ text

module _ (source : List ℕ) where
  -- an identifier there has the text
  abbrev Spelled : Shape → Span → Type 0
  Spelled shape span = (word : List ℕ) → shape ≡ Ident word → TextAt source span word

  abbrev pub RowSpelled : Row Place → Type 0
  RowSpelled row = Spelled row.shape row.at.span

  -- ---- lexemes

  abbrev word_of : Shape → List ℕ
  word_of (Ident word) = word
  word_of _ = []

  abbrev is_ident : Shape → Bool
  is_ident (Ident word) = true
  is_ident _ = false

  other : (shape : Shape) (span : Span) → is_ident shape ≡ false → Spelled shape span
  other shape span different word e = absurd (false≢true (sym different ∙ ap is_ident e))

  kind-spelled : (k : Kind) (at n : ℕ) → at + n ≤ length source → let x = lexeme k at (drop at source) n in Spelled x.shape (span_from x.start x.stop)
  kind-spelled kind.Identifier at n le = λ word e. record {
    in_order = omega arith;
    within = le;
    is = ap (λ k. take k (drop at source)) (omega arith) ∙ ap word_of e;
  }
  kind-spelled kind.Integer at n le = other _ _ refl
  kind-spelled kind.Float at n le = other _ _ refl
  kind-spelled kind.String at n le = other _ _ refl
  kind-spelled kind.Mark at n le = other _ _ refl
  kind-spelled kind.LineComment at n le = other _ _ refl
  kind-spelled kind.BlockComment at n le = other _ _ refl
  kind-spelled kind.Newline at n le = other _ _ refl

  lexeme-spelled : (at : ℕ) (x : Lexeme) → at ≤ length source → IsLexeme at (drop at source) x → Spelled x.shape (span_from x.start x.stop)
  lexeme-spelled at x le (inl (k, n, longest, same)) =
      subst (λ (y : Lexeme). Spelled y.shape (span_from y.start y.stop)) (sym same)
      (kind-spelled k at n (omega (arith, le, length-drop at source, fits_within (pattern k) (drop at source) n longest.fits)))
  lexeme-spelled at x le (inr (none, same)) = subst (λ (y : Lexeme). Spelled y.shape (span_from y.start y.stop)) (sym same) (other _ _ refl)

  -- ---- rows

  cut-spelled : (at : ℕ) (xs : List Lexeme) → IsUtf8 (drop at source) → at ≤ length source → IsCut at (drop at source) xs → Each (λ (r : Row Span). Spelled r.shape r.at) (rows_of xs)
  cut-spelled at [] u le h = tt
  cut-spelled at (x ∷ xs) u le h =
      let text = drop at source in
      let b = blanks text in
      let from : drop b text ≡ drop (at + b) source = drop-drop b at source in
      let is : IsLexeme (at + b) (drop (at + b) source) x = subst (λ t. IsLexeme (at + b) t x) from h.1 in
      let here : at + b ≤ length source = omega (arith, h.0, length-drop at source) in
      let word = lexeme-spelled (at + b) x here is in
      let utf8 : IsUtf8 (drop (at + b) source) = subst (λ (t : List ℕ). IsUtf8 t) from (IsUtf8-drop text b u (blanks_boundary text b refl u)) in
      let s = lexeme_stands (at + b) (drop (at + b) source) x is utf8 (omega (arith, h.0, length-drop at source, length-drop (at + b) source)) in
      let past : x.stop - (at + b) + (at + b) ≡ x.stop = omega (arith, s.some) in
      let behind : drop (x.stop - (at + b)) (drop (at + b) source) ≡ drop x.stop source = drop-drop (x.stop - (at + b)) (at + b) source ∙ ap (λ k. drop k source) (omega (arith, s.some)) in
      let rest-utf8 : IsUtf8 (drop x.stop source) = subst (λ (t : List ℕ). IsUtf8 t) behind s.rest in
      let next-text : drop (x.stop - at) text ≡ drop x.stop source = drop-drop (x.stop - at) at source ∙ ap (λ k. drop k source) (omega (arith, s.some)) in
      let more = cut-spelled x.stop xs rest-utf8 (omega (arith, here, s.within, length-drop (at + b) source)) (subst (λ t. IsCut x.stop t xs) next-text h.2) in
      elim (cases_Bool (is_gap x.shape)) [
        | inl gap ↦ rw gap more
        | inr row ↦ rw row (word, more)
      ]

  placed-spelled : (first : Bool) (rows : Rows Span) (gaps : List (List Shape)) → Each (λ (r : Row Span). Spelled r.shape r.at) rows → Each RowSpelled (placed_from first rows gaps)
  placed-spelled first [] gaps h = tt
  placed-spelled first (r ∷ rs) gaps h = (h.0, placed-spelled false rs (later_gaps gaps) h.1)

-- Each identifier among a source's tokens has the text at its span.
pub rows-spelled : (source : List ℕ) → IsUtf8 source → Each (RowSpelled source) (placed (table_of (cut 0 source)))
rows-spelled source u = placed-spelled source true (rows_of (cut 0 source)) _ (cut-spelled source 0 (cut 0 source) u (omega arith) (cut_is_cut 0 source))

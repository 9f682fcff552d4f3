-- Where lexemes stand in a source, and how far it has been read.
use Rattle.std.proofs.Common.{◌≡◌, inl, inr, ℕ, ◌+◌, ◌-◌, ◌≤◌, ◌<◌, List, [], ◌∷◌, ◌++◌, length, drop, Some, refl, sym, ap, subst, ◌∙◌, append_assoc, length-drop, arith}
use Rattle.std.proofs.lemmas.List.{drop-drop}
use Rattle.std.proofs.lemmas.Str.{IsCharBoundary-from_drop, IsUtf8-drop}
use Rattle.std.specs.Str.{IsCharBoundary, IsUtf8}
use Rattle.protox_fault.specs.Faults.{Span, span_from}
use Rattle.protox_lexeme.specs.Lexemes.{IsCut, Lexeme, blanks, cut}
use Rattle.protox_lexeme.proofs.Lemmas.{blanks_boundary, cut_is_cut, lexeme_stands}
use Rattle.protox_syntax.specs.declared.parts.Progress.{Progress}
use Rattle.protox_syntax.specs.inner.Parts.{IsBetween, IsNoted, last_end}
use Rattle.protox_ast.specs.declared.ast.File.{File}
use Rattle.protox_ast.specs.declared.ast.FileItem.{FileItem}

-- ---- where lexemes stand

record StandsThere (at : ℕ) (text : List ℕ) (x : Lexeme) : Type 0 where
  behind : at ≤ x.start
  some : x.start < x.stop
  within : x.stop ≤ at + length text
  utf8 : IsUtf8 (drop (x.start - at) text)

stands-there : (at : ℕ) (text : List ℕ) (front : List Lexeme) (x : Lexeme) (back : List Lexeme) → IsCut at text (front ++ x ∷ back) → IsUtf8 text → StandsThere at text x
stands-there at text [] x back is_cut u =
    let long = length-drop (blanks text) text in
    let rest = IsUtf8-drop text (blanks text) u (blanks_boundary text (blanks text) refl u) in
    let here = lexeme_stands (at + blanks text) (drop (blanks text) text) x is_cut.1 rest (omega (arith, is_cut.0, long)) in
    let past : blanks text ≡ x.start - at = omega (arith, here.start) in
    record {
      behind = omega (arith, here.start);
      some = omega (arith, here.start, here.some);
      within = omega (arith, here.within, long, is_cut.0);
      utf8 = subst (λ (n : ℕ). IsUtf8 (drop n text)) past rest;
    }
stands-there at text (f ∷ front) x back is_cut u =
    let long = length-drop (blanks text) text in
    let rest = IsUtf8-drop text (blanks text) u (blanks_boundary text (blanks text) refl u) in
    let first = lexeme_stands (at + blanks text) (drop (blanks text) text) f is_cut.1 rest (omega (arith, is_cut.0, long)) in
    let past : blanks text + (f.stop - (at + blanks text)) ≡ f.stop - at = omega (arith, first.some) in
    let next = subst (λ (t : List ℕ). IsUtf8 t) (drop-drop (f.stop - (at + blanks text)) (blanks text) text ∙ ap (λ n. drop n text) past) first.rest in
    let there = stands-there f.stop (drop (f.stop - at) text) front x back is_cut.2 next in
    let left = length-drop (f.stop - at) text in
    let far : (f.stop - at) + (x.start - f.stop) ≡ x.start - at = omega (arith, first.some, there.behind) in
    record {
      behind = omega (arith, first.some, there.behind);
      some = there.some;
      within = omega (arith, there.within, left, first.within, first.some, long, is_cut.0);
      utf8 = subst (λ (t : List ℕ). IsUtf8 t) (drop-drop (x.start - f.stop) (f.stop - at) text ∙ ap (λ n. drop n text) far) there.utf8;
    }

module _ (source : List ℕ) (u : IsUtf8 source) (front : List Lexeme) (x : Lexeme) (back : List Lexeme) (is : cut 0 source ≡ front ++ x ∷ back) where
  there : StandsThere 0 source x
  there = stands-there 0 source front x back (subst (IsCut 0 source) is (cut_is_cut 0 source)) u

  -- a lexeme begins where a character does
  pub begins-well : IsCharBoundary source x.start
  begins-well =
      let same : x.start - 0 ≡ x.start = omega arith in
      IsCharBoundary-from_drop source x.start (omega (arith, there.some, there.within)) (subst (λ (n : ℕ). IsUtf8 (drop n source)) same there.utf8)

  -- and ends within the source
  pub ends-within : x.stop ≤ length source
  ends-within = omega (arith, there.within)

-- ---- how far the source has been read

module _ (source : List ℕ) (u : IsUtf8 source) (progress : Progress) (gone : List FileItem) (head : File) (b : IsBetween source progress gone head) where
  split-at : (front : List Lexeme) (last : Lexeme) → b.read ≡ front ++ last ∷ [] → cut 0 source ≡ front ++ last ∷ b.left
  split-at front last is = b.all ∙ ap (λ l. l ++ b.left) is ∙ append_assoc front (last ∷ []) b.left

  pub last-within : last_end progress.last ≤ length source
  last-within = by b.noted
    where
      by : IsNoted source b.first b.read b.f progress → last_end progress.last ≤ length source
      by (inl n) = let none = ap last_end n.3 in omega (arith, none)
      by (inr n) = let last = ap last_end n.5 in let within = ends-within source u n.1 n.2 b.left (split-at n.1 n.2 n.3) in omega (arith, last, within)

  -- the last token read begins where a character does
  pub last-begins : (last : Span) → progress.last ≡ Some last → IsCharBoundary source last.start
  last-begins last some = by b.noted
    where
      by : IsNoted source b.first b.read b.f progress → IsCharBoundary source last.start
      by (inl n) = let e = sym some ∙ n.3 in absurd cc
      by (inr n) =
          let same : Some (span_from n.2.start n.2.stop) ≡ Some last = sym n.5 ∙ some in
          let is : span_from n.2.start n.2.stop ≡ last = cc in
          subst (λ (s : Span). IsCharBoundary source s.start) is (begins-well source u n.1 n.2 b.left (split-at n.1 n.2 n.3))

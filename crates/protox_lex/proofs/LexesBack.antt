-- Printed shapes lex to the same shapes.
use Rattle.std.proofs.Common.{◌≡◌, ℕ, ◌+◌, ◌<◌, Bool, true, false, ◌⊎◌, inl, inr, List, [], ◌∷◌, ◌++◌, length, take, drop, get_or, refl, sym, ap, ◌∙◌, subst, eq-eqb, arith, Some}
use Rattle.std.proofs.lemmas.Bool.{true≢false, false≢true, and_parts}
use Rattle.std.proofs.lemmas.Bool.Decides.{nat_tests}
use Rattle.std.specs.List.{prefix_len, list_all}
use Rattle.std.specs.Char.{is_ascii_digit}
use Rattle.protox_lexeme.specs.declared.scan.Kind.{Kind}
use Rattle.protox_lexeme.specs.declared.scan.Kind.TheVariants as kind
use Rattle.protox_lexeme.specs.Lexemes.{lexeme, first_lexeme}
use Rattle.protox_lexeme.specs.Lexicon.{pattern, is_letter, is_word, is_mark, is_blank}
use Rattle.protox_lexeme.specs.Scanning.{scan}
use Rattle.protox_lexeme.specs.Shapes.{Shape, Ident, Mark}
use Rattle.protox_lex.specs.Words.{IsWordOf}
use Rattle.protox_lexeme.proofs.Lemmas.{AllPass, head_passes, mark_apart}
use Rattle.protox_lexeme.proofs.Lemmas as scanned

-- ---- what follows a shape

-- The end of the text, or a space.
abbrev pub AtEnd : List ℕ → Type 0
AtEnd rest = (rest ≡ []) ⊎ ((more : List ℕ) × (rest ≡ 32 ∷ more))

-- A test that neither 0 nor a space passes fails there.
pub ends_run : (p : ℕ → Bool) (rest : List ℕ) → p 0 ≡ false → p 32 ≡ false → AtEnd rest → p (get_or rest 0 0) ≡ false
ends_run p rest none space (inl e) = ap (λ t. p (get_or t 0 0)) e ∙ none
ends_run p rest none space (inr (more, e)) = ap (λ t. p (get_or t 0 0)) e ∙ space

-- A run that ends there.
pub run_to : (p : ℕ → Bool) (s rest : List ℕ) → AllPass p s → p 0 ≡ false → p (get_or rest 0 0) ≡ false → prefix_len p (s ++ rest) ≡ length s
run_to p [] [] all none stops = refl
run_to p [] (r ∷ rest) all none stops = rw stops refl
run_to p (b ∷ s) rest all none stops =
    let (here, more) = head_passes p b s all in
    let tail = run_to p s rest more none stops in
    rw here (omega arith)

pub front_is : (s rest : List ℕ) → take (length s) (s ++ rest) ≡ s
front_is [] rest = refl
front_is (b ∷ s) rest = ap (λ t. b ∷ t) (front_is s rest)

pub rest_is : (s rest : List ℕ) → drop (length s) (s ++ rest) ≡ rest
rest_is [] rest = refl
rest_is (b ∷ s) rest = rest_is s rest

pub at_rest : (s rest : List ℕ) → get_or (s ++ rest) (length s) 0 ≡ get_or rest 0 0
at_rest [] rest = refl
at_rest (b ∷ s) rest = at_rest s rest

-- ---- one shape

-- The first lexeme of the text has the shape, ends after n bytes, and has no fault.
pub record LexesAs (at : ℕ) (text : List ℕ) (n : ℕ) (x : Shape) : Type 0 where
  pub stop : (first_lexeme at text).stop ≡ at + n
  pub shape : (first_lexeme at text).shape ≡ x
  pub faults : (first_lexeme at text).faults ≡ []
  pub some : 0 < length text
  pub ink : is_blank (get_or text 0 0) ≡ false

pub by_scan : (at : ℕ) (text : List ℕ) (k : Kind) (n : ℕ) → scan text ≡ Some (k, n) → first_lexeme at text ≡ lexeme k at text n
unfolding first_lexeme
by_scan at text k n e = rw e refl

letter_not_blank : (b : ℕ) → is_letter b ≡ true → is_blank b ≡ false
letter_not_blank b h = grind (arith, nat_tests)

all_pass : (p : ℕ → Bool) (s : List ℕ) → list_all p s ≡ true → AllPass p s
all_pass p [] h = refl
all_pass p (b ∷ s) h =
    let (here, more) = and_parts (p b) (list_all p s) h in
    let tail = all_pass p s more in
    rw here (omega arith)

pub ident_lexes : (at : ℕ) (s rest : List ℕ) → IsWordOf (pattern kind.Identifier) s → AtEnd rest → LexesAs at (s ++ rest) (length s) (Ident s)
ident_lexes at s rest (x, y, parts, (b, letter, is_b), run) end =
    let whole : s ≡ b ∷ y = parts ∙ ap (λ t. t ++ y) is_b in
    let word : AllPass is_word (b ∷ y) = rw (scanned.letter_word b letter) (let tail = all_pass is_word y run in omega arith) in
    let text = (b ∷ y) ++ rest in
    let size = run_to is_word (b ∷ y) rest word refl (ends_run is_word rest refl refl end) in
    let found : scan text ≡ Some (kind.Identifier, length (b ∷ y)) = scanned.scan_letter text letter ∙ ap (λ n. Some (kind.Identifier, n)) size in
    let is = by_scan at text kind.Identifier (length (b ∷ y)) found in
    let P : List ℕ → Type 0 = λ t. LexesAs at (t ++ rest) (length t) (Ident t) in
    let here : P (b ∷ y) = record {
      stop = ap (λ l. l.stop) is;
      shape = ap (λ l. l.shape) is ∙ ap Ident (front_is (b ∷ y) rest);
      faults = ap (λ l. l.faults) is;
      some = omega arith;
      ink = letter_not_blank b letter;
    } in
    subst P (sym whole) here

mark_ink : (b : ℕ) → is_mark b ≡ true → is_blank b ≡ false
mark_ink b h = grind (arith, nat_tests)

not_point : (c : ℕ) → is_ascii_digit c ≡ true → (c ≡ 0) ⊎ (c ≡ 32) → ⊥
not_point c h (inl e) = absurd (false≢true (let P : ℕ → Type 0 = λ k. is_ascii_digit k ≡ true in subst P e h))
not_point c h (inr e) = absurd (false≢true (let P : ℕ → Type 0 = λ k. is_ascii_digit k ≡ true in subst P e h))

end_byte : (rest : List ℕ) → AtEnd rest → (get_or rest 0 0 ≡ 0) ⊎ (get_or rest 0 0 ≡ 32)
end_byte rest (inl e) = inl (ap (λ t. get_or t 0 0) e)
end_byte rest (inr (more, e)) = inr (ap (λ t. get_or t 0 0) e)

end_not : (c k : ℕ) → (c ≡ 0) ⊎ (c ≡ 32) → c ≡ k → (k ≡ 0 → ⊥) → (k ≡ 32 → ⊥) → ⊥
end_not c k (inl e) same not_zero not_space = not_zero (sym same ∙ e)
end_not c k (inr e) same not_zero not_space = not_space (sym same ∙ e)

pub mark_lexes : (at b : ℕ) (rest : List ℕ) → is_mark b ≡ true → AtEnd rest → LexesAs at ((b ∷ []) ++ rest) 1 (Mark b)
mark_lexes at b rest h end =
    let text = b ∷ rest in
    let (letter, digit, quote, newline, hash) = mark_apart b h in
    let c = end_byte rest end in
    let found : scan text ≡ Some (kind.Mark, 1) = elim (scanned.scan_case text) [
      | scanned.at_letter l e ↦ absurd (true≢false (sym l ∙ letter))
      | scanned.at_digit d e ↦ absurd (true≢false (sym d ∙ digit))
      | scanned.at_fraction p d e ↦ absurd (not_point (get_or rest 0 0) d c)
      | scanned.at_quote q e ↦ absurd (true≢false (sym q ∙ quote))
      | scanned.at_hash k e ↦ absurd (true≢false (sym (eq-eqb b 35 k) ∙ hash))
      | scanned.at_line k n e ↦ absurd (end_not (get_or rest 0 0) 47 c n (λ z. omega arith) (λ z. omega arith))
      | scanned.at_block k n e ↦ absurd (end_not (get_or rest 0 0) 42 c n (λ z. omega arith) (λ z. omega arith))
      | scanned.at_mark m p s e ↦ e
      | scanned.at_newline n e ↦ absurd (true≢false (sym (eq-eqb b 10 n) ∙ newline))
      | scanned.at_other l d q k m n e ↦ absurd (true≢false (sym h ∙ m))
    ] in
    let is = by_scan at text kind.Mark 1 found in
    record { stop = ap (λ l. l.stop) is; shape = ap (λ l. l.shape) is; faults = ap (λ l. l.faults) is; some = omega arith; ink = mark_ink b h }

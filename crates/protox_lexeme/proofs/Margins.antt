-- A text without a newline has no margin.
use Rattle.std.proofs.Common.{◌≡◌, ℕ, ◌+◌, Bool, true, false, eqb, inl, inr, List, [], ◌∷◌, ◌++◌, length, get_or, refl, ap, ◌∙◌, arith}
use Rattle.std.proofs.lemmas.Bool.{cases_Bool, eqb-true}
use Rattle.std.proofs.lemmas.Str.{encodes-chars, encode_ascii}
use Rattle.std.specs.Prelude.{encode_utf8, encode_utf8_all}
use Rattle.std.specs.List.{prefix_len}
use Rattle.std.specs.Str.{IsUtf8, chars}
use Rattle.protox_lexeme.specs.Lexicon.{is_not_newline}
use Rattle.protox_lexeme.specs.BlockComments.{without_margins, without_returns, comment_text, is_one_line}

-- all pass
abbrev pub AllPass : (ℕ → Bool) → List ℕ → Type 0
AllPass p xs = prefix_len p xs ≡ length xs

pub head_passes : (p : ℕ → Bool) (x : ℕ) (xs : List ℕ) → AllPass p (x ∷ xs) → (p x ≡ true) × AllPass p xs
head_passes p x xs h =
    elim (cases_Bool (p x)) [
      | inl e ↦ let both : 1 + prefix_len p xs ≡ length (x ∷ xs) = rw e at h in (e, omega arith)
      | inr e ↦ let none : 0 ≡ length (x ∷ xs) = rw e at h in absurd (omega arith)
    ]

pub rest_passes : (p : ℕ → Bool) (xs ys : List ℕ) → AllPass p (xs ++ ys) → AllPass p ys
rest_passes p [] ys h = h
rest_passes p (x ∷ xs) ys h = rest_passes p xs ys (head_passes p x (xs ++ ys) h).1

-- no character is a newline
abbrev NoNewline : List ℕ → Type 0
NoNewline [] = Unit {0}
NoNewline (c ∷ cs) = (eqb c 10 ≡ false) × NoNewline cs

no_newline : (cs : List ℕ) → AllPass is_not_newline (encode_utf8_all cs) → NoNewline cs
no_newline [] h = tt
no_newline (c ∷ cs) h =
    let rest = no_newline cs (rest_passes is_not_newline (encode_utf8 c) (encode_utf8_all cs) h) in
    elim (cases_Bool (eqb c 10)) [
      | inl e ↦
          let same = eqb-true c 10 e in
          let first : encode_utf8 c ≡ 10 ∷ [] = ap encode_utf8 same ∙ encode_ascii 10 (omega arith) in
          let whole : AllPass is_not_newline (10 ∷ encode_utf8_all cs) = rw first at h in
          absurd (cc (head_passes is_not_newline 10 (encode_utf8_all cs) whole).0)
      | inr e ↦ (e, rest)
    ]

margins_none : (cs : List ℕ) → NoNewline cs → without_margins false cs ≡ cs
margins_none [] h = refl
margins_none (c ∷ cs) (here, h) = rw here (ap (λ t. c ∷ t) (margins_none cs h))

first_not : (cs : List ℕ) → NoNewline cs → eqb (get_or cs 0 0) 10 ≡ false
first_not [] h = refl
first_not (c ∷ cs) (here, h) = here

returns_none : (cs : List ℕ) → NoNewline cs → without_returns cs ≡ cs
returns_none [] h = refl
returns_none (c ∷ cs) (here, h) =
    let next = first_not cs h in
    elim (cases_Bool (eqb c 13)) [
      | inl e ↦ rw (e, next) (ap (λ t. c ∷ t) (returns_none cs h))
      | inr e ↦ rw e (ap (λ t. c ∷ t) (returns_none cs h))
    ]

pub one_line : (content : List ℕ) → IsUtf8 content → is_one_line content ≡ true → comment_text content ≡ content
unfolding comment_text
one_line content u h =
    let same = encodes-chars content u in
    let all : AllPass is_not_newline (encode_utf8_all (chars content)) = rw same (eqb-true (prefix_len is_not_newline content) (length content) h) in
    let none = no_newline (chars content) all in
    ap (λ t. encode_utf8_all (without_returns t)) (margins_none (chars content) none) ∙ ap encode_utf8_all (returns_none (chars content) none) ∙ same

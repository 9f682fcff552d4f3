-- A location with its comments around it, and locations that the definition refuses: their comments
-- are elsewhere, or in another order.
use Prim.Native.String.{String}
use Rattle.std.proofs.Common.{◌≡◌, ℕ, zero, suc, ◌<◌, Bool, true, false, if◌then◌else◌, inl, inr, List, [], ◌∷◌, ◌++◌, flat_map, Option, Some, None, refl, ap, sym, subst, append_assoc, ◌∙◌, arith}
use Rattle.std.specs.Prelude.{◌==◌, codes, ℤ, pos, nat_abs, slice_get, unwrap_or}
use Rattle.protox_fault.specs.Faults.{Span, span_from}
use Rattle.protox_lexeme.specs.Lexemes.{Lexeme, plain}
use Rattle.protox_lexeme.specs.Shapes.{Shape, Ident, Str, Mark, LineComment, BlockComment, Newline}
use Rattle.protox_descriptor.specs.declared.descriptor.source_code_info.Location.{Location}
use Rattle.protox_places.specs.Lines.{column, line, span_numbers}
use Rattle.protox_generate.specs.Commented.{AreGap, AreText, AreTexts, CommentedOnce, HasAround, IsNext, Rise, Sources, StandsAround, lexeme_at, text_at}

-- ---- comments in their places

-- two detached comments, a leading and a trailing one
abbrev source : String
source = "/* a */\n\n/* b */\n\n// c\npackage p; // d"

abbrev lexemes : List Lexeme
lexemes =
    plain (BlockComment (codes " a ")) 0 7 ∷ plain Newline 7 1 ∷ plain Newline 8 1
    ∷ plain (BlockComment (codes " b ")) 9 7 ∷ plain Newline 16 1 ∷ plain Newline 17 1
    ∷ plain (LineComment (codes " c\n")) 18 5
    ∷ plain (Ident (codes "package")) 23 7 ∷ plain (Ident (codes "p")) 31 1 ∷ plain (Mark 59) 32 1
    ∷ plain (LineComment (codes " d")) 34 4 ∷ []

abbrev location : Location
location = record {
  path = pos 2 ∷ [];
  span = pos 5 ∷ pos 0 ∷ pos 10 ∷ [];
  leading_comments = Some (codes " c\n");
  trailing_comments = Some (codes " d");
  leading_detached_comments = codes " a " ∷ codes " b " ∷ [];
}

abbrev sources : Sources
sources = record { leading = 6 ∷ []; trailing = 10 ∷ []; detached = (0 ∷ []) ∷ (3 ∷ []) ∷ [] }

before-package : AreGap lexemes 0 7
before-package zero l h = (_, refl, refl)
before-package (suc zero) l h = (_, refl, refl)
before-package (suc (suc zero)) l h = (_, refl, refl)
before-package (suc (suc (suc zero))) l h = (_, refl, refl)
before-package (suc (suc (suc (suc zero)))) l h = (_, refl, refl)
before-package (suc (suc (suc (suc (suc zero))))) l h = (_, refl, refl)
before-package (suc (suc (suc (suc (suc (suc zero)))))) l h = (_, refl, refl)
before-package (suc (suc (suc (suc (suc (suc (suc n))))))) l h = absurd (omega (arith, h))

around : StandsAround (codes source) lexemes location sources
around = record {
  span = span_from 23 33;
  spanned = refl;
  first = 7;
  begins = (plain (Ident (codes "package")) 23 7, refl, refl);
  from = 0;
  gap = before-package;
  before = (omega arith, (omega arith, (omega arith, omega arith)));
  leads = inl refl;
  last = 9;
  ends = (plain (Mark 59) 32 1, refl, (omega arith, omega arith, inl refl));
  trails = inl refl;
  neighbours = (tt, (tt, (tt, (tt, tt))));
}

once : CommentedOnce (codes source) lexemes (location ∷ [])
once = (
  sources ∷ [],
  (record { leading = refl; trailing = refl; detached = (refl, (refl, tt)) }, inr around, tt),
  (
    ((λ e. absurd (omega (arith, e))), ((λ e. absurd (omega (arith, e))), ((λ e. absurd (omega (arith, e))), tt))),
    (((λ e. absurd (omega (arith, e))), ((λ e. absurd (omega (arith, e))), tt)), (((λ e. absurd (omega (arith, e))), tt), (tt, tt))),
  ),
)

-- ---- texts and the comments that they begin with

none-is-some : {A : Type 0} (x : A) → None ≡ Some x → ⊥
none-is-some {A} x e = subst (λ (o : Option A). elim o as (λ _. Type 0) [ None ↦ Unit {0} | Some t ↦ ⊥ ]) e tt

-- the letter of a text that begins with a space
abbrev letter : List ℕ → ℕ
letter text = unwrap_or (slice_get text 1) 0

abbrev letter_of : Option (List ℕ) → ℕ
letter_of None = 0
letter_of (Some text) = letter text

abbrev text_in : Option (List ℕ) → List ℕ
text_in None = []
text_in (Some text) = text

-- of a text that is joined of several
joined-letter : (own front back text : List ℕ) → Some own ≡ Some front → text ≡ front ++ back → letter text ≡ letter (own ++ back)
joined-letter own front back text e is = ap letter is ∙ ap (λ o. letter (text_in o ++ back)) (sym e)

-- ---- numbers that rise

last-below : (from to n : ℕ) (rest : List ℕ) → Rise from to (n ∷ rest) → n < to
last-below from to n [] h = h.1
last-below from to n (m ∷ rest) h = omega (arith, h.1.0, last-below (suc n) to m rest h.1)

below : (from to : ℕ) (a : List ℕ) (n : ℕ) (rest : List ℕ) → Rise from to (a ++ n ∷ rest) → n < to
below from to [] n rest h = last-below from to n rest h
below from to (x ∷ a) n rest h = below (suc x) to a n rest h.1

above : (from to n : ℕ) (a : List ℕ) (m : ℕ) (rest : List ℕ) → Rise from to (n ∷ (a ++ m ∷ rest)) → n < m
above from to n [] m rest h = h.1.0
above from to n (x ∷ a) m rest h = omega (arith, h.1.0, above (suc n) to x a m rest h.1)

-- ---- numbers of which there are none

none-in : (n : ℕ) (ns : List ℕ) → n ∷ ns ≡ [] → ⊥
none-in n ns e = subst (λ (l : List ℕ). elim l as (λ _. Type 0) [ [] ↦ ⊥ | y ∷ ys ↦ Unit {0} ]) e tt

front-none : (a b : List ℕ) → a ++ b ≡ [] → a ≡ []
front-none [] b e = refl
front-none (n ∷ a) b e = absurd (none-in n (a ++ b) e)

back-none : (a b : List ℕ) → a ++ b ≡ [] → b ≡ []
back-none [] b e = e
back-none (n ∷ a) b e = absurd (none-in n (a ++ b) e)

-- ---- the leading comment and the trailing one in each other's place

abbrev two_source : String
two_source = "// a\npackage p; // d"

abbrev two : List Lexeme
two = plain (LineComment (codes " a\n")) 0 5 ∷ plain (Ident (codes "package")) 5 7 ∷ plain (Ident (codes "p")) 13 1 ∷ plain (Mark 59) 14 1 ∷ plain (LineComment (codes " d")) 16 4 ∷ []

abbrev swapped : Location
swapped = record {
  path = pos 2 ∷ [];
  span = pos 1 ∷ pos 0 ∷ pos 10 ∷ [];
  leading_comments = Some (codes " d");
  trailing_comments = Some (codes " a\n");
  leading_detached_comments = [];
}

two-letter : (n : ℕ) (ns text : List ℕ) → AreText two (n ∷ ns) text → letter text ≡ letter_of (text_at two n)
two-letter n [] text h = sym (ap letter_of h)
two-letter zero (m ∷ ns) text h = joined-letter (codes " a\n") h.0 h.1 text h.2 h.4
two-letter (suc zero) (m ∷ ns) text h = absurd (none-is-some h.0 h.2)
two-letter (suc (suc zero)) (m ∷ ns) text h = absurd (none-is-some h.0 h.2)
two-letter (suc (suc (suc zero))) (m ∷ ns) text h = absurd (none-is-some h.0 h.2)
two-letter (suc (suc (suc (suc zero)))) (m ∷ ns) text h = joined-letter (codes " d") h.0 h.1 text h.2 h.4
two-letter (suc (suc (suc (suc (suc n))))) (m ∷ ns) text h = absurd (none-is-some h.0 h.2)

-- A comment of this letter is the last lexeme, so no lexeme follows it.
last-of-two : (n first : ℕ) (x : Lexeme) → 100 ≡ letter_of (text_at two n) → n < first → lexeme_at two first ≡ Some x → ⊥
last-of-two zero first x e l is = omega (arith, e)
last-of-two (suc zero) first x e l is = omega (arith, e)
last-of-two (suc (suc zero)) first x e l is = omega (arith, e)
last-of-two (suc (suc (suc zero))) first x e l is = omega (arith, e)
last-of-two (suc (suc (suc (suc zero)))) zero x e l is = omega (arith, l)
last-of-two (suc (suc (suc (suc zero)))) (suc zero) x e l is = omega (arith, l)
last-of-two (suc (suc (suc (suc zero)))) (suc (suc zero)) x e l is = omega (arith, l)
last-of-two (suc (suc (suc (suc zero)))) (suc (suc (suc zero))) x e l is = omega (arith, l)
last-of-two (suc (suc (suc (suc zero)))) (suc (suc (suc (suc zero)))) x e l is = omega (arith, l)
last-of-two (suc (suc (suc (suc zero)))) (suc (suc (suc (suc (suc k))))) x e l is = none-is-some x is
last-of-two (suc (suc (suc (suc (suc n))))) first x e l is = omega (arith, e)

not-swapped : (leading trailing : List ℕ) (detached : List (List ℕ)) → AreText two leading (codes " d") → StandsAround (codes two_source) two swapped (record { leading = leading; trailing = trailing; detached = detached }) → ⊥
not-swapped [] trailing detached is h = is
not-swapped (n ∷ ns) trailing detached is h =
    last-of-two n h.first h.begins.0 (two-letter n ns (codes " d") is) (below h.from h.first (flat_map (λ (ks : List ℕ). ks) detached) n ns h.before) h.begins.1

swapped-refused : CommentedOnce (codes two_source) two (swapped ∷ []) → ⊥
swapped-refused ([], are, h) = are
swapped-refused (s ∷ [], are, h) =
    elim are.1 [
      | inl none ↦ subst (λ ns. AreText two ns (codes " d")) (front-none s.leading (s.trailing ++ flat_map (λ (ns : List ℕ). ns) s.detached) none) are.0.leading
      | inr around ↦ not-swapped s.leading s.trailing s.detached are.0.leading around
    ]
swapped-refused (s ∷ (r ∷ more), are, h) = are.2

-- ---- detached comments in another order

abbrev apart_source : String
apart_source = "/* a */\n\n/* b */\n\npackage p;"

abbrev apart : List Lexeme
apart =
    plain (BlockComment (codes " a ")) 0 7 ∷ plain Newline 7 1 ∷ plain Newline 8 1 ∷ plain (BlockComment (codes " b ")) 9 7 ∷ plain Newline 16 1 ∷ plain Newline 17 1
    ∷ plain (Ident (codes "package")) 18 7 ∷ plain (Ident (codes "p")) 26 1 ∷ plain (Mark 59) 27 1 ∷ []

abbrev turned : Location
turned = record {
  path = pos 2 ∷ [];
  span = pos 4 ∷ pos 0 ∷ pos 10 ∷ [];
  leading_comments = None;
  trailing_comments = None;
  leading_detached_comments = codes " b " ∷ codes " a " ∷ [];
}

apart-letter : (n : ℕ) (ns text : List ℕ) → AreText apart (n ∷ ns) text → letter text ≡ letter_of (text_at apart n)
apart-letter n [] text h = sym (ap letter_of h)
apart-letter zero (m ∷ ns) text h = joined-letter (codes " a ") h.0 h.1 text h.2 h.4
apart-letter (suc zero) (m ∷ ns) text h = absurd (none-is-some h.0 h.2)
apart-letter (suc (suc zero)) (m ∷ ns) text h = absurd (none-is-some h.0 h.2)
apart-letter (suc (suc (suc zero))) (m ∷ ns) text h = joined-letter (codes " b ") h.0 h.1 text h.2 h.4
apart-letter (suc (suc (suc (suc zero)))) (m ∷ ns) text h = absurd (none-is-some h.0 h.2)
apart-letter (suc (suc (suc (suc (suc zero))))) (m ∷ ns) text h = absurd (none-is-some h.0 h.2)
apart-letter (suc (suc (suc (suc (suc (suc zero)))))) (m ∷ ns) text h = absurd (none-is-some h.0 h.2)
apart-letter (suc (suc (suc (suc (suc (suc (suc zero))))))) (m ∷ ns) text h = absurd (none-is-some h.0 h.2)
apart-letter (suc (suc (suc (suc (suc (suc (suc (suc zero)))))))) (m ∷ ns) text h = absurd (none-is-some h.0 h.2)
apart-letter (suc (suc (suc (suc (suc (suc (suc (suc (suc n))))))))) (m ∷ ns) text h = absurd (none-is-some h.0 h.2)

-- The comment of the letter b stands behind that of the letter a.
a-before-b : (n m : ℕ) → 98 ≡ letter_of (text_at apart n) → 97 ≡ letter_of (text_at apart m) → n < m → ⊥
a-before-b n zero e k l = omega (arith, l)
a-before-b n (suc zero) e k l = omega (arith, k)
a-before-b n (suc (suc zero)) e k l = omega (arith, k)
a-before-b n (suc (suc (suc zero))) e k l = omega (arith, k)
a-before-b n (suc (suc (suc (suc zero)))) e k l = omega (arith, k)
a-before-b n (suc (suc (suc (suc (suc zero))))) e k l = omega (arith, k)
a-before-b n (suc (suc (suc (suc (suc (suc zero)))))) e k l = omega (arith, k)
a-before-b n (suc (suc (suc (suc (suc (suc (suc zero))))))) e k l = omega (arith, k)
a-before-b n (suc (suc (suc (suc (suc (suc (suc (suc zero)))))))) e k l = omega (arith, k)
a-before-b n (suc (suc (suc (suc (suc (suc (suc (suc (suc m))))))))) e k l = omega (arith, k)

not-turned : (leading trailing b a : List ℕ) → AreText apart b (codes " b ") → AreText apart a (codes " a ")
    → StandsAround (codes apart_source) apart turned (record { leading = leading; trailing = trailing; detached = b ∷ a ∷ [] }) → ⊥
not-turned leading trailing [] a is also h = is
not-turned leading trailing (n ∷ ns) [] is also h = also
not-turned leading trailing (n ∷ ns) (m ∷ ms) is also h =
    let rest : List ℕ = (ms ++ []) ++ leading in
    let e : ((n ∷ ns) ++ ((m ∷ ms) ++ [])) ++ leading ≡ n ∷ (ns ++ m ∷ rest) = append_assoc (n ∷ ns) ((m ∷ ms) ++ []) leading in
    a-before-b n m (apart-letter n ns (codes " b ") is) (apart-letter m ms (codes " a ") also) (above h.from h.first n ns m rest (subst (Rise h.from h.first) e h.before))

turned-around : (leading trailing : List ℕ) (detached : List (List ℕ)) → AreTexts apart detached (codes " b " ∷ codes " a " ∷ [])
    → HasAround (codes apart_source) apart turned (record { leading = leading; trailing = trailing; detached = detached }) → ⊥
turned-around leading trailing [] is h = is
turned-around leading trailing (b ∷ []) is h = is.1
turned-around leading trailing (b ∷ (a ∷ [])) is (inl none) =
    let inside = back-none trailing (b ++ (a ++ [])) (back-none leading (trailing ++ (b ++ (a ++ []))) none) in
    subst (λ ns. AreText apart ns (codes " b ")) (front-none b (a ++ []) inside) is.0
turned-around leading trailing (b ∷ (a ∷ [])) is (inr around) = not-turned leading trailing b a is.0 is.1.0 around
turned-around leading trailing (b ∷ (a ∷ (c ∷ more))) is h = is.1.1

turned-refused : CommentedOnce (codes apart_source) apart (turned ∷ []) → ⊥
turned-refused ([], are, h) = are
turned-refused (s ∷ [], are, h) = turned-around s.leading s.trailing s.detached are.0.detached are.1
turned-refused (s ∷ (r ∷ more), are, h) = are.2

-- ---- the comment of the declaration before

abbrev rows_source : String
rows_source = "// a\npackage p;\nimport \"q\";"

abbrev rows : List Lexeme
rows =
    plain (LineComment (codes " a\n")) 0 5 ∷ plain (Ident (codes "package")) 5 7 ∷ plain (Ident (codes "p")) 13 1 ∷ plain (Mark 59) 14 1 ∷ plain Newline 15 1
    ∷ plain (Ident (codes "import")) 16 6 ∷ plain (Str (codes "q")) 23 3 ∷ plain (Mark 59) 26 1 ∷ []

abbrev later : Location
later = record {
  path = pos 3 ∷ pos 0 ∷ [];
  span = pos 2 ∷ pos 0 ∷ pos 11 ∷ [];
  leading_comments = Some (codes " a\n");
  trailing_comments = None;
  leading_detached_comments = [];
}

-- the number of a line
abbrev head : List ℤ → ℕ
head [] = 0
head (n ∷ ns) = nat_abs n

head-if : (b : Bool) (n : ℤ) (ns ms : List ℤ) → head (if b then n ∷ ns else n ∷ ms) ≡ nat_abs n
head-if true n ns ms = refl
head-if false n ns ms = refl

abbrev start_of : Option Lexeme → ℕ
start_of None = 0
start_of (Some x) = x.start

abbrev is_newline : Shape → ℕ
is_newline Newline = 1
is_newline other = 0

abbrev newline_in : Option Lexeme → ℕ
newline_in None = 0
newline_in (Some x) = is_newline x.shape

-- All texts are made of the first lexeme.
no-other : (n : ℕ) → text_at rows (suc n) ≡ None
no-other zero = refl
no-other (suc zero) = refl
no-other (suc (suc zero)) = refl
no-other (suc (suc (suc zero))) = refl
no-other (suc (suc (suc (suc zero)))) = refl
no-other (suc (suc (suc (suc (suc zero))))) = refl
no-other (suc (suc (suc (suc (suc (suc zero)))))) = refl
no-other (suc (suc (suc (suc (suc (suc (suc n))))))) = refl

the-first : (n : ℕ) (ns text : List ℕ) → AreText rows (n ∷ ns) text → n ≡ 0
the-first zero ns text h = refl
the-first (suc n) [] text h = absurd (none-is-some text (sym (no-other n) ∙ h))
the-first (suc n) (m ∷ ns) text h = absurd (none-is-some h.0 (sym (no-other n) ∙ h.2))

-- Behind it the first declaration begins, in another line than the second.
not-next : (n first : ℕ) (span : Span) (x : Lexeme) → n ≡ 0 → IsNext rows n first → lexeme_at rows first ≡ Some x → x.start ≡ span.start → later.span ≡ span_numbers (codes rows_source) span → ⊥
not-next n first span x none (inl e) is start numbers =
    let one : first ≡ 1 = e ∙ ap suc none in
    let five : 5 ≡ x.start = ap start_of (sym (ap (lexeme_at rows) one) ∙ is) in
    let at : 5 ≡ span.start = five ∙ start in
    let text = codes rows_source in
    let two : 2 ≡ line text span.start =
    ap head numbers ∙ head-if (line text span.start == line text span.end) (pos (line text span.start)) (pos (column text span.start) ∷ pos (column text span.end) ∷ []) (pos (column text span.start) ∷ pos (line text span.end) ∷ pos (column text span.end) ∷ [])
    in
    let other : 1 ≡ line text span.start = ap (line text) at in
    omega (arith, two, other)
not-next n first span x none (inr e) is start numbers =
    let one : suc n ≡ 1 = ap suc none in
    let no : 0 ≡ newline_in (Some e.1) = ap newline_in (sym (ap (lexeme_at rows) one) ∙ e.2) in
    let yes : newline_in (Some e.1) ≡ 1 = ap is_newline e.3 in
    omega (arith, no, yes)

not-later : (leading trailing : List ℕ) (detached : List (List ℕ)) → AreText rows leading (codes " a\n") → StandsAround (codes rows_source) rows later (record { leading = leading; trailing = trailing; detached = detached }) → ⊥
not-later [] trailing detached is h = is
not-later (n ∷ []) trailing detached is h = not-next n h.first h.span h.begins.0 (the-first n [] (codes " a\n") is) h.leads h.begins.1 h.begins.2 h.spanned
not-later (n ∷ (m ∷ ns)) trailing detached is h =
    let next : m ≡ suc n = h.neighbours.0.0 in
    omega (arith, next, the-first m ns is.1 is.3)

later-refused : CommentedOnce (codes rows_source) rows (later ∷ []) → ⊥
later-refused ([], are, h) = are
later-refused (s ∷ [], are, h) =
    elim are.1 [
      | inl none ↦ subst (λ ns. AreText rows ns (codes " a\n")) (front-none s.leading (s.trailing ++ flat_map (λ (ns : List ℕ). ns) s.detached) none) are.0.leading
      | inr around ↦ not-later s.leading s.trailing s.detached are.0.leading around
    ]
later-refused (s ∷ (r ∷ more), are, h) = are.2

-- A place is inside an aggregate if the braces that were noted before it say so.
use Rattle.std.proofs.Common.{◌≡◌, ◌≤◌, ◌<◌, ℕ, zero, suc, ◌+◌, Bool, true, false, ◌||◌, cond, List, [], ◌∷◌, ◌++◌, Option, Some, None, refl, sym, ap, subst, ◌∙◌, arith, inl, inr, ◌⊎◌}
use Rattle.protox_lexeme.specs.Shapes.{Row, Rows, Shape}
use Rattle.protox_ast.specs.inner.AggregateWalk.{Braces}
use Rattle.protox_ast.specs.Fronts.{numbered}
use Rattle.protox_ast.specs.Keywords.{Each}
use Rattle.protox_grammar.specs.Reader.{is_string}
use Rattle.protox_grammar.specs.Steps.{Event, ANode, APackage, AKeyword, ADeepBody, ADeeperBody, AnOpenBrace, ACloseBrace, Token, Note, Steps, tokens, until, has_deep, is_too_deep}
use Rattle.protox_grammar.specs.Noted.{open_behind}
use Rattle.protox_grammar.proofs.Laws.{head-same}
use Rattle.protox_grammar.proofs.StepLists.{until-note}
use Rattle.protox_grammar.proofs.Holding.{Holds}
use Rattle.protox_grammar.proofs.Placing.{event_end, IsPlaced, ArePlaced}
use Rattle.protox_grammar.proofs.Notes.{brace_notes, brace_pairs}

-- The rows are tagged with their numbers, from i on.
abbrev pub Counts : ℕ → Steps ℕ → Type 0
Counts i [] = Unit {0}
Counts i (Token r ∷ l) = (r.at ≡ i) × Counts (suc i) l
Counts i (Note e ∷ l) = Counts i l

pub counts : (i : ℕ) (a : List Shape) (l : Steps ℕ) (z : Rows ℕ) → numbered i a ≡ tokens l ++ z → Counts i l
counts i a [] z e = tt
counts i [] (Token r ∷ l) z e = absurd cc
counts i (s ∷ a) (Token r ∷ l) z e =
    let h = head-same (record { shape = s; at = i }) r (numbered (suc i) a) (tokens l ++ z) e in
    (ap (λ (u : Row ℕ). u.at) (sym h.0), counts (suc i) a l z h.1)
counts i a (Note d ∷ l) z e = counts i a l z e

-- the row before has the number before
abbrev pub Before : Option (Row ℕ) → ℕ → Type 0
Before None i = Unit {0}
Before (Some r) i = suc r.at ≡ i

pub placed-at : (last : Option (Row ℕ)) (i : ℕ) (e : Event ℕ) (z : Rows ℕ) (m : ℕ) → Before last i → IsPlaced last e z → event_end e ≡ m → suc m ≡ i
placed-at None i e z m b p h = absurd p
placed-at (Some r) i e z m b p h = omega (arith, b, p.0, h)

abbrev pub From : ℕ → Bool × ℕ → Type 0
From i x = i ≤ suc x.1

weaken : (i : ℕ) (xs : List (Bool × ℕ)) → Each (From (suc i)) xs → Each (From i) xs
weaken i [] h = tt
weaken i (x ∷ xs) h = (omega (arith, h.0), weaken i xs h.1)

pub notes-from : (l : Steps ℕ) (i : ℕ) (last : Option (Row ℕ)) (z : Rows ℕ) → Counts i l → Before last i → ArePlaced last l z → Each (From i) (brace_notes l)
notes-from [] i last z c b w = tt
notes-from (Token r ∷ l) i last z c b w = weaken i (brace_notes l) (notes-from l (suc i) (Some r) z c.1 (ap suc c.0) w)
notes-from (Note (AnOpenBrace m) ∷ l) i last z c b w = (omega (arith, placed-at last i (AnOpenBrace m) _ m b w.0 refl), notes-from l i last z c b w.1)
notes-from (Note (ACloseBrace m) ∷ l) i last z c b w = (omega (arith, placed-at last i (ACloseBrace m) _ m b w.0 refl), notes-from l i last z c b w.1)
notes-from (Note (ANode x) ∷ l) i last z c b w = notes-from l i last z c b w.1
notes-from (Note (APackage x) ∷ l) i last z c b w = notes-from l i last z c b w.1
notes-from (Note (AKeyword x) ∷ l) i last z c b w = notes-from l i last z c b w.1
notes-from (Note (ADeepBody x) ∷ l) i last z c b w = notes-from l i last z c b w.1
notes-from (Note (ADeeperBody x) ∷ l) i last z c b w = notes-from l i last z c b w.1

-- The place m is between the braces.
abbrev pub IsIn : ℕ → ℕ × ℕ → Type 0
IsIn m x = (x.0 < m) × (m ≤ x.1)

pub none-in : (i : ℕ) (ps : Braces ℕ) → Each (From (suc i)) (brace_pairs ps) → Holds (IsIn (i + 0)) ps → ⊥
none-in i [] h a = a
none-in i (p ∷ ps) h (inl a) = omega (arith, h.0, a.0)
none-in i (p ∷ ps) h (inr a) = none-in i ps h.1.1 a

-- The notes to come, given whether an aggregate is open.
abbrev pub Comes : Bool → ℕ → Braces ℕ → List (Bool × ℕ)
Comes true c ps = (false, c) ∷ brace_pairs ps
Comes false c ps = brace_pairs ps

abbrev pub In : Bool → ℕ → Braces ℕ → ℕ → Type 0
In true c ps m = (m ≤ c) ⊎ Holds (IsIn m) ps
In false c ps m = Holds (IsIn m) ps

abbrev Tells : Bool → ℕ → Braces ℕ → ℕ → Steps ℕ → Type 0
Tells b c ps m l = (open_behind b l ≡ true → In b c ps m) × (In b c ps m → open_behind b l ≡ true)

until-nil : (n : ℕ) → until {M = ℕ} n [] ≡ []
until-nil zero = refl
until-nil (suc n) = refl

pub parts : (x y : Bool × ℕ) (xs ys : List (Bool × ℕ)) → x ∷ xs ≡ y ∷ ys → (x.0 ≡ y.0) × (x.1 ≡ y.1) × (xs ≡ ys)
parts x y xs ys e = let h = head-same x y xs ys e in (ap (λ (u : Bool × ℕ). u.0) h.0, ap (λ (u : Bool × ℕ). u.1) h.0, h.1)

pub not-true : false ≡ true → ⊥
not-true e = absurd cc

pub no-notes : (x : Bool × ℕ) (xs : List (Bool × ℕ)) → [] ≡ x ∷ xs → ⊥
no-notes x xs e = absurd cc

deep-no : (n : ℕ) (e : Event ℕ) (l : Steps ℕ) → is_too_deep e ≡ true → has_deep (until n (Note e ∷ l)) ≡ false → ⊥
deep-no n e l d h = not-true (sym h ∙ ap has_deep (until-note n e l) ∙ ap (λ u. u || has_deep (cond u [] (until n l))) d)

pub not-sunk : (n : ℕ) (e : Event ℕ) (l : Steps ℕ) → is_too_deep e ≡ false → has_deep (until n (Note e ∷ l)) ≡ false → has_deep (until n l) ≡ false
not-sunk n e l d h = sym (ap has_deep (until-note n e l) ∙ ap (λ u. u || has_deep (cond u [] (until n l))) d) ∙ h

pub until-on : (n : ℕ) (e : Event ℕ) (l : Steps ℕ) → is_too_deep e ≡ false → until n (Note e ∷ l) ≡ Note e ∷ until n l
until-on n e l d = until-note n e l ∙ ap (λ u. Note e ∷ cond u [] (until n l)) d

pub tells : (l : Steps ℕ) (b : Bool) (c : ℕ) (ps : Braces ℕ) (i n : ℕ) (last : Option (Row ℕ)) (z : Rows ℕ) → Counts i l → Before last i → ArePlaced last l z → brace_notes l ≡ Comes b c ps → has_deep (until n l) ≡ false → Tells b c ps (i + n) (until n l)
tells [] true c ps i n last z k w e h d = absurd (no-notes (false, c) (brace_pairs ps) h)
tells [] false c [] i n last z k w e h d = subst (Tells false c [] (i + n)) (sym (until-nil n)) (λ g. absurd (not-true g), λ g. absurd g)
tells [] false c (p ∷ ps) i n last z k w e h d = absurd (no-notes (true, p.0) _ h)
tells (Token r ∷ l) true c ps i zero last z k w e h d =
    let from : Each (From (suc i)) (Comes true c ps) = subst (Each (From (suc i))) h (notes-from l (suc i) (Some r) z k.1 (ap suc k.0) e) in
    (λ g. inl (omega (arith, from.0)), λ g. refl)
tells (Token r ∷ l) false c ps i zero last z k w e h d =
    let from : Each (From (suc i)) (Comes false c ps) = subst (Each (From (suc i))) h (notes-from l (suc i) (Some r) z k.1 (ap suc k.0) e) in
    (λ g. absurd (not-true g), λ g. absurd (none-in i ps from g))
tells (Token r ∷ l) b c ps i (suc n) last z k w e h d =
    let same : suc i + n ≡ i + suc n = omega arith in
    subst (λ m. Tells b c ps m (Token r ∷ until n l)) same (tells l b c ps (suc i) n (Some r) z k.1 (ap suc k.0) e h d)
tells (Note (AnOpenBrace m) ∷ l) true c ps i n last z k w e h d = absurd (not-true (sym (parts (true, m) (false, c) (brace_notes l) (brace_pairs ps) h).0))
tells (Note (AnOpenBrace m) ∷ l) false c [] i n last z k w e h d = absurd (no-notes (true, m) (brace_notes l) (sym h))
tells (Note (AnOpenBrace m) ∷ l) false c (p ∷ ps) i n last z k w e h d =
    let q = parts (true, m) (true, p.0) (brace_notes l) ((false, p.1) ∷ brace_pairs ps) h in
    let at = placed-at last i (AnOpenBrace m) _ m w e.0 refl in
    let t = tells l true p.1 ps i n last z k w e.1 q.2 (not-sunk n (AnOpenBrace m) l refl d) in
    subst (Tells false c (p ∷ ps) (i + n)) (sym (until-on n (AnOpenBrace m) l refl))
    (λ g. elim (t.0 g) [ inl a ↦ inl (omega (arith, at, q.1), a) | inr a ↦ inr a ], λ g. t.1 (elim g [ inl a ↦ inl a.1 | inr a ↦ inr a ]))
tells (Note (ACloseBrace m) ∷ l) false c [] i n last z k w e h d = absurd (no-notes (false, m) (brace_notes l) (sym h))
tells (Note (ACloseBrace m) ∷ l) false c (p ∷ ps) i n last z k w e h d = absurd (not-true (parts (false, m) (true, p.0) (brace_notes l) ((false, p.1) ∷ brace_pairs ps) h).0)
tells (Note (ACloseBrace m) ∷ l) true c ps i n last z k w e h d =
    let q = parts (false, m) (false, c) (brace_notes l) (brace_pairs ps) h in
    let at = placed-at last i (ACloseBrace m) _ m w e.0 refl in
    let t = tells l false c ps i n last z k w e.1 q.2 (not-sunk n (ACloseBrace m) l refl d) in
    subst (Tells true c ps (i + n)) (sym (until-on n (ACloseBrace m) l refl)) (λ g. inr (t.0 g), λ g. t.1 (elim g [ inl a ↦ absurd (omega (arith, a, at, q.1)) | inr a ↦ a ]))
tells (Note (ANode x) ∷ l) b c ps i n last z k w e h d = subst (Tells b c ps (i + n)) (sym (until-on n (ANode x) l refl)) (tells l b c ps i n last z k w e.1 h (not-sunk n (ANode x) l refl d))
tells (Note (APackage x) ∷ l) b c ps i n last z k w e h d = subst (Tells b c ps (i + n)) (sym (until-on n (APackage x) l refl)) (tells l b c ps i n last z k w e.1 h (not-sunk n (APackage x) l refl d))
tells (Note (AKeyword x) ∷ l) b c ps i n last z k w e h d = subst (Tells b c ps (i + n)) (sym (until-on n (AKeyword x) l refl)) (tells l b c ps i n last z k w e.1 h (not-sunk n (AKeyword x) l refl d))
tells (Note (ADeepBody x) ∷ l) b c ps i n last z k w e h d = absurd (deep-no n (ADeepBody x) l refl d)
tells (Note (ADeeperBody x) ∷ l) b c ps i n last z k w e h d = absurd (deep-no n (ADeeperBody x) l refl d)

-- ---- after a string no brace is noted

behind-string : (l : Steps ℕ) (r : Row ℕ) (z : Rows ℕ) (b : Bool) → is_string r.shape ≡ true → ArePlaced (Some r) l z → open_behind b (until 0 l) ≡ b
behind-string [] r z b s w = refl
behind-string (Token q ∷ l) r z b s w = refl
behind-string (Note (ANode x) ∷ l) r z b s w = behind-string l r z b s w.1
behind-string (Note (APackage x) ∷ l) r z b s w = absurd (not-true (sym w.0.1 ∙ s))
behind-string (Note (AKeyword x) ∷ l) r z b s w = absurd (not-true (sym w.0.1 ∙ s))
behind-string (Note (ADeepBody x) ∷ l) r z b s w = absurd (not-true (sym w.0.1 ∙ s))
behind-string (Note (ADeeperBody x) ∷ l) r z b s w = absurd (not-true (sym w.0.1 ∙ s))
behind-string (Note (AnOpenBrace x) ∷ l) r z b s w = absurd (not-true (sym w.0.1 ∙ s))
behind-string (Note (ACloseBrace x) ∷ l) r z b s w = absurd (not-true (sym w.0.1 ∙ s))

-- The shape of token n of these tokens, if there is one.
abbrev pub IsStringAt : ℕ → Rows ℕ → Type 0
IsStringAt n [] = Unit {0}
IsStringAt zero (r ∷ rs) = is_string r.shape ≡ true
IsStringAt (suc n) (r ∷ rs) = IsStringAt n rs

pub past-string : (l : Steps ℕ) (n : ℕ) (last : Option (Row ℕ)) (z : Rows ℕ) (b : Bool) → ArePlaced last l z → IsStringAt n (tokens l) → has_deep (until (suc n) l) ≡ false → open_behind b (until (suc n) l) ≡ open_behind b (until n l)
past-string [] n last z b w s d = ap (open_behind b) (sym (until-nil n))
past-string (Token r ∷ l) zero last z b w s d = behind-string l r z b s w
past-string (Token r ∷ l) (suc n) last z b w s d = past-string l n (Some r) z b w s d
past-string (Note (ANode x) ∷ l) n last z b w s d = past-string l n last z b w.1 s (not-sunk (suc n) (ANode x) l refl d) ∙ ap (open_behind b) (sym (until-on n (ANode x) l refl))
past-string (Note (APackage x) ∷ l) n last z b w s d = past-string l n last z b w.1 s (not-sunk (suc n) (APackage x) l refl d) ∙ ap (open_behind b) (sym (until-on n (APackage x) l refl))
past-string (Note (AKeyword x) ∷ l) n last z b w s d = past-string l n last z b w.1 s (not-sunk (suc n) (AKeyword x) l refl d) ∙ ap (open_behind b) (sym (until-on n (AKeyword x) l refl))
past-string (Note (AnOpenBrace x) ∷ l) n last z b w s d = past-string l n last z true w.1 s (not-sunk (suc n) (AnOpenBrace x) l refl d) ∙ ap (open_behind b) (sym (until-on n (AnOpenBrace x) l refl))
past-string (Note (ACloseBrace x) ∷ l) n last z b w s d = past-string l n last z false w.1 s (not-sunk (suc n) (ACloseBrace x) l refl d) ∙ ap (open_behind b) (sym (until-on n (ACloseBrace x) l refl))
past-string (Note (ADeepBody x) ∷ l) n last z b w s d = absurd (deep-no (suc n) (ADeepBody x) l refl d)
past-string (Note (ADeeperBody x) ∷ l) n last z b w s d = absurd (deep-no (suc n) (ADeeperBody x) l refl d)

kept-deep : (e : Event ℕ) (k j : Steps ℕ) (b : Bool) → has_deep k ≡ has_deep j → b || has_deep (cond b [] k) ≡ b || has_deep (cond b [] j)
kept-deep e k j true h = refl
kept-deep e k j false h = h

string-deep : (l : Steps ℕ) (r : Row ℕ) (z : Rows ℕ) → is_string r.shape ≡ true → ArePlaced (Some r) l z → has_deep (until 0 l) ≡ false
string-deep [] r z s w = refl
string-deep (Token q ∷ l) r z s w = refl
string-deep (Note (ANode x) ∷ l) r z s w = string-deep l r z s w.1
string-deep (Note (APackage x) ∷ l) r z s w = absurd (not-true (sym w.0.1 ∙ s))
string-deep (Note (AKeyword x) ∷ l) r z s w = absurd (not-true (sym w.0.1 ∙ s))
string-deep (Note (ADeepBody x) ∷ l) r z s w = absurd (not-true (sym w.0.1 ∙ s))
string-deep (Note (ADeeperBody x) ∷ l) r z s w = absurd (not-true (sym w.0.1 ∙ s))
string-deep (Note (AnOpenBrace x) ∷ l) r z s w = absurd (not-true (sym w.0.1 ∙ s))
string-deep (Note (ACloseBrace x) ∷ l) r z s w = absurd (not-true (sym w.0.1 ∙ s))

pub past-deep : (l : Steps ℕ) (n : ℕ) (last : Option (Row ℕ)) (z : Rows ℕ) → ArePlaced last l z → IsStringAt n (tokens l) → has_deep (until (suc n) l) ≡ has_deep (until n l)
past-deep [] n last z w s = ap has_deep (sym (until-nil n))
past-deep (Token r ∷ l) zero last z w s = string-deep l r z s w
past-deep (Token r ∷ l) (suc n) last z w s = past-deep l n (Some r) z w s
past-deep (Note e ∷ l) n last z w s =
    ap has_deep (until-note (suc n) e l) ∙ kept-deep e (until (suc n) l) (until n l) (is_too_deep e) (past-deep l n last z w.1 s) ∙ ap has_deep (sym (until-note n e l))

-- ---- token n of a list

pub string-front : (n : ℕ) (a b : Rows ℕ) → IsStringAt n (a ++ b) → IsStringAt n a
string-front n [] b h = tt
string-front zero (r ∷ a) b h = h
string-front (suc n) (r ∷ a) b h = string-front n a b h

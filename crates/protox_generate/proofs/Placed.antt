-- Locations at the paths of names. If the parts below a path have ascending field numbers, each
-- name there has exactly one location.
use Rattle.std.proofs.Common.{◌≡◌, ℕ, zero, suc, ◌+◌, ◌<◌, ◌≤◌, Bool, true, false, List, [], ◌∷◌, ◌++◌, length, map, take, drop, refl, sym, ap, ◌∙◌, subst, arith, append_assoc, append-nil, length-append}
use Rattle.std.specs.Prelude.{ℤ, pos, nat_abs, unwrap_or, slice_get, if◌then◌else◌}
use Rattle.std.specs.Cmp.Rules.{signed_items}
use Rattle.protox_ast.proofs.Lemmas.{Pairs}
use Rattle.protox_ast.specs.Basics.{Each}
use Rattle.protox_describe.specs.Siblings.{count}
use Rattle.protox_descriptor.specs.declared.descriptor.source_code_info.Location.{Location}
use Rattle.protox_fault.specs.Faults.{Span}
use Rattle.protox_generate.proofs.Leads.{From, each-both, each-so, here}
use Rattle.protox_generate.specs.NamePaths.{behind, in_places, in_list}
use Rattle.protox_locate.proofs.Lemmas.{Below}
use Rattle.protox_locate.specs.LocationWords.{Path, Part, part, nth, bare, numbered}
use Rattle.protox_places.specs.First.{is_at}

-- ---- lists

each-with : {A : Type 0} (P Q R : A → Type 0) (xs : List A) → ((x : A) → P x → Q x → R x) → Each P xs → Each Q xs → Each R xs
each-with P Q R [] so a b = tt
each-with P Q R (x ∷ xs) so a b = (so x a.0 b.0, each-with P Q R xs so a.1 b.1)

each-mapped : {A B : Type 0} (P : B → Type 0) (Q : A → Type 0) (f : A → B) (xs : List A) → ((x : A) → Q x → P (f x)) → Each Q xs → Each P (map f xs)
each-mapped P Q f [] so h = tt
each-mapped P Q f (x ∷ xs) so h = (so x h.0, each-mapped P Q f xs so h.1)

each-parts : {A : Type 0} (P : A → Type 0) (xs ys : List A) → Each P (xs ++ ys) → Each P xs × Each P ys
each-parts P [] ys h = (tt, h)
each-parts P (x ∷ xs) ys h = let more = each-parts P xs ys h.1 in ((h.0, more.0), more.1)

-- ---- how many stand at a path

truth : (b : Bool) → (b ≡ true → ⊥) → b ≡ false
truth true h = absurd (h refl)
truth false h = refl

hit : (path : Path) (l : Location) → l.path ≡ path → is_at path l ≡ true
hit path l e = (signed_items l.path path).1 e

miss : (path : Path) (l : Location) → (l.path ≡ path → ⊥) → is_at path l ≡ false
miss path l h = truth (is_at path l) (λ e. h ((signed_items l.path path).0 e))

count-both : (path : Path) (xs ys : List Location) → count (is_at path) (xs ++ ys) ≡ count (is_at path) xs + count (is_at path) ys
count-both path [] ys = omega arith
count-both path (x ∷ xs) ys = omega (arith, count-both path xs ys)

abbrev counted : Bool → ℕ
counted at = if at then 1 else 0

missed : (path : Path) (l : Location) (ls : List Location) → (l.path ≡ path → ⊥) → count (is_at path) (l ∷ ls) ≡ count (is_at path) ls
missed path l ls h = let none : counted (is_at path l) ≡ 0 = ap counted (miss path l h) in omega (arith, none)

none-at : (path : Path) (ls : List Location) → Each (λ (l : Location). l.path ≡ path → ⊥) ls → count (is_at path) ls ≡ 0
none-at path [] h = refl
none-at path (l ∷ ls) h = missed path l ls h.0 ∙ none-at path ls h.1

same-tag : (path : Path) (t u : ℕ) (r s : Path) → path ++ pos t ∷ r ≡ path ++ pos u ∷ s → t ≡ u
same-tag [] t u r s e = ap (λ (l : Path). nat_abs (unwrap_or (slice_get l 0) (pos 0))) e
same-tag (p ∷ path) t u r s e = same-tag path t u r s (ap (drop 1) e)

longer : (path : Path) (t : ℕ) (r : Path) → path ≡ path ++ pos t ∷ r → ⊥
longer path t r e = omega (arith, ap length e, length-append path (pos t ∷ r))

-- ---- names and locations below a path, at these tags

-- the path of a name, behind the path of the part it names
pub record Led (low high : ℕ) (name : Path) : Type 0 where
  pub tag : ℕ
  pub rest : Path
  pub is : name ≡ pos tag ∷ rest
  pub lower : low ≤ tag
  pub upper : tag < high

abbrev pub Once : Path → List Location → Path → Type 0
Once path ls name = count (is_at (path ++ name)) ls ≡ 1

pub record Row (path : Path) (low high : ℕ) (names : List Path) (ls : List Location) : Type 0 where
  pub fits : low ≤ high
  pub below : Each (Below path low high) ls
  pub named : Each (Led low high) names
  pub once : Each (Once path ls) names

-- a part, from each path on
pub record Placed (names : List Path) (at : Part) : Type 0 where
  pub from : (path : Path) → Each (From path) (at path)
  pub once : (path : Path) → Each (Once path (at path)) names

apart : (path : Path) (a b c d : ℕ) (name : Path) (ls : List Location) → ((t : ℕ) → a ≤ t → t < b → c ≤ t → t < d → ⊥) → Led a b name → Each (Below path c d) ls → count (is_at (path ++ name)) ls ≡ 0
apart path a b c d name ls outside led below =
    none-at (path ++ name) ls
    (each-so (Below path c d) (λ (l : Location). l.path ≡ path ++ name → ⊥) ls
    (λ l k e. let same : led.tag ≡ k.tag = same-tag path led.tag k.tag led.rest k.rest (sym (ap (λ (n : Path). path ++ n) led.is) ∙ sym e ∙ k.is) in
    outside led.tag led.lower led.upper (omega (arith, same, k.lower)) (omega (arith, same, k.upper))) below)

widen-below : (path : Path) (low high low' high' : ℕ) (ls : List Location) → low' ≤ low → high ≤ high' → Each (Below path low high) ls → Each (Below path low' high') ls
widen-below path low high low' high' ls l h below =
    each-so (Below path low high) (Below path low' high') ls (λ x b. record { tag = b.tag; rest = b.rest; is = b.is; lower = omega (arith, l, b.lower); upper = omega (arith, h, b.upper) }) below

widen-led : (low high low' high' : ℕ) (names : List Path) → low' ≤ low → high ≤ high' → Each (Led low high) names → Each (Led low' high') names
widen-led low high low' high' names l h led =
    each-so (Led low high) (Led low' high') names (λ x b. record { tag = b.tag; rest = b.rest; is = b.is; lower = omega (arith, l, b.lower); upper = omega (arith, h, b.upper) }) led

-- ---- rows

pub joined : (path : Path) (low mid high : ℕ) (names more : List Path) (xs ys : List Location) → Row path low mid names xs → Row path mid high more ys → Row path low high (names ++ more) (xs ++ ys)
joined path low mid high names more xs ys a b = record {
  fits = omega (arith, a.fits, b.fits);
  below = each-both (Below path low high) xs ys (widen-below path low mid low high xs (omega arith) b.fits a.below) (widen-below path mid high low high ys a.fits (omega arith) b.below);
  named = each-both (Led low high) names more (widen-led low mid low high names (omega arith) b.fits a.named) (widen-led mid high low high more a.fits (omega arith) b.named);
  once = each-both (Once path (xs ++ ys)) names more
      (each-with (Led low mid) (Once path xs) (Once path (xs ++ ys)) names
      (λ name led one. omega (arith, count-both (path ++ name) xs ys, one, apart path low mid mid high name ys (λ t p q r s. omega (arith, q, r)) led b.below)) a.named a.once)
      (each-with (Led mid high) (Once path ys) (Once path (xs ++ ys)) more
      (λ name led one. omega (arith, count-both (path ++ name) xs ys, one, apart path mid high low mid name xs (λ t p q r s. omega (arith, p, s)) led a.below)) b.named b.once);
}

pub below-tag : (path : Path) (tag low high : ℕ) (ls : List Location) → low ≤ tag → tag < high → Each (From (part path (pos tag))) ls → Each (Below path low high) ls
below-tag path tag low high ls l h from =
    each-so (From (part path (pos tag))) (Below path low high) ls (λ x f. record { tag = tag; rest = f.rest; is = f.is ∙ append_assoc path (pos tag ∷ []) f.rest; lower = l; upper = h }) from

pub one-below : (path : Path) (tag low high : ℕ) (l : Location) → low ≤ tag → tag < high → l.path ≡ part path (pos tag) → Each (Below path low high) (l ∷ [])
one-below path tag low high l a b e = below-tag path tag low high (l ∷ []) a b (here (part path (pos tag)) l e, tt)

-- parts that are no name and stand alone, before others or behind others
pub quiet : (path : Path) (low high : ℕ) (ls : List Location) → low ≤ high → Each (Below path low high) ls → Row path low high [] ls
quiet path low high ls le below = record { fits = le; below = below; named = tt; once = tt }

pub quiet-then : (path : Path) (low mid high : ℕ) (names : List Path) (xs ys : List Location) → low ≤ mid → Each (Below path low mid) xs → Row path mid high names ys → Row path low high names (xs ++ ys)
quiet-then path low mid high names xs ys le below row = joined path low mid high [] names xs ys (quiet path low mid xs le below) row

pub then-quiet : (path : Path) (low mid high : ℕ) (names : List Path) (xs ys : List Location) → mid ≤ high → Row path low mid names xs → Each (Below path mid high) ys → Row path low high names (xs ++ ys)
then-quiet path low mid high names xs ys le row below =
    subst (λ (n : List Path). Row path low high n (xs ++ ys)) (append-nil names) (joined path low mid high names [] xs ys row (quiet path mid high ys le below))

-- a name
pub a-name : (numbers : Span → List ℤ) (path : Path) (span : Span) → Row path 1 2 ((pos 1 ∷ []) ∷ []) (bare numbers (part path (pos 1)) span ∷ [])
a-name numbers path span = record {
  fits = omega arith;
  below = one-below path 1 1 2 (bare numbers (part path (pos 1)) span) (omega arith) (omega arith) refl;
  named = (record { tag = 1; rest = []; is = refl; lower = omega arith; upper = omega arith }, tt);
  once = (
    let one : counted (is_at (part path (pos 1)) (bare numbers (part path (pos 1)) span)) ≡ 1 =
        ap counted (hit (part path (pos 1)) (bare numbers (part path (pos 1)) span) refl) in
        omega (arith, one),
    tt,
  );
}

-- ---- parts

-- a part with its own location first
pub node : (names : List Path) (own : Path → Location) (others : Part) (low high : ℕ) → ((path : Path) → (own path).path ≡ path) → ((path : Path) → Row path low high names (others path))
    → Placed names (λ path. own path ∷ others path)
node names own others low high e row = record {
  from = λ path. (here path (own path) (e path), each-so (Below path low high) (From path) (others path) (λ l b. record { rest = pos b.tag ∷ b.rest; is = b.is }) (row path).below);
  once = λ path. each-with (Led low high) (Once path (others path)) (Once path (own path ∷ others path)) names
      (λ name led one. missed (path ++ name) (own path) (others path)
      (λ same. longer path led.tag led.rest (sym (e path) ∙ same ∙ ap (λ (n : Path). path ++ n) led.is)) ∙ one) (row path).named (row path).once;
}

-- a part with its name next
pub named-node : (numbers : Span → List ℤ) (span : Span) (more : List Path) (own : Path → Location) (others : Part) (high : ℕ) → ((path : Path) → (own path).path ≡ path)
    → ((path : Path) → Row path 2 high more (others path)) → Placed ((pos 1 ∷ []) ∷ more) (λ path. own path ∷ bare numbers (part path (pos 1)) span ∷ others path)
named-node numbers span more own others high e row =
    node ((pos 1 ∷ []) ∷ more) own (λ path. bare numbers (part path (pos 1)) span ∷ others path) 1 high e
    (λ path. joined path 1 2 high ((pos 1 ∷ []) ∷ []) more (bare numbers (part path (pos 1)) span ∷ []) (others path) (a-name numbers path span) (row path))

-- a part with no name but its own
pub named-leaf : (numbers : Span → List ℤ) (span : Span) (own : Path → Location) (others : Part) (high : ℕ) → 2 ≤ high → ((path : Path) → (own path).path ≡ path)
    → ((path : Path) → Each (Below path 2 high) (others path)) → Placed ((pos 1 ∷ []) ∷ []) (λ path. own path ∷ bare numbers (part path (pos 1)) span ∷ others path)
named-leaf numbers span own others high le e below = named-node numbers span [] own others high e (λ path. quiet path 2 high (others path) le (below path))

-- ---- siblings

-- names behind a number
behind-once : (path : Path) (n : ℕ) (names : List Path) (ls : List Location) → Each (Once (part path (pos n)) ls) names → Each (Once path ls) (behind (pos n) names)
behind-once path n names ls once =
    each-mapped (Once path ls) (Once (part path (pos n)) ls) (λ (name : Path). pos n ∷ name) names (λ name one. subst (λ (p : Path). count (is_at p) ls ≡ 1) (append_assoc path (pos n ∷ []) name) one) once

behind-led : (n low high : ℕ) (names : List Path) → low ≤ n → n < high → Each (Led low high) (behind (pos n) names)
behind-led n low high [] l h = tt
behind-led n low high (name ∷ names) l h = (record { tag = n; rest = name; is = refl; lower = l; upper = h }, behind-led n low high names l h)

-- a part at a number
under : (path : Path) (n low high : ℕ) (names : List Path) (at : Part) → low ≤ n → n < high → Placed names at → Row path low high (behind (pos n) names) (at (part path (pos n)))
under path n low high names at l h placed = record {
  fits = omega (arith, l, h);
  below = below-tag path n low high (at (part path (pos n))) l h (placed.from (part path (pos n)));
  named = behind-led n low high names l h;
  once = behind-once path n names (at (part path (pos n))) (placed.once (part path (pos n)));
}

pub siblings : {A : Type 0} (names : A → List Path) (path : Path) (tag : ℤ) (n high : ℕ) (xs : List A) (ats : List Part) → Pairs (λ x at. Placed (names x) at) xs ats → n + length xs ≤ high
    → Row (part path tag) n high (in_places n (map names xs)) (numbered path tag n ats)
siblings names path tag n high [] [] h le = quiet (part path tag) n high [] (omega (arith, le)) tt
siblings names path tag n high [] (at ∷ ats) h le = absurd h
siblings names path tag n high (x ∷ xs) [] h le = absurd h
siblings names path tag n high (x ∷ xs) (at ∷ ats) h le =
    let first : Row (part path tag) n (n + 1) (behind (pos n) (names x)) (at (nth path tag n)) =
    subst (λ (p : Path). Row (part path tag) n (n + 1) (behind (pos n) (names x)) (at p)) (append_assoc path (tag ∷ []) (pos n ∷ [])) (under (part path tag) n n (n + 1) (names x) at (omega arith) (omega arith) h.0) in
    joined (part path tag) n (n + 1) high (behind (pos n) (names x)) (in_places (n + 1) (map names xs)) (at (nth path tag n)) (numbered path tag (n + 1) ats) first
    (siblings names path tag (n + 1) high xs ats h.1 (omega (arith, le)))

-- statements at the path of a field number, and then the parts below it
pub statements : (path : Path) (tag low high from to : ℕ) (names : List Path) (own ls : List Location) → from ≤ tag → tag < to → Each (λ (l : Location). l.path ≡ part path (pos tag)) own
    → Row (part path (pos tag)) low high names ls → Row path from to (behind (pos tag) names) (own ++ ls)
statements path tag low high from to names own ls l h at row = record {
  fits = omega (arith, l, h);
  below = below-tag path tag from to (own ++ ls) l h
      (each-both (From (part path (pos tag))) own ls (each-so (λ (l : Location). l.path ≡ part path (pos tag)) (From (part path (pos tag))) own (λ l e. here (part path (pos tag)) l e) at)
      (each-so (Below (part path (pos tag)) low high) (From (part path (pos tag))) ls (λ l b. record { rest = pos b.tag ∷ b.rest; is = b.is }) row.below));
  named = behind-led tag from to names l h;
  once = behind-once path tag names (own ++ ls)
      (each-with (Led low high) (Once (part path (pos tag)) ls) (Once (part path (pos tag)) (own ++ ls)) names
      (λ name led one. omega (
        arith,
        count-both (part path (pos tag) ++ name) own ls,
        one,
        none-at (part path (pos tag) ++ name) own
            (each-so (λ (l : Location). l.path ≡ part path (pos tag)) (λ (l : Location). l.path ≡ part path (pos tag) ++ name → ⊥) own
            (λ l e same. longer (part path (pos tag)) led.tag led.rest (sym e ∙ same ∙ ap (λ (n : Path). part path (pos tag) ++ n) led.is)) at),
      )) row.named row.once);
}

-- siblings at a field number
pub all-at : {A : Type 0} (names : A → List Path) (path : Path) (tag from to : ℕ) (xs : List A) (ats : List Part) → from ≤ tag → tag < to → Pairs (λ x at. Placed (names x) at) xs ats
    → Row path from to (in_list (pos tag) (map names xs)) (numbered path (pos tag) 0 ats)
all-at names path tag from to xs ats l h pairs =
    statements path tag 0 (length xs) from to (in_places 0 (map names xs)) [] (numbered path (pos tag) 0 ats) l h tt (siblings names path (pos tag) 0 (length xs) xs ats pairs (omega arith))

-- siblings with others behind them count no more than these
each-first : {A : Type 0} (P : Path → Type 0) (names : A → List Path) (xs more : List A) (k n : ℕ) → k ≤ length xs → Each P (in_places n (map names xs)) → Each P (in_places n (map names (take k (xs ++ more))))
each-first P names xs more zero n le h = tt
each-first P names [] more (suc k) n le h = absurd (omega (arith, le))
each-first P names (x ∷ xs) more (suc k) n le h =
    let parts = each-parts P (behind (pos n) (names x)) (in_places (n + 1) (map names xs)) h in
    each-both P (behind (pos n) (names x)) (in_places (n + 1) (map names (take k (xs ++ more)))) parts.0 (each-first P names xs more k (n + 1) (omega (arith, le)) parts.1)

pub first-at : {A : Type 0} (names : A → List Path) (path : Path) (tag from to : ℕ) (xs more : List A) (ats : List Part) (k : ℕ) → from ≤ tag → tag < to → k ≤ length xs → Pairs (λ x at. Placed (names x) at) xs ats
    → Row path from to (in_list (pos tag) (map names (take k (xs ++ more)))) (numbered path (pos tag) 0 ats)
first-at names path tag from to xs more ats k l h le pairs =
    let all = siblings names path (pos tag) 0 (length xs) xs ats pairs (omega arith) in
    statements path tag 0 (length xs) from to (in_places 0 (map names (take k (xs ++ more)))) [] (numbered path (pos tag) 0 ats) l h tt
    (record { fits = all.fits; below = all.below; named = each-first (Led 0 (length xs)) names xs more k 0 le all.named; once = each-first (Once (part path (pos tag)) (numbered path (pos tag) 0 ats)) names xs more k 0 le all.once })

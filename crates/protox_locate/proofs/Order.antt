-- Locations in the order of their paths. Parts below a path with ascending field numbers are in
-- order.
use Rattle.std.proofs.Common.{◌≡◌, ℕ, ◌+◌, ◌<◌, ◌≤◌, List, [], ◌∷◌, ◌++◌, length, refl, ap, sym, ◌∙◌, arith, append_assoc, append-nil, subst, Ordering, Less}
use Rattle.std.specs.Prelude.{ℤ, pos}
use Rattle.std.specs.Ordering.{int_cmp, is_lt, ordering_then}
use Rattle.std.specs.Cmp.Lexicographic.{slice_cmp}
use Rattle.std.proofs.lemmas.Cmp.{int_ranked, tied_itself, int_cmp_total, by_ranked}
use Rattle.std.proofs.lemmas.Int.{ints}
use Rattle.protox_ast.specs.Basics.{Each}
use Rattle.protox_descriptor.specs.declared.descriptor.source_code_info.Location.{Location}
use Rattle.protox_locate.specs.LocationWords.{Path, Part, nth, numbered}
use Rattle.protox_places.proofs.Lemmas.{each_so}
use Rattle.protox_places.specs.Order.{ComesBefore, Ahead, by_path, by_start, InOrder}

pub each_both : {A : Type 0} (P : A → Type 0) (xs ys : List A) → Each P xs → Each P ys → Each P (xs ++ ys)
each_both P [] ys a b = b
each_both P (x ∷ xs) ys a b = (a.0, each_both P xs ys a.1 b)

-- ---- the order of paths

less-then : (o p : Ordering) → o ≡ Less → ordering_then o p ≡ Less
less-then o p e = ap (λ o. ordering_then o p) e

pub pos_below : (t u : ℕ) → t < u → int_cmp (pos t) (pos u) ≡ Less
pos_below t u lt = by_ranked _ _ _ (int_cmp (pos t) (pos u)) (int_ranked (pos t) (pos u) _ refl) (λ e p. e) (λ e p. absurd (omega (arith, ints, p))) (λ e p. absurd (omega (arith, ints, p)))

less-aside : (path : Path) (t u : ℕ) (r s : Path) → t < u → slice_cmp int_cmp (path ++ pos t ∷ r) (path ++ pos u ∷ s) ≡ Less
less-aside [] t u r s lt = less-then (int_cmp (pos t) (pos u)) (slice_cmp int_cmp r s) (pos_below t u lt)
less-aside (p ∷ path) t u r s lt = ap (λ o. ordering_then o (slice_cmp int_cmp (path ++ pos t ∷ r) (path ++ pos u ∷ s))) (tied_itself int_cmp_total p) ∙ less-aside path t u r s lt

less-down : (path : Path) (t : ℕ) (r : Path) → slice_cmp int_cmp path (path ++ pos t ∷ r) ≡ Less
less-down [] t r = refl
less-down (p ∷ path) t r = ap (λ o. ordering_then o (slice_cmp int_cmp path (path ++ pos t ∷ r))) (tied_itself int_cmp_total p) ∙ less-down path t r

aside : (path : Path) (t u : ℕ) (r s : Path) → t < u → ComesBefore (path ++ pos t ∷ r) (path ++ pos u ∷ s)
aside path t u r s lt = ap is_lt (less-aside path t u r s lt)

down : (path : Path) (t : ℕ) (r : Path) → ComesBefore path (path ++ pos t ∷ r)
down path t r = ap is_lt (less-down path t r)

-- ---- where a location stands

-- from the path on
pub record From (path : Path) (l : Location) : Type 0 where
  pub rest : Path
  pub is : l.path ≡ path ++ rest

-- below the path, at one of these tags
pub record Below (path : Path) (low high : ℕ) (l : Location) : Type 0 where
  pub tag : ℕ
  pub rest : Path
  pub is : l.path ≡ path ++ pos tag ∷ rest
  pub lower : low ≤ tag
  pub upper : tag < high

module _ (Same : Location → Location → Type 0) where
  -- in order, and all below the path at these tags
  pub record Run (path : Path) (low high : ℕ) (ls : List Location) : Type 0 where
    pub order : InOrder Same ls
    pub below : Each (Below path low high) ls
    pub fits : low ≤ high

  -- a part: from each path on, and in order
  pub record Good (at : Part) : Type 0 where
    pub order : (path : Path) → InOrder Same (at path)
    pub from : (path : Path) → Each (From path) (at path)

  after : (path : Path) (low mid high : ℕ) (l : Location) (ys : List Location) → Below path low mid l → Each (Below path mid high) ys → Each (Ahead Same l) ys
  after path low mid high l [] b c = tt
  after path low mid high l (y ∷ ys) b c =
      let here : Below path mid high y = c.0 in
      let lt : b.tag < here.tag = omega (arith, b.upper, here.lower) in
      (by_path (subst (λ p. ComesBefore p y.path) (sym b.is) (subst (λ p. ComesBefore (path ++ pos b.tag ∷ b.rest) p) (sym here.is) (aside path b.tag here.tag b.rest here.rest lt))), after path low mid high l ys b c.1)

  in_order_both : (path : Path) (low mid high : ℕ) (xs ys : List Location) → InOrder Same xs → Each (Below path low mid) xs → InOrder Same ys → Each (Below path mid high) ys → InOrder Same (xs ++ ys)
  in_order_both path low mid high [] ys o b p c = p
  in_order_both path low mid high (x ∷ xs) ys o b p c =
      (each_both (Ahead Same x) xs ys o.0 (after path low mid high x ys b.0 c), in_order_both path low mid high xs ys o.1 b.1 p c)

  pub none : (path : Path) (low high : ℕ) → low ≤ high → Run path low high []
  none path low high le = record { order = tt; below = tt; fits = le }

  pub widen : (path : Path) (low high low' high' : ℕ) (ls : List Location) → low' ≤ low → high ≤ high' → Run path low high ls → Run path low' high' ls
  widen path low high low' high' ls l h r = record {
    order = r.order;
    below = each_so (Below path low high) (Below path low' high') ls (λ x b. record { tag = b.tag; rest = b.rest; is = b.is; lower = omega (arith, l, b.lower); upper = omega (arith, h, b.upper) }) r.below;
    fits = omega (arith, l, h, r.fits);
  }

  pub joined : (path : Path) (low mid high : ℕ) (xs ys : List Location) → Run path low mid xs → Run path mid high ys → Run path low high (xs ++ ys)
  joined path low mid high xs ys a b = record {
    order = in_order_both path low mid high xs ys a.order a.below b.order b.below;
    below = each_both (Below path low high) xs ys
        ((widen path low mid low high xs (omega arith) (omega (arith, b.fits)) a).below) ((widen path mid high low high ys (omega (arith, a.fits)) (omega arith) b).below);
    fits = omega (arith, a.fits, b.fits);
  }

  -- one location at a field number
  pub leaf : (path : Path) (t low high : ℕ) (l : Location) → l.path ≡ path ++ pos t ∷ [] → low ≤ t → t < high → Run path low high (l ∷ [])
  leaf path t low high l e a b = record { order = (tt, tt); below = (record { tag = t; rest = []; is = e; lower = a; upper = b }, tt); fits = omega (arith, a, b) }

  -- one part at a field number
  pub part_at : (path : Path) (t low high : ℕ) (at : Part) → Good at → low ≤ t → t < high → Run path low high (at (path ++ pos t ∷ []))
  part_at path t low high at g a b = record {
    order = g.order (path ++ pos t ∷ []);
    below = each_so (From (path ++ pos t ∷ [])) (Below path low high) (at (path ++ pos t ∷ []))
        (λ x f. record { tag = t; rest = f.rest; is = f.is ∙ append_assoc path (pos t ∷ []) f.rest; lower = a; upper = b }) (g.from (path ++ pos t ∷ []));
    fits = omega (arith, a, b);
  }

  -- siblings, below the path that they share
  siblings : (path : Path) (tag : ℤ) (n high : ℕ) (ats : List Part) → Each Good ats → n + length ats ≤ high → Run (path ++ tag ∷ []) n high (numbered path tag n ats)
  siblings path tag n high [] g le = none (path ++ tag ∷ []) n high (omega (arith, le))
  siblings path tag n high (at ∷ more) g le =
      let here : Run (path ++ tag ∷ []) n (n + 1) (at (nth path tag n)) = subst (λ p. Run (path ++ tag ∷ []) n (n + 1) (at p)) (append_assoc path (tag ∷ []) (pos n ∷ [])) (part_at (path ++ tag ∷ []) n n (n + 1) at g.0 (omega arith) (omega arith)) in
      joined (path ++ tag ∷ []) n (n + 1) high (at (nth path tag n)) (numbered path tag (n + 1) more) here (siblings path tag (n + 1) high more g.1 (omega (arith, le)))

  -- each at the path, and before those behind it by the order asked for one path
  abbrev pub AtOne : Path → List Location → Type 0
  AtOne p [] = Unit {0}
  AtOne p (l ∷ ls) = (l.path ≡ p) × Each (Same l) ls × AtOne p ls

  at_path : (p : Path) (ls : List Location) → AtOne p ls → Each (λ (l : Location). l.path ≡ p) ls
  at_path p [] a = tt
  at_path p (l ∷ ls) a = (a.0, at_path p ls a.2)

  one_path : (p : Path) (l : Location) (ls : List Location) → l.path ≡ p → Each (λ (l : Location). l.path ≡ p) ls → Each (Same l) ls → Each (Ahead Same l) ls
  one_path p l [] e a s = tt
  one_path p l (m ∷ ls) e a s = (by_start (e ∙ sym a.0) s.0, one_path p l ls e a.1 s.1)

  all_below : (p : Path) (low high : ℕ) (l : Location) (ls : List Location) → l.path ≡ p → Each (Below p low high) ls → Each (Ahead Same l) ls
  all_below p low high l [] e b = tt
  all_below p low high l (m ∷ ls) e b =
      let here : Below p low high m = b.0 in
      (by_path (subst (λ q. ComesBefore q m.path) (sym e) (subst (λ q. ComesBefore p q) (sym here.is) (down p here.tag here.rest))), all_below p low high l ls e b.1)

  repeated : (p : Path) (low high : ℕ) (ls rest : List Location) → AtOne p ls → Run p low high rest → InOrder Same (ls ++ rest)
  repeated p low high [] rest a r = r.order
  repeated p low high (l ∷ ls) rest a r =
      (each_both (Ahead Same l) ls rest (one_path p l ls a.0 (at_path p ls a.2) a.1) (all_below p low high l rest a.0 r.below), repeated p low high ls rest a.2 r)

  from_all : (p : Path) (low high : ℕ) (ls rest : List Location) → AtOne p ls → Run p low high rest → Each (From p) (ls ++ rest)
  from_all p low high ls rest a r =
      each_both (From p) ls rest (each_so (λ (l : Location). l.path ≡ p) (From p) ls (λ l e. record { rest = []; is = e ∙ sym (append-nil p) }) (at_path p ls a))
      (each_so (Below p low high) (From p) rest (λ x b. record { rest = pos b.tag ∷ b.rest; is = b.is }) r.below)

  -- statements at the path of a field number, and then the parts below it
  pub statements : (path : Path) (tag low high from to : ℕ) (ls rest : List Location) → AtOne (path ++ pos tag ∷ []) ls → Run (path ++ pos tag ∷ []) low high rest → from ≤ tag → tag < to
      → Run path from to (ls ++ rest)
  statements path tag low high from to ls rest a r l h = record {
    order = repeated (path ++ pos tag ∷ []) low high ls rest a r;
    below = each_so (From (path ++ pos tag ∷ [])) (Below path from to) (ls ++ rest)
        (λ x f. record { tag = tag; rest = f.rest; is = f.is ∙ append_assoc path (pos tag ∷ []) f.rest; lower = l; upper = h }) (from_all (path ++ pos tag ∷ []) low high ls rest a r);
    fits = omega (arith, l, h);
  }

  -- statements, and then the siblings that they bring
  pub and_siblings : (path : Path) (tag from to : ℕ) (ls : List Location) (ats : List Part) → AtOne (path ++ pos tag ∷ []) ls → Each Good ats → from ≤ tag → tag < to
      → Run path from to (ls ++ numbered path (pos tag) 0 ats)
  and_siblings path tag from to ls ats a g l h =
      statements path tag 0 (length ats) from to ls (numbered path (pos tag) 0 ats) a (siblings path (pos tag) 0 (length ats) ats g (omega arith)) l h

  -- siblings at a field number
  pub all_at : (path : Path) (tag from to : ℕ) (ats : List Part) → Each Good ats → from ≤ tag → tag < to → Run path from to (numbered path (pos tag) 0 ats)
  all_at path tag from to ats g l h = and_siblings path tag from to [] ats tt g l h

  -- a part whose first locations stand at its path, and the others below
  pub node : (own others : Part) (low high : ℕ) → ((path : Path) → AtOne path (own path)) → ((path : Path) → Run path low high (others path)) → Good (λ path. own path ++ others path)
  node own others low high e r = record {
    order = λ path. repeated path low high (own path) (others path) (e path) (r path);
    from = λ path. from_all path low high (own path) (others path) (e path) (r path);
  }

-- Which comments locations have: from which rows each location takes them, and how often all
-- locations together take the comments of a row.
use Rattle.std.proofs.Common.{◌≡◌, ℕ, ◌+◌, ◌≤◌, List, [], ◌∷◌, ◌++◌, length, map, flat_map, None, ℤ, refl, ap, sym, subst, append_assoc, ◌∙◌, arith}
use Rattle.protox_fault.specs.Faults.{Span}
use Rattle.protox_lexeme.specs.Shapes.{Shape, Mark, Rows}
use Rattle.protox_ast.specs.Basics.{join}
use Rattle.protox_ast.specs.Places.{Place}
use Rattle.protox_descriptor.specs.declared.descriptor.source_code_info.Location.{Location}
use Rattle.protox_locate.proofs.Lemmas.{numbered_append}
use Rattle.protox_locate.specs.LocationWords.{Path, Part, nth, numbered, each_at}

-- A location has no comments, or it has those before its first row and the one behind its last row
-- or behind the `{` of its body.
pub data Taken : Type 0 where
  nothing : Taken
  ending : (first last : Place) → Taken
  opening : (first brace last : Place) → Taken

abbrev pub open_brace : Shape
open_brace = Mark 123

-- weights of the comments before a row and of the one behind it; of the row's token; and of two
-- rows in order
pub record Weights : Type 0 where
  pub first : Place → ℕ
  pub last : Place → ℕ
  pub mark : Shape → Place → ℕ
  pub both : Place → Place → ℕ

-- for a row, and for each behind it
abbrev pub behind : Weights → Place → Rows Place → ℕ
behind w p [] = 0
behind w p (r ∷ rs) = w.both p r.at + behind w p rs

abbrev pub weigh : Weights → Rows Place → ℕ
weigh w [] = 0
weigh w (r ∷ rs) = w.first r.at + w.last r.at + w.mark r.shape r.at + behind w r.at rs + weigh w rs

abbrev pub cost : Weights → List Taken → ℕ
cost w [] = 0
cost w (nothing ∷ ts) = cost w ts
cost w (ending first last ∷ ts) = w.first first + w.last last + w.both first last + cost w ts
cost w (opening first brace last ∷ ts) = w.first first + w.last brace + w.mark open_brace brace + w.both first brace + w.both brace last + cost w ts

abbrev pub Cost : Type 0
Cost = Weights → ℕ

abbrev pub free : Cost
free w = 0

pub behind-append : (w : Weights) (p : Place) (a b : Rows Place) → behind w p (a ++ b) ≡ behind w p a + behind w p b
behind-append w p [] b = omega arith
behind-append w p (r ∷ a) b = omega (arith, behind-append w p a b)

-- two rows have no weight together
pub behind-zero : (w : Weights) → ((p q : Place) → w.both p q ≤ 0) → (p : Place) (rows : Rows Place) → behind w p rows ≤ 0
behind-zero w none p [] = omega arith
behind-zero w none p (r ∷ rows) = omega (arith, none p r.at, behind-zero w none p rows)

pub weigh-append : (w : Weights) (a b : Rows Place) → weigh w a + weigh w b ≤ weigh w (a ++ b)
weigh-append w [] b = omega arith
weigh-append w (r ∷ a) b = omega (arith, weigh-append w a b, behind-append w r.at a b)

cost-append : (w : Weights) (a b : List Taken) → cost w (a ++ b) ≡ cost w a + cost w b
cost-append w [] b = omega arith
cost-append w (nothing ∷ a) b = cost-append w a b
cost-append w (ending first last ∷ a) b = omega (arith, cost-append w a b)
cost-append w (opening first brace last ∷ a) b = omega (arith, cost-append w a b)

module _ (numbers : Span → List ℤ) where
  abbrev pub Says : Location → Taken → Type 0
  Says l nothing = (l.leading_comments ≡ None) × (l.trailing_comments ≡ None) × (l.leading_detached_comments ≡ [])
  Says l (ending first last) =
      (l.leading_comments ≡ first.leading) × (l.trailing_comments ≡ last.trailing) × (l.leading_detached_comments ≡ first.detached) × (l.span ≡ numbers (join first.span last.span))
  Says l (opening first brace last) =
      (l.leading_comments ≡ first.leading) × (l.trailing_comments ≡ brace.trailing) × (l.leading_detached_comments ≡ first.detached) × (l.span ≡ numbers (join first.span last.span))

  abbrev pub SayEach : List Location → List Taken → Type 0
  SayEach [] [] = Unit {0}
  SayEach [] (t ∷ ts) = ⊥
  SayEach (l ∷ ls) [] = ⊥
  SayEach (l ∷ ls) (t ∷ ts) = Says l t × SayEach ls ts

  -- The locations take comments of at most this weight, for any weights.
  pub record Take (ls : List Location) (c : Cost) : Type 0 where
    pub taken : List Taken
    pub said : SayEach ls taken
    pub within : (w : Weights) → cost w taken ≤ c w

  say-append : (ls ms : List Location) (a b : List Taken) → SayEach ls a → SayEach ms b → SayEach (ls ++ ms) (a ++ b)
  say-append [] ms [] b h k = k
  say-append [] ms (t ∷ a) b h k = absurd h
  say-append (l ∷ ls) ms [] b h k = absurd h
  say-append (l ∷ ls) ms (t ∷ a) b h k = (h.0, say-append ls ms a b h.1 k)

  -- parts, as siblings and at one path
  pub record Parts (ps : List Part) (c : Cost) : Type 0 where
    pub numbered : (path : Path) (tag : ℤ) (n : ℕ) → Take (numbered path tag n ps) c
    pub at : (path : Path) → Take (each_at path ps) c

each-append : (path : Path) (ps qs : List Part) → each_at path (ps ++ qs) ≡ each_at path ps ++ each_at path qs
each-append path [] qs = refl
each-append path (p ∷ ps) qs = ap (λ l. p path ++ l) (each-append path ps qs) ∙ sym (append_assoc (p path) (each_at path ps) (each_at path qs))

module _ {numbers : Span → List ℤ} where
  -- ---- locations

  pub take-none : (c : Cost) → Take numbers [] c
  take-none c = record { taken = []; said = tt; within = λ w. omega arith }

  pub take-more : {ls : List Location} {c d : Cost} → Take numbers ls c → ((w : Weights) → c w ≤ d w) → Take numbers ls d
  take-more t more = record { taken = t.taken; said = t.said; within = λ w. omega (arith, t.within w, more w) }

  pub take-append : {ls ms : List Location} {c d : Cost} → Take numbers ls c → Take numbers ms d → Take numbers (ls ++ ms) (λ w. c w + d w)
  take-append {ls} {ms} t u = record {
    taken = t.taken ++ u.taken;
    said = say-append numbers ls ms t.taken u.taken t.said u.said;
    within = λ w. omega (arith, cost-append w t.taken u.taken, t.within w, u.within w);
  }

  pub take-bare : {l : Location} {ls : List Location} {c : Cost} → Says numbers l nothing → Take numbers ls c → Take numbers (l ∷ ls) c
  take-bare says t = record { taken = nothing ∷ t.taken; said = (says, t.said); within = λ w. t.within w }

  pub take-ending : (first last : Place) {l : Location} {ls : List Location} {c d : Cost} → Says numbers l (ending first last) → Take numbers ls c → ((w : Weights) → w.first first + w.last last + w.both first last + c w ≤ d w) → Take numbers (l ∷ ls) d
  take-ending first last says t more = record { taken = ending first last ∷ t.taken; said = (says, t.said); within = λ w. omega (arith, t.within w, more w) }

  pub take-opening : (first brace last : Place) {l : Location} {ls : List Location} {c d : Cost} → Says numbers l (opening first brace last) → Take numbers ls c
      → ((w : Weights) → w.first first + w.last brace + w.mark open_brace brace + w.both first brace + w.both brace last + c w ≤ d w) → Take numbers (l ∷ ls) d
  take-opening first brace last says t more = record { taken = opening first brace last ∷ t.taken; said = (says, t.said); within = λ w. omega (arith, t.within w, more w) }

  pub bare-then : {ls ms : List Location} {c : Cost} → Take numbers ls free → Take numbers ms c → Take numbers (ls ++ ms) c
  bare-then t u = take-more (take-append t u) (λ w. omega arith)

  pub then-bare : {ls ms : List Location} {c : Cost} → Take numbers ls c → Take numbers ms free → Take numbers (ls ++ ms) c
  then-bare t u = take-more (take-append t u) (λ w. omega arith)

  -- ---- parts, as siblings and at one path

  pub parts-none : (c : Cost) → Parts numbers [] c
  parts-none c = record { numbered = λ path tag n. take-none c; at = λ path. take-none c }

  pub parts-more : {ps : List Part} {c d : Cost} → Parts numbers ps c → ((w : Weights) → c w ≤ d w) → Parts numbers ps d
  parts-more p more = record { numbered = λ path tag n. take-more (p.numbered path tag n) more; at = λ path. take-more (p.at path) more }

  pub parts-first : {p : Part} {ps : List Part} {c d : Cost} → ((path : Path) → Take numbers (p path) c) → Parts numbers ps d → Parts numbers (p ∷ ps) (λ w. c w + d w)
  parts-first {p} {ps} t u = record {
    numbered = λ path tag n. take-append (t (nth path tag n)) (u.numbered path tag (n + 1));
    at = λ path. take-append (t path) (u.at path);
  }

  pub parts-one : {p : Part} {c : Cost} → ((path : Path) → Take numbers (p path) c) → Parts numbers (p ∷ []) c
  parts-one t = parts-more (parts-first t (parts-none free)) (λ w. omega arith)

  pub parts-append : {ps qs : List Part} {c d : Cost} → Parts numbers ps c → Parts numbers qs d → Parts numbers (ps ++ qs) (λ w. c w + d w)
  parts-append {ps} {qs} {c} {d} t u = record {
    numbered = λ path tag n. subst (λ ls. Take numbers ls (λ w. c w + d w)) (sym (numbered_append path tag n ps qs)) (take-append (t.numbered path tag n) (u.numbered path tag (n + length ps)));
    at = λ path. subst (λ ls. Take numbers ls (λ w. c w + d w)) (sym (each-append path ps qs)) (take-append (t.at path) (u.at path));
  }

  -- parts that take nothing
  pub parts-bare : {A : Type 0} (part_of : A → Part) → ((x : A) (path : Path) → Take numbers (part_of x path) free) → (xs : List A) → Parts numbers (map part_of xs) free
  parts-bare part_of t [] = parts-none free
  parts-bare part_of t (x ∷ xs) = parts-more (parts-first (t x) (parts-bare part_of t xs)) (λ w. omega arith)

  pub parts-flat : {A : Type 0} (parts_of : A → List Part) → ((x : A) → Parts numbers (parts_of x) free) → (xs : List A) → Parts numbers (flat_map parts_of xs) free
  parts-flat parts_of t [] = parts-none free
  parts-flat parts_of t (x ∷ xs) = parts-more (parts-append (t x) (parts-flat parts_of t xs)) (λ w. omega arith)

-- What the code reads and notes of the statements of a file. A package statement after another one
-- is noted, so notes depend on the first one.
use Rattle.std.proofs.Common.{◌≡◌, ◌<◌, ℕ, zero, suc, Bool, true, false, cond, List, [], ◌∷◌, ◌++◌, length, Option, Some, None, Result, Ok, Err, inl, inr, ◌⊎◌, refl, sym, ap, subst, ◌∙◌, append-nil, arith}
use Rattle.protox_fault.specs.Faults.{Span, SpanLiesIn}
use Rattle.protox_lexeme.specs.Shapes.{Shape, Rows}
use Rattle.protox_ast.proofs.Lemmas.{Stand}
use Rattle.protox_ast.specs.KeywordWalk.{Given}
use Rattle.protox_ast.specs.CheckedNodes.{CheckedNode, APackageAgain, ATooDeep}
use Rattle.protox_ast.specs.Checks.{package_span}
use Rattle.protox_ast.specs.Places.{Place}
use Rattle.protox_ast.specs.Tree as t
use Rattle.protox_grammar.specs.Class.{Set, in_set}
use Rattle.protox_grammar.specs.Noted.{noted_nodes}
use Rattle.protox_grammar.specs.Reader as reader
use Rattle.protox_grammar.specs.Reader.{Reader, Refusal, head_in, mapped, Consumes, ◌>>=◌}
use Rattle.protox_grammar.specs.Rule.{on_sum}
use Rattle.protox_grammar.specs.Steps.{ANode, APackage, AKeyword, ADeepBody, ADeeperBody, AnOpenBrace, ACloseBrace, Token, Note, Steps, star_trace, then_steps}
use Rattle.protox_grammar.specs.Told.{Notes, first_behind, keyword_behind, package_notes, past, place_of, told, checked, span_of}
use Rattle.protox_grammar.proofs.Shown.{Shown}
use Rattle.protox_grammar.proofs.Shows.{Shows, either-shows, left-shows}
use Rattle.protox_grammar.proofs.Takes.{bind_ok, ok_is}
use Rattle.protox_grammar.proofs.Telling.{AllLie, both-lie, cond-lie, past-stand, Voice, notes_of, silent, note_trace, choice_trace, told-append, past-append}
use Rattle.protox_grammar.proofs.Told.{Says}

-- ---- steps without a package statement

pub noted-append : (p : Option (t.Package Place)) (w : Place) (l j : Steps Place) → noted_nodes p w (l ++ j) ≡ noted_nodes p w l ++ noted_nodes (first_behind p l) (keyword_behind w l) j
noted-append p w [] j = refl
noted-append p w (Token r ∷ l) j = noted-append p w l j
noted-append p w (Note (ANode x) ∷ l) j = ap (λ v. x ∷ v) (noted-append p w l j)
noted-append None w (Note (APackage x) ∷ l) j = noted-append (Some x) w l j
noted-append (Some f) w (Note (APackage x) ∷ l) j = ap (λ v. APackageAgain f x ∷ v) (noted-append (Some f) w l j)
noted-append p w (Note (AKeyword m) ∷ l) j = noted-append p m l j
noted-append p w (Note (ADeepBody m) ∷ l) j = ap (λ v. ATooDeep w m ∷ v) (noted-append p w l j)
noted-append p w (Note (ADeeperBody m) ∷ l) j = noted-append p w l j
noted-append p w (Note (AnOpenBrace m) ∷ l) j = noted-append p w l j
noted-append p w (Note (ACloseBrace m) ∷ l) j = noted-append p w l j

first-stays : (f : t.Package Place) (l : Steps Place) → first_behind (Some f) l ≡ Some f
first-stays f [] = refl
first-stays f (Token r ∷ l) = first-stays f l
first-stays f (Note (APackage x) ∷ l) = first-stays f l
first-stays f (Note e ∷ l) = first-stays f l

none-behind : {A : Type 0} (xs ys : List A) → xs ≡ xs ++ ys → ys ≡ []
none-behind [] ys e = sym e
none-behind (x ∷ xs) ys e = none-behind xs ys (tails e)
  where
    tails : x ∷ xs ≡ x ∷ (xs ++ ys) → xs ≡ xs ++ ys
    tails q = cc

module _ (some : t.Package Place) where
  still-none : (p : Option (t.Package Place)) (w : Place) → noted_nodes p w (Note (APackage some) ∷ []) ≡ [] → p ≡ None
  still-none None w e = refl
  still-none (Some f) w e = absurd cc

  -- steps that note the same nodes, whatever comes before and after, hold no package statement
  pub kept-of : (l : Steps Place) (ns : List (CheckedNode Place)) → Says l ns → (p : Option (t.Package Place)) (w : Place) → first_behind p l ≡ p
  kept-of l ns h (Some f) w = first-stays f l
  kept-of l ns h None w =
      let v = h None w in
      let alone : noted_nodes None w l ≡ ns = ap (noted_nodes None w) (sym (append-nil l)) ∙ v.1 [] ∙ append-nil ns in
      let with_one = v.1 (Note (APackage some) ∷ []) in
      let both : ns ≡ ns ++ noted_nodes (first_behind None l) (keyword_behind w l) (Note (APackage some) ∷ []) =
      sym (append-nil ns) ∙ sym with_one ∙ noted-append None w l (Note (APackage some) ∷ []) ∙ ap (λ u. u ++ noted_nodes (first_behind None l) (keyword_behind w l) (Note (APackage some) ∷ [])) alone in
      still-none (first_behind None l) (keyword_behind w l) (none-behind ns _ both)

-- ---- statements

-- The notes are those of the steps after a first package statement at this place, or after none.
-- `next` is the first one then. The notes lie in the source in which this place and the rows stand,
-- and so does the place of the first one.
pub record Stated {A B : Type 0} (read : Reader Place A) (trace : Rows Place → Steps Place) (view : A → B) (next : Option Span → B → Option Span) : Type 0 where
  pub code : Reader Place B
  pub notes : Option Span → Rows Place → Notes
  pub shows : Shows view read code
  pub says : (p : Option (t.Package Place)) (w : Place) (xs : Rows Place) → told p w (trace xs) xs ≡ notes (place_of p) xs
  pub left : (xs : Rows Place) (x : A × Rows Place) → read xs ≡ Ok x → past (trace xs) xs ≡ x.1
  pub first : (p : Option (t.Package Place)) (xs : Rows Place) (x : A × Rows Place) → read xs ≡ Ok x → place_of (first_behind p (trace xs)) ≡ next (place_of p) (view x.0)
  pub lies : (q : Option Span) (low high : ℕ) (xs : Rows Place) → Given (SpanLiesIn high) q → Stand low high xs → AllLie high (notes q xs)
  pub first_lies : (q : Option Span) (low high : ℕ) (xs : Rows Place) (x : A × Rows Place) → read xs ≡ Ok x → Given (SpanLiesIn high) q → Stand low high xs → Given (SpanLiesIn high) (next q (view x.0))

-- The first package statement stays the same.
abbrev pub KeepsFirst : {A : Type 0} → Reader Place A → (Rows Place → Steps Place) → Type 0
KeepsFirst {A} read trace = (p : Option (t.Package Place)) (xs : Rows Place) (x : A × Rows Place) → read xs ≡ Ok x → first_behind p (trace xs) ≡ p

module _ {A B : Type 0} {v : Voice} {a : Reader Place A} {s : Rows Place → Steps Place} {f : A → B} {next : Option Span → B → Option Span} where
  -- a statement that is no package
  abbrev pub stated : Shown v a s f → KeepsFirst a s → ((q : Option Span) (x : A) → next q (f x) ≡ q) → Stated a s f next
  stated x h e = record {
    code = x.code;
    notes = λ q. notes_of v x.notes;
    shows = x.shows;
    says = λ p w xs. x.tells.says p w xs;
    left = x.tells.left;
    first = λ p xs y g. ap place_of (h p xs y g) ∙ sym (e (place_of p) y.0);
    lies = λ q low high xs g k. x.tells.lies low high xs k;
    first_lies = λ q low high xs y r g k. subst (Given (SpanLiesIn high)) (sym (e q y.0)) g;
  }

-- What is noted of a package statement after a first one.
abbrev pub again_notes : Option Span → Span → Rows Place → Notes
again_notes None span rest = []
again_notes (Some first) span rest = package_notes first span rest

again-told : (p : Option (t.Package Place)) (w : Place) (x : t.Package Place) (rest : Rows Place) → told p w (Note (APackage x) ∷ []) rest ≡ again_notes (place_of p) (package_span span_of x) rest
again-told None w x rest = refl
again-told (Some f) w x rest = append-nil (package_notes (package_span span_of f) (package_span span_of x) rest)

abbrev pub or_first : Option Span → Span → Option Span
or_first None span = Some span
or_first (Some first) span = Some first

pub first-kept : (high : ℕ) (q : Option Span) (here : Span) → Given (SpanLiesIn high) q → SpanLiesIn high here → Given (SpanLiesIn high) (or_first q here)
first-kept high None here g k = k
first-kept high (Some first) here g k = g

again-first : (p : Option (t.Package Place)) (x : t.Package Place) → place_of (first_behind p (Note (APackage x) ∷ [])) ≡ or_first (place_of p) (package_span span_of x)
again-first None x = refl
again-first (Some f) x = refl

pub first-append : (p : Option (t.Package Place)) (l k : Steps Place) → first_behind p (l ++ k) ≡ first_behind (first_behind p l) k
first-append p [] k = refl
first-append p (Token r ∷ l) k = first-append p l k
first-append None (Note (APackage x) ∷ l) k = first-append (Some x) l k
first-append (Some f) (Note (APackage x) ∷ l) k = first-append (Some f) l k
first-append p (Note (ANode x) ∷ l) k = first-append p l k
first-append p (Note (AKeyword m) ∷ l) k = first-append p l k
first-append p (Note (ADeepBody m) ∷ l) k = first-append p l k
first-append p (Note (ADeeperBody m) ∷ l) k = first-append p l k
first-append p (Note (AnOpenBrace m) ∷ l) k = first-append p l k
first-append p (Note (ACloseBrace m) ∷ l) k = first-append p l k

module _ {B : Type 0} {a : Reader Place (t.Package Place)} {s : Rows Place → Steps Place} {f : t.Package Place → B} (next : Option Span → B → Option Span) (span : B → Span)
    (is : (x : t.Package Place) → span (f x) ≡ package_span span_of x) (moves : (q : Option Span) (x : t.Package Place) → next q (f x) ≡ or_first q (span (f x))) where
  pub package-says : (x : Shown silent a s f) → KeepsFirst a s → (p : Option (t.Package Place)) (w : Place) (xs : Rows Place) → told p w (note_trace s a APackage xs) xs ≡ checked (λ x rest. again_notes (place_of p) (span x) rest) (x.code xs)
  package-says x h p w xs =
      told-append p w (s xs) (then_steps (a xs) (λ y. Note (APackage y.0) ∷ [])) xs
      ∙ ap (λ n. n ++ told (first_behind p (s xs)) (keyword_behind w (s xs)) (then_steps (a xs) (λ y. Note (APackage y.0) ∷ [])) (past (s xs) xs)) (x.tells.says p w xs)
      ∙ rest (a xs) refl ∙ ap (checked (λ x rest. again_notes (place_of p) (span x) rest)) (sym (x.shows.same xs))
    where
      rest : (r : Result (t.Package Place × Rows Place) Refusal) → a xs ≡ r
          → told (first_behind p (s xs)) (keyword_behind w (s xs)) (then_steps r (λ y. Note (APackage y.0) ∷ [])) (past (s xs) xs) ≡ checked (λ x rest. again_notes (place_of p) (span x) rest) (r >>= λ y. Ok (f y.0, y.1))
      rest (Ok y) g =
          (λ i. told (h p xs y g i) (keyword_behind w (s xs)) (Note (APackage y.0) ∷ []) (x.tells.left xs y g i))
          ∙ again-told p (keyword_behind w (s xs)) y.0 y.1 ∙ ap (λ v. again_notes (place_of p) v y.1) (sym (is y.0))
      rest (Err d) g = refl

  pub package-left : (x : Shown silent a s f) (xs : Rows Place) (y : t.Package Place × Rows Place) → a xs ≡ Ok y → past (note_trace s a APackage xs) xs ≡ y.1
  package-left x xs y g = past-append (s xs) (then_steps (a xs) (λ y. Note (APackage y.0) ∷ [])) xs ∙ ap (λ r. past (then_steps r (λ y. Note (APackage y.0) ∷ [])) (past (s xs) xs)) g ∙ x.tells.left xs y g

  pub package-first : (x : Shown silent a s f) → KeepsFirst a s → (p : Option (t.Package Place)) (xs : Rows Place) (y : t.Package Place × Rows Place) → a xs ≡ Ok y → place_of (first_behind p (note_trace s a APackage xs)) ≡ next (place_of p) (f y.0)
  package-first x h p xs y g =
      ap place_of (first-append p (s xs) (then_steps (a xs) (λ y. Note (APackage y.0) ∷ [])) ∙ (λ i. first_behind (h p xs y g i) (then_steps (g i) (λ y. Note (APackage y.0) ∷ []))))
      ∙ again-first p y.0 ∙ ap (or_first (place_of p)) (sym (is y.0)) ∙ sym (moves (place_of p) y.0)

  -- the place of each package statement lies where its rows stand
  module _ (safe : (low high : ℕ) (xs : Rows Place) (y : t.Package Place × Rows Place) → a xs ≡ Ok y → Stand low high xs → SpanLiesIn high (span (f y.0))) where
    pub package-lies : (x : Shown silent a s f) (q : Option Span) (low high : ℕ) (xs : Rows Place) → Given (SpanLiesIn high) q → Stand low high xs → AllLie high (checked (λ x rest. again_notes q (span x) rest) (x.code xs))
    package-lies x q low high xs g k =
        subst (λ r. AllLie high (checked (λ x rest. again_notes q (span x) rest) r)) (sym (x.shows.same xs)) (at (a xs) refl)
      where
        again-lies : (q : Option Span) (here : Span) (rest : Rows Place) → Given (SpanLiesIn high) q → SpanLiesIn high here → AllLie high (again_notes q here rest)
        again-lies None here rest i j = tt
        again-lies (Some first) here rest i j = ((i, j), tt)

        at : (r : Result (t.Package Place × Rows Place) Refusal) → a xs ≡ r → AllLie high (checked (λ x rest. again_notes q (span x) rest) (r >>= λ y. Ok (f y.0, y.1)))
        at (Ok y) e = again-lies q (span (f y.0)) y.1 g (safe low high xs y e k)
        at (Err d) e = tt

    -- a package statement
    abbrev pub packaged : Shown silent a s f → KeepsFirst a s → Stated a (note_trace s a APackage) f next
    packaged x h = record {
      code = x.code;
      notes = λ q xs. checked (λ x rest. again_notes q (span x) rest) (x.code xs);
      shows = x.shows;
      says = package-says x h;
      left = package-left x;
      first = package-first x h;
      lies = package-lies x;
      first_lies = λ q low high xs y e g k. subst (Given (SpanLiesIn high)) (sym (moves q y.0)) (first-kept high q (span (f y.0)) g (safe low high xs y e k));
    }

-- ---- one of two

pub either-said : (b : Bool) (l k : Steps Place) (xs : Rows Place) (p : Option (t.Package Place)) (w : Place) (ls ks : Notes) → told p w l xs ≡ ls → told p w k xs ≡ ks → told p w (cond b l k) xs ≡ cond b ls ks
either-said true l k xs p w ls ks e f = e
either-said false l k xs p w ls ks e f = f

module _ {A B C : Type 0} {a : Reader Place A} {b : Reader Place B} {s u : Rows Place → Steps Place} {f : A → C} {g : B → C} {next : Option Span → C → Option Span} where
  pub either-left : (x : Stated a s f next) (y : Stated b u g next) (c : Bool) (xs : Rows Place) (z : (A ⊎ B) × Rows Place) → cond c (mapped inl a xs) (mapped inr b xs) ≡ Ok z → past (cond c (s xs) (u xs)) xs ≡ z.1
  either-left x y true xs z e = let p = bind_ok (a xs) (λ i. Ok (inl i.0, i.1)) z e in x.left xs p.0 p.1 ∙ ap (λ (i : (A ⊎ B) × Rows Place). i.1) (ok_is (inl p.0.0, p.0.1) z p.2)
  either-left x y false xs z e = let p = bind_ok (b xs) (λ i. Ok (inr i.0, i.1)) z e in y.left xs p.0 p.1 ∙ ap (λ (i : (A ⊎ B) × Rows Place). i.1) (ok_is (inr p.0.0, p.0.1) z p.2)

  pub either-first : (x : Stated a s f next) (y : Stated b u g next) (c : Bool) (p : Option (t.Package Place)) (xs : Rows Place) (z : (A ⊎ B) × Rows Place) → cond c (mapped inl a xs) (mapped inr b xs) ≡ Ok z
      → place_of (first_behind p (cond c (s xs) (u xs))) ≡ next (place_of p) (on_sum f g z.0)
  either-first x y true p xs z e = let q = bind_ok (a xs) (λ i. Ok (inl i.0, i.1)) z e in x.first p xs q.0 q.1 ∙ ap (λ (i : (A ⊎ B) × Rows Place). next (place_of p) (on_sum f g i.0)) (ok_is (inl q.0.0, q.0.1) z q.2)
  either-first x y false p xs z e = let q = bind_ok (b xs) (λ i. Ok (inr i.0, i.1)) z e in y.first p xs q.0 q.1 ∙ ap (λ (i : (A ⊎ B) × Rows Place). next (place_of p) (on_sum f g i.0)) (ok_is (inr q.0.0, q.0.1) z q.2)

  pub either-first-lies : (x : Stated a s f next) (y : Stated b u g next) (c : Bool) (q : Option Span) (low high : ℕ) (xs : Rows Place) (z : (A ⊎ B) × Rows Place) → cond c (mapped inl a xs) (mapped inr b xs) ≡ Ok z
      → Given (SpanLiesIn high) q → Stand low high xs → Given (SpanLiesIn high) (next q (on_sum f g z.0))
  either-first-lies x y true q low high xs z e i k =
      let p = bind_ok (a xs) (λ j. Ok (inl j.0, j.1)) z e in
      subst (λ (j : (A ⊎ B) × Rows Place). Given (SpanLiesIn high) (next q (on_sum f g j.0))) (ok_is (inl p.0.0, p.0.1) z p.2) (x.first_lies q low high xs p.0 p.1 i k)
  either-first-lies x y false q low high xs z e i k =
      let p = bind_ok (b xs) (λ j. Ok (inr j.0, j.1)) z e in
      subst (λ (j : (A ⊎ B) × Rows Place). Given (SpanLiesIn high) (next q (on_sum f g j.0))) (ok_is (inr p.0.0, p.0.1) z p.2) (y.first_lies q low high xs p.0 p.1 i k)

  abbrev pub stated_choice : (P : Set) → Stated a s f next → Stated b u g next → Stated (reader.either (in_set P) (mapped inl a) (mapped inr b)) (choice_trace (in_set P) s u) (on_sum f g) next
  stated_choice P x y = record {
    code = reader.either (in_set P) x.code y.code;
    notes = λ q xs. cond (head_in (in_set P) xs) (x.notes q xs) (y.notes q xs);
    shows = either-shows (in_set P) (in_set P) (λ i. refl) x.shows y.shows;
    says = λ p w xs. either-said (head_in (in_set P) xs) (s xs) (u xs) xs p w (x.notes (place_of p) xs) (y.notes (place_of p) xs) (x.says p w xs) (y.says p w xs);
    left = λ xs z e. either-left x y (head_in (in_set P) xs) xs z e;
    first = λ p xs z e. either-first x y (head_in (in_set P) xs) p xs z e;
    lies = λ q low high xs i k. cond-lie high (head_in (in_set P) xs) (x.notes q xs) (y.notes q xs) (x.lies q low high xs i k) (y.lies q low high xs i k);
    first_lies = λ q low high xs z e i k. either-first-lies x y (head_in (in_set P) xs) q low high xs z e i k;
  }

-- ---- under another name

pub named-left : {A B : Type 0} (a : Reader Place A) (s : Rows Place → Steps Place) (to : A → B) → ((xs : Rows Place) (x : A × Rows Place) → a xs ≡ Ok x → past (s xs) xs ≡ x.1)
    → (xs : Rows Place) (z : B × Rows Place) → mapped to a xs ≡ Ok z → past (s xs) xs ≡ z.1
named-left {B = B} a s to left xs z e =
    let q = bind_ok (a xs) (λ i. Ok (to i.0, i.1)) z e in
    left xs q.0 q.1 ∙ ap (λ (i : B × Rows Place). i.1) (ok_is (to q.0.0, q.0.1) z q.2)

module _ {A B C : Type 0} {a : Reader Place A} {s : Rows Place → Steps Place} {f : A → C} {next : Option Span → C → Option Span} (to : A → B) (h : B → C) (same : (x : A) → f x ≡ h (to x)) (x : Stated a s f next) where
  pub named-first : (p : Option (t.Package Place)) (xs : Rows Place) (z : B × Rows Place) → mapped to a xs ≡ Ok z → place_of (first_behind p (s xs)) ≡ next (place_of p) (h z.0)
  named-first p xs z e =
      let q = bind_ok (a xs) (λ i. Ok (to i.0, i.1)) z e in
      x.first p xs q.0 q.1 ∙ ap (next (place_of p)) (same q.0.0) ∙ ap (λ (i : B × Rows Place). next (place_of p) (h i.0)) (ok_is (to q.0.0, q.0.1) z q.2)

  pub named-first-lies : (q : Option Span) (low high : ℕ) (xs : Rows Place) (z : B × Rows Place) → mapped to a xs ≡ Ok z → Given (SpanLiesIn high) q → Stand low high xs → Given (SpanLiesIn high) (next q (h z.0))
  named-first-lies q low high xs z e i k =
      let p = bind_ok (a xs) (λ j. Ok (to j.0, j.1)) z e in
      subst (λ v. Given (SpanLiesIn high) (next q v)) (same p.0.0 ∙ ap (λ (j : B × Rows Place). h j.0) (ok_is (to p.0.0, p.0.1) z p.2)) (x.first_lies q low high xs p.0 p.1 i k)

  -- a rule under another name, which the code doesn't see
  abbrev pub stated_renamed : Stated (mapped to a) s h next
  stated_renamed = record {
    code = x.code;
    notes = x.notes;
    shows = left-shows to h same x.shows;
    says = x.says;
    left = named-left a s to x.left;
    first = named-first;
    lies = x.lies;
    first_lies = named-first-lies;
  }

-- ---- again and again, with a bound on the turns

abbrev pub stated_at : {B : Type 0} → (Shape → Bool) → (Option Span → B → Option Span) → Reader Place B → (Option Span → Rows Place → Notes) → ℕ → Option Span → Rows Place → Notes
stated_at p next c f zero q xs = []
stated_at p next c f (suc n) q xs = cond (head_in p xs) (f q xs ++ checked (λ x rest. stated_at p next c f n (next q x) rest) (c xs)) []

unfoldable pub stated_notes : {B : Type 0} → (Shape → Bool) → (Option Span → B → Option Span) → Reader Place B → (Option Span → Rows Place → Notes) → Option Span → Rows Place → Notes
stated_notes p next c f q xs = stated_at p next c f (suc (length xs)) q xs

module _ {A B : Type 0} {a : Reader Place A} {s : Rows Place → Steps Place} {f : A → B} {next : Option Span → B → Option Span} (P : Shape → Bool) (x : Stated a s f next) where
  many-says : (n : ℕ) (p : Option (t.Package Place)) (w : Place) (xs : Rows Place) → told p w (star_trace P a s n xs) xs ≡ stated_at P next x.code x.notes n (place_of p) xs
  unfolding star_trace
  many-says zero p w xs = refl
  many-says (suc n) p w xs = either-said (head_in P xs) (s xs ++ then_steps (a xs) (λ y. star_trace P a s n y.1)) [] xs p w _ []
      (told-append p w (s xs) (then_steps (a xs) (λ y. star_trace P a s n y.1)) xs
      ∙ ap (λ m. m ++ told (first_behind p (s xs)) (keyword_behind w (s xs)) (then_steps (a xs) (λ y. star_trace P a s n y.1)) (past (s xs) xs)) (x.says p w xs)
      ∙ ap (λ m. x.notes (place_of p) xs ++ m) (rest (many-says n) (a xs) refl ∙ ap (checked (λ y rest. stated_at P next x.code x.notes n (next (place_of p) y) rest)) (sym (x.shows.same xs)))) refl
    where
      rest : ((p : Option (t.Package Place)) (w : Place) (ys : Rows Place) → told p w (star_trace P a s n ys) ys ≡ stated_at P next x.code x.notes n (place_of p) ys) → (r : Result (A × Rows Place) Refusal) → a xs ≡ r
          → told (first_behind p (s xs)) (keyword_behind w (s xs)) (then_steps r (λ y. star_trace P a s n y.1)) (past (s xs) xs)
          ≡ checked (λ y rest. stated_at P next x.code x.notes n (next (place_of p) y) rest) (r >>= λ y. Ok (f y.0, y.1))
      rest h (Ok y) g =
          ap (told (first_behind p (s xs)) (keyword_behind w (s xs)) (star_trace P a s n y.1)) (x.left xs y g)
          ∙ h (first_behind p (s xs)) (keyword_behind w (s xs)) y.1
          ∙ ap (λ q. stated_at P next x.code x.notes n q y.1) (x.first p xs y g)
      rest h (Err d) g = refl

  many-lie : (n : ℕ) (q : Option Span) (low high : ℕ) (xs : Rows Place) → Given (SpanLiesIn high) q → Stand low high xs → AllLie high (stated_at P next x.code x.notes n q xs)
  many-lie zero q low high xs g k = tt
  many-lie (suc n) q low high xs g k =
      cond-lie high (head_in P xs) (x.notes q xs ++ checked (λ y rest. stated_at P next x.code x.notes n (next q y) rest) (x.code xs)) []
      (both-lie high (x.notes q xs) (checked (λ y rest. stated_at P next x.code x.notes n (next q y) rest) (x.code xs)) (x.lies q low high xs g k)
      (subst (λ r. AllLie high (checked (λ y rest. stated_at P next x.code x.notes n (next q y) rest) r)) (sym (x.shows.same xs)) (at (many-lie n) (a xs) refl))) tt
    where
      at : ((q : Option Span) (low high : ℕ) (ys : Rows Place) → Given (SpanLiesIn high) q → Stand low high ys → AllLie high (stated_at P next x.code x.notes n q ys))
          → (r : Result (A × Rows Place) Refusal) → a xs ≡ r → AllLie high (checked (λ y rest. stated_at P next x.code x.notes n (next q y) rest) (r >>= λ y. Ok (f y.0, y.1)))
      at h (Ok y) e =
          let m = past-stand (s xs) low high xs k in
          h (next q (f y.0)) m.0 high y.1 (x.first_lies q low high xs y e g k) (subst (Stand m.0 high) (x.left xs y e) m.1)
      at h (Err d) e = tt

  -- what is noted of statements lies in the source in which they stand
  pub all-lie : (q : Option Span) (low high : ℕ) (xs : Rows Place) → Given (SpanLiesIn high) q → Stand low high xs → AllLie high (stated_notes P next x.code x.notes q xs)
  unfolding stated_notes
  all-lie q low high xs g k = many-lie (suc (length xs)) q low high xs g k

  -- the notes of all statements
  pub all-says : (p : Option (t.Package Place)) (w : Place) (xs : Rows Place) → told p w (star_trace P a s (suc (length xs)) xs) xs ≡ stated_notes P next x.code x.notes (place_of p) xs
  unfolding stated_notes
  all-says p w xs = many-says (suc (length xs)) p w xs

-- ---- one turn of the loop over statements

module _ {B : Type 0} (p : Shape → Bool) (next : Option Span → B → Option Span) (c : Reader Place B) (f : Option Span → Rows Place → Notes) (eats : Consumes c) where
  later-same : (g h : B → Rows Place → Notes) (r : Result (B × Rows Place) Refusal) → ((x : B × Rows Place) → r ≡ Ok x → g x.0 x.1 ≡ h x.0 x.1) → checked g r ≡ checked h r
  later-same g h (Ok x) e = e x refl
  later-same g h (Err d) e = refl

  enough : (n m : ℕ) (q : Option Span) (xs : Rows Place) → length xs < n → length xs < m → stated_at p next c f n q xs ≡ stated_at p next c f m q xs
  enough zero m q xs h k = absurd (omega arith)
  enough (suc n) zero q xs h k = absurd (omega arith)
  enough (suc n) (suc m) q xs h k = ap (λ v. cond (head_in p xs) (f q xs ++ v) []) (later-same _ _ (c xs) (λ x e. enough n m (next q x.0) x.1 (omega (arith, eats xs x e)) (omega (arith, eats xs x e))))

  pub stated-turn : (q : Option Span) (xs : Rows Place) → head_in p xs ≡ true → stated_notes p next c f q xs ≡ f q xs ++ checked (λ x rest. stated_notes p next c f (next q x) rest) (c xs)
  unfolding stated_notes
  stated-turn q xs h = ap (λ b. cond b (f q xs ++ checked (λ x rest. stated_at p next c f (length xs) (next q x) rest) (c xs)) []) h
      ∙ ap (λ v. f q xs ++ v) (later-same _ _ (c xs) (λ x e. enough (length xs) (suc (length x.1)) (next q x.0) x.1 (eats xs x e) (omega arith)))

  pub stated-done : (q : Option Span) (xs : Rows Place) → head_in p xs ≡ false → stated_notes p next c f q xs ≡ []
  unfolding stated_notes
  stated-done q xs h = ap (λ b. cond b (f q xs ++ checked (λ x rest. stated_at p next c f (length xs) (next q x) rest) (c xs)) []) h

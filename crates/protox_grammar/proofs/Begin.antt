-- The keyword rules, in words and as sets of classes.
use Rattle.std.proofs.Common.{◌≡◌, ℕ, suc, ◌<◌, Bool, true, false, ◌&&◌, ◌||◌, cond, List, [], ◌∷◌, ◌++◌, length, Option, Some, None, refl, sym, ap, ◌∙◌, arith}
use Rattle.std.proofs.lemmas.Slice.Eq.{bytes_eq-Decides}
use Rattle.std.proofs.lemmas.Bool.{eqb-true, eq-eqb, ltb-true}
use Rattle.std.specs.Prelude.{nat_lt}
use Rattle.std.specs.Str.{bytes_eq}
use Rattle.protox_lexeme.specs.Shapes.{Ident, Rows}
use Rattle.protox_grammar.specs.Class.{place, keywords, among}
use Rattle.protox_grammar.specs.Rule.{Stops, row}
use Rattle.protox_ast.specs.Tree as t
use Rattle.protox_ast.specs.Spelling as s
use Rattle.protox_ast.specs.KeywordWalk as k
use Rattle.protox_grammar.proofs.Sets.{or_false, and_true}

unequal : (b : Bool) → (b ≡ true → ⊥) → b ≡ false
unequal true h = absurd (h refl)
unequal false h = refl

placed : (t w w0 : List ℕ) (ws : List (List ℕ)) (b c : Bool) → bytes_eq t w0 ≡ b → bytes_eq w w0 ≡ c → cond b 0 (suc (place ws t)) ≡ cond c 0 (suc (place ws w)) → cond c 0 (suc (place ws w)) < suc (length ws) → (place ws t ≡ place ws w → place ws w < length ws → t ≡ w) → t ≡ w
placed t w w0 ws true true p q e l h = (bytes_eq-Decides t w0).0 p ∙ sym ((bytes_eq-Decides w w0).0 q)
placed t w w0 ws true false p q e l h = absurd (omega arith)
placed t w w0 ws false true p q e l h = absurd (omega arith)
placed t w w0 ws false false p q e l h = h (omega arith) (omega arith)

pub place-apart : (ws : List (List ℕ)) (t w : List ℕ) → place ws t ≡ place ws w → place ws w < length ws → t ≡ w
place-apart [] t w e l = absurd (omega arith)
place-apart (w0 ∷ ws) t w e l = placed t w w0 ws (bytes_eq t w0) (bytes_eq w w0) refl refl e l (place-apart ws t w)

-- the classes of these words
abbrev pub places : List (List ℕ) → List ℕ
places [] = []
places (w ∷ ws) = place keywords w ∷ places ws

-- Each word is a keyword.
abbrev pub known : List (List ℕ) → Bool
known [] = true
known (w ∷ ws) = nat_lt (place keywords w) 38 && known ws

or-of : (a b : Bool) → a ≡ false → b ≡ false → a || b ≡ false
or-of true b p q = absurd cc
or-of false b p q = q

differ : (b : Bool) → b ≡ true → b ≡ false → ⊥
differ true p q = absurd cc
differ false p q = absurd cc

pub none-among : (ks : List (List ℕ)) → known ks ≡ true → (w : List ℕ) → k.NoneOf ks w → among (places ks) (place keywords w) ≡ false
none-among [] h w n = refl
none-among (x ∷ ks) h w n =
    let both = and_true (nat_lt (place keywords x) 38) (known ks) h in
    or-of _ _ (unequal _ (λ e. n.0 (place-apart keywords w x (eqb-true _ _ e) (ltb-true (place keywords x) 38 both.0)))) (none-among ks both.1 w n.1)

pub among-none : (ks : List (List ℕ)) (w : List ℕ) → among (places ks) (place keywords w) ≡ false → k.NoneOf ks w
among-none [] w h = tt
among-none (x ∷ ks) w h =
    let both = or_false _ _ h in
    ((λ e. differ _ (eq-eqb (place keywords w) (place keywords x) (ap (place keywords) e)) both.0), among-none ks w both.1)

module _ {M : Type 0} (ks : List (List ℕ)) (known-ks : known ks ≡ true) (dotless : among (places ks) 42 ≡ false) where
  undotted-stops : (l : Option M) (w : t.Word M) (rest : Rows M) → k.Undotted ks l w.0 → Stops (among (places ks)) (s.maybe (s.sign s.dot) l ++ (row (Ident w.0) w.1 ∷ rest))
  undotted-stops (Some m) w rest h = dotless
  undotted-stops None w rest h = none-among ks known-ks w.0 h

  stops-undotted : (l : Option M) (w : t.Word M) (rest : Rows M) → Stops (among (places ks)) (s.maybe (s.sign s.dot) l ++ (row (Ident w.0) w.1 ∷ rest)) → k.Undotted ks l w.0
  stops-undotted (Some m) w rest h = tt
  stops-undotted None w rest h = among-none ks w.0 h

  pub name-stops : (x : t.TypeName M) → k.NameBeginsWithNone ks x → Stops (among (places ks)) (s.typename x)
  name-stops x h = undotted-stops x.leading_dot x.name.first (s.many (s.behind s.dot s.ident) x.name.others) h

  pub stops-name : (x : t.TypeName M) → Stops (among (places ks)) (s.typename x) → k.NameBeginsWithNone ks x
  stops-name x h = stops-undotted x.leading_dot x.name.first (s.many (s.behind s.dot s.ident) x.name.others) h

  undotted-then : (l : Option M) (w : t.Word M) (rest z : Rows M) → k.Undotted ks l w.0 → Stops (among (places ks)) ((s.maybe (s.sign s.dot) l ++ (row (Ident w.0) w.1 ∷ rest)) ++ z)
  undotted-then (Some m) w rest z h = dotless
  undotted-then None w rest z h = none-among ks known-ks w.0 h

  then-undotted : (l : Option M) (w : t.Word M) (rest z : Rows M) → Stops (among (places ks)) ((s.maybe (s.sign s.dot) l ++ (row (Ident w.0) w.1 ∷ rest)) ++ z) → k.Undotted ks l w.0
  then-undotted (Some m) w rest z h = tt
  then-undotted None w rest z h = among-none ks w.0 h

  -- the same for a type; none of the words is a scalar word
  module _ (no-scalar : (x : t.Scalar) → among (places ks) (place keywords (s.scalar_word x)) ≡ false) where
    pub type-stops : (x : t.FieldType M) (z : Rows M) → k.TypeBeginsWithNone ks x → Stops (among (places ks)) (s.type x ++ z)
    type-stops (t.scalar x m) z h = no-scalar x
    type-stops (t.named x) z h = undotted-then x.leading_dot x.name.first (s.many (s.behind s.dot s.ident) x.name.others) z h

    pub stops-type : (x : t.FieldType M) (z : Rows M) → Stops (among (places ks)) (s.type x ++ z) → k.TypeBeginsWithNone ks x
    stops-type (t.scalar x m) z h = tt
    stops-type (t.named x) z h = then-undotted x.leading_dot x.name.first (s.many (s.behind s.dot s.ident) x.name.others) z h

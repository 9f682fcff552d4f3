-- A body that is too deep is noted last, and only if reading stops.
use Rattle.std.proofs.Common.{◌≡◌, Bool, true, false, cond, ◌++◌, Result, Ok, Err, sym, subst, ◌∙◌}
use Rattle.std.proofs.lemmas.List.{append-nil}
use Rattle.protox_lexeme.specs.Shapes.{Rows}
use Rattle.protox_grammar.specs.Reader.{Refusal, ◌>>=◌}
use Rattle.protox_grammar.specs.Steps.{Steps, then_steps, has_deep}
use Rattle.protox_grammar.proofs.StepLists.{EndsDeep, deep-behind, ends-behind, shallow-ends}

-- The steps of a reading with this outcome.
abbrev pub StopsDeep : {M A : Type 0} → Result (A × Rows M) Refusal → Steps M → Type 0
StopsDeep (Ok x) l = has_deep l ≡ false
StopsDeep (Err e) l = EndsDeep l

pub stops-ends : {M A : Type 0} (p : Result (A × Rows M) Refusal) (l : Steps M) → StopsDeep p l → EndsDeep l
stops-ends (Ok x) l h = shallow-ends l h
stops-ends (Err e) l h = h

pub stops-shallow : {M A : Type 0} (p : Result (A × Rows M) Refusal) (l : Steps M) → has_deep l ≡ false → StopsDeep p l
stops-shallow (Ok x) l h = h
stops-shallow (Err e) l h = shallow-ends l h

pub stops-if : {M A : Type 0} (b : Bool) (p q : Result (A × Rows M) Refusal) (l k : Steps M) → StopsDeep p l → StopsDeep q k → StopsDeep (cond b p q) (cond b l k)
stops-if true p q l k h g = h
stops-if false p q l k h g = g

pub stops-mapped : {M A B : Type 0} (f : A → B) (p : Result (A × Rows M) Refusal) (l : Steps M) → StopsDeep p l → StopsDeep (p >>= λ x. Ok (f x.0, x.1)) l
stops-mapped f (Ok x) l h = h
stops-mapped f (Err e) l h = h

behind : {M A : Type 0} (p : Result (A × Rows M) Refusal) (l k : Steps M) → has_deep l ≡ false → StopsDeep p k → StopsDeep p (l ++ k)
behind (Ok x) l k h g = deep-behind l k h ∙ g
behind (Err e) l k h g = ends-behind l k h g

-- one reading after another
pub stops-then : {M A B : Type 0} (p : Result (A × Rows M) Refusal) (k : A × Rows M → Result (B × Rows M) Refusal) (l : Steps M) (t : A × Rows M → Steps M)
    → StopsDeep p l → ((x : A × Rows M) → StopsDeep (k x) (t x)) → StopsDeep (p >>= k) (l ++ then_steps p t)
stops-then (Ok x) k l t h g = behind (k x) l (t x) h (g x)
stops-then (Err e) k l t h g = subst EndsDeep (sym (append-nil l)) h

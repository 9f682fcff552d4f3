-- What a reader reads to its end is a message.
use Rattle.std.proofs.Common.{◌≡◌, ◌⊎◌, inl, inr, ℕ, zero, suc, ◌+◌, ◌<◌, Bool, true, false, List, [], ◌∷◌, ◌++◌, length, refl, sym, ◌∙◌, ap, subst, arith, append_assoc, append-nil}
use Rattle.protox_text_format.specs.Spelling.{AHeld, AMessage, AValue, Close, CloseList, Form, IsColon, IsEnd, IsName, Name, Open, OpenList, Scalar, Spells, Stands, Step, Values}
use Rattle.protox_text_format.specs.Spelling.IsEnd.{AMark, NoMark}
use Rattle.protox_text_format.specs.Spelling.Spells.{AField, AList, AScalar, InAngles, InBraces, LastValue, NextValue, NoField, NoValue, OneValue}
use Rattle.protox_text_format.specs.declared.item.Piece.{Piece}
use Rattle.protox_text_format.specs.declared.reading.Frame.{Frame}
use Rattle.protox_text_format.specs.declared.reading.Turn.{Turn}
use Rattle.protox_text_format.specs.declared.reading.Turn.TheVariants as turn
use Rattle.protox_text_format.specs.inner.Reading.{Reads, close_of, frame, open_of}
use Rattle.protox_text_format.specs.inner.Reading.Reads.{AtClose, AtComma, AtEnd, AtFirst, AtLast, AtList, AtMark, AtName, AtNoMark, AtNone, AtOne, AtOpen, AtScalar}

-- the one, and then the other
record Both (P Q : List Piece → List Step → Type 0) (pieces : List Piece) (steps : List Step) : Type 0 where
  front : List Piece
  rest : List Piece
  first : List Step
  last : List Step
  cut : pieces ≡ front ++ rest
  told : steps ≡ first ++ last
  is : P front first
  then : Q rest last

-- a mark or none, and the fields behind it
record Fields (n : ℕ) (pieces : List Piece) (steps : List Step) : Type 0 where
  end : List Piece
  more : List Piece
  cut : pieces ≡ end ++ more
  is : IsEnd end
  fields : Spells AMessage n more steps

-- what stands behind the bracket at the front of a list, and behind a value of it
abbrev InList : ℕ → List Piece → List Step → Type 0
InList n pieces steps = ((close_at : Piece) × Stands 93 close_at × (pieces ≡ close_at ∷ []) × (steps ≡ CloseList ∷ [])) ⊎ Spells Values n pieces steps

abbrev Next : ℕ → List Piece → List Step → Type 0
Next n pieces steps =
    ((close_at : Piece) × Stands 93 close_at × (pieces ≡ close_at ∷ []) × (steps ≡ CloseList ∷ []))
    ⊎ ((comma : Piece) × (values : List Piece) × Stands 44 comma × (pieces ≡ comma ∷ values) × Spells Values n values steps)

-- what is left of the innermost message, by what is to come next
abbrev Part : ℕ → Turn → List Piece → List Step → Type 0
Part n turn.Field = Spells AMessage n
Part n turn.Held = Both (Spells AHeld n) (Fields n)
Part n turn.First = Both (InList n) (Fields n)
Part n (turn.Value true) = Both (Spells Values n) (Fields n)
Part n (turn.Value false) = Both (Spells AValue n) (Fields n)
Part n (turn.After true) = Both (Next n) (Fields n)
Part n (turn.After false) = Fields n

-- what ends the open messages, and what stands behind each
abbrev Closed : ℕ → List Frame → List Piece → List Step → Type 0
Closed n [] pieces steps = (pieces ≡ []) × (steps ≡ [])
Closed n (f ∷ frames) pieces steps =
    (mark : Piece) × (more : List Piece) × (rest : List Step) × Stands (close_of f.angle) mark × (pieces ≡ mark ∷ more)
    × (steps ≡ Close ∷ rest) × Both (Part (suc n) (turn.After f.in_list)) (Closed (suc n) frames) more rest

abbrev Whole : ℕ → Turn → List Frame → List Piece → List Step → Type 0
Whole n t frames = Both (Part n t) (Closed n frames)

-- more in front of what is left of the innermost message
longer : (P P' Q : List Piece → List Step → Type 0) (front : List Piece) (first : List Step) (pieces : List Piece) (steps : List Step)
    → ((ps : List Piece) (ss : List Step) → P ps ss → P' (front ++ ps) (first ++ ss))
    → Both P Q pieces steps → Both P' Q (front ++ pieces) (first ++ steps)
longer P P' Q front first pieces steps h b = record {
  front = front ++ b.front;
  rest = b.rest;
  first = first ++ b.first;
  last = b.last;
  cut = ap (λ (x : List Piece). front ++ x) b.cut ∙ sym (append_assoc front b.front b.rest);
  told = ap (λ (x : List Step). first ++ x) b.told ∙ sym (append_assoc first b.first b.last);
  is = h b.front b.first b.is;
  then = b.then;
}

other : (P P' Q : List Piece → List Step → Type 0) (pieces : List Piece) (steps : List Step)
    → ((ps : List Piece) (ss : List Step) → P ps ss → P' ps ss) → Both P Q pieces steps → Both P' Q pieces steps
other P P' Q pieces steps h b = record {
  front = b.front;
  rest = b.rest;
  first = b.first;
  last = b.last;
  cut = b.cut;
  told = b.told;
  is = h b.front b.first b.is;
  then = b.then;
}

spelled : (form : Form) (n : ℕ) (a b : List Piece) (s t : List Step) → a ≡ b → s ≡ t → Spells form n a s → Spells form n b t
spelled form n a b s t ep es spells =
    subst (λ (p : List Piece). Spells form n p t) ep (subst (λ (x : List Step). Spells form n a x) es spells)

field_cut : (name colon front end more : List Piece) (rest ps : List Piece) → ps ≡ front ++ rest → rest ≡ end ++ more
    → name ++ colon ++ front ++ end ++ more ≡ (name ++ colon) ++ ps
field_cut name colon front end more rest ps e f =
    append_assoc (name ++ colon ++ front) end more
    ∙ (ap (λ (x : List Piece). (name ++ colon ++ front) ++ x) (sym f)
    ∙ (append_assoc (name ++ colon) front rest ∙ ap (λ (x : List Piece). (name ++ colon) ++ x) (sym e)))

-- a field from its name and what stands behind
field_part : (n : ℕ) (has : Bool) (name colon ps : List Piece) (ss : List Step) → IsName name → IsColon has colon
    → Both (Spells AHeld n) (Fields n) ps ss → Spells AMessage n ((name ++ colon) ++ ps) (Name name has ∷ ss)
field_part n has name colon ps ss is_name is_colon held =
    spelled AMessage n (name ++ colon ++ held.front ++ held.then.end ++ held.then.more) ((name ++ colon) ++ ps) (Name name has ∷ held.first ++ held.last) (Name name has ∷ ss)
    (field_cut name colon held.front held.then.end held.then.more held.rest ps held.cut held.then.cut)
    (ap (λ (x : List Step). Name name has ∷ x) (sym held.told))
    (AField n has name colon held.front held.then.end held.then.more held.first held.last is_name is_colon held.is held.then.is held.then.fields)

list_part : (n : ℕ) (open_at : Piece) (ps : List Piece) (ss : List Step) → Stands 91 open_at → InList n ps ss
    → Spells AHeld n (open_at ∷ ps) (OpenList ∷ ss)
list_part n open_at ps ss is (inl last) =
    spelled AHeld n (open_at ∷ last.0 ∷ []) (open_at ∷ ps) (OpenList ∷ CloseList ∷ []) (OpenList ∷ ss)
    (ap (λ (x : List Piece). open_at ∷ x) (sym last.2)) (ap (λ (x : List Step). OpenList ∷ x) (sym last.3))
    (NoValue n open_at last.0 is last.1)
list_part n open_at ps ss is (inr values) = AList n open_at ps ss is values

-- a value in a list, and what stands behind it
values_part : (n : ℕ) (v : List Piece) (s : List Step) (ps : List Piece) (ss : List Step) → Spells AValue n v s → Next n ps ss
    → Spells Values n (v ++ ps) (s ++ ss)
values_part n v s ps ss value (inl last) =
    spelled Values n (v ++ last.0 ∷ []) (v ++ ps) (s ++ CloseList ∷ []) (s ++ ss)
    (ap (λ (x : List Piece). v ++ x) (sym last.2)) (ap (λ (x : List Step). s ++ x) (sym last.3))
    (LastValue n v last.0 s value last.1)
values_part n v s ps ss value (inr next) =
    spelled Values n (v ++ next.0 ∷ next.1) (v ++ ps) (s ++ ss) (s ++ ss)
    (ap (λ (x : List Piece). v ++ x) (sym next.3)) refl
    (NextValue n v next.1 next.0 s ss value next.2 next.4)

value_part : (n : ℕ) (in_list : Bool) (v : List Piece) (s : List Step) (ps : List Piece) (ss : List Step) → Spells AValue n v s
    → Part n (turn.After in_list) ps ss → Part n (turn.Value in_list) (v ++ ps) (s ++ ss)
value_part n true v s ps ss value then = longer (Next n) (Spells Values n) (Fields n) v s ps ss
    (λ qs ts next. values_part n v s qs ts value next) then
value_part n false v s ps ss value then = record {
  front = v;
  rest = ps;
  first = s;
  last = ss;
  cut = refl;
  told = refl;
  is = value;
  then = then;
}

in_marks : (n : ℕ) (angle : Bool) (open_at close_at : Piece) (inside : List Piece) (steps : List Step)
    → Stands (open_of angle) open_at → Spells AMessage n inside steps → Stands (close_of angle) close_at
    → Spells AValue (suc n) (open_at ∷ inside ++ close_at ∷ []) (Open ∷ steps ++ Close ∷ [])
in_marks n true open_at close_at inside steps o m c = InAngles n open_at close_at inside steps o m c
in_marks n false open_at close_at inside steps o m c = InBraces n open_at close_at inside steps o m c

close_cut : {A : Type 0} (o c : A) (inside front rest more : List A) → more ≡ front ++ rest
    → o ∷ (inside ++ (c ∷ more)) ≡ ((o ∷ inside ++ c ∷ []) ++ front) ++ rest
close_cut o c inside front rest more e =
    ap (λ x. o ∷ (inside ++ (c ∷ x))) e
    ∙ sym (append_assoc (o ∷ inside ++ c ∷ []) front rest ∙ append_assoc (o ∷ inside) (c ∷ []) (front ++ rest))

open_whole : (n : ℕ) (angle in_list : Bool) (frames : List Frame) (mark : Piece) (ps : List Piece) (ss : List Step)
    → Stands (open_of angle) mark → Whole n turn.Field (frame angle in_list ∷ frames) ps ss
    → Whole (suc n) (turn.Value in_list) frames (mark ∷ ps) (Open ∷ ss)
open_whole n angle in_list frames mark ps ss is w =
    let close = w.then in
    let outer = close.6 in
    record {
      front = (mark ∷ w.front ++ close.0 ∷ []) ++ outer.front;
      rest = outer.rest;
      first = (Open ∷ w.first ++ Close ∷ []) ++ outer.first;
      last = outer.last;
      cut = ap (λ (x : List Piece). mark ∷ x) (w.cut ∙ ap (λ (x : List Piece). w.front ++ x) close.4)
          ∙ close_cut mark close.0 w.front outer.front outer.rest close.1 outer.cut;
      told = ap (λ (x : List Step). Open ∷ x) (w.told ∙ ap (λ (x : List Step). w.first ++ x) close.5)
          ∙ close_cut Open Close w.first outer.first outer.last close.2 outer.told;
      is = value_part (suc n) in_list (mark ∷ w.front ++ close.0 ∷ []) (Open ∷ w.first ++ Close ∷ []) outer.front outer.first
          (in_marks n angle mark close.0 w.front w.first is w.is close.3) outer.is;
      then = outer.then;
    }

less_level : (n k levels : ℕ) → n + k ≡ levels → k < levels → (m : ℕ) × (n ≡ suc m)
less_level zero k levels e less = absurd (omega (arith, e, less))
less_level (suc m) k levels e less = (m, refl)

fields_of : (n : ℕ) (ps : List Piece) (ss : List Step) (end : List Piece) → IsEnd end → Spells AMessage n ps ss → Fields n (end ++ ps) ss
fields_of n ps ss end is fields = record { end = end; more = ps; cut = refl; is = is; fields = fields }

suc_level : (n k levels : ℕ) → n + suc k ≡ levels → suc n + k ≡ levels
suc_level n k levels e = omega arith

open_level : (n m k levels : ℕ) → n ≡ suc m → n + k ≡ levels → m + suc k ≡ levels
open_level n m k levels e f = omega arith

-- the bracket at the end of a list
last_part : (P : List Piece → List Step → Type 0) (n : ℕ) (mark : Piece) (ps : List Piece) (ss : List Step)
    → P (mark ∷ []) (CloseList ∷ []) → Fields n ps ss → Both P (Fields n) (mark ∷ ps) (CloseList ∷ ss)
last_part P n mark ps ss is fields = record {
  front = mark ∷ [];
  rest = ps;
  first = CloseList ∷ [];
  last = ss;
  cut = refl;
  told = refl;
  is = is;
  then = fields;
}

sound : (levels : ℕ) (t : Turn) (frames : List Frame) (ps : List Piece) (ss : List Step) → Reads levels t frames ps ss
    → (n : ℕ) → n + length frames ≡ levels → Whole n t frames ps ss
sound levels t frames ps ss AtEnd n e = record {
  front = [];
  rest = [];
  first = [];
  last = [];
  cut = refl;
  told = refl;
  is = NoField n;
  then = (refl, refl);
}
sound levels t frames ps ss (AtName fs pieces has name colon more rest cut is_name is_colon reads) n e =
    subst (λ (x : List Piece). Whole n turn.Field frames x (Name name has ∷ rest)) (append_assoc name colon more ∙ sym cut)
    (longer (Both (Spells AHeld n) (Fields n)) (Spells AMessage n) (Closed n frames) (name ++ colon) (Name name has ∷ []) more rest
    (λ qs ts held. field_part n has name colon qs ts is_name is_colon held)
    (sound levels turn.Held frames more rest reads n e))
sound levels t frames ps ss (AtClose angle in_list fs mark more rest closes reads) n e = record {
  front = [];
  rest = mark ∷ more;
  first = [];
  last = Close ∷ rest;
  cut = refl;
  told = refl;
  is = NoField n;
  then = (mark, more, rest, closes, refl, refl, sound levels (turn.After in_list) fs more rest reads (suc n) (suc_level n (length fs) levels e));
}
sound levels t frames ps ss (AtList fs mark more rest is reads) n e =
    longer (Both (InList n) (Fields n)) (Both (Spells AHeld n) (Fields n)) (Closed n frames) (mark ∷ []) (OpenList ∷ []) more rest
    (λ qs ts list. longer (InList n) (Spells AHeld n) (Fields n) (mark ∷ []) (OpenList ∷ []) qs ts
    (λ rs us values. list_part n mark rs us is values) list)
    (sound levels turn.First frames more rest reads n e)
sound levels t frames ps ss (AtOne fs more rest reads) n e =
    other (Both (Spells AValue n) (Fields n)) (Both (Spells AHeld n) (Fields n)) (Closed n frames) ps ss
    (λ qs ts value. other (Spells AValue n) (Spells AHeld n) (Fields n) qs ts (λ rs us v. OneValue n rs us v) value)
    (sound levels (turn.Value false) frames ps ss reads n e)
sound levels t frames ps ss (AtNone fs mark more rest is reads) n e =
    longer (Fields n) (Both (InList n) (Fields n)) (Closed n frames) (mark ∷ []) (CloseList ∷ []) more rest
    (λ qs ts fields. last_part (InList n) n mark qs ts (inl (mark, is, refl, refl)) fields)
    (sound levels (turn.After false) frames more rest reads n e)
sound levels t frames ps ss (AtFirst fs more rest reads) n e =
    other (Both (Spells Values n) (Fields n)) (Both (InList n) (Fields n)) (Closed n frames) ps ss
    (λ qs ts values. other (Spells Values n) (InList n) (Fields n) qs ts (λ rs us v. inr v) values)
    (sound levels (turn.Value true) frames ps ss reads n e)
sound levels t frames ps ss (AtScalar in_list fs pieces value more rest cut scalar reads) n e =
    subst (λ (x : List Piece). Whole n (turn.Value in_list) frames x (Scalar value ∷ rest)) (sym cut)
    (longer (Part n (turn.After in_list)) (Part n (turn.Value in_list)) (Closed n frames) value (Scalar value ∷ []) more rest
    (λ qs ts then. value_part n in_list value (Scalar value ∷ []) qs ts (AScalar n value scalar) then)
    (sound levels (turn.After in_list) frames more rest reads n e))
sound levels t frames ps ss (AtOpen angle in_list fs mark more rest less opens reads) n e =
    let m = less_level n (length fs) levels e less in
    subst (λ (k : ℕ). Whole k (turn.Value in_list) frames (mark ∷ more) (Open ∷ rest)) (sym m.1)
    (open_whole m.0 angle in_list frames mark more rest opens
    (sound levels turn.Field (frame angle in_list ∷ frames) more rest reads m.0 (open_level n m.0 (length fs) levels m.1 e)))
sound levels t frames ps ss (AtMark fs mark more rest is reads) n e =
    longer (Spells AMessage n) (Fields n) (Closed n frames) (mark ∷ []) [] more rest
    (λ qs ts fields. fields_of n qs ts (mark ∷ []) (AMark mark is) fields)
    (sound levels turn.Field frames more rest reads n e)
sound levels t frames ps ss (AtNoMark fs more rest reads) n e =
    other (Spells AMessage n) (Fields n) (Closed n frames) ps ss
    (λ qs ts fields. fields_of n qs ts [] NoMark fields)
    (sound levels turn.Field frames ps ss reads n e)
sound levels t frames ps ss (AtComma fs mark more rest is reads) n e =
    longer (Both (Spells Values n) (Fields n)) (Both (Next n) (Fields n)) (Closed n frames) (mark ∷ []) [] more rest
    (λ qs ts values. longer (Spells Values n) (Next n) (Fields n) (mark ∷ []) [] qs ts
    (λ rs us v. inr (mark, rs, is, refl, v)) values)
    (sound levels (turn.Value true) frames more rest reads n e)
sound levels t frames ps ss (AtLast fs mark more rest is reads) n e =
    longer (Fields n) (Both (Next n) (Fields n)) (Closed n frames) (mark ∷ []) (CloseList ∷ []) more rest
    (λ qs ts fields. last_part (Next n) n mark qs ts (inl (mark, is, refl, refl)) fields)
    (sound levels (turn.After false) frames more rest reads n e)

-- What is read from the front to the end is a message.
pub reads_message : (levels : ℕ) (ps : List Piece) (ss : List Step) → Reads levels turn.Field [] ps ss → Spells AMessage levels ps ss
reads_message levels ps ss reads =
    let w = sound levels turn.Field [] ps ss reads levels (omega arith) in
    let end = w.then in
    spelled AMessage levels w.front ps w.first ss
    (sym (w.cut ∙ (ap (λ (x : List Piece). w.front ++ x) end.0 ∙ append-nil w.front)))
    (sym (w.told ∙ (ap (λ (x : List Step). w.first ++ x) end.1 ∙ append-nil w.first))) w.is

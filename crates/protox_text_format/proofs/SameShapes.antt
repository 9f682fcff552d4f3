-- Pieces of the same shapes spell the same.
use Rattle.std.proofs.Common.{◌≡◌, ℕ, Bool, true, false, List, [], ◌∷◌, ◌++◌, take, drop, refl, sym, ◌∙◌, ap, subst, inl, inr, append_assoc, append-nil}
use Rattle.std.specs.Prelude.{All}
use Rattle.std.proofs.lemmas.List.{take-append-drop}
use Rattle.std.proofs.lemmas.List.Elements.{All-cons, All-head, All-tail}
use Rattle.protox_lexeme.specs.Tokens.{shape_of}
use Rattle.protox_text_format.specs.Alike.{AreAlike, shapes}
use Rattle.protox_text_format.specs.Alike.Alike.{Closes, ListsClose, ListsOpen, Names, Opens, Scalars}
use Rattle.protox_text_format.specs.Alike.AreAlike.{MoreSteps, NoStep}
use Rattle.protox_text_format.specs.Failure.{IsFirst, StopsAt}
use Rattle.protox_text_format.specs.Spelling.{AMessage, Close, CloseList, IsColon, IsDotted, IsName, IsPlain, IsScalar, IsString, IsWord, Name, Open, OpenList, Scalar, Spells, Stands, Step, is_plain_shape, is_string_shape, is_word_shape}
use Rattle.protox_text_format.specs.Spelling.IsColon.{AColon, NoColon}
use Rattle.protox_text_format.specs.Spelling.IsDotted.{LastWord, NextWord}
use Rattle.protox_text_format.specs.Spelling.IsName.{OfExtension, OfField, OfType}
use Rattle.protox_text_format.specs.Spelling.IsScalar.{Negative, Plain, Strings}
use Rattle.protox_text_format.specs.declared.fault.TextFault.{TextFault}
use Rattle.protox_text_format.specs.declared.item.Piece.{Piece}
use Rattle.protox_text_format.specs.declared.reading.Frame.{Frame}
use Rattle.protox_text_format.specs.declared.reading.Turn.{Turn}
use Rattle.protox_text_format.specs.declared.reading.Turn.TheVariants as turn
use Rattle.protox_text_format.specs.inner.Reading.{Reads, close_of, frame, open_of}
use Rattle.protox_text_format.specs.inner.Reading.Reads.{AtClose, AtComma, AtEnd, AtFirst, AtLast, AtList, AtMark, AtName, AtNoMark, AtNone, AtOne, AtOpen, AtScalar}
use Rattle.protox_text_format.proofs.Complete.{message_reads}
use Rattle.protox_text_format.proofs.Sound.{reads_message}
use Rattle.protox_text_format.proofs.Turns.{one_way}

-- ---- pieces

abbrev Same : Piece → Piece → Type 0
Same p q = shape_of p.token ≡ shape_of q.token

stands_same : (mark : ℕ) (p q : Piece) → Same p q → Stands mark p → Stands mark q
stands_same mark p q e is = sym e ∙ is

word_same : (p q : Piece) → Same p q → IsWord p → IsWord q
word_same p q e is = ap is_word_shape (sym e) ∙ is

plain_same : (p q : Piece) → Same p q → IsPlain p → IsPlain q
plain_same p q e is = ap is_plain_shape (sym e) ∙ is

string_same : (p q : Piece) → Same p q → IsString p → IsString q
string_same p q e is = ap is_string_shape (sym e) ∙ is

head_same : {A : Type 0} (x y : A) (xs ys : List A) → x ∷ xs ≡ y ∷ ys → x ≡ y
head_same x y xs ys e = cc

tail_same : {A : Type 0} (x y : A) (xs ys : List A) → x ∷ xs ≡ y ∷ ys → xs ≡ ys
tail_same x y xs ys e = cc

cons_same : {A : Type 0} (x y : A) (xs ys : List A) → x ≡ y → xs ≡ ys → x ∷ xs ≡ y ∷ ys
cons_same x y xs ys e es = cc

no_cons : {A : Type 0} (x : A) (xs : List A) → x ∷ xs ≡ [] → ⊥
no_cons x xs e = cc

-- The first of the others has the shape of p, and those behind it have these shapes.
record First (p : Piece) (ps qs : List Piece) : Type 0 where
  piece : Piece
  more : List Piece
  cut : qs ≡ piece ∷ more
  same : Same p piece
  others : shapes ps ≡ shapes more

first_of : (p : Piece) (ps qs : List Piece) → shapes (p ∷ ps) ≡ shapes qs → First p ps qs
first_of p ps [] e = absurd (no_cons (shape_of p.token) (shapes ps) e)
first_of p ps (q ∷ qs) e = record {
  piece = q;
  more = qs;
  cut = refl;
  same = head_same (shape_of p.token) (shape_of q.token) (shapes ps) (shapes qs) e;
  others = tail_same (shape_of p.token) (shape_of q.token) (shapes ps) (shapes qs) e;
}

none_of : (qs : List Piece) → shapes [] ≡ shapes qs → qs ≡ []
none_of [] e = refl
none_of (q ∷ qs) e = absurd (no_cons (shape_of q.token) (shapes qs) (sym e))

-- The others are cut where these are.
record Cut (a b qs : List Piece) : Type 0 where
  front : List Piece
  behind : List Piece
  cut : qs ≡ front ++ behind
  same_front : shapes a ≡ shapes front
  same_behind : shapes b ≡ shapes behind

cut_of : (a b qs : List Piece) → shapes (a ++ b) ≡ shapes qs → Cut a b qs
cut_of [] b qs e = record { front = []; behind = qs; cut = refl; same_front = refl; same_behind = e }
cut_of (p ∷ a) b qs e =
    let f = first_of p (a ++ b) qs e in
    let inner = cut_of a b f.more f.others in
    record {
      front = f.piece ∷ inner.front;
      behind = inner.behind;
      cut = f.cut ∙ ap (λ (r : List Piece). f.piece ∷ r) inner.cut;
      same_front = cons_same (shape_of p.token) (shape_of f.piece.token) (shapes a) (shapes inner.front) f.same inner.same_front;
      same_behind = inner.same_behind;
    }

-- one piece alone
last_of : (p : Piece) (qs : List Piece) → shapes (p ∷ []) ≡ shapes qs → (q : Piece) × (qs ≡ q ∷ []) × Same p q
last_of p qs e =
    let f = first_of p [] qs e in
    (f.piece, f.cut ∙ ap (λ (r : List Piece). f.piece ∷ r) (none_of f.more f.others), f.same)

-- ---- names and values

dotted_same : (ps qs : List Piece) → shapes ps ≡ shapes qs → IsDotted ps → IsDotted qs
dotted_same ps qs e (LastWord word w) =
    let l = last_of word qs e in subst IsDotted (sym l.1) (LastWord l.0 (word_same word l.0 l.2 w))
dotted_same ps qs e (NextWord word dot more w d dotted) =
    let f = first_of word (dot ∷ more) qs e in
    let g = first_of dot more f.more f.others in
    subst IsDotted (sym (f.cut ∙ ap (λ (r : List Piece). f.piece ∷ r) g.cut))
    (NextWord f.piece g.piece g.more (word_same word f.piece f.same w) (stands_same 46 dot g.piece g.same d) (dotted_same more g.more g.others dotted))

name_same : (ps qs : List Piece) → shapes ps ≡ shapes qs → IsName ps → IsName qs
name_same ps qs e (OfField word w) =
    let l = last_of word qs e in subst IsName (sym l.1) (OfField l.0 (word_same word l.0 l.2 w))
name_same ps qs e (OfExtension open_at close_at name o dotted c) =
    let f = first_of open_at (name ++ close_at ∷ []) qs e in
    let k = cut_of name (close_at ∷ []) f.more f.others in
    let l = last_of close_at k.behind k.same_behind in
    subst IsName (sym (f.cut ∙ ap (λ (r : List Piece). f.piece ∷ r) (k.cut ∙ ap (λ (r : List Piece). k.front ++ r) l.1)))
    (OfExtension f.piece l.0 k.front (stands_same 91 open_at f.piece f.same o) (dotted_same name k.front k.same_front dotted) (stands_same 93 close_at l.0 l.2 c))
name_same ps qs e (OfType open_at slash close_at domain name o d s dotted c) =
    let f = first_of open_at ((domain ++ slash ∷ name) ++ close_at ∷ []) qs e in
    let k = cut_of (domain ++ slash ∷ name) (close_at ∷ []) f.more f.others in
    let l = last_of close_at k.behind k.same_behind in
    let m = cut_of domain (slash ∷ name) k.front k.same_front in
    let g = first_of slash name m.behind m.same_behind in
    let front : k.front ≡ m.front ++ (g.piece ∷ g.more) = m.cut ∙ ap (λ (r : List Piece). m.front ++ r) g.cut in
    subst IsName (sym (f.cut ∙ ap (λ (r : List Piece). f.piece ∷ r) (k.cut ∙ (ap (λ (r : List Piece). k.front ++ r) l.1 ∙ ap (λ (r : List Piece). r ++ l.0 ∷ []) front))))
    (OfType f.piece g.piece l.0 m.front g.more (stands_same 91 open_at f.piece f.same o) (dotted_same domain m.front m.same_front d)
    (stands_same 47 slash g.piece g.same s) (dotted_same name g.more g.others dotted) (stands_same 93 close_at l.0 l.2 c))

strings_same : (ps qs : List Piece) → shapes ps ≡ shapes qs → All IsString ps → All IsString qs
strings_same [] qs e all = subst (All IsString) (sym (none_of qs e)) all
strings_same (p ∷ ps) [] e all = absurd (no_cons (shape_of p.token) (shapes ps) e)
strings_same (p ∷ ps) (q ∷ qs) e all = All-cons IsString q qs
    (string_same p q (head_same (shape_of p.token) (shape_of q.token) (shapes ps) (shapes qs) e) (All-head IsString p ps all))
    (strings_same ps qs (tail_same (shape_of p.token) (shape_of q.token) (shapes ps) (shapes qs) e) (All-tail IsString p ps all))

scalar_same : (ps qs : List Piece) → shapes ps ≡ shapes qs → IsScalar ps → IsScalar qs
scalar_same ps qs e (Plain piece is) =
    let l = last_of piece qs e in subst IsScalar (sym l.1) (Plain l.0 (plain_same piece l.0 l.2 is))
scalar_same ps qs e (Negative minus piece m is) =
    let f = first_of minus (piece ∷ []) qs e in
    let l = last_of piece f.more f.others in
    subst IsScalar (sym (f.cut ∙ ap (λ (r : List Piece). f.piece ∷ r) l.1))
    (Negative f.piece l.0 (stands_same 45 minus f.piece f.same m) (plain_same piece l.0 l.2 is))
scalar_same ps qs e (Strings first more all) =
    let f = first_of first more qs e in
    subst IsScalar (sym f.cut)
    (Strings f.piece f.more (strings_same (first ∷ more) (f.piece ∷ f.more)
    (cons_same (shape_of first.token) (shape_of f.piece.token) (shapes more) (shapes f.more) f.same f.others) all))

colon_same : (has : Bool) (ps qs : List Piece) → shapes ps ≡ shapes qs → IsColon has ps → IsColon has qs
colon_same has ps qs e NoColon = subst (λ (r : List Piece). IsColon false r) (sym (none_of qs e)) NoColon
colon_same has ps qs e (AColon colon is) =
    let l = last_of colon qs e in subst (λ (r : List Piece). IsColon true r) (sym l.1) (AColon l.0 (stands_same 58 colon l.0 l.2 is))

-- ---- the way through a message

-- From the others the same is read.
record Twin (levels : ℕ) (t : Turn) (frames : List Frame) (qs : List Piece) (ss : List Step) : Type 0 where
  steps : List Step
  reads : Reads levels t frames qs steps
  alike : AreAlike ss steps

-- behind a first piece
with_first : (levels : ℕ) (t : Turn) (frames : List Frame) (qs : List Piece) (ss : List Step) (piece : Piece) (more : List Piece)
    → qs ≡ piece ∷ more → Twin levels t frames (piece ∷ more) ss → Twin levels t frames qs ss
with_first levels t frames qs ss piece more cut twin = subst (λ (r : List Piece). Twin levels t frames r ss) (sym cut) twin

twin : (levels : ℕ) (t : Turn) (frames : List Frame) (ps qs : List Piece) (ss : List Step) → shapes ps ≡ shapes qs
    → Reads levels t frames ps ss → Twin levels t frames qs ss
twin levels t frames ps qs ss e AtEnd =
    subst (λ (r : List Piece). Twin levels turn.Field [] r []) (sym (none_of qs e)) (record { steps = []; reads = AtEnd; alike = NoStep })
twin levels t frames ps qs ss e (AtName fs pieces has name colon more rest cut n k reads) =
    let c = cut_of name (colon ++ more) qs (ap shapes (sym cut) ∙ e) in
    let d = cut_of colon more c.behind c.same_behind in
    let inner = twin levels turn.Held fs more d.behind rest d.same_behind reads in
    record {
      steps = Name c.front has ∷ inner.steps;
      reads = AtName fs qs has c.front d.front d.behind inner.steps (c.cut ∙ ap (λ (r : List Piece). c.front ++ r) d.cut)
          (name_same name c.front c.same_front n) (colon_same has colon d.front d.same_front k) inner.reads;
      alike = MoreSteps (Name name has) (Name c.front has) rest inner.steps (Names name c.front has c.same_front) inner.alike;
    }
twin levels t frames ps qs ss e (AtClose angle in_list fs mark more rest is reads) =
    let f = first_of mark more qs e in
    let inner = twin levels (turn.After in_list) fs more f.more rest f.others reads in
    with_first levels turn.Field (frame angle in_list ∷ fs) qs (Close ∷ rest) f.piece f.more f.cut (record {
      steps = Close ∷ inner.steps;
      reads = AtClose angle in_list fs f.piece f.more inner.steps (stands_same (close_of angle) mark f.piece f.same is) inner.reads;
      alike = MoreSteps Close Close rest inner.steps Closes inner.alike;
    })
twin levels t frames ps qs ss e (AtList fs mark more rest is reads) =
    let f = first_of mark more qs e in
    let inner = twin levels turn.First fs more f.more rest f.others reads in
    with_first levels turn.Held fs qs (OpenList ∷ rest) f.piece f.more f.cut (record {
      steps = OpenList ∷ inner.steps;
      reads = AtList fs f.piece f.more inner.steps (stands_same 91 mark f.piece f.same is) inner.reads;
      alike = MoreSteps OpenList OpenList rest inner.steps ListsOpen inner.alike;
    })
twin levels t frames ps qs ss e (AtOne fs more rest reads) =
    let inner = twin levels (turn.Value false) fs more qs rest e reads in
    record { steps = inner.steps; reads = AtOne fs qs inner.steps inner.reads; alike = inner.alike }
twin levels t frames ps qs ss e (AtNone fs mark more rest is reads) =
    let f = first_of mark more qs e in
    let inner = twin levels (turn.After false) fs more f.more rest f.others reads in
    with_first levels turn.First fs qs (CloseList ∷ rest) f.piece f.more f.cut (record {
      steps = CloseList ∷ inner.steps;
      reads = AtNone fs f.piece f.more inner.steps (stands_same 93 mark f.piece f.same is) inner.reads;
      alike = MoreSteps CloseList CloseList rest inner.steps ListsClose inner.alike;
    })
twin levels t frames ps qs ss e (AtFirst fs more rest reads) =
    let inner = twin levels (turn.Value true) fs more qs rest e reads in
    record { steps = inner.steps; reads = AtFirst fs qs inner.steps inner.reads; alike = inner.alike }
twin levels t frames ps qs ss e (AtScalar in_list fs pieces value more rest cut scalar reads) =
    let c = cut_of value more qs (ap shapes (sym cut) ∙ e) in
    let inner = twin levels (turn.After in_list) fs more c.behind rest c.same_behind reads in
    record {
      steps = Scalar c.front ∷ inner.steps;
      reads = AtScalar in_list fs qs c.front c.behind inner.steps c.cut (scalar_same value c.front c.same_front scalar) inner.reads;
      alike = MoreSteps (Scalar value) (Scalar c.front) rest inner.steps (Scalars value c.front c.same_front) inner.alike;
    }
twin levels t frames ps qs ss e (AtOpen angle in_list fs mark more rest less is reads) =
    let f = first_of mark more qs e in
    let inner = twin levels turn.Field (frame angle in_list ∷ fs) more f.more rest f.others reads in
    with_first levels (turn.Value in_list) fs qs (Open ∷ rest) f.piece f.more f.cut (record {
      steps = Open ∷ inner.steps;
      reads = AtOpen angle in_list fs f.piece f.more inner.steps less (stands_same (open_of angle) mark f.piece f.same is) inner.reads;
      alike = MoreSteps Open Open rest inner.steps Opens inner.alike;
    })
twin levels t frames ps qs ss e (AtMark fs mark more rest (inl is) reads) =
    let f = first_of mark more qs e in
    let inner = twin levels turn.Field fs more f.more rest f.others reads in
    with_first levels (turn.After false) fs qs rest f.piece f.more f.cut (record {
      steps = inner.steps;
      reads = AtMark fs f.piece f.more inner.steps (inl (stands_same 59 mark f.piece f.same is)) inner.reads;
      alike = inner.alike;
    })
twin levels t frames ps qs ss e (AtMark fs mark more rest (inr is) reads) =
    let f = first_of mark more qs e in
    let inner = twin levels turn.Field fs more f.more rest f.others reads in
    with_first levels (turn.After false) fs qs rest f.piece f.more f.cut (record {
      steps = inner.steps;
      reads = AtMark fs f.piece f.more inner.steps (inr (stands_same 44 mark f.piece f.same is)) inner.reads;
      alike = inner.alike;
    })
twin levels t frames ps qs ss e (AtNoMark fs more rest reads) =
    let inner = twin levels turn.Field fs more qs rest e reads in
    record { steps = inner.steps; reads = AtNoMark fs qs inner.steps inner.reads; alike = inner.alike }
twin levels t frames ps qs ss e (AtComma fs mark more rest is reads) =
    let f = first_of mark more qs e in
    let inner = twin levels (turn.Value true) fs more f.more rest f.others reads in
    with_first levels (turn.After true) fs qs rest f.piece f.more f.cut (record {
      steps = inner.steps;
      reads = AtComma fs f.piece f.more inner.steps (stands_same 44 mark f.piece f.same is) inner.reads;
      alike = inner.alike;
    })
twin levels t frames ps qs ss e (AtLast fs mark more rest is reads) =
    let f = first_of mark more qs e in
    let inner = twin levels (turn.After false) fs more f.more rest f.others reads in
    with_first levels (turn.After true) fs qs (CloseList ∷ rest) f.piece f.more f.cut (record {
      steps = CloseList ∷ inner.steps;
      reads = AtLast fs f.piece f.more inner.steps (stands_same 93 mark f.piece f.same is) inner.reads;
      alike = MoreSteps CloseList CloseList rest inner.steps ListsClose inner.alike;
    })

message_twin : (ps qs : List Piece) (ss : List Step) → shapes ps ≡ shapes qs → Spells AMessage 100 ps ss → Twin 100 turn.Field [] qs ss
message_twin ps qs ss e is = twin 100 turn.Field [] ps qs ss e (message_reads 100 ps ss is)

-- What pieces of the same shapes spell is alike.
pub spelled_alike : (ps qs : List Piece) (ss us : List Step) → shapes ps ≡ shapes qs → Spells AMessage 100 ps ss
    → Spells AMessage 100 qs us → AreAlike ss us
spelled_alike ps qs ss us e is also =
    let t = message_twin ps qs ss e is in
    subst (λ (r : List Step). AreAlike ss r) (sym (one_way 100 turn.Field [] qs t.steps us t.reads (message_reads 100 qs us also))) t.alike

-- ---- no message has a fault

spelled_goes_on : (front left : List Piece) (steps : List Step) → Spells AMessage 100 (front ++ left) steps → StopsAt front left → ⊥
spelled_goes_on front [] steps is stops = stops steps (subst (λ (p : List Piece). Spells AMessage 100 p steps) (append-nil front) is)
spelled_goes_on front (piece ∷ more) steps is stops =
    stops (more, steps, subst (λ (p : List Piece). Spells AMessage 100 p steps) (sym (append_assoc front (piece ∷ []) more)) is)

-- Of pieces of the same shapes, either all spell a message, or none.
pub spelled_or_first : (ps qs : List Piece) (ss : List Step) (fault : TextFault) → shapes ps ≡ shapes qs → Spells AMessage 100 ps ss
    → IsFirst qs fault → ⊥
spelled_or_first ps qs ss fault e is first =
    let t = message_twin ps qs ss e is in
    spelled_goes_on (take fault.piece qs) (drop fault.piece qs) t.steps
    (subst (λ (p : List Piece). Spells AMessage 100 p t.steps) (sym (take-append-drop fault.piece qs)) (reads_message 100 qs t.steps t.reads))
    first.stops

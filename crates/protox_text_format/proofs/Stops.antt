-- Where a reader stops: no message goes on there, and what is told is true.
use Rattle.std.proofs.Common.{◌≡◌, ◌≢◌, ℕ, ◌+◌, ◌-◌, ◌<◌, ◌≤◌, Bool, true, false, not, List, [], ◌∷◌, ◌++◌, length, take, drop, slice_range, refl, sym, ◌∙◌, ap, subst, arith, append_assoc, append-nil, length-append}
use Rattle.std.specs.Bool.{beq}
use Rattle.std.proofs.Math.Seq.{drop-append_seam}
use Rattle.protox_text_format.specs.Failure.{Begins as BeginsMessage, IsFirst, IsNumber, IsTrue, StopsAt}
use Rattle.protox_text_format.specs.Spelling.{AMessage, Close, CloseList, IsName, IsWord, Name, Open, Scalar, Spells, SpellsOnly, Stands, Step}
use Rattle.protox_text_format.specs.Spelling.IsColon.{NoColon}
use Rattle.protox_text_format.specs.Spelling.IsName.{OfField}
use Rattle.protox_text_format.specs.Spelling.IsScalar.{Plain}
use Rattle.protox_text_format.specs.declared.fault.TextFaultKind.{TextFaultKind}
use Rattle.protox_text_format.specs.declared.fault.TextFaultKind.TheVariants.{NoMark, NoValue, NoWord, TooDeep}
use Rattle.protox_text_format.specs.declared.item.Item.{Item}
use Rattle.protox_text_format.specs.declared.item.Piece.{Piece}
use Rattle.protox_text_format.specs.declared.reading.Frame.{Frame}
use Rattle.protox_text_format.specs.declared.reading.Turn.{Turn}
use Rattle.protox_text_format.specs.declared.reading.Turn.TheVariants as turn
use Rattle.protox_text_format.specs.inner.Marks.{Begins, NotFirst}
use Rattle.protox_text_format.specs.inner.Names.{IsBroken, IsUnnamed}
use Rattle.protox_text_format.specs.inner.Reading.{Advances, CanGoOn, Follows, Goes, GoesOn, Reads, Same, Spot, Stuck, Tells, close_of, frame, open_of, place, weight}
use Rattle.protox_text_format.specs.inner.Reading.Follows.{AsLeft, ByNumber}
use Rattle.protox_text_format.specs.inner.Reading.Same.{BothEnd, BothGoOn}
use Rattle.protox_text_format.specs.inner.Reading.Reads.{AtClose, AtComma, AtEnd, AtLast, AtName, AtNoMark, AtOne, AtOpen, AtScalar}
use Rattle.protox_text_format.specs.inner.Scalars.{NoScalar}
use Rattle.protox_text_format.proofs.Firsts.{closes, closing, is_end, is_number, number, number_no_mark, number_plain, range_to, word_end}
use Rattle.protox_text_format.proofs.NameEnds.{broken_follows, mark_completes, word_completes}
use Rattle.protox_text_format.proofs.ScalarEnds.{none_same, number_completes}
use Rattle.protox_text_format.proofs.Sound.{reads_message}
use Rattle.protox_text_format.proofs.Complete.{message_reads}
use Rattle.protox_text_format.proofs.Steps.{follows_append, front_to, goes_none, goes_on}
use Rattle.protox_text_format.proofs.Turns as back

-- ---- how one goes on from each place

abbrev Ending : ℕ → Turn → List Frame → Type 0
Ending levels t frames = (more : List Piece) × (rest : List Step) × Reads levels t frames more rest

after_end : (levels : ℕ) (in_list : Bool) (frames : List Frame) → Ending levels turn.Field frames → Ending levels (turn.After in_list) frames
after_end levels true frames e = (closing ∷ e.0, CloseList ∷ e.1, AtLast frames closing e.0 e.1 closes (AtNoMark frames e.0 e.1 e.2))
after_end levels false frames e = (e.0, e.1, AtNoMark frames e.0 e.1 e.2)

field_end : (levels : ℕ) (frames : List Frame) → Ending levels turn.Field frames
field_end levels [] = ([], [], AtEnd)
field_end levels (f ∷ frames) =
    let e = after_end levels f.in_list frames (field_end levels frames) in
    (word_end f.angle ∷ e.0, Close ∷ e.1, AtClose f.angle f.in_list frames (word_end f.angle) e.0 e.1 (is_end f.angle) e.2)

behind_end : (levels : ℕ) (in_list : Bool) (frames : List Frame) → Ending levels (turn.After in_list) frames
behind_end levels in_list frames = after_end levels in_list frames (field_end levels frames)

number_goes : (levels : ℕ) (in_list : Bool) (frames : List Frame) (piece : Piece) → IsNumber piece
    → (more : List Piece) × (rest : List Step) × Reads levels (turn.Value in_list) frames (piece ∷ more) rest
number_goes levels in_list frames piece n =
    let e = behind_end levels in_list frames in
    (e.0, Scalar (piece ∷ []) ∷ e.1, AtScalar in_list frames (piece ∷ e.0) (piece ∷ []) e.0 e.1 refl (Plain piece (number_plain piece n)) e.2)

value_end : (levels : ℕ) (in_list : Bool) (frames : List Frame) → Ending levels (turn.Value in_list) frames
value_end levels in_list frames =
    let e = number_goes levels in_list frames number is_number in (number ∷ e.0, e.1, e.2)

name_goes : (levels : ℕ) (frames : List Frame) (before behind : List Piece) (piece : Piece) → IsName (before ++ piece ∷ behind)
    → (more : List Piece) × (rest : List Step) × Reads levels turn.Field frames (before ++ piece ∷ more) rest
name_goes levels frames before others piece is =
    let e = value_end levels false frames in (
      others ++ e.0,
      Name (before ++ piece ∷ others) false ∷ e.1,
      AtName frames (before ++ piece ∷ (others ++ e.0)) false (before ++ piece ∷ others) [] e.0 e.1
          (sym (append_assoc before (piece ∷ others) e.0)) is NoColon (AtOne frames e.0 e.1 e.2),
    )

word_goes : (levels : ℕ) (frames : List Frame) (piece : Piece) → IsWord piece
    → (more : List Piece) × (rest : List Step) × Reads levels turn.Field frames (piece ∷ more) rest
word_goes levels frames piece is = name_goes levels frames [] [] piece (OfField piece is)

-- ---- other ends

same_front : (P : Piece → Type 0) (before wrong more : List Piece) → Same wrong more → NotFirst P (before ++ wrong)
    → NotFirst P (before ++ more)
same_front P [] wrong more BothEnd not = not
same_front P [] wrong more (BothGoOn piece a b) not = not
same_front P (first ∷ before) wrong more s not = not

number_front : (P : Piece → Type 0) (before wrong more : List Piece) (piece : Piece) → (P piece → ⊥) → NotFirst P (before ++ wrong)
    → NotFirst P (before ++ piece ∷ more)
number_front P [] wrong more piece other not = other
number_front P (first ∷ before) wrong more piece other not = not

same_goes_on : (frames : List Frame) (before wrong more : List Piece) → Same wrong more → GoesOn frames (before ++ wrong)
    → GoesOn frames (before ++ more)
same_goes_on frames [] wrong more BothEnd some e f = some e f
same_goes_on frames [] wrong more (BothGoOn piece a b) some e f = cc
same_goes_on frames (first ∷ before) wrong more s some e f = cc

number_goes_on : (frames : List Frame) (before more : List Piece) (piece : Piece) → GoesOn frames (before ++ piece ∷ more)
number_goes_on frames [] more piece e f = cc
number_goes_on frames (first ∷ before) more piece e f = cc

-- ---- where a name is wanted

broken_tells : (kind : TextFaultKind) (frames : List Frame) (left before wrong : List Piece) (items : List Item)
    → IsBroken kind before wrong → NotFirst (Stands 125) (before ++ wrong) → NotFirst (Stands 62) (before ++ wrong)
    → Tells kind (place turn.Field frames left items) before wrong
broken_tells NoWord frames left before wrong items broken a b = (
  λ piece word. let name = word_completes before wrong piece broken word in name_goes 100 frames before name.0 piece name.1,
  λ piece n more steps reads. back.field_never 100 frames (before ++ piece ∷ more) before (piece ∷ more) NoWord steps
      (number_goes_on frames before more piece) refl
      (broken_follows NoWord before wrong (piece ∷ more) (ByNumber piece wrong more n) broken)
      (number_front (Stands 125) before wrong more piece (λ is. number_no_mark piece 125 is n) a)
      (number_front (Stands 62) before wrong more piece (λ is. number_no_mark piece 62 is n) b) reads,
)
broken_tells (NoMark mark) frames left before wrong items broken a b =
    λ piece is. name_goes 100 frames before [] piece (mark_completes mark before wrong piece broken is)
broken_tells NoValue frames left before wrong items broken a b = elim broken [ ]
broken_tells TooDeep frames left before wrong items broken a b = elim broken [ ]

pub stuck_name : (frames : List Frame) (left wrong : List Piece) (kind : TextFaultKind) (items : List Item)
    → NotFirst (Stands 125) left → NotFirst (Stands 62) left → GoesOn frames left → IsUnnamed left wrong kind
    → Stuck (place turn.Field frames left items) wrong kind
stuck_name frames left wrong kind items a b some u =
    let a' : NotFirst (Stands 125) (u.before ++ wrong) = subst (λ (p : List Piece). NotFirst (Stands 125) p) u.cut a in
    let b' : NotFirst (Stands 62) (u.before ++ wrong) = subst (λ (p : List Piece). NotFirst (Stands 62) p) u.cut b in
    let some' : GoesOn frames (u.before ++ wrong) = subst (λ (p : List Piece). GoesOn frames p) u.cut some in
    record {
      before = u.before;
      cut = u.cut;
      stops = λ more steps same reads. back.field_never 100 frames (u.before ++ more) u.before more kind steps
          (same_goes_on frames u.before wrong more same some') refl
          (broken_follows kind u.before wrong more (AsLeft wrong more same) u.broken)
          (same_front (Stands 125) u.before wrong more same a') (same_front (Stands 62) u.before wrong more same b') reads;
      tells = λ deep. broken_tells kind frames left u.before wrong items u.broken a' b';
    }

-- ---- where a message ends

same_mark : (left more others : List Piece) (piece : Piece) → Same left others → left ≡ piece ∷ more
    → (rest : List Piece) × (others ≡ piece ∷ rest)
same_mark left more others piece BothEnd e = cc
same_mark left more others piece (BothGoOn first a b) e = (b, ap (λ (p : Piece). p ∷ b) (let same : first ≡ piece = cc in same))

no_other : (frames : List Frame) (angle : Bool) → frames ≡ [] → (other in_list : Bool) (outer : List Frame)
    → frames ≡ frame other in_list ∷ outer → other ≢ angle
no_other frames angle e other in_list outer f = cc

one_other : (frames outer : List Frame) (f : Frame) (angle : Bool) → frames ≡ f ∷ outer → f.angle ≢ angle
    → (other in_list : Bool) (outer' : List Frame) → frames ≡ frame other in_list ∷ outer' → other ≢ angle
one_other frames outer f angle e differ other in_list outer' g h =
    let same : f ≡ frame other in_list = cc in
    differ (ap (λ (x : Frame). x.angle) same ∙ h)

pub stuck_no_end : (frames : List Frame) (angle : Bool) (left more : List Piece) (items : List Item) → frames ≡ []
    → Begins (Stands (close_of angle)) left more → Stuck (place turn.Field frames left items) left NoWord
stuck_no_end frames angle left more items none b = record {
  before = [];
  cut = refl;
  stops = λ others steps same reads. let rest = same_mark left more others b.piece same b.cut in
      back.end_never 100 angle frames others rest.0 b.piece steps (no_other frames angle none) rest.1 b.is reads;
  tells = λ deep. (
    λ piece word. word_goes 100 frames piece word,
    λ piece n others steps reads. back.no_field_number 100 frames piece others steps n reads,
  );
}

pub stuck_other_end : (frames outer : List Frame) (f : Frame) (angle : Bool) (left more : List Piece) (items : List Item) (mark : ℕ)
    → frames ≡ f ∷ outer → f.angle ≢ angle → Begins (Stands (close_of angle)) left more → mark ≡ close_of f.angle
    → Stuck (place turn.Field frames left items) left (NoMark mark)
stuck_other_end frames outer f angle left more items mark open_now differ b is_mark = record {
  before = [];
  cut = refl;
  stops = λ others steps same reads. let rest = same_mark left more others b.piece same b.cut in
      back.end_never 100 angle frames others rest.0 b.piece steps (one_other frames outer f angle open_now differ) rest.1 b.is reads;
  tells = λ deep piece is.
      let e = behind_end 100 f.in_list outer in (
        e.0,
        Close ∷ e.1,
        subst (λ (fs : List Frame). Reads 100 turn.Field fs (piece ∷ e.0) (Close ∷ e.1)) (sym open_now)
            (AtClose f.angle f.in_list outer piece e.0 e.1 (subst (λ m. Stands m piece) is_mark is) e.2),
      );
}

-- ---- where a value is wanted, or what stands behind it

pub stuck_scalar : (in_list : Bool) (frames : List Frame) (left wrong : List Piece) (items : List Item)
    → NotFirst (Stands 123) left → NotFirst (Stands 60) left → NoScalar left wrong
    → Stuck (place (turn.Value in_list) frames left items) wrong NoValue
stuck_scalar in_list frames left wrong items a b n =
    let a' : NotFirst (Stands 123) (n.before ++ wrong) = subst (λ (p : List Piece). NotFirst (Stands 123) p) n.cut a in
    let b' : NotFirst (Stands 60) (n.before ++ wrong) = subst (λ (p : List Piece). NotFirst (Stands 60) p) n.cut b in
    record {
      before = n.before;
      cut = n.cut;
      stops = λ more steps same reads. back.value_never 100 in_list frames (n.before ++ more) n.before more steps refl
          (none_same n.before wrong more same n.breaks)
          (same_front (Stands 123) n.before wrong more same a') (same_front (Stands 60) n.before wrong more same b') reads;
      tells = λ deep piece is.
          let e = behind_end 100 in_list frames in (
            e.0,
            Scalar (n.before ++ piece ∷ []) ∷ e.1,
            AtScalar in_list frames (n.before ++ piece ∷ e.0) (n.before ++ piece ∷ []) e.0 e.1
                (sym (append_assoc n.before (piece ∷ []) e.0)) (number_completes n.before wrong piece n.breaks is) e.2,
          );
    }

pub stuck_next : (frames : List Frame) (left : List Piece) (items : List Item) → NotFirst (Stands 44) left → NotFirst (Stands 93) left
    → Stuck (place (turn.After true) frames left items) left (NoMark 44)
stuck_next frames left items a b = record {
  before = [];
  cut = refl;
  stops = λ more steps same reads. back.after_never 100 frames more steps (same_front (Stands 44) [] left more same a)
      (same_front (Stands 93) [] left more same b) reads;
  tells = λ deep piece is.
      let e = value_end 100 true frames in (e.0, e.1, AtComma frames piece e.0 e.1 is e.2);
}

pub stuck_deep : (angle in_list : Bool) (frames : List Frame) (left more : List Piece) (items : List Item) → 100 ≤ length frames
    → Begins (Stands (open_of angle)) left more → Stuck (place (turn.Value in_list) frames left items) left TooDeep
stuck_deep angle in_list frames left more items many b = record {
  before = [];
  cut = refl;
  stops = λ others steps same reads. let rest = same_mark left more others b.piece same b.cut in
      let less = back.back_open 100 angle in_list frames others rest.0 b.piece steps rest.1 b.is reads in
      let few = less.0 in
      omega (arith, few, many);
  tells = λ deep. (
    λ piece n. let e = behind_end 100 in_list frames in (
      e.0,
      Scalar (piece ∷ []) ∷ e.1,
      AtScalar in_list frames (piece ∷ e.0) (piece ∷ []) e.0 e.1 refl (Plain piece (number_plain piece n)) e.2,
    ),
    let e = field_end 101 (frame angle in_list ∷ frames) in (
      e.0,
      Open ∷ e.1,
      subst (λ (p : List Piece). Reads 101 (turn.Value in_list) frames (take 1 p ++ e.0) (Open ∷ e.1)) (sym b.cut)
          (AtOpen angle in_list frames b.piece e.0 e.1 (omega (arith, deep)) b.is e.2),
    ),
  );
}

-- ---- what that says of all pieces

module _ (pieces wrong : List Piece) (there : Spot) (kind : TextFaultKind)
    (goes : Goes (place turn.Field [] pieces []) there) (stuck : Stuck there wrong kind) where
  before : List Piece
  before = goes.taken ++ stuck.before

  all_cut : pieces ≡ before ++ wrong
  unfolding before
  all_cut = goes.cut ∙ (ap (λ (x : List Piece). goes.taken ++ x) stuck.cut ∙ sym (append_assoc goes.taken stuck.before wrong))

  split : (more : List Piece) → before ++ more ≡ goes.taken ++ (stuck.before ++ more)
  unfolding before
  split more = append_assoc goes.taken stuck.before more

  -- a message that begins so is read as far as that
  comes : (more all : List Piece) (steps : List Step) → all ≡ before ++ more → Follows wrong more → Spells AMessage 100 all steps
      → (rest : List Step) × Reads 100 there.turn there.frames (stuck.before ++ more) rest
  comes more all steps e follows is =
      let b = goes.back (stuck.before ++ more) steps
      (subst (λ (p : List Piece). Follows p (stuck.before ++ more)) (sym stuck.cut) (follows_append stuck.before wrong more follows))
      (subst (λ (p : List Piece). Reads 100 turn.Field [] p steps) (e ∙ split more) (message_reads 100 all steps is)) in
      (b.0, b.2)

  leads : (levels : ℕ) (more all : List Piece) (rest : List Step) → 100 ≤ levels → all ≡ before ++ more
      → Reads levels there.turn there.frames (stuck.before ++ more) rest → Spells AMessage levels all (goes.added ++ rest)
  leads levels more all rest high e reads =
      reads_message levels all (goes.added ++ rest)
      (subst (λ (p : List Piece). Reads levels turn.Field [] p (goes.added ++ rest)) (sym (e ∙ split more))
      (goes.on levels high (stuck.before ++ more) rest reads))

  one_more : (piece : Piece) (more : List Piece) → (before ++ piece ∷ []) ++ more ≡ before ++ (piece ∷ more)
  one_more piece more = append_assoc before (piece ∷ []) more

  few : length there.frames ≤ 100
  few = goes.deep (omega arith)

  goes_with : (P : Piece → Type 0) → CanGoOn there stuck.before P → (piece : Piece) → P piece → BeginsMessage 100 (before ++ piece ∷ [])
  goes_with P can piece is =
      let on = can piece is in
      (on.0, goes.added ++ on.1, leads 100 (piece ∷ on.0) ((before ++ piece ∷ []) ++ on.0) on.1 (omega arith) (one_more piece on.0) on.2)

stops_at : (wrong pieces : List Piece) (there : Spot) (kind : TextFaultKind)
    (goes : Goes (place turn.Field [] pieces []) there) (stuck : Stuck there wrong kind)
    → StopsAt (before pieces wrong there kind goes stuck) wrong
stops_at [] pieces there kind goes stuck = λ steps is.
    let front = before pieces [] there kind goes stuck in
    let rest = comes pieces [] there kind goes stuck [] front steps (sym (append-nil front)) (AsLeft [] [] BothEnd) is in
    stuck.stops [] rest.0 BothEnd rest.1
stops_at (piece ∷ more) pieces there kind goes stuck = λ b.
    let front = before pieces (piece ∷ more) there kind goes stuck in
    let rest = comes pieces (piece ∷ more) there kind goes stuck (piece ∷ b.0) ((front ++ piece ∷ []) ++ b.0) b.1
    (append_assoc front (piece ∷ []) b.0) (AsLeft (piece ∷ more) (piece ∷ b.0) (BothGoOn piece more b.0)) b.2 in
    stuck.stops (piece ∷ b.0) rest.0 (BothGoOn piece more b.0) rest.1

is_told : (kind : TextFaultKind) (wrong pieces : List Piece) (there : Spot)
    (goes : Goes (place turn.Field [] pieces []) there) (stuck : Stuck there wrong kind)
    → IsTrue kind (before pieces wrong there kind goes stuck) wrong
is_told NoWord wrong pieces there goes stuck =
    let front = before pieces wrong there NoWord goes stuck in
    let told = stuck.tells (few pieces wrong there NoWord goes stuck) in (
      goes_with pieces wrong there NoWord goes stuck IsWord told.0,
      λ piece n b.
          let rest = comes pieces wrong there NoWord goes stuck (piece ∷ b.0) ((front ++ piece ∷ []) ++ b.0) b.1
          (append_assoc front (piece ∷ []) b.0) (ByNumber piece wrong b.0 n) b.2 in
          told.1 piece n b.0 rest.0 rest.1,
    )
is_told (NoMark mark) wrong pieces there goes stuck =
    goes_with pieces wrong there (NoMark mark) goes stuck (Stands mark) (stuck.tells (few pieces wrong there (NoMark mark) goes stuck))
is_told NoValue wrong pieces there goes stuck =
    goes_with pieces wrong there NoValue goes stuck IsNumber (stuck.tells (few pieces wrong there NoValue goes stuck))
is_told TooDeep wrong pieces there goes stuck =
    let front = before pieces wrong there TooDeep goes stuck in
    let told = stuck.tells (few pieces wrong there TooDeep goes stuck) in
    let deep = told.1 in (
      goes_with pieces wrong there TooDeep goes stuck IsNumber told.0,
      (
        deep.0,
        goes.added ++ deep.1,
        leads pieces wrong there TooDeep goes stuck 101 (take 1 wrong ++ deep.0)
            ((front ++ take 1 wrong) ++ deep.0) deep.1 (omega arith) (append_assoc front (take 1 wrong) deep.0) deep.2,
      ),
    )

-- The piece is the first with which no message goes on.
pub is_first : (pieces wrong : List Piece) (there : Spot) (kind : TextFaultKind) (piece : ℕ)
    → Goes (place turn.Field [] pieces []) there → Stuck there wrong kind → piece ≡ length pieces - length wrong
    → IsFirst pieces (record { piece = piece; kind = kind })
is_first pieces wrong there kind piece goes stuck e =
    let front = before pieces wrong there kind goes stuck in
    let cut = all_cut pieces wrong there kind goes stuck in
    let all : length pieces ≡ length front + length wrong = ap length cut ∙ length-append front wrong in
    let at : piece ≡ length front = omega (arith, e, all) in
    let taken : take piece pieces ≡ front = ap (λ n. take n pieces) e ∙ front_to pieces front wrong cut in
    let left : drop piece pieces ≡ wrong =
    ap (λ n. drop n pieces) at ∙ (ap (drop (length front)) cut ∙ drop-append_seam front wrong) in
    record {
      within = omega (arith, at, all);
      stops = subst (λ (p : List Piece). StopsAt p (drop piece pieces)) (sym taken)
          (subst (λ (p : List Piece). StopsAt front p) (sym left) (stops_at wrong pieces there kind goes stuck));
      is_true = subst (λ (p : List Piece). IsTrue kind p (drop piece pieces)) (sym taken)
          (subst (λ (p : List Piece). IsTrue kind front p) (sym left) (is_told kind wrong pieces there goes stuck));
    }

-- Pieces spell one message at most.
pub is_only : (pieces : List Piece) (steps : List Step) → Spells AMessage 100 pieces steps → SpellsOnly AMessage 100 pieces steps
is_only pieces steps is = λ others also.
    back.one_way 100 turn.Field [] pieces steps others (message_reads 100 pieces steps is) (message_reads 100 pieces others also)

-- What is read to its end is a message.
pub is_spelled : (pieces : List Piece) (there : Spot) → Goes (place turn.Field [] pieces []) there → there.turn ≡ turn.Field
    → there.frames ≡ [] → there.left ≡ [] → Spells AMessage 100 pieces there.steps
is_spelled pieces there goes t f l =
    let end : Reads 100 there.turn there.frames [] [] =
    subst (λ (x : Turn). Reads 100 x there.frames [] []) (sym t) (subst (λ (x : List Frame). Reads 100 turn.Field x [] []) (sym f) AtEnd) in
    let read = reads_message 100 (goes.taken ++ []) (goes.added ++ []) (goes.on 100 (omega arith) [] [] end) in
    let same : goes.taken ++ [] ≡ pieces = ap (λ (x : List Piece). goes.taken ++ x) (sym l) ∙ sym goes.cut in
    let told : goes.added ++ [] ≡ there.steps = append-nil goes.added ∙ sym goes.steps in
    subst (λ (p : List Piece). Spells AMessage 100 p there.steps) same
    (subst (λ (s : List Step). Spells AMessage 100 (goes.taken ++ []) s) told read)

pub close_frame : (frames outer : List Frame) (f : Frame) (angle : Bool) → frames ≡ f ∷ outer → f.angle ≡ angle
    → frames ≡ frame angle f.in_list ∷ outer
close_frame frames outer f angle e is = e ∙ ap (λ (a : Bool). frame a f.in_list ∷ outer) is

-- what the test of two marks says
pub marks_same : (a b : Bool) → not (beq a b) ≡ false → a ≡ b
marks_same true true e = refl
marks_same true false e = cc
marks_same false true e = cc
marks_same false false e = refl

pub marks_other : (a b : Bool) → not (beq a b) ≡ true → a ≢ b
marks_other true true e h = cc
marks_other true false e h = cc
marks_other false true e h = cc
marks_other false false e h = cc

-- ---- the loop

pub starts : (pieces left : List Piece) (frames : List Frame) (items : List Item) → frames ≡ [] → items ≡ [] → left ≡ pieces
    → Goes (place turn.Field [] pieces []) (place turn.Field frames left items)
starts pieces left frames items f i l =
    subst (λ (x : List Frame). Goes (place turn.Field [] pieces []) (place turn.Field x left items)) (sym f)
    (subst (λ (x : List Item). Goes (place turn.Field [] pieces []) (place turn.Field [] left x)) (sym i)
    (subst (λ (x : List Piece). Goes (place turn.Field [] pieces []) (place turn.Field [] x [])) (sym l)
    (goes_none (place turn.Field [] pieces []))))

pub moves_on : (pieces : List Piece) (here : Spot) (t : Turn) (frames : List Frame) (left : List Piece) (items : List Item)
    → Goes (place turn.Field [] pieces []) here → Goes here (place t frames left items)
    → Goes (place turn.Field [] pieces []) (place t frames (slice_range pieces (length pieces - length left) (length pieces)) items)
moves_on pieces here t frames left items a b =
    let both = goes_on (place turn.Field [] pieces []) here (place t frames left items) a b in
    subst (λ (x : List Piece). Goes (place turn.Field [] pieces []) (place t frames x items))
    (sym (range_to pieces both.taken left both.cut)) both

pub turns_less : (pieces : List Piece) (here : Spot) (t : Turn) (frames : List Frame) (left : List Piece) (items : List Item)
    → Goes (place turn.Field [] pieces []) here → Advances here (place t frames left items)
    → weight t (slice_range pieces (length pieces - length left) (length pieces)) < weight here.turn here.left
turns_less pieces here t frames left items a b =
    let both = goes_on (place turn.Field [] pieces []) here (place t frames left items) a b.goes in
    let P : List Piece → Type 0 = λ x. weight t x < weight here.turn here.left in
    subst P (sym (range_to pieces both.taken left both.cut)) b.less

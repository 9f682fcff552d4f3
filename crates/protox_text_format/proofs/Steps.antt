-- The steps of a reader lead on.
use Rattle.std.proofs.Common.{◌≡◌, ◌⊎◌, inl, inr, ℕ, suc, ◌+◌, ◌-◌, ◌*◌, ◌<◌, ◌≤◌, Bool, true, false, List, [], ◌∷◌, ◌++◌, length, take, map, refl, sym, ◌∙◌, ap, subst, arith, append_assoc, append-nil, length-append}
use Rattle.std.proofs.lemmas.List.{map-append}
use Rattle.std.proofs.Math.Seq.{take-append_seam}
use Rattle.protox_text_format.specs.Spelling.{Close, CloseList, IsName, IsScalar, Name, Open, OpenList, Scalar, Stands, Step, seen}
use Rattle.protox_text_format.specs.Spelling.IsColon.{AColon, NoColon}
use Rattle.protox_text_format.specs.Spelling.IsName.{OfExtension, OfField, OfType}
use Rattle.protox_text_format.specs.Spelling.IsScalar.{Negative, Plain, Strings}
use Rattle.protox_text_format.specs.declared.item.Item.{Item}
use Rattle.protox_text_format.specs.declared.item.Item.TheVariants as item
use Rattle.protox_text_format.specs.declared.item.Piece.{Piece}
use Rattle.protox_text_format.specs.declared.reading.Frame.{Frame}
use Rattle.protox_text_format.specs.declared.reading.Turn.TheVariants as turn
use Rattle.protox_text_format.specs.inner.Marks.{Begins, NotFirst}
use Rattle.protox_text_format.specs.inner.Names.{IsNamed}
use Rattle.protox_text_format.specs.inner.Reading.{Advances, ColonThen, Follows, Goes, Reads, Spot, close_of, frame, open_of, place}
use Rattle.protox_text_format.specs.inner.Reading.Follows.{AsLeft}
use Rattle.protox_text_format.specs.inner.Reading.Same.{BothGoOn}
use Rattle.protox_text_format.specs.inner.Reading.Reads.{AtClose, AtComma, AtFirst, AtLast, AtList, AtMark, AtName, AtNoMark, AtNone, AtOne, AtOpen, AtScalar}
use Rattle.protox_text_format.specs.inner.Scalars.{ScalarThen}
use Rattle.protox_text_format.proofs.NameEnds.{no_mark_follows, no_string_follows}
use Rattle.protox_text_format.proofs.Turns as back

steps_push : (old new : List Item) (one : Item) → new ≡ old ++ one ∷ [] → map seen new ≡ map seen old ++ seen one ∷ []
steps_push old new one e = ap (map seen) e ∙ map-append seen old (one ∷ [])

steps_name : (old new : List Item) (one : Item) (step : Step) → new ≡ old ++ one ∷ [] → seen one ≡ step
    → map seen new ≡ map seen old ++ step ∷ []
steps_name old new one step e is = steps_push old new one e ∙ ap (λ (s : Step). map seen old ++ s ∷ []) is

less_one : (left more : List Piece) (piece : Piece) (now later : ℕ) → left ≡ piece ∷ more → later ≤ 1
    → 2 * length more + later < 2 * length left + now
less_one left more piece now later e h =
    let n : length left ≡ suc (length more) = ap length e in omega arith

less_some : (left taken more : List Piece) (now later : ℕ) → left ≡ taken ++ more → 1 ≤ length taken → later ≤ 1
    → 2 * length more + later < 2 * length left + now
less_some left taken more now later e some h =
    let n : length left ≡ length taken + length more = ap length e ∙ length-append taken more in omega arith

no_steps : (steps : List Step) → steps ≡ steps ++ []
no_steps steps = sym (append-nil steps)

-- the front of pieces, from what stands behind it
pub front_to : (pieces front behind : List Piece) → pieces ≡ front ++ behind
    → take (length pieces - length behind) pieces ≡ front
front_to pieces front others e =
    let n : length pieces - length others ≡ length front =
    let all : length pieces ≡ length front + length others = ap length e ∙ length-append front others in omega arith in
    ap (λ n. take n pieces) n ∙ (ap (take (length front)) e ∙ take-append_seam front others)

name_length : (name : List Piece) → IsName name → 1 ≤ length name
name_length name (OfField word w) = omega arith
name_length name (OfExtension open_at close_at inside o i c) = omega arith
name_length name (OfType open_at slash close_at domain inside o d s i c) = omega arith

scalar_length : (value : List Piece) → IsScalar value → 1 ≤ length value
scalar_length value (Plain p i) = omega arith
scalar_length value (Negative m p i j) = omega arith
scalar_length value (Strings s others i) = omega arith

-- ---- the steps

pub go_name : (frames : List Frame) (left named more : List Piece) (has : Bool) (old new : List Item) (one : Item)
    → IsNamed left named → ColonThen named has more → new ≡ old ++ one ∷ []
    → seen one ≡ Name (take (length left - length named) left) has
    → Advances (place turn.Field frames left old) (place turn.Held frames more new)
go_name frames left named more has old new one n k pushed is =
    let cut : left ≡ (n.name ++ k.colon) ++ more =
    n.cut ∙ (ap (λ (x : List Piece). n.name ++ x) k.cut ∙ sym (append_assoc n.name k.colon more)) in
    let some = name_length n.name n.is_name in
    record {
      goes = record {
        taken = n.name ++ k.colon;
        added = Name n.name has ∷ [];
        cut = cut;
        steps = steps_name old new one (Name n.name has) pushed (is ∙ ap (λ (x : List Piece). Name x has) (front_to left n.name named n.cut));
        deep = λ h. h;
        on = λ levels high others rest reads. AtName frames ((n.name ++ k.colon) ++ others) has n.name k.colon others rest
            (append_assoc n.name k.colon others) n.is_name k.is reads;
        back = λ others all follows reads. back.back_name 100 frames ((n.name ++ k.colon) ++ others) n.name k.colon others has all
            (append_assoc n.name k.colon others) n.is_name k.is (λ h. no_mark_follows 58 more others follows (k.none h)) reads;
      };
      less = less_some left (n.name ++ k.colon) more 0 1 cut (omega (arith, length-append n.name k.colon, some)) (omega arith);
    }

pub go_close : (angle in_list : Bool) (all_frames frames : List Frame) (left more : List Piece) (old new : List Item)
    → all_frames ≡ frame angle in_list ∷ frames → Begins (Stands (close_of angle)) left more → new ≡ old ++ item.Close ∷ []
    → Advances (place turn.Field all_frames left old) (place (turn.After in_list) frames more new)
go_close angle in_list all_frames frames left more old new open_now b pushed = record {
  goes = record {
    taken = b.piece ∷ [];
    added = Close ∷ [];
    cut = b.cut;
    steps = steps_push old new item.Close pushed;
    deep = λ h. let n : length all_frames ≡ suc (length frames) = ap length open_now in omega arith;
    on = λ levels high others rest reads. subst (λ (f : List Frame). Reads levels turn.Field f (b.piece ∷ others) (Close ∷ rest)) (sym open_now)
        (AtClose angle in_list frames b.piece others rest b.is reads);
    back = λ others all follows reads. back.back_close 100 angle in_list frames all_frames (b.piece ∷ others) others b.piece all open_now refl b.is reads;
  };
  less = less_one left more b.piece 0 1 b.cut (omega arith);
}

pub go_list : (frames : List Frame) (left more : List Piece) (old new : List Item) → Begins (Stands 91) left more
    → new ≡ old ++ item.OpenList ∷ [] → Advances (place turn.Held frames left old) (place turn.First frames more new)
go_list frames left more old new b pushed = record {
  goes = record {
    taken = b.piece ∷ [];
    added = OpenList ∷ [];
    cut = b.cut;
    steps = steps_push old new item.OpenList pushed;
    deep = λ h. h;
    on = λ levels high others rest reads. AtList frames b.piece others rest b.is reads;
    back = λ others all follows reads. back.back_list 100 frames (b.piece ∷ others) others b.piece all refl b.is reads;
  };
  less = less_one left more b.piece 1 1 b.cut (omega arith);
}

pub go_one : (frames : List Frame) (left : List Piece) (items : List Item) → NotFirst (Stands 91) left
    → Advances (place turn.Held frames left items) (place (turn.Value false) frames left items)
go_one frames left items not = record {
  goes = record {
    taken = [];
    added = [];
    cut = refl;
    steps = no_steps (map seen items);
    deep = λ h. h;
    on = λ levels high others rest reads. AtOne frames others rest reads;
    back = λ others all follows reads. back.back_one 100 frames others all (no_mark_follows 91 left others follows not) reads;
  };
  less = omega arith;
}

pub go_none : (frames : List Frame) (left more : List Piece) (old new : List Item) → Begins (Stands 93) left more
    → new ≡ old ++ item.CloseList ∷ [] → Advances (place turn.First frames left old) (place (turn.After false) frames more new)
go_none frames left more old new b pushed = record {
  goes = record {
    taken = b.piece ∷ [];
    added = CloseList ∷ [];
    cut = b.cut;
    steps = steps_push old new item.CloseList pushed;
    deep = λ h. h;
    on = λ levels high others rest reads. AtNone frames b.piece others rest b.is reads;
    back = λ others all follows reads. back.back_none 100 frames (b.piece ∷ others) others b.piece all refl b.is reads;
  };
  less = less_one left more b.piece 1 1 b.cut (omega arith);
}

pub go_first : (frames : List Frame) (left : List Piece) (items : List Item) → NotFirst (Stands 93) left
    → Advances (place turn.First frames left items) (place (turn.Value true) frames left items)
go_first frames left items not = record {
  goes = record {
    taken = [];
    added = [];
    cut = refl;
    steps = no_steps (map seen items);
    deep = λ h. h;
    on = λ levels high others rest reads. AtFirst frames others rest reads;
    back = λ others all follows reads. back.back_first 100 frames others all (no_mark_follows 93 left others follows not) reads;
  };
  less = omega arith;
}

pub go_scalar : (in_list : Bool) (frames : List Frame) (left more : List Piece) (old new : List Item) (one : Item)
    → ScalarThen left more → new ≡ old ++ one ∷ [] → seen one ≡ Scalar (take (length left - length more) left)
    → Advances (place (turn.Value in_list) frames left old) (place (turn.After in_list) frames more new)
go_scalar in_list frames left more old new one s pushed is = record {
  goes = record {
    taken = s.value;
    added = Scalar s.value ∷ [];
    cut = s.cut;
    steps = steps_name old new one (Scalar s.value) pushed (is ∙ ap Scalar (front_to left s.value more s.cut));
    deep = λ h. h;
    on = λ levels high others rest reads. AtScalar in_list frames (s.value ++ others) s.value others rest refl s.scalar reads;
    back = λ others all follows reads. back.back_scalar 100 in_list frames (s.value ++ others) s.value others all refl s.scalar
        (λ strings. no_string_follows more others follows (s.ends strings)) reads;
  };
  less = less_some left s.value more 0 1 s.cut (scalar_length s.value s.scalar) (omega arith);
}

pub go_open : (angle in_list : Bool) (all_frames frames : List Frame) (left more : List Piece) (old new : List Item)
    → length frames < 100 → all_frames ≡ frame angle in_list ∷ frames → Begins (Stands (open_of angle)) left more
    → new ≡ old ++ item.Open ∷ []
    → Advances (place (turn.Value in_list) frames left old) (place turn.Field all_frames more new)
go_open angle in_list all_frames frames left more old new few open_now b pushed = record {
  goes = record {
    taken = b.piece ∷ [];
    added = Open ∷ [];
    cut = b.cut;
    steps = steps_push old new item.Open pushed;
    deep = λ h. let n : length all_frames ≡ suc (length frames) = ap length open_now in omega arith;
    on = λ levels high others rest reads. AtOpen angle in_list frames b.piece others rest (omega (arith, few, high)) b.is
        (subst (λ (f : List Frame). Reads levels turn.Field f others rest) open_now reads);
    back = λ others all follows reads.
        let inner = back.back_open 100 angle in_list frames (b.piece ∷ others) others b.piece all refl b.is reads in
        let outer = inner.1 in
        (outer.0, outer.1, subst (λ (f : List Frame). Reads 100 turn.Field f others outer.0) (sym open_now) outer.2);
  };
  less = less_one left more b.piece 0 0 b.cut (omega arith);
}

pub go_mark : (frames : List Frame) (left more : List Piece) (items : List Item)
    → Begins (λ piece. Stands 59 piece ⊎ Stands 44 piece) left more
    → Advances (place (turn.After false) frames left items) (place turn.Field frames more items)
go_mark frames left more items b = record {
  goes = record {
    taken = b.piece ∷ [];
    added = [];
    cut = b.cut;
    steps = no_steps (map seen items);
    deep = λ h. h;
    on = λ levels high others rest reads. AtMark frames b.piece others rest b.is reads;
    back = λ others all follows reads. back.back_mark 100 frames (b.piece ∷ others) others b.piece all refl b.is reads;
  };
  less = less_one left more b.piece 1 0 b.cut (omega arith);
}

pub go_semicolon : (frames : List Frame) (left more : List Piece) (items : List Item) → Begins (Stands 59) left more
    → Advances (place (turn.After false) frames left items) (place turn.Field frames more items)
go_semicolon frames left more items b =
    go_mark frames left more items (record { piece = b.piece; cut = b.cut; is = inl b.is })

pub go_field_comma : (frames : List Frame) (left more : List Piece) (items : List Item) → Begins (Stands 44) left more
    → Advances (place (turn.After false) frames left items) (place turn.Field frames more items)
go_field_comma frames left more items b =
    go_mark frames left more items (record { piece = b.piece; cut = b.cut; is = inr b.is })

pub go_no_mark : (frames : List Frame) (left : List Piece) (items : List Item) → NotFirst (Stands 59) left
    → NotFirst (Stands 44) left → Advances (place (turn.After false) frames left items) (place turn.Field frames left items)
go_no_mark frames left items a b = record {
  goes = record {
    taken = [];
    added = [];
    cut = refl;
    steps = no_steps (map seen items);
    deep = λ h. h;
    on = λ levels high others rest reads. AtNoMark frames others rest reads;
    back = λ others all follows reads. back.back_no_mark 100 frames others all (no_mark_follows 59 left others follows a)
        (no_mark_follows 44 left others follows b) reads;
  };
  less = omega arith;
}

pub go_comma : (frames : List Frame) (left more : List Piece) (items : List Item) → Begins (Stands 44) left more
    → Advances (place (turn.After true) frames left items) (place (turn.Value true) frames more items)
go_comma frames left more items b = record {
  goes = record {
    taken = b.piece ∷ [];
    added = [];
    cut = b.cut;
    steps = no_steps (map seen items);
    deep = λ h. h;
    on = λ levels high others rest reads. AtComma frames b.piece others rest b.is reads;
    back = λ others all follows reads. back.back_comma 100 frames (b.piece ∷ others) others b.piece all refl b.is reads;
  };
  less = less_one left more b.piece 1 0 b.cut (omega arith);
}

pub go_last : (frames : List Frame) (left more : List Piece) (old new : List Item) → Begins (Stands 93) left more
    → new ≡ old ++ item.CloseList ∷ [] → Advances (place (turn.After true) frames left old) (place (turn.After false) frames more new)
go_last frames left more old new b pushed = record {
  goes = record {
    taken = b.piece ∷ [];
    added = CloseList ∷ [];
    cut = b.cut;
    steps = steps_push old new item.CloseList pushed;
    deep = λ h. h;
    on = λ levels high others rest reads. AtLast frames b.piece others rest b.is reads;
    back = λ others all follows reads. back.back_last 100 frames (b.piece ∷ others) others b.piece all refl b.is reads;
  };
  less = less_one left more b.piece 1 1 b.cut (omega arith);
}

pub colon_there : (left more : List Piece) → Begins (Stands 58) left more → ColonThen left true more
colon_there left more b = record {
  colon = b.piece ∷ [];
  cut = b.cut;
  is = AColon b.piece b.is;
  none = λ h. cc;
}

pub colon_none : (left : List Piece) → NotFirst (Stands 58) left → ColonThen left false left
colon_none left not = record { colon = []; cut = refl; is = NoColon; none = λ h. not }

-- ---- one step behind the other

pub follows_append : (taken left more : List Piece) → Follows left more → Follows (taken ++ left) (taken ++ more)
follows_append [] left more f = f
follows_append (piece ∷ taken) left more f =
    AsLeft (piece ∷ (taken ++ left)) (piece ∷ (taken ++ more)) (BothGoOn piece (taken ++ left) (taken ++ more))

pub goes_none : (here : Spot) → Goes here here
goes_none here = record {
  taken = [];
  added = [];
  cut = refl;
  steps = no_steps here.steps;
  deep = λ h. h;
  on = λ levels high others rest reads. reads;
  back = λ others all follows reads. (all, refl, reads);
}

pub goes_on : (here there last : Spot) → Goes here there → Goes there last → Goes here last
goes_on here there last a b = record {
  taken = a.taken ++ b.taken;
  added = a.added ++ b.added;
  cut = a.cut ∙ (ap (λ (x : List Piece). a.taken ++ x) b.cut ∙ sym (append_assoc a.taken b.taken last.left));
  steps = b.steps ∙ (ap (λ (x : List Step). x ++ b.added) a.steps ∙ append_assoc here.steps a.added b.added);
  deep = λ h. b.deep (a.deep h);
  on = λ levels high others rest reads.
      subst (λ (p : List Piece). Reads levels here.turn here.frames p ((a.added ++ b.added) ++ rest)) (sym (append_assoc a.taken b.taken others))
      (subst (λ (s : List Step). Reads levels here.turn here.frames (a.taken ++ (b.taken ++ others)) s) (sym (append_assoc a.added b.added rest))
      (a.on levels high (b.taken ++ others) (b.added ++ rest) (b.on levels high others rest reads)));
  back = λ others all follows reads.
      let first = a.back (b.taken ++ others) all
      (subst (λ (p : List Piece). Follows p (b.taken ++ others)) (sym b.cut) (follows_append b.taken last.left others follows))
      (subst (λ (p : List Piece). Reads 100 here.turn here.frames p all) (append_assoc a.taken b.taken others) reads) in
      let second = b.back others first.0 follows first.2 in
      (second.0, first.1 ∙ (ap (λ (s : List Step). a.added ++ s) second.1 ∙ sym (append_assoc a.added b.added second.0)), second.2);
}

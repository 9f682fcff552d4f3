-- What the next piece tells of what is read: there is one way on.
use Rattle.std.proofs.Common.{◌≡◌, ◌≢◌, ◌⊎◌, inl, inr, ℕ, ◌<◌, Bool, true, false, List, [], ◌∷◌, ◌++◌, length, refl, sym, ◌∙◌, ap, subst, lit<}
use Rattle.std.specs.Prelude.{All}
use Rattle.std.proofs.lemmas.List.{append_cancel_right}
use Rattle.std.proofs.lemmas.List.Elements.{All-head}
use Rattle.protox_text_format.specs.Failure.{IsNumber}
use Rattle.protox_text_format.specs.Spelling.{Close, CloseList, IsColon, IsName, IsPlain, IsScalar, IsString, IsWord, Name, Open, OpenList, Scalar, Stands, Step}
use Rattle.protox_text_format.specs.Spelling.IsColon.{AColon, NoColon}
use Rattle.protox_text_format.specs.Spelling.IsName.{OfExtension, OfField, OfType}
use Rattle.protox_text_format.specs.Spelling.IsScalar.{Negative, Plain, Strings}
use Rattle.protox_text_format.specs.declared.fault.TextFaultKind.{TextFaultKind}
use Rattle.protox_text_format.specs.declared.item.Piece.{Piece}
use Rattle.protox_text_format.specs.declared.reading.Frame.{Frame}
use Rattle.protox_text_format.specs.declared.reading.Turn.{Turn}
use Rattle.protox_text_format.specs.declared.reading.Turn.TheVariants as turn
use Rattle.protox_text_format.specs.inner.Marks.{NotFirst}
use Rattle.protox_text_format.specs.inner.Names.{IsBroken}
use Rattle.protox_text_format.specs.inner.Reading.{Reads, close_of, frame, open_of}
use Rattle.protox_text_format.specs.inner.Reading.Reads.{AtClose, AtComma, AtEnd, AtFirst, AtLast, AtList, AtMark, AtName, AtNoMark, AtNone, AtOne, AtOpen, AtScalar}
use Rattle.protox_text_format.specs.inner.Scalars.{IsNoScalar}
use Rattle.protox_text_format.proofs.Firsts.{above, below, marks_differ, not_first, number_no_mark, number_no_word, plain_no_mark, string_no_mark, tails, word_no_mark, word_no_string}
use Rattle.protox_text_format.proofs.NameEnds.{name_never, name_same}
use Rattle.protox_text_format.proofs.ScalarEnds.{scalar_never, scalar_same}

-- ---- what names and values begin with

same_first : (P : Piece → Type 0) (first second : Piece) (xs ys : List Piece) → first ∷ xs ≡ second ∷ ys → P first → P second
same_first P first second xs ys e is = let same : first ≡ second = cc in subst (λ (p : Piece). P p) same is

pub name_some : (name x : List Piece) → IsName name → [] ≡ name ++ x → ⊥
name_some name x (OfField word w) e = cc
name_some name x (OfExtension open_at close_at inside o i c) e = cc
name_some name x (OfType open_at slash close_at domain inside o d s i c) e = cc

pub name_begins : (name x more : List Piece) (piece : Piece) → IsName name → name ++ x ≡ piece ∷ more
    → IsWord piece ⊎ Stands 91 piece
name_begins name x more piece (OfField word w) e = inl (same_first IsWord word piece x more e w)
name_begins name x more piece (OfExtension open_at close_at inside o i c) e =
    inr (same_first (Stands 91) open_at piece ((inside ++ close_at ∷ []) ++ x) more e o)
name_begins name x more piece (OfType open_at slash close_at domain inside o d s i c) e =
    inr (same_first (Stands 91) open_at piece ((domain ++ slash ∷ inside ++ close_at ∷ []) ++ x) more e o)

no_name_at : (name x more : List Piece) (piece : Piece) (mark : ℕ) → IsName name → name ++ x ≡ piece ∷ more
    → Stands mark piece → mark ≢ 91 → ⊥
no_name_at name x more piece mark n e is other = elim (name_begins name x more piece n e) [
  | inl word ↦ word_no_mark piece mark word is
  | inr open_at ↦ marks_differ piece mark 91 other is open_at
]

no_name_string : (name x more : List Piece) (piece : Piece) → IsName name → name ++ x ≡ piece ∷ more → IsString piece → ⊥
no_name_string name x more piece n e is = elim (name_begins name x more piece n e) [
  | inl word ↦ word_no_string piece word is
  | inr open_at ↦ string_no_mark piece 91 is open_at
]

no_scalar_at : (value x more : List Piece) (piece : Piece) (mark : ℕ) → IsScalar value → value ++ x ≡ piece ∷ more
    → Stands mark piece → mark ≢ 45 → ⊥
no_scalar_at value x more piece mark (Plain p i) e is other = plain_no_mark piece mark (same_first IsPlain p piece x more e i) is
no_scalar_at value x more piece mark (Negative m p i j) e is other =
    marks_differ piece mark 45 other is (same_first (Stands 45) m piece (p ∷ x) more e i)
no_scalar_at value x more piece mark (Strings s others i) e is other =
    string_no_mark piece mark (same_first IsString s piece (others ++ x) more e (All-head IsString s others i)) is

close_other : (angle : Bool) (mark : ℕ) → mark ≢ 125 → mark ≢ 62 → mark ≢ close_of angle
close_other true mark a b = b
close_other false mark a b = a

open_other : (angle : Bool) (mark : ℕ) → mark ≢ 123 → mark ≢ 60 → mark ≢ open_of angle
open_other true mark a b = b
open_other false mark a b = a

close_bracket : (angle : Bool) → close_of angle ≢ 91
close_bracket true = below 62 91 (lit< tt)
close_bracket false = above 125 91 (lit< tt)

open_minus : (angle : Bool) → open_of angle ≢ 45
open_minus true = above 60 45 (lit< tt)
open_minus false = above 123 45 (lit< tt)

close_same : (a b : Bool) (mark : Piece) → Stands (close_of a) mark → Stands (close_of b) mark → a ≡ b
close_same true true mark i j = refl
close_same true false mark i j = absurd (marks_differ mark 62 125 (below 62 125 (lit< tt)) i j)
close_same false true mark i j = absurd (marks_differ mark 62 125 (below 62 125 (lit< tt)) j i)
close_same false false mark i j = refl

open_same : (a b : Bool) (mark : Piece) → Stands (open_of a) mark → Stands (open_of b) mark → a ≡ b
open_same true true mark i j = refl
open_same true false mark i j = absurd (marks_differ mark 60 123 (below 60 123 (lit< tt)) i j)
open_same false true mark i j = absurd (marks_differ mark 60 123 (below 60 123 (lit< tt)) j i)
open_same false false mark i j = refl

-- ---- what cannot be read next

pub no_value_at : (levels : ℕ) (in_list : Bool) (frames : List Frame) (pieces more : List Piece) (all : List Step)
    (piece : Piece) (mark : ℕ) → Reads levels (turn.Value in_list) frames pieces all → pieces ≡ piece ∷ more
    → Stands mark piece → mark ≢ 45 → mark ≢ 123 → mark ≢ 60 → ⊥
no_value_at levels in_list frames pieces more all piece mark (AtScalar b fs ps value x rest cut scalar reads) e is a b' c =
    no_scalar_at value x more piece mark scalar (sym cut ∙ e) is a
no_value_at levels in_list frames pieces more all piece mark (AtOpen angle b fs first x rest less opens reads) e is a b' c =
    marks_differ piece mark (open_of angle) (open_other angle mark b' c) is (same_first (Stands (open_of angle)) first piece x more e opens)

pub no_field_at : (levels : ℕ) (frames : List Frame) (pieces more : List Piece) (all : List Step)
    (piece : Piece) (mark : ℕ) → Reads levels turn.Field frames pieces all → pieces ≡ piece ∷ more
    → Stands mark piece → mark ≢ 91 → mark ≢ 125 → mark ≢ 62 → ⊥
no_field_at levels frames pieces more all piece mark AtEnd e is a b c = cc
no_field_at levels frames pieces more all piece mark (AtName fs ps has name colon x rest cut n k reads) e is a b c =
    no_name_at name (colon ++ x) more piece mark n (sym cut ∙ e) is a
no_field_at levels frames pieces more all piece mark (AtClose angle in_list fs first x rest closes reads) e is a b c =
    marks_differ piece mark (close_of angle) (close_other angle mark b c) is (same_first (Stands (close_of angle)) first piece x more e closes)

no_field_string : (levels : ℕ) (frames : List Frame) (pieces more : List Piece) (all : List Step)
    (piece : Piece) → Reads levels turn.Field frames pieces all → pieces ≡ piece ∷ more → IsString piece → ⊥
no_field_string levels frames pieces more all piece AtEnd e is = cc
no_field_string levels frames pieces more all piece (AtName fs ps has name colon x rest cut n k reads) e is =
    no_name_string name (colon ++ x) more piece n (sym cut ∙ e) is
no_field_string levels frames pieces more all piece (AtClose angle in_list fs first x rest closes reads) e is =
    string_no_mark piece (close_of angle) is (same_first (Stands (close_of angle)) first piece x more e closes)

no_after_string : (levels : ℕ) (in_list : Bool) (frames : List Frame) (pieces more : List Piece) (all : List Step)
    (piece : Piece) → Reads levels (turn.After in_list) frames pieces all → pieces ≡ piece ∷ more → IsString piece → ⊥
no_after_string levels in_list frames pieces more all piece (AtMark fs first x rest (inl is) reads) e s =
    string_no_mark piece 59 s (same_first (Stands 59) first piece x more e is)
no_after_string levels in_list frames pieces more all piece (AtMark fs first x rest (inr is) reads) e s =
    string_no_mark piece 44 s (same_first (Stands 44) first piece x more e is)
no_after_string levels in_list frames pieces more all piece (AtNoMark fs x rest reads) e s =
    no_field_string levels frames pieces more all piece reads e s
no_after_string levels in_list frames pieces more all piece (AtComma fs first x rest is reads) e s =
    string_no_mark piece 44 s (same_first (Stands 44) first piece x more e is)
no_after_string levels in_list frames pieces more all piece (AtLast fs first x rest is reads) e s =
    string_no_mark piece 93 s (same_first (Stands 93) first piece x more e is)

-- from what holds of any first piece
none_first : (P : Piece → Type 0) (pieces : List Piece) → ((piece : Piece) (more : List Piece) → pieces ≡ piece ∷ more → P piece → ⊥)
    → NotFirst P pieces
none_first P [] h = tt
none_first P (piece ∷ more) h = h piece more refl

held_no_colon : (levels : ℕ) (frames : List Frame) (pieces more : List Piece) (all : List Step) (piece : Piece)
    → Reads levels turn.Held frames pieces all → pieces ≡ piece ∷ more → Stands 58 piece → ⊥
held_no_colon levels frames pieces more all piece (AtList fs first x rest is reads) e colon =
    marks_differ piece 58 91 (below 58 91 (lit< tt)) colon (same_first (Stands 91) first piece x more e is)
held_no_colon levels frames pieces more all piece (AtOne fs x rest reads) e colon =
    no_value_at levels false frames pieces more all piece 58 reads e colon (above 58 45 (lit< tt)) (below 58 123 (lit< tt)) (below 58 60 (lit< tt))

colon_same : (has has' : Bool) (colon colon' x y : List Piece) → IsColon has colon → IsColon has' colon' → colon ++ x ≡ colon' ++ y
    → (has ≡ false → NotFirst (Stands 58) x) → (has' ≡ false → NotFirst (Stands 58) y) → (has ≡ has') × (x ≡ y)
colon_same has has' colon colon' x y NoColon NoColon e nx ny = (refl, e)
colon_same has has' colon colon' x y NoColon (AColon k is) e nx ny = absurd (not_first (Stands 58) k x y (nx refl) e is)
colon_same has has' colon colon' x y (AColon k is) NoColon e nx ny = absurd (not_first (Stands 58) k y x (ny refl) (sym e) is)
colon_same has has' colon colon' x y (AColon k is) (AColon k' is') e nx ny = (refl, tails k k' x y e)

-- ---- from what is read to what is read next

-- The steps `all` begin with these, and what is left is read in the others.
abbrev Back : ℕ → Turn → List Frame → List Piece → List Step → List Step → Type 0
Back levels t frames more all added = (rest : List Step) × (all ≡ added ++ rest) × Reads levels t frames more rest

to_reads : (levels : ℕ) (t : Turn) (frames : List Frame) (x y : List Piece) (all added rest : List Step) → all ≡ added ++ rest → x ≡ y
    → Reads levels t frames x rest → Back levels t frames y all added
to_reads levels t frames x y all added rest es e reads = (rest, es, subst (λ (ps : List Piece). Reads levels t frames ps rest) e reads)

name_step : (n m : List Piece) (h k : Bool) (rest : List Step) → n ≡ m → h ≡ k
    → ◌≡◌ {A = List Step} (Name n h ∷ rest) ((Name m k ∷ []) ++ rest)
name_step n m h k rest en eh = cc

scalar_step : (v w : List Piece) (rest : List Step) → v ≡ w → ◌≡◌ {A = List Step} (Scalar v ∷ rest) ((Scalar w ∷ []) ++ rest)
scalar_step v w rest e = cc

-- values in front of the same
value_same : (v w x y : List Piece) → v ++ x ≡ w ++ y → x ≡ y → v ≡ w
value_same v w x y e same = append_cancel_right v w y (ap (λ (p : List Piece). v ++ p) (sym same) ∙ e)

pub back_name : (levels : ℕ) (frames : List Frame) (pieces name colon more : List Piece) (has : Bool) (all : List Step)
    → pieces ≡ name ++ (colon ++ more) → IsName name → IsColon has colon → (has ≡ false → NotFirst (Stands 58) more)
    → Reads levels turn.Field frames pieces all → Back levels turn.Held frames more all (Name name has ∷ [])
back_name levels frames pieces name colon more has all cut n k none AtEnd = absurd (name_some name (colon ++ more) n cut)
back_name levels frames pieces name colon more has all cut n k none (AtName fs ps has' name' colon' x rest cut' n' k' reads) =
    let names = name_same name' name (colon' ++ x) (colon ++ more) n' n (sym cut' ∙ cut) in
    let colons = colon_same has' has colon' colon x more k' k names.1
    (λ h. none_first (Stands 58) x (λ piece others e is. held_no_colon levels frames x others rest piece reads e is)) none in
    to_reads levels turn.Held frames x more all (Name name has ∷ []) rest (name_step name' name has' has rest names.0 colons.0) colons.1 reads
back_name levels frames pieces name colon more has all cut n k none (AtClose angle in_list fs first x rest closes reads) =
    absurd (no_name_at name (colon ++ more) x first (close_of angle) n (sym cut) closes (close_bracket angle))

frame_list : (a b : Bool) (c d : Bool) (xs ys : List Frame) → frame a b ∷ xs ≡ frame c d ∷ ys → (b ≡ d) × (xs ≡ ys)
frame_list a b c d xs ys e =
    let same : frame a b ≡ frame c d = cc in
    (ap (λ (x : Frame). x.in_list) same, cc)

pub back_close : (levels : ℕ) (angle in_list : Bool) (frames all_frames : List Frame) (pieces more : List Piece) (mark : Piece) (all : List Step)
    → all_frames ≡ frame angle in_list ∷ frames → pieces ≡ mark ∷ more → Stands (close_of angle) mark
    → Reads levels turn.Field all_frames pieces all → Back levels (turn.After in_list) frames more all (Close ∷ [])
back_close levels angle in_list frames all_frames pieces more mark all ef e is AtEnd = cc
back_close levels angle in_list frames all_frames pieces more mark all ef e is (AtName fs ps has name colon x rest cut n k reads) =
    absurd (no_name_at name (colon ++ x) more mark (close_of angle) n (sym cut ∙ e) is (close_bracket angle))
back_close levels angle in_list frames all_frames pieces more mark all ef e is (AtClose angle' in_list' fs first x rest closes reads) =
    let same = frame_list angle' in_list' angle in_list fs frames ef in (
      rest,
      refl,
      subst (λ (b : Bool). Reads levels (turn.After b) frames more rest) same.0
          (subst (λ (f : List Frame). Reads levels (turn.After in_list') f more rest) same.1
          (subst (λ (p : List Piece). Reads levels (turn.After in_list') fs p rest) (tails first mark x more e) reads)),
    )

pub back_list : (levels : ℕ) (frames : List Frame) (pieces more : List Piece) (mark : Piece) (all : List Step)
    → pieces ≡ mark ∷ more → Stands 91 mark
    → Reads levels turn.Held frames pieces all → Back levels turn.First frames more all (OpenList ∷ [])
back_list levels frames pieces more mark all e is (AtList fs first x rest is' reads) =
    to_reads levels turn.First frames x more all (OpenList ∷ []) rest refl (tails first mark x more e) reads
back_list levels frames pieces more mark all e is (AtOne fs x rest reads) =
    absurd (no_value_at levels false frames pieces more all mark 91 reads e is (above 91 45 (lit< tt)) (below 91 123 (lit< tt)) (above 91 60 (lit< tt)))

pub back_one : (levels : ℕ) (frames : List Frame) (pieces : List Piece) (all : List Step) → NotFirst (Stands 91) pieces
    → Reads levels turn.Held frames pieces all → Back levels (turn.Value false) frames pieces all []
back_one levels frames pieces all not (AtList fs first x rest is reads) = absurd (not_first (Stands 91) first pieces x not refl is)
back_one levels frames pieces all not (AtOne fs x rest reads) = (all, refl, reads)

pub back_none : (levels : ℕ) (frames : List Frame) (pieces more : List Piece) (mark : Piece) (all : List Step)
    → pieces ≡ mark ∷ more → Stands 93 mark
    → Reads levels turn.First frames pieces all → Back levels (turn.After false) frames more all (CloseList ∷ [])
back_none levels frames pieces more mark all e is (AtNone fs first x rest is' reads) =
    to_reads levels (turn.After false) frames x more all (CloseList ∷ []) rest refl (tails first mark x more e) reads
back_none levels frames pieces more mark all e is (AtFirst fs x rest reads) =
    absurd (no_value_at levels true frames pieces more all mark 93 reads e is (above 93 45 (lit< tt)) (below 93 123 (lit< tt)) (above 93 60 (lit< tt)))

pub back_first : (levels : ℕ) (frames : List Frame) (pieces : List Piece) (all : List Step) → NotFirst (Stands 93) pieces
    → Reads levels turn.First frames pieces all → Back levels (turn.Value true) frames pieces all []
back_first levels frames pieces all not (AtNone fs first x rest is reads) = absurd (not_first (Stands 93) first pieces x not refl is)
back_first levels frames pieces all not (AtFirst fs x rest reads) = (all, refl, reads)

pub back_scalar : (levels : ℕ) (in_list : Bool) (frames : List Frame) (pieces value more : List Piece) (all : List Step)
    → pieces ≡ value ++ more → IsScalar value → (All IsString value → NotFirst IsString more)
    → Reads levels (turn.Value in_list) frames pieces all
    → Back levels (turn.After in_list) frames more all (Scalar value ∷ [])
back_scalar levels in_list frames pieces value more all cut scalar ends (AtScalar b fs ps value' x rest cut' scalar' reads) =
    let both = sym cut' ∙ cut in
    let behind : x ≡ more = scalar_same value' value x more scalar' scalar
    (λ strings. none_first IsString x (λ piece others e is. no_after_string levels in_list frames x others rest piece reads e is))
    ends both in
    to_reads levels (turn.After in_list) frames x more all (Scalar value ∷ []) rest
    (scalar_step value' value rest (value_same value' value x more both behind)) behind reads
back_scalar levels in_list frames pieces value more all cut scalar ends (AtOpen angle b fs first x rest less opens reads) =
    absurd (no_scalar_at value more x first (open_of angle) scalar (sym cut) opens (open_minus angle))

pub back_open : (levels : ℕ) (angle in_list : Bool) (frames : List Frame) (pieces more : List Piece) (mark : Piece) (all : List Step)
    → pieces ≡ mark ∷ more → Stands (open_of angle) mark → Reads levels (turn.Value in_list) frames pieces all
    → (length frames < levels) × Back levels turn.Field (frame angle in_list ∷ frames) more all (Open ∷ [])
back_open levels angle in_list frames pieces more mark all e is (AtScalar b fs ps value x rest cut scalar reads) =
    absurd (no_scalar_at value x more mark (open_of angle) scalar (sym cut ∙ e) is (open_minus angle))
back_open levels angle in_list frames pieces more mark all e is (AtOpen angle' b fs first x rest less opens reads) =
    let same = open_same angle' angle mark (same_first (Stands (open_of angle')) first mark x more e opens) is in (
      less,
      (
        rest,
        refl,
        subst (λ (a : Bool). Reads levels turn.Field (frame a in_list ∷ frames) more rest) same
            (subst (λ (p : List Piece). Reads levels turn.Field (frame angle' in_list ∷ frames) p rest) (tails first mark x more e) reads),
      ),
    )

pub back_mark : (levels : ℕ) (frames : List Frame) (pieces more : List Piece) (mark : Piece) (all : List Step)
    → pieces ≡ mark ∷ more → Stands 59 mark ⊎ Stands 44 mark
    → Reads levels (turn.After false) frames pieces all → Back levels turn.Field frames more all []
back_mark levels frames pieces more mark all e is (AtMark fs first x rest is' reads) =
    to_reads levels turn.Field frames x more all [] rest refl (tails first mark x more e) reads
back_mark levels frames pieces more mark all e (inl is) (AtNoMark fs x rest reads) =
    absurd (no_field_at levels frames pieces more all mark 59 reads e is (below 59 91 (lit< tt)) (below 59 125 (lit< tt)) (below 59 62 (lit< tt)))
back_mark levels frames pieces more mark all e (inr is) (AtNoMark fs x rest reads) =
    absurd (no_field_at levels frames pieces more all mark 44 reads e is (below 44 91 (lit< tt)) (below 44 125 (lit< tt)) (below 44 62 (lit< tt)))

pub back_no_mark : (levels : ℕ) (frames : List Frame) (pieces : List Piece) (all : List Step) → NotFirst (Stands 59) pieces
    → NotFirst (Stands 44) pieces → Reads levels (turn.After false) frames pieces all
    → Back levels turn.Field frames pieces all []
back_no_mark levels frames pieces all a b (AtMark fs first x rest (inl is) reads) = absurd (not_first (Stands 59) first pieces x a refl is)
back_no_mark levels frames pieces all a b (AtMark fs first x rest (inr is) reads) = absurd (not_first (Stands 44) first pieces x b refl is)
back_no_mark levels frames pieces all a b (AtNoMark fs x rest reads) = (all, refl, reads)

pub back_comma : (levels : ℕ) (frames : List Frame) (pieces more : List Piece) (mark : Piece) (all : List Step)
    → pieces ≡ mark ∷ more → Stands 44 mark
    → Reads levels (turn.After true) frames pieces all → Back levels (turn.Value true) frames more all []
back_comma levels frames pieces more mark all e is (AtComma fs first x rest is' reads) =
    to_reads levels (turn.Value true) frames x more all [] rest refl (tails first mark x more e) reads
back_comma levels frames pieces more mark all e is (AtLast fs first x rest is' reads) =
    absurd (marks_differ mark 44 93 (below 44 93 (lit< tt)) is (same_first (Stands 93) first mark x more e is'))

pub back_last : (levels : ℕ) (frames : List Frame) (pieces more : List Piece) (mark : Piece) (all : List Step)
    → pieces ≡ mark ∷ more → Stands 93 mark
    → Reads levels (turn.After true) frames pieces all → Back levels (turn.After false) frames more all (CloseList ∷ [])
back_last levels frames pieces more mark all e is (AtComma fs first x rest is' reads) =
    absurd (marks_differ mark 93 44 (above 93 44 (lit< tt)) is (same_first (Stands 44) first mark x more e is'))
back_last levels frames pieces more mark all e is (AtLast fs first x rest is' reads) =
    to_reads levels (turn.After false) frames x more all (CloseList ∷ []) rest refl (tails first mark x more e) reads

-- ---- where nothing can be read

pub field_never : (levels : ℕ) (frames : List Frame) (pieces before more : List Piece) (kind : TextFaultKind) (all : List Step)
    → (frames ≡ [] → pieces ≡ [] → ⊥) → pieces ≡ before ++ more → IsBroken kind before more
    → NotFirst (Stands 125) pieces → NotFirst (Stands 62) pieces
    → Reads levels turn.Field frames pieces all → ⊥
field_never levels frames pieces before more kind all some cut broken a b AtEnd = some refl refl
field_never levels frames pieces before more kind all some cut broken a b (AtName fs ps has name colon x rest cut' n k reads) =
    name_never kind before more name (colon ++ x) broken n (sym cut' ∙ cut)
field_never levels frames pieces before more kind all some cut broken a b (AtClose true in_list fs first x rest closes reads) =
    not_first (Stands 62) first pieces x b refl closes
field_never levels frames pieces before more kind all some cut broken a b (AtClose false in_list fs first x rest closes reads) =
    not_first (Stands 125) first pieces x a refl closes

pub end_never : (levels : ℕ) (angle : Bool) (frames : List Frame) (pieces more : List Piece) (mark : Piece) (all : List Step)
    → ((other in_list : Bool) (outer : List Frame) → frames ≡ frame other in_list ∷ outer → other ≢ angle)
    → pieces ≡ mark ∷ more → Stands (close_of angle) mark → Reads levels turn.Field frames pieces all → ⊥
end_never levels angle frames pieces more mark all others e is AtEnd = cc
end_never levels angle frames pieces more mark all others e is (AtName fs ps has name colon x rest cut n k reads) =
    no_name_at name (colon ++ x) more mark (close_of angle) n (sym cut ∙ e) is (close_bracket angle)
end_never levels angle frames pieces more mark all others e is (AtClose other in_list fs first x rest closes reads) =
    others other in_list fs refl (close_same other angle mark (same_first (Stands (close_of other)) first mark x more e closes) is)

pub value_never : (levels : ℕ) (in_list : Bool) (frames : List Frame) (pieces before more : List Piece) (all : List Step)
    → pieces ≡ before ++ more → IsNoScalar before more → NotFirst (Stands 123) pieces → NotFirst (Stands 60) pieces
    → Reads levels (turn.Value in_list) frames pieces all → ⊥
value_never levels in_list frames pieces before more all cut none a b (AtScalar c fs ps value x rest cut' scalar reads) =
    scalar_never before more value x none scalar (sym cut' ∙ cut)
value_never levels in_list frames pieces before more all cut none a b (AtOpen true c fs first x rest less opens reads) =
    not_first (Stands 60) first pieces x b refl opens
value_never levels in_list frames pieces before more all cut none a b (AtOpen false c fs first x rest less opens reads) =
    not_first (Stands 123) first pieces x a refl opens

pub after_never : (levels : ℕ) (frames : List Frame) (pieces : List Piece) (all : List Step) → NotFirst (Stands 44) pieces
    → NotFirst (Stands 93) pieces → Reads levels (turn.After true) frames pieces all → ⊥
after_never levels frames pieces all a b (AtComma fs first x rest is reads) = not_first (Stands 44) first pieces x a refl is
after_never levels frames pieces all a b (AtLast fs first x rest is reads) = not_first (Stands 93) first pieces x b refl is

number_first : (levels : ℕ) (frames : List Frame) (pieces more : List Piece) (piece : Piece) (all : List Step) → IsNumber piece
    → pieces ≡ piece ∷ more → Reads levels turn.Field frames pieces all → ⊥
number_first levels frames pieces more piece all n e AtEnd = cc
number_first levels frames pieces more piece all n e (AtName fs ps has name colon x rest cut is_name k reads) =
    elim (name_begins name (colon ++ x) more piece is_name (sym cut ∙ e)) [
      | inl word ↦ number_no_word piece word n
      | inr open_at ↦ number_no_mark piece 91 open_at n
    ]
number_first levels frames pieces more piece all n e (AtClose angle in_list fs first x rest closes reads) =
    number_no_mark piece (close_of angle) (same_first (Stands (close_of angle)) first piece x more e closes) n

pub no_field_number : (levels : ℕ) (frames : List Frame) (piece : Piece) (more : List Piece) (all : List Step) → IsNumber piece
    → Reads levels turn.Field frames (piece ∷ more) all → ⊥
no_field_number levels frames piece more all n reads = number_first levels frames (piece ∷ more) more piece all n refl reads

-- ---- one way through a message

nothing_left : (levels : ℕ) (frames : List Frame) (pieces : List Piece) (all : List Step) → frames ≡ [] → pieces ≡ []
    → Reads levels turn.Field frames pieces all → all ≡ []
nothing_left levels frames pieces all f e AtEnd = refl
nothing_left levels frames pieces all f e (AtName fs ps has name colon x rest cut n k reads) =
    absurd (name_some name (colon ++ x) n (sym e ∙ cut))
nothing_left levels frames pieces all f e (AtClose angle in_list fs first x rest closes reads) = cc

-- What is read is read in the same steps.
pub one_way : (levels : ℕ) (t : Turn) (frames : List Frame) (pieces : List Piece) (all others : List Step)
    → Reads levels t frames pieces all → Reads levels t frames pieces others → others ≡ all
one_way levels t frames pieces all others AtEnd second = nothing_left levels frames pieces others refl refl second
one_way levels t frames pieces all others (AtName fs ps has name colon more rest cut n k reads) second =
    let b = back_name levels frames pieces name colon more has others cut n k
    (λ h. none_first (Stands 58) more (λ piece left e is. held_no_colon levels frames more left rest piece reads e is)) second in
    b.1 ∙ ap (λ (r : List Step). Name name has ∷ r) (one_way levels turn.Held frames more rest b.0 reads b.2)
one_way levels t frames pieces all others (AtClose angle in_list fs mark more rest is reads) second =
    let b = back_close levels angle in_list fs frames pieces more mark others refl refl is second in
    b.1 ∙ ap (λ (r : List Step). Close ∷ r) (one_way levels (turn.After in_list) fs more rest b.0 reads b.2)
one_way levels t frames pieces all others (AtList fs mark more rest is reads) second =
    let b = back_list levels frames pieces more mark others refl is second in
    b.1 ∙ ap (λ (r : List Step). OpenList ∷ r) (one_way levels turn.First frames more rest b.0 reads b.2)
one_way levels t frames pieces all others (AtOne fs more rest reads) second =
    let b = back_one levels frames pieces others
    (none_first (Stands 91) pieces (λ piece left e is. no_value_at levels false frames pieces left all piece 91 reads e is
    (above 91 45 (lit< tt)) (below 91 123 (lit< tt)) (above 91 60 (lit< tt)))) second in
    b.1 ∙ one_way levels (turn.Value false) frames pieces all b.0 reads b.2
one_way levels t frames pieces all others (AtNone fs mark more rest is reads) second =
    let b = back_none levels frames pieces more mark others refl is second in
    b.1 ∙ ap (λ (r : List Step). CloseList ∷ r) (one_way levels (turn.After false) frames more rest b.0 reads b.2)
one_way levels t frames pieces all others (AtFirst fs more rest reads) second =
    let b = back_first levels frames pieces others
    (none_first (Stands 93) pieces (λ piece left e is. no_value_at levels true frames pieces left all piece 93 reads e is
    (above 93 45 (lit< tt)) (below 93 123 (lit< tt)) (above 93 60 (lit< tt)))) second in
    b.1 ∙ one_way levels (turn.Value true) frames pieces all b.0 reads b.2
one_way levels t frames pieces all others (AtScalar in_list fs ps value more rest cut scalar reads) second =
    let b = back_scalar levels in_list frames pieces value more others cut scalar
    (λ strings. none_first IsString more (λ piece left e is. no_after_string levels in_list frames more left rest piece reads e is)) second in
    b.1 ∙ ap (λ (r : List Step). Scalar value ∷ r) (one_way levels (turn.After in_list) frames more rest b.0 reads b.2)
one_way levels t frames pieces all others (AtOpen angle in_list fs mark more rest less is reads) second =
    let opened = back_open levels angle in_list frames pieces more mark others refl is second in
    let b = opened.1 in
    b.1 ∙ ap (λ (r : List Step). Open ∷ r) (one_way levels turn.Field (frame angle in_list ∷ frames) more rest b.0 reads b.2)
one_way levels t frames pieces all others (AtMark fs mark more rest is reads) second =
    let b = back_mark levels frames pieces more mark others refl is second in
    b.1 ∙ one_way levels turn.Field frames more rest b.0 reads b.2
one_way levels t frames pieces all others (AtNoMark fs more rest reads) second =
    let no_semicolon = none_first (Stands 59) pieces (λ piece left e is. no_field_at levels frames pieces left all piece 59 reads e is
    (below 59 91 (lit< tt)) (below 59 125 (lit< tt)) (below 59 62 (lit< tt))) in
    let no_comma = none_first (Stands 44) pieces (λ piece left e is. no_field_at levels frames pieces left all piece 44 reads e is
    (below 44 91 (lit< tt)) (below 44 125 (lit< tt)) (below 44 62 (lit< tt))) in
    let b = back_no_mark levels frames pieces others no_semicolon no_comma second in
    b.1 ∙ one_way levels turn.Field frames pieces all b.0 reads b.2
one_way levels t frames pieces all others (AtComma fs mark more rest is reads) second =
    let b = back_comma levels frames pieces more mark others refl is second in
    b.1 ∙ one_way levels (turn.Value true) frames more rest b.0 reads b.2
one_way levels t frames pieces all others (AtLast fs mark more rest is reads) second =
    let b = back_last levels frames pieces more mark others refl is second in
    b.1 ∙ ap (λ (r : List Step). CloseList ∷ r) (one_way levels (turn.After false) frames more rest b.0 reads b.2)

-- Values that are no messages: where one ends.
use Rattle.std.proofs.Common.{◌≡◌, ◌-◌, List, [], ◌∷◌, ◌++◌, length, slice_range, refl, sym, ◌∙◌, ap, subst, append_assoc}
use Rattle.std.specs.Prelude.{All}
use Rattle.std.proofs.lemmas.List.Elements.{All-cons, All-head, All-nil, All-push, All-tail}
use Rattle.protox_text_format.specs.Failure.{IsNumber}
use Rattle.protox_text_format.specs.Spelling.{IsPlain, IsScalar, IsString, Stands}
use Rattle.protox_text_format.specs.Spelling.IsScalar.{Negative, Plain, Strings}
use Rattle.protox_text_format.specs.declared.item.Piece.{Piece}
use Rattle.protox_text_format.specs.inner.Marks.{Begins, NotFirst}
use Rattle.protox_text_format.specs.inner.Reading.{Same}
use Rattle.protox_text_format.specs.inner.Reading.Same.{BothEnd, BothGoOn}
use Rattle.protox_text_format.specs.inner.Scalars.{IsNoScalar, NoScalar, ScalarThen, StringsThen, StringsTo}
use Rattle.protox_text_format.specs.inner.Scalars.IsNoScalar.{AtFront, BehindMinus}
use Rattle.protox_text_format.proofs.Firsts.{heads, not_first, number_plain, plain_no_mark, plain_no_string, range_all, range_to, string_no_mark, tails}

-- ---- strings

pub strings_front : (pieces : List Piece) → StringsTo pieces (slice_range pieces 0 (length pieces))
strings_front pieces =
    subst (λ (x : List Piece). StringsTo pieces x) (sym (range_all pieces))
    (record { strings = []; cut = refl; are = All-nil IsString })

pub strings_more : (pieces left more : List Piece) → StringsTo pieces left → Begins IsString left more
    → StringsTo pieces (slice_range pieces (length pieces - length more) (length pieces))
strings_more pieces left more to string =
    let cut : pieces ≡ (to.strings ++ string.piece ∷ []) ++ more =
    to.cut ∙ (ap (λ (x : List Piece). to.strings ++ x) string.cut ∙ sym (append_assoc to.strings (string.piece ∷ []) more)) in
    subst (λ (x : List Piece). StringsTo pieces x) (sym (range_to pieces (to.strings ++ string.piece ∷ []) more cut))
    (record { strings = to.strings ++ string.piece ∷ []; cut = cut; are = All-push IsString to.strings string.piece to.are string.is })

strings_same : (a b x y : List Piece) → All IsString a → All IsString b → NotFirst IsString x → NotFirst IsString y
    → a ++ x ≡ b ++ y → x ≡ y
strings_same [] [] x y i j nx ny e = e
strings_same [] (s ∷ b) x y i j nx ny e = absurd (not_first IsString s x (b ++ y) nx e (All-head IsString s b j))
strings_same (s ∷ a) [] x y i j nx ny e = absurd (not_first IsString s y (a ++ x) ny (sym e) (All-head IsString s a i))
strings_same (s ∷ a) (t ∷ b) x y i j nx ny e =
    strings_same a b x y (All-tail IsString s a i) (All-tail IsString t b j) nx ny (tails s t (a ++ x) (b ++ y) e)

-- ---- values

at_head : (P : Piece → Type 0) (first second : Piece) (xs ys : List Piece) → first ∷ xs ≡ second ∷ ys → P second → P first
at_head P first second xs ys e is = subst (λ (p : Piece). P p) (sym (heads first second xs ys e)) is

pub scalar_same : (v w x y : List Piece) → IsScalar v → IsScalar w → (All IsString v → NotFirst IsString x)
    → (All IsString w → NotFirst IsString y) → v ++ x ≡ w ++ y → x ≡ y
scalar_same v w x y (Plain p i) (Plain q j) nx ny e = tails p q x y e
scalar_same v w x y (Plain p i) (Negative m q j k) nx ny e =
    absurd (plain_no_mark p 45 i (at_head (Stands 45) p m x (q ∷ y) e j))
scalar_same v w x y (Plain p i) (Strings s b j) nx ny e =
    absurd (plain_no_string p i (at_head IsString p s x (b ++ y) e (All-head IsString s b j)))
scalar_same v w x y (Negative m p i k) (Plain q j) nx ny e =
    absurd (plain_no_mark q 45 j (at_head (Stands 45) q m y (p ∷ x) (sym e) i))
scalar_same v w x y (Negative m p i k) (Negative n q j l) nx ny e =
    tails p q x y (tails m n (p ∷ x) (q ∷ y) e)
scalar_same v w x y (Negative m p i k) (Strings s b j) nx ny e =
    absurd (string_no_mark m 45 (at_head IsString m s (p ∷ x) (b ++ y) e (All-head IsString s b j)) i)
scalar_same v w x y (Strings s a i) (Plain q j) nx ny e =
    absurd (plain_no_string q j (at_head IsString q s y (a ++ x) (sym e) (All-head IsString s a i)))
scalar_same v w x y (Strings s a i) (Negative n q j l) nx ny e =
    absurd (string_no_mark n 45 (at_head IsString n s (q ∷ y) (a ++ x) (sym e) (All-head IsString s a i)) j)
scalar_same v w x y (Strings s a i) (Strings t b j) nx ny e =
    strings_same (s ∷ a) (t ∷ b) x y i j (nx i) (ny j) e

pub none_same : (before wrong more : List Piece) → Same wrong more → IsNoScalar before wrong → IsNoScalar before more
none_same before wrong more BothEnd none = none
none_same before wrong more (BothGoOn piece left others) (AtFront w a b c) = AtFront (piece ∷ others) a b c
none_same before wrong more (BothGoOn piece left others) (BehindMinus minus w m a) = BehindMinus minus (piece ∷ others) m a

-- No value begins with what is none.
pub scalar_never : (before more v x : List Piece) → IsNoScalar before more → IsScalar v → v ++ x ≡ before ++ more → ⊥
scalar_never before more v x (AtFront w a b c) (Plain p i) e = not_first IsPlain p more x a (sym e) i
scalar_never before more v x (AtFront w a b c) (Negative m p i k) e = not_first (Stands 45) m more (p ∷ x) b (sym e) i
scalar_never before more v x (AtFront w a b c) (Strings s others i) e =
    not_first IsString s more (others ++ x) c (sym e) (All-head IsString s others i)
scalar_never before more v x (BehindMinus minus w m a) (Plain p i) e =
    plain_no_mark p 45 i (at_head (Stands 45) p minus x more e m)
scalar_never before more v x (BehindMinus minus w m a) (Negative n p i k) e =
    not_first IsPlain p more x a (sym (tails n minus (p ∷ x) more e)) k
scalar_never before more v x (BehindMinus minus w m a) (Strings s others i) e =
    string_no_mark s 45 (All-head IsString s others i) (at_head (Stands 45) s minus (others ++ x) more e m)

-- A number goes on what is read of a value.
pub number_completes : (before wrong : List Piece) (piece : Piece) → IsNoScalar before wrong → IsNumber piece
    → IsScalar (before ++ piece ∷ [])
number_completes before wrong piece (AtFront w a b c) n = Plain piece (number_plain piece n)
number_completes before wrong piece (BehindMinus minus w m a) n = Negative minus piece m (number_plain piece n)

-- ---- what the reader of values knows

pub plain_then : (pieces more : List Piece) → Begins IsPlain pieces more → ScalarThen pieces more
plain_then pieces more p = record {
  value = p.piece ∷ [];
  cut = p.cut;
  scalar = Plain p.piece p.is;
  ends = λ all. absurd (plain_no_string p.piece p.is (All-head IsString p.piece [] all));
}

pub negative_then : (pieces number more : List Piece) → Begins (Stands 45) pieces number → Begins IsPlain number more
    → ScalarThen pieces more
negative_then pieces number more m p = record {
  value = m.piece ∷ p.piece ∷ [];
  cut = m.cut ∙ ap (λ (x : List Piece). m.piece ∷ x) p.cut;
  scalar = Negative m.piece p.piece m.is p.is;
  ends = λ all. absurd (string_no_mark m.piece 45 (All-head IsString m.piece (p.piece ∷ []) all) m.is);
}

pub strings_then : (pieces others more : List Piece) → Begins IsString pieces others → StringsThen others more
    → ScalarThen pieces more
strings_then pieces others more s then = record {
  value = s.piece ∷ then.to.strings;
  cut = s.cut ∙ ap (λ (x : List Piece). s.piece ∷ x) then.to.cut;
  scalar = Strings s.piece then.to.strings (All-cons IsString s.piece then.to.strings s.is then.to.are);
  ends = λ all. then.ends;
}

pub none_at_front : (pieces : List Piece) → NotFirst IsPlain pieces → NotFirst (Stands 45) pieces
    → NotFirst IsString pieces → NoScalar pieces pieces
none_at_front pieces a b c = record { before = []; cut = refl; breaks = AtFront pieces a b c }

pub none_behind_minus : (pieces number : List Piece) → Begins (Stands 45) pieces number → NotFirst IsPlain number
    → NoScalar pieces number
none_behind_minus pieces number m a = record {
  before = m.piece ∷ [];
  cut = m.cut;
  breaks = BehindMinus m.piece number m.is a;
}

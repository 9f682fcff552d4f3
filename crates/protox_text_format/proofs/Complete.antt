-- Each message is read to its end.
use Rattle.std.proofs.Common.{◌≡◌, ℕ, suc, ◌+◌, ◌<◌, Bool, true, false, List, [], ◌∷◌, ◌++◌, length, refl, sym, subst, arith, append_assoc, append-nil}
use Rattle.protox_text_format.specs.Spelling.{AHeld, AMessage, AValue, Close, CloseList, Form, IsColon, IsEnd, IsName, Name, Open, Spells, Step, Values}
use Rattle.protox_text_format.specs.Spelling.IsEnd.{AMark, NoMark}
use Rattle.protox_text_format.specs.Spelling.Spells.{AField, AList, AScalar, InAngles, InBraces, LastValue, NextValue, NoField, NoValue, OneValue}
use Rattle.protox_text_format.specs.declared.item.Piece.{Piece}
use Rattle.protox_text_format.specs.declared.reading.Frame.{Frame}
use Rattle.protox_text_format.specs.declared.reading.Turn.{Turn}
use Rattle.protox_text_format.specs.declared.reading.Turn.TheVariants as turn
use Rattle.protox_text_format.specs.inner.Reading.{Reads, frame}
use Rattle.protox_text_format.specs.inner.Reading.Reads.{AtClose, AtComma, AtEnd, AtFirst, AtLast, AtList, AtMark, AtName, AtNoMark, AtNone, AtOne, AtOpen, AtScalar}

module _ (levels : ℕ) where
  -- where a reader stands behind what has this form
  abbrev Onward : Turn → Turn → ℕ → List Piece → List Step → Type 0
  Onward t after n ps ss = (frames : List Frame) (more : List Piece) (rest : List Step) → n + length frames ≡ levels
      → Reads levels after frames more rest → Reads levels t frames (ps ++ more) (ss ++ rest)

  abbrev Follow : Form → ℕ → List Piece → List Step → Type 0
  Follow AMessage n ps ss = Onward turn.Field turn.Field n ps ss
  Follow AHeld n ps ss = Onward turn.Held (turn.After false) n ps ss
  Follow AValue n ps ss = (in_list : Bool) → Onward (turn.Value in_list) (turn.After in_list) n ps ss
  Follow Values n ps ss = Onward (turn.Value true) (turn.After false) n ps ss

  moved : (t : Turn) (frames : List Frame) (a b : List Piece) (s u : List Step) → a ≡ b → s ≡ u
      → Reads levels t frames a s → Reads levels t frames b u
  moved t frames a b s u ep es reads =
      subst (λ (p : List Piece). Reads levels t frames p u) ep (subst (λ (x : List Step). Reads levels t frames a x) es reads)

  end_read : (end : List Piece) (frames : List Frame) (more : List Piece) (rest : List Step) → IsEnd end
      → Reads levels turn.Field frames more rest → Reads levels (turn.After false) frames (end ++ more) rest
  end_read end frames more rest NoMark reads = AtNoMark frames more rest reads
  end_read end frames more rest (AMark mark is) reads = AtMark frames mark more rest is reads

  field_cut : (name colon held end more next : List Piece)
      → (name ++ colon ++ held ++ end ++ more) ++ next ≡ name ++ (colon ++ (held ++ (end ++ (more ++ next))))
  field_cut name colon held end more next = simp append_assoc

  field_read : (n : ℕ) (has : Bool) (name colon held end more : List Piece) (steps rest : List Step) → IsName name
      → IsColon has colon → Follow AHeld n held steps → IsEnd end → Follow AMessage n more rest
      → Follow AMessage n (name ++ colon ++ held ++ end ++ more) (Name name has ∷ steps ++ rest)
  field_read n has name colon held end more steps rest is_name is_colon is_held is_end fields frames next last e reads =
      AtName frames ((name ++ colon ++ held ++ end ++ more) ++ next) has name colon (held ++ (end ++ (more ++ next)))
      ((steps ++ rest) ++ last) (field_cut name colon held end more next) is_name is_colon
      (moved turn.Held frames (held ++ (end ++ (more ++ next))) (held ++ (end ++ (more ++ next))) (steps ++ (rest ++ last)) ((steps ++ rest) ++ last)
      refl (sym (append_assoc steps rest last))
      (is_held frames (end ++ (more ++ next)) (rest ++ last) e
      (end_read end frames (more ++ next) (rest ++ last) is_end (fields frames next last e reads))))

  inside_cut : {A : Type 0} (o c : A) (inside more : List A) → (o ∷ inside ++ c ∷ []) ++ more ≡ o ∷ (inside ++ (c ∷ more))
  inside_cut o c inside more = append_assoc (o ∷ inside) (c ∷ []) more

  message_read : (n : ℕ) (angle : Bool) (open_at close_at : Piece) (inside : List Piece) (steps : List Step)
      → (in_list : Bool) (frames : List Frame) (more : List Piece) (rest : List Step) → suc n + length frames ≡ levels
      → ((mark : Piece) (more : List Piece) (rest : List Step) → length frames < levels
      → Reads levels turn.Field (frame angle in_list ∷ frames) more rest
      → Reads levels (turn.Value in_list) frames (open_at ∷ more) (Open ∷ rest))
      → ((more : List Piece) (rest : List Step) → Reads levels (turn.After in_list) frames more rest
      → Reads levels turn.Field (frame angle in_list ∷ frames) (close_at ∷ more) (Close ∷ rest))
      → Follow AMessage n inside steps → Reads levels (turn.After in_list) frames more rest
      → Reads levels (turn.Value in_list) frames ((open_at ∷ inside ++ close_at ∷ []) ++ more) ((Open ∷ steps ++ Close ∷ []) ++ rest)
  message_read n angle open_at close_at inside steps in_list frames more rest e opens closes message reads =
      moved (turn.Value in_list) frames (open_at ∷ (inside ++ (close_at ∷ more))) ((open_at ∷ inside ++ close_at ∷ []) ++ more)
      (Open ∷ (steps ++ (Close ∷ rest))) ((Open ∷ steps ++ Close ∷ []) ++ rest)
      (sym (inside_cut open_at close_at inside more)) (sym (inside_cut Open Close steps rest))
      (opens open_at (inside ++ (close_at ∷ more)) (steps ++ (Close ∷ rest)) (omega arith)
      (message (frame angle in_list ∷ frames) (close_at ∷ more) (Close ∷ rest) (omega arith) (closes more rest reads)))

  follow : (form : Form) (n : ℕ) (ps : List Piece) (ss : List Step) → Spells form n ps ss → Follow form n ps ss
  follow form n ps ss (NoField m) = λ frames more rest e reads. reads
  follow form n ps ss (AField m has name colon held end more steps rest is_name is_colon is_held is_end fields) =
      field_read n has name colon held end more steps rest is_name is_colon
      (follow AHeld n held steps is_held) is_end (follow AMessage n more rest fields)
  follow form n ps ss (OneValue m value steps is) = λ frames more rest e reads.
      AtOne frames (ps ++ more) (ss ++ rest) (follow AValue n ps ss is false frames more rest e reads)
  follow form n ps ss (NoValue m open_at close_at o c) = λ frames more rest e reads.
      AtList frames open_at (close_at ∷ more) (CloseList ∷ rest) o (AtNone frames close_at more rest c reads)
  follow form n ps ss (AList m open_at values steps o is) = λ frames more rest e reads.
      AtList frames open_at (values ++ more) (steps ++ rest) o
      (AtFirst frames (values ++ more) (steps ++ rest) (follow Values n values steps is frames more rest e reads))
  follow form n ps ss (AScalar m value scalar) = λ in_list frames more rest e reads.
      AtScalar in_list frames (ps ++ more) ps more rest refl scalar reads
  follow form n ps ss (InBraces m open_at close_at inside steps o is c) = λ in_list frames more rest e reads.
      message_read m false open_at close_at inside steps in_list frames more rest e
      (λ mark next last less inner. AtOpen false in_list frames open_at next last less o inner)
      (λ next last inner. AtClose false in_list frames close_at next last c inner)
      (follow AMessage m inside steps is) reads
  follow form n ps ss (InAngles m open_at close_at inside steps o is c) = λ in_list frames more rest e reads.
      message_read m true open_at close_at inside steps in_list frames more rest e
      (λ mark next last less inner. AtOpen true in_list frames open_at next last less o inner)
      (λ next last inner. AtClose true in_list frames close_at next last c inner)
      (follow AMessage m inside steps is) reads
  follow form n ps ss (LastValue m value close_at steps is c) = λ frames more rest e reads.
      moved (turn.Value true) frames (value ++ (close_at ∷ more)) ((value ++ close_at ∷ []) ++ more)
      (steps ++ (CloseList ∷ rest)) ((steps ++ CloseList ∷ []) ++ rest)
      (sym (append_assoc value (close_at ∷ []) more)) (sym (append_assoc steps (CloseList ∷ []) rest))
      (follow AValue n value steps is true frames (close_at ∷ more) (CloseList ∷ rest) e (AtLast frames close_at more rest c reads))
  follow form n ps ss (NextValue m value more comma steps rest is c values) = λ frames next last e reads.
      moved (turn.Value true) frames (value ++ (comma ∷ (more ++ next))) ((value ++ comma ∷ more) ++ next)
      (steps ++ (rest ++ last)) ((steps ++ rest) ++ last)
      (sym (append_assoc value (comma ∷ more) next)) (sym (append_assoc steps rest last))
      (follow AValue n value steps is true frames (comma ∷ (more ++ next)) (rest ++ last) e
      (AtComma frames comma (more ++ next) (rest ++ last) c (follow Values n more rest values frames next last e reads)))

  -- A message is read from the front to the end.
  pub message_reads : (ps : List Piece) (ss : List Step) → Spells AMessage levels ps ss → Reads levels turn.Field [] ps ss
  message_reads ps ss is =
      moved turn.Field [] (ps ++ []) ps (ss ++ []) ss (append-nil ps) (append-nil ss)
      (follow AMessage levels ps ss is [] [] [] (omega arith) AtEnd)

-- Where a block comment ends.
use Rattle.std.proofs.Common.{◌≡◌, ℕ, zero, suc, ◌+◌, ◌-◌, ◌<◌, ◌≤◌, ◌==◌, ◌&&◌, Bool, false, eqb, ltb, inl, inr, List, [], ◌∷◌, length, take, drop, get_or, refl, sym, ap, ◌∙◌, subst, length-drop, drop-drop, le_refl, arith, Option, Some, None, IfSome}
use Rattle.std.proofs.lemmas.Bool.{cases_Bool, eqb-true, ltb-true, ltb-false, and_parts}
use Rattle.std.proofs.lemmas.Bool.Decides.{nat_tests}
use Rattle.std.proofs.lemmas.List.Sums.{prefix_len-le-length}
use Rattle.std.proofs.lemmas.Str.{IsUtf8-drop, IsCharBoundary-after_ascii, IsCharBoundary-end, IsCharBoundary-from_drop}
use Rattle.std.specs.Prelude.{if◌then◌else◌}
use Rattle.std.specs.List.{prefix_len}
use Rattle.std.specs.Option.{option_map, option_or}
use Rattle.std.specs.Str.{IsUtf8, IsCharBoundary}
use Rattle.protox_fault.specs.declared.error.ParseErrorKind.{ParseErrorKind}
use Rattle.protox_lexeme.specs.BlockComments.{Mark, opens, closes, marks, marks_of, Ending, behind, closed, last_closed, ending, len_to, faults_to, content_to, comment_text, is_one_line}
use Rattle.protox_lexeme.specs.Lexemes.{Lexeme, block_comment}
use Rattle.protox_lexeme.specs.Lexicon.{is_blank}
use Rattle.protox_lexeme.specs.Shapes.{BlockComment}
use Rattle.protox_lexeme.proofs.Boundaries.{run_utf8, blank_ascii}
use Rattle.protox_lexeme.proofs.Each.{Every}
use Rattle.protox_lexeme.proofs.Nesting.{marks_at, no_marks}

-- A `/*` or `*/` stands in the text after the opening. One that closes has the bytes of `*/`.
abbrev pub Lies : List ℕ → Mark → Type 0
Lies text (opens at) = (2 ≤ at) × (at + 2 ≤ length text)
Lies text (closes at) = (2 ≤ at) × (at + 2 ≤ length text) × (get_or text at 0 ≡ 42) × (get_or text (at + 1) 0 ≡ 47)

marks_lie_from : (n : ℕ) (text : List ℕ) (at : ℕ) → 2 ≤ at → length text ≤ at + n → Every (Lies text) (marks at (drop at text))
marks_lie_from zero text at low h = subst (λ ms. Every (Lies text) ms) (sym (no_marks at (drop at text) (omega (arith, length-drop at text)))) tt
marks_lie_from (suc n) text at low h =
    let P : List Mark → Type 0 = λ ms. Every (Lies text) ms in
    elim (cases_Bool (ltb (at + 1) (length text))) [
      | inl more ↦
          let inside = ltb-true (at + 1) (length text) more in
          let one = marks_lie_from n text (at + 1) (omega arith) (omega arith) in
          let two = marks_lie_from n text (at + 2) (omega arith) (omega arith) in
          let turn = marks_at text at inside in
          elim (cases_Bool (eqb (get_or text at 0) 47 && eqb (get_or text (at + 1) 0) 42)) [
            | inl opener ↦
                let here : marks at (drop at text) ≡ opens at ∷ marks (at + 2) (drop (at + 2) text) = rw opener at turn in
                subst P (sym here) ((omega arith, omega arith), two)
            | inr other ↦ elim (cases_Bool (eqb (get_or text at 0) 42 && eqb (get_or text (at + 1) 0) 47)) [
              | inl closer ↦
                  let (star, slash) = and_parts (eqb (get_or text at 0) 42) (eqb (get_or text (at + 1) 0) 47) closer in
                  let here : marks at (drop at text) ≡ closes at ∷ marks (at + 2) (drop (at + 2) text) = rw (other, closer) at turn in
                  subst P (sym here) ((omega arith, omega arith, eqb-true (get_or text at 0) 42 star, eqb-true (get_or text (at + 1) 0) 47 slash), two)
              | inr none ↦
                  let here : marks at (drop at text) ≡ marks (at + 1) (drop (at + 1) text) = rw (other, none) at turn in
                  subst P (sym here) one
            ]
          ]
      | inr last ↦
          let over = ltb-false (at + 1) (length text) last in
          subst P (sym (no_marks at (drop at text) (omega (arith, length-drop at text)))) tt
    ]

pub marks_lie : (text : List ℕ) → Every (Lies text) (marks_of text)
marks_lie text = marks_lie_from (length text) text 2 (le_refl 2) (omega arith)

-- P holds for the `/*` and `*/` up to the end of the comment, and for the `*/` that ends it.
abbrev pub EndLies : (Mark → Type 0) → Option Ending → Type 0
EndLies P None = Unit {0}
EndLies P (Some e) = Every P e.before × P (closes e.at)

behind_lies : (P : Mark → Type 0) (m : Mark) (end : Option Ending) → P m → EndLies P end → EndLies P (option_map (behind m) end)
behind_lies P m None here h = tt
behind_lies P m (Some e) here (before, at) = ((here, before), at)

or_lies : (P : Mark → Type 0) (end other : Option Ending) → EndLies P end → EndLies P other → EndLies P (option_or end other)
or_lies P None other h g = g
or_lies P (Some e) other h g = h

closed_lies : (P : Mark → Type 0) (ms : List Mark) (inner : ℕ) → Every P ms → EndLies P (closed ms inner)
closed_lies P [] inner h = tt
closed_lies P (opens at ∷ ms) inner (here, h) = behind_lies P (opens at) (closed ms (suc inner)) here (closed_lies P ms (suc inner) h)
closed_lies P (closes at ∷ ms) zero (here, h) = (tt, here)
closed_lies P (closes at ∷ ms) (suc inner) (here, h) = behind_lies P (closes at) (closed ms inner) here (closed_lies P ms inner h)

last_lies : (P : Mark → Type 0) (ms : List Mark) → Every P ms → EndLies P (last_closed ms)
last_lies P [] h = tt
last_lies P (opens at ∷ ms) (here, h) = behind_lies P (opens at) (last_closed ms) here (last_lies P ms h)
last_lies P (closes at ∷ ms) (here, h) = or_lies P (option_map (behind (closes at)) (last_closed ms)) (Some (record { before = []; at = at })) (behind_lies P (closes at) (last_closed ms) here (last_lies P ms h)) (tt, here)

pub ending_lies : (text : List ℕ) → EndLies (Lies text) (ending (marks_of text))
ending_lies text =
    let h = marks_lie text in
    or_lies (Lies text) (closed (marks_of text) 0) (last_closed (marks_of text)) (closed_lies (Lies text) (marks_of text) 0 h) (last_lies (Lies text) (marks_of text) h)

-- Where the last `*/` of the comment stands.
pub mark_within : (text : List ℕ) (r : Option ℕ) → r ≡ option_map (λ e. e.at) (ending (marks_of text)) → IfSome r (λ k. (2 ≤ k) × (k + 2 ≤ length text) × (get_or text k 0 ≡ 42))
mark_within text r same =
    let P : Option ℕ → Type 0 = λ o. IfSome o (λ k. (2 ≤ k) × (k + 2 ≤ length text) × (get_or text k 0 ≡ 42)) in
    subst P (sym same) (go (ending (marks_of text)) (ending_lies text)) where
      go : (end : Option Ending) → EndLies (Lies text) end → IfSome (option_map (λ e. e.at) end) (λ k. (2 ≤ k) × (k + 2 ≤ length text) × (get_or text k 0 ≡ 42))
      go None h = tt
      go (Some e) (before, at) = (at.0, at.1, at.2)

-- A comment ends within the text.
to_bounds : (text : List ℕ) (end : Option Ending) → EndLies (Lies text) end → 2 ≤ length text → (2 ≤ len_to text end) × (len_to text end ≤ length text)
to_bounds text None h some = (some, le_refl _)
to_bounds text (Some e) (before, at) some =
    let blanks = prefix_len-le-length is_blank (drop (e.at + 2) text) in
    (omega arith, omega (arith, length-drop (e.at + 2) text))

pub len_bounds : (text : List ℕ) → 2 ≤ length text → (2 ≤ len_to text (ending (marks_of text))) × (len_to text (ending (marks_of text)) ≤ length text)
len_bounds text some = to_bounds text (ending (marks_of text)) (ending_lies text) some

-- What follows the comment is valid UTF-8.
to_utf8 : (text : List ℕ) (end : Option Ending) → EndLies (Lies text) end → IsUtf8 text → IsUtf8 (drop (len_to text end) text)
to_utf8 text None h u = IsUtf8-drop text (length text) u (IsCharBoundary-end text)
to_utf8 text (Some e) (before, at) u =
    let P : ℕ → Type 0 = λ k. IsUtf8 (drop k text) in
    let n = prefix_len is_blank (drop (e.at + 2) text) in
    let past : (e.at + 1) + 1 ≡ e.at + 2 = omega arith in
    let low : get_or text (e.at + 1) 0 < 128 = omega (arith, at.3) in
    let behind_mark = subst P past (IsUtf8-drop text (e.at + 1 + 1) u (IsCharBoundary-after_ascii text (e.at + 1) u (omega (arith, at.1)) low)) in
    let rest = run_utf8 is_blank (drop (e.at + 2) text) n blank_ascii behind_mark (le_refl n) in
    let Q : List ℕ → Type 0 = λ t. IsUtf8 t in
    subst Q (drop-drop n (e.at + 2) text) rest

pub len_utf8_after : (text : List ℕ) → IsUtf8 text → 2 ≤ length text → IsUtf8 (drop (len_to text (ending (marks_of text))) text)
len_utf8_after text u some = to_utf8 text (ending (marks_of text)) (ending_lies text) u

pub len_boundary : (text : List ℕ) → IsUtf8 text → 2 ≤ length text → IsCharBoundary text (len_to text (ending (marks_of text)))
len_boundary text u some = IsCharBoundary-from_drop text (len_to text (ending (marks_of text))) (len_bounds text some).1 (len_utf8_after text u some)

-- ---- the lexeme that the code reads

some_not_zero : (n : ℕ) → eqb (suc n) 0 ≡ false
some_not_zero n = grind (arith, nat_tests)

content_is : (faults : List ParseErrorKind) (mark : ℕ) (text : List ℕ) (e : Ending) → mark ≡ e.at → (if length faults == 0 then take (mark - 2) (drop 2 text) else []) ≡ content_to faults text (Some e)
content_is [] mark text e same = ap (λ k. take (k - 2) (drop 2 text)) same
content_is (f ∷ faults) mark text e same = rw (some_not_zero (length faults)) refl

abbrev comment_of : ℕ → ℕ → List ℕ → Bool → List ParseErrorKind → Lexeme
comment_of start stop value borrowed faults = record { start = start; stop = stop; shape = BlockComment value; borrowed = borrowed; faults = faults }

-- The lexeme with this end.
abbrev comment_to : ℕ → List ℕ → Option Ending → Lexeme
comment_to start text end =
    let faults = faults_to start (marks_of text) end in
    let content = content_to faults text end in
    comment_of start (start + len_to text end) (comment_text content) (is_one_line content) faults

module _ (start mark blanks : ℕ) (text value content : List ℕ) (borrowed : Bool) (faults : List ParseErrorKind) where
  pub found_some : Some mark ≡ option_map (λ e. e.at) (ending (marks_of text))
      → faults ≡ faults_to start (marks_of text) (ending (marks_of text))
      → content ≡ (if length faults == 0 then take (mark - 2) (drop 2 text) else [])
      → value ≡ comment_text content
      → borrowed ≡ is_one_line content
      → blanks ≡ prefix_len is_blank (drop (mark + 2) text)
      → comment_of start (start + mark + 2 + blanks) value borrowed faults ≡ block_comment start text
  found_some place same inside text_is one_line blank = go (ending (marks_of text)) place same where
    go : (end : Option Ending) → Some mark ≡ option_map (λ e. e.at) end → faults ≡ faults_to start (marks_of text) end
        → comment_of start (start + mark + 2 + blanks) value borrowed faults ≡ comment_to start text end
    go None place same = absurd (cc)
    go (Some e) place same =
        let here : mark ≡ e.at = cc in
        let tail : blanks ≡ prefix_len is_blank (drop (e.at + 2) text) = blank ∙ ap (λ k. prefix_len is_blank (drop (k + 2) text)) here in
        let size : start + mark + 2 + blanks ≡ start + (e.at + 2 + prefix_len is_blank (drop (e.at + 2) text)) = omega arith in
        let content_same : content ≡ content_to (faults_to start (marks_of text) (Some e)) text (Some e) = inside ∙ content_is faults mark text e here ∙ ap (λ fs. content_to fs text (Some e)) same in
        rw (size, text_is, one_line, content_same, same) refl

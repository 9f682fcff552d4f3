-- How the list of faults grows with the notes; and the list if no note is a fault: row by row, the
-- faults of each in its mode.
use Rattle.std.proofs.Common.{◌≡◌, ◌≤◌, ◌<◌, ◌+◌, ◌-◌, ℕ, zero, suc, Bool, false, cond, List, [], ◌∷◌, ◌++◌, refl, sym, ap, ◌∙◌, arith, append-nil, append_assoc}
use Rattle.std.proofs.lemmas.Bool.{lt-ltb, le-ltb}
use Rattle.std.specs.Prelude.{slice_index_or, nat_lt}
use Rattle.protox_fault.specs.Faults.{faults_in}
use Rattle.protox_fault.specs.declared.error.ParseErrorKind.{ParseErrorKind}
use Rattle.protox_grammar.specs.Told.{Notes, IsNoFault, IsFaultless}
use Rattle.protox_grammar.specs.declared.note.Note.{Note}
use Rattle.protox_grammar.specs.declared.note.Noted.{Noted}
use Rattle.protox_grammar.specs.declared.note.Noted.TheVariants.{Fault, TextFormat}
use Rattle.protox_grammar.proofs.Lemmas.{mode_at, mode_of}
use Rattle.protox_syntax.specs.inner.Merge.{Progress, progress, faults_of_rows, read_until, rows_to_read, with_noted, noted_in, merge_notes, beginning, merged_faults}
use Rattle.protox_syntax.proofs.Merging.{Fall, unset}

abbrev Faults : Type 0
Faults = List ParseErrorKind

-- a note where this many rows are left
abbrev pub note_at : ℕ → Noted → Note
note_at left noted = record { left = left; noted = noted }

-- ---- a list that begins with another

-- the second list begins with the first
abbrev pub Grows : Faults → Faults → Type 0
Grows a b = (more : Faults) × (b ≡ a ++ more)

grows-none : (a : Faults) → Grows a a
grows-none a = ([], sym (append-nil a))

pub grows-on : (a b c : Faults) → Grows a b → Grows b c → Grows a c
grows-on a b c g h = (g.0 ++ h.0, h.1 ∙ ap (λ v. v ++ h.0) g.1 ∙ append_assoc a g.0 h.0)

-- ---- many lists, one behind the other

-- the lists that `g` gives for n numbers from `low` on, joined in order
abbrev pub all_from : (ℕ → Faults) → ℕ → ℕ → Faults
all_from g low zero = []
all_from g low (suc n) = all_from g low n ++ g (low + n)

pub all-both : (g : ℕ → Faults) (low m n : ℕ) → all_from g low (m + n) ≡ all_from g low m ++ all_from g (low + m) n
all-both g low m zero = let e : m + zero ≡ m = omega arith in ap (all_from g low) e ∙ sym (append-nil (all_from g low m))
all-both g low m (suc n) =
    let count : m + suc n ≡ suc (m + n) = omega arith in
    let place : low + (m + n) ≡ (low + m) + n = omega arith in
    ap (all_from g low) count ∙ (λ i. all-both g low m n i ++ g (place i)) ∙ append_assoc (all_from g low m) (all_from g (low + m) n) (g ((low + m) + n))

-- the first of them in front
pub all-first : (g : ℕ → Faults) (low n : ℕ) → all_from g low (suc n) ≡ g low ++ all_from g (suc low) n
all-first g low n =
    let count : suc n ≡ 1 + n = omega arith in
    let here : low + 0 ≡ low = omega arith in
    let next : low + 1 ≡ suc low = omega arith in
    ap (all_from g low) count ∙ all-both g low 1 n ∙ (λ i. g (here i) ++ all_from g (next i) n)

pub all-same : (g h : ℕ → Faults) (low n : ℕ) → ((k : ℕ) → low ≤ k → k < low + n → g k ≡ h k) → all_from g low n ≡ all_from h low n
all-same g h low zero same = refl
all-same g h low (suc n) same = (λ i. all-same g h low n (λ k a b. same k a (omega (arith, b))) i ++ same (low + n) (omega arith) (omega arith) i)

-- ---- modes

-- no note is made where fewer rows are left
abbrev pub DownTo : ℕ → Notes → Type 0
DownTo l [] = Unit {0}
DownTo l (n ∷ ns) = (l ≤ n.left) × DownTo l ns

pub down-to-none : (ns : Notes) → DownTo 0 ns
down-to-none [] = tt
down-to-none (n ∷ ns) = (omega arith, down-to-none ns)

-- The notes behind a row don't change the row's mode.
pub mode-of-front : (m : Bool) (left l : ℕ) (a b : Notes) → Fall l b → l ≤ left → mode_at m left (a ++ b) ≡ mode_at m left a
mode-of-front m left l [] b h g = unset m left l b h g
mode-of-front m left l (n ∷ a) b h g = mode-of-front (cond (nat_lt left n.left) (mode_of m n.noted) m) left l a b h g

module _ (faults : List Faults) (total : ℕ) where
  -- the faults of a row and its gap in its mode by the notes, seen in a mode before them
  abbrev pub in_mode : Bool → Notes → ℕ → Faults
  in_mode m ns k = faults_in (mode_at m (total - suc k) ns) (slice_index_or faults k [])

  -- the same where these are all notes of a source
  abbrev pub seen_faults : Notes → ℕ → Faults
  seen_faults ns k = in_mode false ns k

  faults_of_rows-all : (b : Bool) (low n : ℕ) → faults_of_rows b faults low n ≡ all_from (in_mode b []) low n
  faults_of_rows-all b low zero = refl
  faults_of_rows-all b low (suc n) = ap (λ v. v ++ faults_in b (slice_index_or faults (low + n) [])) (faults_of_rows-all b low n)

  faults_of_rows-both : (b : Bool) (low m n : ℕ) → faults_of_rows b faults low (m + n) ≡ faults_of_rows b faults low m ++ faults_of_rows b faults (low + m) n
  faults_of_rows-both b low m n =
      faults_of_rows-all b low (m + n) ∙ all-both (in_mode b []) low m n ∙ sym (λ i. faults_of_rows-all b low m i ++ faults_of_rows-all b (low + m) n i)

  -- ---- the list grows

  merge_notes-both : (a b : Notes) (p : Progress) → merge_notes faults total (a ++ b) p ≡ merge_notes faults total b (merge_notes faults total a p)
  merge_notes-both [] b p = refl
  merge_notes-both (x ∷ a) b p = merge_notes-both a b (noted_in faults total x p)

  read-grows : (left : ℕ) (p : Progress) → Grows p.errors (read_until faults total left p).errors
  read-grows left p = (faults_of_rows p.text_format faults p.next (rows_to_read total left p.next), refl)

  noted-grows : (n : Noted) (p : Progress) → Grows p.errors (with_noted n p).errors
  noted-grows (Fault f) p = (f ∷ [], refl)
  noted-grows (TextFormat on) p = grows-none p.errors

  merge_notes-grows : (xs : Notes) (p : Progress) → Grows p.errors (merge_notes faults total xs p).errors
  merge_notes-grows [] p = grows-none p.errors
  merge_notes-grows (x ∷ xs) p =
      let q = read_until faults total x.left p in
      let r = noted_in faults total x p in
      grows-on p.errors r.errors (merge_notes faults total xs r).errors
      (grows-on p.errors q.errors r.errors (read-grows x.left p) (noted-grows x.noted q))
      (merge_notes-grows xs r)

  rest-grows : (xs : Notes) (left : ℕ) (p : Progress) → Grows p.errors (read_until faults total left (merge_notes faults total xs p)).errors
  rest-grows xs left p =
      let q = merge_notes faults total xs p in
      grows-on p.errors q.errors (read_until faults total left q).errors (merge_notes-grows xs p) (read-grows left q)

  -- reading on to where fewer rows are left
  further : (l left : ℕ) (p : Progress) → left ≤ l → Grows (read_until faults total l p).errors (read_until faults total left p).errors
  further l left p h =
      let early = rows_to_read total l p.next in
      let late = (total - left) - (p.next + early) in
      let count : rows_to_read total left p.next ≡ early + late = omega (arith, h) in (
        faults_of_rows p.text_format faults (p.next + early) late,
        ap (λ v. p.errors ++ faults_of_rows p.text_format faults p.next v) count
            ∙ ap (λ v. p.errors ++ v) (faults_of_rows-both p.text_format p.next early late)
            ∙ sym (append_assoc p.errors (faults_of_rows p.text_format faults p.next early) (faults_of_rows p.text_format faults (p.next + early) late)),
      )

  past : (l left : ℕ) (b : Notes) (p : Progress) → Fall l b → left ≤ l → Grows (read_until faults total l p).errors (read_until faults total left (merge_notes faults total b p)).errors
  past l left [] p h g = further l left p g
  past l left (x ∷ xs) p h g =
      let q = read_until faults total x.left p in
      let r = noted_in faults total x p in
      grows-on (read_until faults total l p).errors q.errors (read_until faults total left (merge_notes faults total xs r)).errors
      (further l x.left p h.0)
      (grows-on q.errors r.errors (read_until faults total left (merge_notes faults total xs r)).errors (noted-grows x.noted q) (rest-grows xs left r))

  -- A noted fault follows the list up to where it is noted.
  pub merged_faults-note : (a b : Notes) (f : ParseErrorKind) (l left : ℕ) → (more : Faults) × (merged_faults faults total (a ++ note_at l (Fault f) ∷ b) left ≡ merged_faults faults total a l ++ f ∷ more)
  merged_faults-note a b f l left =
      let p = merge_notes faults total a beginning in
      let r = rest-grows b left (noted_in faults total (note_at l (Fault f)) p) in (
        r.0,
        ap (λ q. (read_until faults total left q).errors) (merge_notes-both a (note_at l (Fault f) ∷ b) beginning)
            ∙ r.1
            ∙ append_assoc (merged_faults faults total a l) (f ∷ []) r.0,
      )

  -- So it is behind a note that is made where no more rows are left.
  pub merged_faults-behind : (a : Notes) (n : Note) (b : Notes) (l left : ℕ) → n.left ≤ l → Grows (merged_faults faults total a l) (merged_faults faults total (a ++ n ∷ b) left)
  merged_faults-behind a n b l left h =
      let p = merge_notes faults total a beginning in
      let q = read_until faults total n.left p in
      let r = noted_in faults total n p in
      let g = grows-on (read_until faults total l p).errors q.errors (read_until faults total left (merge_notes faults total b r)).errors (further l n.left p h)
      (grows-on q.errors r.errors (read_until faults total left (merge_notes faults total b r)).errors (noted-grows n.noted q) (rest-grows b left r)) in
      (g.0, ap (λ v. (read_until faults total left v).errors) (merge_notes-both a (n ∷ b) beginning) ∙ g.1)

  -- ---- if no note is a fault, the list is exact

  abbrev Exact : ℕ → Notes → Type 0
  Exact l ns = (e : Faults) (i : ℕ) (m : Bool) → (read_until faults total l (merge_notes faults total ns (progress e i m))).errors ≡ e ++ all_from (in_mode m ns) i (rows_to_read total l i)

  none-exact : (l : ℕ) → Exact l []
  none-exact l e i m = ap (λ v. e ++ v) (faults_of_rows-all m i (rows_to_read total l i))

  one-exact : (l left : ℕ) (v : Noted) (ns : Notes) → IsNoFault v → Fall left ns → l ≤ left → Exact l ns → Exact l (note_at left v ∷ ns)
  one-exact l left (Fault f) ns none fall down ih e i m = absurd none
  one-exact l left (TextFormat on) ns none fall down ih e i m =
      ih (e ++ faults_of_rows m faults i c) (i + c) on
      ∙ append_assoc e (faults_of_rows m faults i c) (all_from (in_mode on ns) (i + c) rest)
      ∙ ap (λ v. e ++ v) ((λ j. early j ++ late j) ∙ sym (all-both g i c rest) ∙ ap (all_from g i) (sym count))
    where
      c : ℕ
      c = rows_to_read total left i

      rest : ℕ
      rest = rows_to_read total l (i + c)

      g : ℕ → Faults
      g = in_mode m (note_at left (TextFormat on) ∷ ns)

      count : rows_to_read total l i ≡ c + rest
      count = omega (arith, down)

      before : (k : ℕ) → i ≤ k → k < i + c → mode_at m (total - suc k) [] ≡ mode_at m (total - suc k) (note_at left (TextFormat on) ∷ ns)
      before k a b =
          let far : left ≤ total - suc k = omega (arith, a, b) in
          sym (ap (λ v. mode_at (cond v on m) (total - suc k) ns) (le-ltb (total - suc k) left far) ∙ unset m (total - suc k) left ns fall far)

      behind : (k : ℕ) → i + c ≤ k → k < (i + c) + rest → mode_at on (total - suc k) ns ≡ mode_at m (total - suc k) (note_at left (TextFormat on) ∷ ns)
      behind k a b =
          let near : total - suc k < left = omega (arith, a, b, down) in
          sym (ap (λ v. mode_at (cond v on m) (total - suc k) ns) (lt-ltb (total - suc k) left near))

      early : faults_of_rows m faults i c ≡ all_from g i c
      early = faults_of_rows-all m i c ∙ all-same (in_mode m []) g i c (λ k a b. ap (λ v. faults_in v (slice_index_or faults k [])) (before k a b))

      late : all_from (in_mode on ns) (i + c) rest ≡ all_from g (i + c) rest
      late = all-same (in_mode on ns) g (i + c) rest (λ k a b. ap (λ v. faults_in v (slice_index_or faults k [])) (behind k a b))

  all-exact : (l : ℕ) (ns : Notes) (bound : ℕ) → IsFaultless ns → Fall bound ns → DownTo l ns → Exact l ns
  all-exact l [] bound f h d = none-exact l
  all-exact l (n ∷ ns) bound f h d = one-exact l n.left n.noted ns f.0 h.1 d.0 (all-exact l ns n.left f.1 h.1 d.1)

  -- If no note is a fault, the list up to a row holds the faults of each row before it in its mode,
  -- in order.
  pub merged_faults-rows : (ns : Notes) (bound l : ℕ) → IsFaultless ns → Fall bound ns → DownTo l ns → merged_faults faults total ns l ≡ all_from (seen_faults ns) 0 (total - l)
  merged_faults-rows ns bound l f h d =
      let count : rows_to_read total l 0 ≡ total - l = omega arith in
      all-exact l ns bound f h d [] 0 false ∙ ap (all_from (seen_faults ns) 0) count

  -- the same up to the end
  pub merged_faults-exact : (ns : Notes) (bound : ℕ) → IsFaultless ns → Fall bound ns → merged_faults faults total ns 0 ≡ all_from (seen_faults ns) 0 total
  merged_faults-exact ns bound f h =
      let count : total - 0 ≡ total = omega arith in
      merged_faults-rows ns bound 0 f h (down-to-none ns) ∙ ap (all_from (seen_faults ns) 0) count

-- The `/*` and `*/` of a block comment.
use Rattle.std.proofs.Common.{◌≡◌, ℕ, zero, suc, ◌+◌, ◌-◌, ◌<◌, ◌≤◌, ◌==◌, ◌&&◌, ◌⊎◌, inl, inr, List, [], ◌∷◌, ◌++◌, length, drop, get_or, refl, sym, ap, ◌∙◌, append_assoc, append-nil, add-one, drop-cons, arith, Option, Some, None}
use Rattle.std.specs.Prelude.{codes, if◌then◌else◌}
use Rattle.std.specs.Option.{option_map, option_or}
use Rattle.protox_fault.specs.declared.error.ParseErrorKind.{ParseErrorKind}
use Rattle.protox_fault.specs.declared.error.ParseErrorKind.TheVariants.{UnexpectedEof}
use Rattle.protox_lexeme.specs.BlockComments.{Mark, opens, closes, Ending, marks, behind, closed, last_closed, ending, nested_fault, nested_faults, faults_to}
use Rattle.protox_lexeme.specs.declared.block_comment.Mark as code
use Rattle.protox_lexeme.specs.declared.block_comment.Mark.TheVariants as variant
use Rattle.protox_lexeme.specs.inner.Nesting.{in_front, run}

pub run_opens : (start at : ℕ) (ms : List Mark) (inner : ℕ) (last : Option ℕ) (settled since : List ParseErrorKind)
    → run start (opens at ∷ ms) inner last settled since ≡ run start ms (inner + 1) last settled (since ++ nested_fault start at ∷ [])
run_opens start at ms inner last settled since = ap (λ n. run start ms n last settled (since ++ nested_fault start at ∷ [])) (sym (add-one inner))

pub run_closes : (start at : ℕ) (ms : List Mark) (inner : ℕ) (last : Option ℕ) (settled since : List ParseErrorKind) → 0 < inner
    → run start (closes at ∷ ms) inner last settled since ≡ run start ms (inner - 1) (Some at) (settled ++ since) []
run_closes start at ms zero last settled since h = absurd (omega arith)
run_closes start at ms (suc inner) last settled since h =
    let same : inner ≡ suc inner - 1 = omega arith in
    ap (λ n. run start ms n (Some at) (settled ++ since) []) same

-- What the `/*` and `*/` to come lead to, given where the comment ends.
abbrev outcome : ℕ → List Mark → Option ℕ → List ParseErrorKind → List ParseErrorKind → Option Ending → Option Ending → Option ℕ × List ParseErrorKind
outcome start ms last settled since (Some e) f = (Some e.at, (settled ++ since) ++ nested_faults start e.before)
outcome start ms last settled since None (Some e) = (Some e.at, (settled ++ since) ++ nested_faults start e.before)
outcome start ms (Some at) settled since None None = (Some at, settled)
outcome start ms None settled since None None = (None, (settled ++ since) ++ (nested_faults start ms ++ UnexpectedEof (codes "comment terminator") ∷ []))

push_before : (xs ys : List ParseErrorKind) (f : ParseErrorKind) (zs : List ParseErrorKind) → (xs ++ (ys ++ f ∷ [])) ++ zs ≡ (xs ++ ys) ++ f ∷ zs
push_before xs ys f zs = simp append_assoc

outcome_opens : (start at : ℕ) (ms : List Mark) (last : Option ℕ) (settled since : List ParseErrorKind) (e f : Option Ending)
    → outcome start ms last settled (since ++ nested_fault start at ∷ []) e f ≡ outcome start (opens at ∷ ms) last settled since (option_map (behind (opens at)) e) (option_map (behind (opens at)) f)
outcome_opens start at ms last settled since (Some e) f = ap (λ t. (Some e.at, t)) (push_before settled since (nested_fault start at) (nested_faults start e.before))
outcome_opens start at ms last settled since None (Some f) = ap (λ t. (Some f.at, t)) (push_before settled since (nested_fault start at) (nested_faults start f.before))
outcome_opens start at ms (Some p) settled since None None = refl
outcome_opens start at ms None settled since None None =
    ap (λ t. (None, t)) (push_before settled since (nested_fault start at) (nested_faults start ms ++ UnexpectedEof (codes "comment terminator") ∷ []))

outcome_closes : (start at : ℕ) (ms : List Mark) (last : Option ℕ) (settled since : List ParseErrorKind) (e f : Option Ending)
    → outcome start ms (Some at) (settled ++ since) [] e f
    ≡ outcome start (closes at ∷ ms) last settled since (option_map (behind (closes at)) e) (option_or (option_map (behind (closes at)) f) (Some (record { before = []; at = at })))
outcome_closes start at ms last settled since (Some e) f = ap (λ t. (Some e.at, t ++ nested_faults start e.before)) (append-nil (settled ++ since))
outcome_closes start at ms last settled since None (Some f) = ap (λ t. (Some f.at, t ++ nested_faults start f.before)) (append-nil (settled ++ since))
outcome_closes start at ms last settled since None None = ap (λ t. (Some at, t)) (sym (append-nil (settled ++ since)))

run_is : (start : ℕ) (ms : List Mark) (inner : ℕ) (last : Option ℕ) (settled since : List ParseErrorKind)
    → run start ms inner last settled since ≡ outcome start ms last settled since (closed ms inner) (last_closed ms)
run_is start [] inner None settled since = refl
run_is start [] inner (Some at) settled since = refl
run_is start (opens at ∷ ms) inner last settled since =
    run_is start ms (suc inner) last settled (since ++ nested_fault start at ∷ []) ∙ outcome_opens start at ms last settled since (closed ms (suc inner)) (last_closed ms)
run_is start (closes at ∷ ms) zero last settled since = ap (λ t. (Some at, t)) (sym (append-nil (settled ++ since)))
run_is start (closes at ∷ ms) (suc inner) last settled since =
    run_is start ms inner (Some at) (settled ++ since) [] ∙ outcome_closes start at ms last settled since (closed ms inner) (last_closed ms)

outcome_ending : (start : ℕ) (ms : List Mark) (e f : Option Ending) → outcome start ms None [] [] e f ≡ (option_map (λ x. x.at) (option_or e f), faults_to start ms (option_or e f))
outcome_ending start ms (Some e) f = refl
outcome_ending start ms None (Some f) = refl
outcome_ending start ms None None = refl

-- Read from the first on, they give the end of the comment and its faults.
pub run_ending : (start : ℕ) (ms : List Mark) → run start ms 0 None [] [] ≡ (option_map (λ e. e.at) (ending ms), faults_to start ms (ending ms))
run_ending start ms = run_is start ms 0 None [] [] ∙ outcome_ending start ms (closed ms 0) (last_closed ms)

-- A comment without a fault has no `/*` or `*/` before the `*/` that closes it.
pub faultless : (start : ℕ) (ms : List Mark) → faults_to start ms (ending ms) ≡ [] → (k : ℕ) × (rest : List Mark) × (ms ≡ closes k ∷ rest)
faultless start [] h = absurd (cc)
faultless start (closes k ∷ ms) h = (k, ms, refl)
faultless start (opens k ∷ ms) h = absurd (go (closed ms 1) (last_closed ms) h) where
  go : (e f : Option Ending) → faults_to start (opens k ∷ ms) (option_or (option_map (behind (opens k)) e) (option_map (behind (opens k)) f)) ≡ [] → ⊥
  go (Some e) f h = absurd (cc)
  go None (Some f) h = absurd (cc)
  go None None h = absurd (cc)

-- If no level is open, a `*/` ends the comment.
pub run_ends : (start at : ℕ) (ms : List Mark) (inner : ℕ) (last : Option ℕ) (settled since : List ParseErrorKind) → inner ≡ 0 → run start (closes at ∷ ms) inner last settled since ≡ (Some at, settled ++ since)
run_ends start at ms zero last settled since h = refl
run_ends start at ms (suc inner) last settled since h = absurd (omega arith)

-- A `/*` is no `*/`.
pub no_open : (mark : Option code.Mark) (at : ℕ) (ms : List Mark) (k : ℕ) (rest : List Mark) → in_front mark at ms ≡ closes k ∷ rest → (mark ≡ Some variant.Closes) ⊎ (mark ≡ None)
no_open (Some variant.Opens) at ms k rest h = absurd (cc)
no_open (Some variant.Closes) at ms k rest h = inl refl
no_open None at ms k rest h = inr refl

-- ---- `/*` and `*/` at a place

two_more : (bytes : List ℕ) (at : ℕ) → at + 1 < length bytes → drop at bytes ≡ get_or bytes at 0 ∷ (get_or bytes (at + 1) 0 ∷ drop (at + 2) bytes)
two_more bytes at h =
    let here : at < length bytes = omega arith in
    let one = drop-cons bytes at 0 here in
    let next : suc at < length bytes = omega arith in
    let two = drop-cons bytes (suc at) 0 next in
    let same : suc at ≡ at + 1 = omega arith in
    let past : suc (suc at) ≡ at + 2 = omega arith in
    one ∙ ap (λ t. get_or bytes at 0 ∷ t) (two ∙ ap (λ k. get_or bytes k 0 ∷ drop (suc (suc at)) bytes) same ∙ ap (λ k. get_or bytes (at + 1) 0 ∷ drop k bytes) past)

-- The `/*` and `*/` from a place on, by the two bytes there.
pub marks_at : (bytes : List ℕ) (at : ℕ) → at + 1 < length bytes
    → marks at (drop at bytes)
    ≡ (if get_or bytes at 0 == 47 && get_or bytes (at + 1) 0 == 42 then opens at ∷ marks (at + 2) (drop (at + 2) bytes)
    else if get_or bytes at 0 == 42 && get_or bytes (at + 1) 0 == 47 then closes at ∷ marks (at + 2) (drop (at + 2) bytes)
    else marks (at + 1) (drop (at + 1) bytes))
marks_at bytes at h =
    let next : at + 1 < length bytes = h in
    let one = drop-cons bytes (at + 1) 0 next in
    let past : suc (at + 1) ≡ at + 2 = omega arith in
    let rest : drop (at + 1) bytes ≡ get_or bytes (at + 1) 0 ∷ drop (at + 2) bytes = one ∙ ap (λ k. get_or bytes (at + 1) 0 ∷ drop k bytes) past in
    ap (marks at) (two_more bytes at h)
    ∙ ap (λ t. if get_or bytes at 0 == 47 && get_or bytes (at + 1) 0 == 42 then opens at ∷ marks (at + 2) (drop (at + 2) bytes)
    else if get_or bytes at 0 == 42 && get_or bytes (at + 1) 0 == 47 then closes at ∷ marks (at + 2) (drop (at + 2) bytes)
    else marks (at + 1) t) (sym rest)

pub no_marks : (at : ℕ) (text : List ℕ) → length text ≤ 1 → marks at text ≡ []
no_marks at [] h = refl
no_marks at (b ∷ []) h = refl
no_marks at (b ∷ (c ∷ text)) h = absurd (omega arith)

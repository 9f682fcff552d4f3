-- Ranges, reserved and extensions statements are read exactly.
use Rattle.std.proofs.Common.{◌≡◌, ◌-◌, append-nil, append_assoc, suc, Bool, true, false, ◌||◌, List, [], ◌∷◌, ◌++◌, length, Option, Some, None, Result, Ok, Err, refl, sym, ap, subst, ◌∙◌, arith}
use Rattle.std.specs.Prelude.{codes, slice_get}
use Rattle.protox_ast.specs.Places.{Place}
use Rattle.protox_ast.specs.Spelling as s
use Rattle.protox_ast.specs.declared.ast.OptionList.{OptionList}
use Rattle.protox_ast.specs.declared.ast.ReservedKind as kind_type
use Rattle.protox_ast.specs.declared.ast.ReservedKind.TheVariants.{Ranges, Names}
use Rattle.protox_ast.specs.declared.ast.ReservedRange.{ReservedRange}
use Rattle.protox_ast.specs.declared.ast.ReservedRangeEnd as end_type
use Rattle.protox_ast.specs.declared.ast.ReservedRangeEnd.TheVariants as range_ends
use Rattle.protox_lexeme.specs.Shapes.{Mark, Rows}
use Rattle.protox_grammar.specs.Class.{Set, among, in_set, none, only, union, within}
use Rattle.protox_grammar.specs.Reader as reader
use Rattle.protox_grammar.specs.Reader.{Reader, Refusal, ◌>>=◌, folded, fixed, mapped, seq}
use Rattle.protox_grammar.specs.Token as token
use Rattle.protox_grammar.proofs.Lemmas.{push}
use Rattle.protox_rows.specs.Expected.{named, allowed}
use Rattle.protox_rows.specs.declared.expected.Expected.{Expected}
use Rattle.protox_rows.specs.declared.expected.Expected.TheVariants as expected
use Rattle.protox_rows.specs.inner.Names as names
use Rattle.protox_rows.specs.inner.Words as rows
use Rattle.protox_rows.specs.inner.Words.{always, and_then}
use Rattle.protox_rows.proofs.Lemmas.{Exact, begun_with, choice-exact, int-exact, last_more}
use Rattle.protox_rows.proofs.Lemmas.{list-exact, list_more, mapped-exact, mark-exact, option-exact}
use Rattle.protox_rows.proofs.Lemmas.{reread, seq-exact, strings-exact, tail-exact, tail_more}
use Rattle.protox_rows.proofs.Lemmas.{under, word-exact}
use Rattle.protox_declarations.specs.inner.Options as options_rule
use Rattle.protox_declarations.specs.inner.OptionWords as options
use Rattle.protox_declarations.proofs.ExactOptions.{list-exact-of}
use Rattle.protox_declarations.specs.inner.Ranges as rule
use Rattle.protox_declarations.specs.inner.BlockWords as said

-- ---- ranges

-- The tokens with which a range would go on: `to`, if it has no end.
abbrev pub end_more : end_type.ReservedRangeEnd → Set
end_more range_ends.None = only token.to
end_more (range_ends.Int x) = none
end_more (range_ends.Max x) = none

abbrev pub range_more : ReservedRange → Set
range_more x = end_more x.end

pub range_end-exact : Exact (rule.range_end).code said.range_end expected.To (only token.to) end_more
unfolding rule.range_end said.range_end
range_end-exact = mapped-exact end_more _ (λ x. refl)
    (seq-exact (word-exact (codes "to") token.to refl (omega arith) expected.To)
    (λ m. choice-exact (begun_with (among (token.an_integer ∷ token.minus ∷ [])) (λ k. swapped (only token.minus k) (only token.an_integer k)) (mapped-exact end_more _ (λ x. refl) int-exact))
    (mapped-exact end_more _ (λ x. refl) (word-exact (codes "max") token.max refl (omega arith) expected.IntOrMax)) (λ x. refl)) (λ m. refl) (λ m. refl))
  where
    swapped : (m i : Bool) → m || i ≡ i || (m || false)
    swapped true true = refl
    swapped true false = refl
    swapped false true = refl
    swapped false false = refl

-- int, and `to` with an end, if there is one.
pub range-exact : Exact (rule.range).code said.range expected.Int (union (only token.minus) (only token.an_integer)) range_more
unfolding rule.range rule.stop said.range
range-exact = mapped-exact range_more _ (λ x. refl) (reread _ (λ xs. same (names.int).code (rule.range_end).code xs) (mapped-exact (λ x. end_more x.1) stopped more (tail-exact int-exact range_end-exact)))
  where
    stopped : {A : Type 0} → A × Option end_type.ReservedRangeEnd → A × end_type.ReservedRangeEnd
    stopped x = (x.0, rule.end_of x.1)

    more : {A : Type 0} (x : A × Option end_type.ReservedRangeEnd) → tail_more (λ (y : A). none) end_more (only token.to) x ≡ end_more (rule.end_of x.1)
    more (x, None) = refl
    more (x, Some y) = refl

    inner : {A : Type 0} (x : A) (v : Result (Option end_type.ReservedRangeEnd × Rows Place) Refusal) → ((v >>= λ y. Ok ((x, y.0), y.1)) >>= under stopped) ≡ ((v >>= under rule.end_of) >>= λ y. Ok ((x, y.0), y.1))
    inner x (Ok y) = refl
    inner x (Err e) = refl

    outer : {A : Type 0} (b : Reader Place (Option end_type.ReservedRangeEnd)) (v : Result (A × Rows Place) Refusal) → ((v >>= λ x. b x.1 >>= λ y. Ok ((x.0, y.0), y.1)) >>= under stopped) ≡ (v >>= λ x. (b x.1 >>= under rule.end_of) >>= λ y. Ok ((x.0, y.0), y.1))
    outer b (Ok x) = inner x.0 (b x.1)
    outer b (Err e) = refl

    same : {A : Type 0} (a : Reader Place A) (b : Reader Place end_type.ReservedRangeEnd) (xs : Rows Place)
        → mapped stopped (seq a (reader.optional (in_set (only token.to)) b)) xs ≡ seq a (mapped rule.end_of (reader.optional (in_set (only token.to)) b)) xs
    same a b xs = outer (reader.optional (in_set (only token.to)) b) (a xs)

pub more_range-exact : Exact (rule.more_range).code said.more_range expected.Comma (only token.comma) range_more
unfolding rule.more_range said.more_range
more_range-exact = mapped-exact range_more _ (λ x. refl) (seq-exact (mark-exact s.comma token.comma refl (omega arith) expected.Comma) (λ m. range-exact) (λ m. refl) (λ m. refl))

-- The tokens with which ranges would go on.
abbrev pub ranges_more : List ReservedRange → Set
ranges_more l = union (last_more range_more l) (only token.comma)

ranges-more : (x : ReservedRange × List ReservedRange) → list_more range_more range_more (only token.comma) x ≡ ranges_more (folded push (x.0 ∷ []) x.1)
ranges-more (x, l) = listed x l ∙ ap ranges_more (sym (pushed-all (x ∷ []) l))
  where
    listed : (x : ReservedRange) (l : List ReservedRange) → list_more range_more range_more (only token.comma) (x, l) ≡ ranges_more (x ∷ l)
    listed x [] = refl
    listed x (y ∷ ys) = refl

    pushed-all : (bs xs : List ReservedRange) → folded push bs xs ≡ bs ++ xs
    pushed-all bs [] = sym (append-nil bs)
    pushed-all bs (x ∷ xs) = pushed-all (bs ++ x ∷ []) xs ∙ append_assoc bs (x ∷ []) xs

pub ranges-exact : Exact (rule.ranges).code said.ranges expected.Int (union (only token.minus) (only token.an_integer)) ranges_more
unfolding rule.ranges said.ranges
ranges-exact = mapped-exact ranges_more _ ranges-more (list-exact range-exact more_range-exact)

-- The last of a list is the last of its rest.
later-same : (x y : ReservedRange) (ys : List ReservedRange) (start stop : Expected) → said.behind_ranges (y ∷ ys) start stop ≡ said.behind_ranges (x ∷ y ∷ ys) start stop
unfolding said.behind_ranges
later-same x y ys start stop =
    let here : suc (length ys) - 1 ≡ length ys = omega arith in
    let there : suc (suc (length ys)) - 1 ≡ suc (length ys) = omega arith in
    let next : slice_get {X = ReservedRange} (y ∷ ys) (length ys) ≡ slice_get (x ∷ y ∷ ys) (suc (length ys)) = refl in
    ap (λ n. said.behind_range (slice_get (y ∷ ys) n) start stop) here ∙ ap (λ o. said.behind_range o start stop) next ∙ ap (λ n. said.behind_range (slice_get (x ∷ y ∷ ys) n) start stop) (sym there)

-- A test that holds with and without an end of the last range.
by-range : (T : Set → Expected → Type 0) (start stop : Expected) → T (only token.to) start → T none stop → (l : List ReservedRange) → T (last_more range_more l) (said.behind_ranges l start stop)
unfolding said.behind_ranges
by-range T start stop a b [] = b
by-range T start stop a b (x ∷ []) = by-end x.end
  where
    by-end : (x : end_type.ReservedRangeEnd) → T (end_more x) (said.behind_end x start stop)
    by-end range_ends.None = a
    by-end (range_ends.Int x) = b
    by-end (range_ends.Max x) = b
by-range T start stop a b (x ∷ y ∷ ys) = subst (T (last_more range_more (y ∷ ys))) (later-same x y ys start stop) (by-range T start stop a b (y ∷ ys))

-- ---- reserved names

same-last : {A B : Type 0} (S P : Set) (x : A × List B) → list_more (λ (a : A). S) (λ (b : B). S) P x ≡ union S P
same-last S P (x, []) = refl
same-last {A} {B} S P (x, y ∷ ys) = ap (λ T. union T P) (all-same (y ∷ ys) (λ e. absurd cc))
  where
    all-same : (l : List B) → (l ≡ [] → ⊥) → last_more (λ (b : B). S) l ≡ S
    all-same [] h = absurd (h refl)
    all-same (y ∷ []) h = refl
    all-same (y ∷ z ∷ zs) h = all-same (z ∷ zs) (λ e. absurd cc)

pub reserved_name-exact : (e : Expected) → Exact (rule.reserved_name).code (rows.strings e) e (only token.a_string) (λ x. only token.a_string)
unfolding rule.reserved_name
reserved_name-exact e = mapped-exact (λ x. only token.a_string) _ (λ x. refl) (strings-exact e)

pub more_name-exact : Exact (rule.more_name).code said.more_name expected.CommaOrSemicolon (only token.comma) (λ x. only token.a_string)
unfolding rule.more_name said.more_name
more_name-exact = mapped-exact (λ x. only token.a_string) _ (λ x. refl)
    (seq-exact (mark-exact s.comma token.comma refl (omega arith) expected.CommaOrSemicolon) (λ m. reserved_name-exact expected.StringLiteral) (λ m. refl) (λ m. refl))

pub names-exact : Exact (rule.names).code said.names_of expected.ReservedItem (only token.a_string) (λ x. union (only token.a_string) (only token.comma))
unfolding rule.names said.names_of
names-exact = mapped-exact (λ x. union (only token.a_string) (only token.comma)) _ (λ x. same-last (only token.a_string) (only token.comma) x) (list-exact (reserved_name-exact expected.ReservedItem) more_name-exact)

-- ---- statements

-- The tokens with which the ranges or names of a reserved statement would go on.
abbrev pub kind_more : kind_type.ReservedKind → Set
kind_more (Ranges l) = ranges_more l
kind_more (Names l) = union (only token.a_string) (only token.comma)

abbrev numbers : Set
numbers = among (token.an_integer ∷ token.minus ∷ [])

minus-swapped : (m i : Bool) → m || i ≡ i || (m || false)
minus-swapped true true = refl
minus-swapped true false = refl
minus-swapped false true = refl
minus-swapped false false = refl

pub reserved_kind-exact : Exact (rule.reserved_kind).code said.reserved_kind expected.ReservedItem (union numbers (only token.a_string)) kind_more
unfolding rule.reserved_kind said.reserved_kind
reserved_kind-exact = choice-exact (begun_with numbers (λ k. minus-swapped (only token.minus k) (only token.an_integer k)) (mapped-exact kind_more _ (λ x. refl) ranges-exact)) (mapped-exact kind_more _ (λ x. refl) names-exact) (λ x. refl)

reserved-low : (kind : kind_type.ReservedKind) → within (named (said.behind_reserved kind)) (union (kind_more kind) (only token.semicolon)) ≡ true
unfolding said.behind_reserved
reserved-low (Ranges l) = by-range (λ S w. within (named w) (union (union S (only token.comma)) (only token.semicolon)) ≡ true) expected.AfterReservedStart expected.CommaOrSemicolon refl refl l
reserved-low (Names l) = refl

reserved-high : (kind : kind_type.ReservedKind) → within (union (kind_more kind) (only token.semicolon)) (allowed (said.behind_reserved kind)) ≡ true
unfolding said.behind_reserved
reserved-high (Ranges l) = by-range (λ S w. within (union (union S (only token.comma)) (only token.semicolon)) (allowed w) ≡ true) expected.AfterReservedStart expected.CommaOrSemicolon refl refl l
reserved-high (Names l) = refl

pub reserved-exact : (e : Expected) → Exact (rule.reserved).code (said.reserved e) e (only token.reserved) (λ x. none)
unfolding rule.reserved said.reserved
reserved-exact e = mapped-exact (λ x. none) _ (λ x. refl)
    (seq-exact (word-exact (codes "reserved") token.reserved refl (omega arith) e)
    (λ m. seq-exact reserved_kind-exact (λ kind. mark-exact s.semicolon token.semicolon refl (omega arith) (said.behind_reserved kind)) reserved-low reserved-high) (λ m. refl) (λ m. refl))

extensions-low : (l : List ReservedRange) → within (named (said.behind_extensions l None)) (union (ranges_more l) (union (only token.open_bracket) (only token.semicolon))) ≡ true
unfolding said.behind_extensions
extensions-low l = by-range (λ S w. within (named w) (union (union S (only token.comma)) (union (only token.open_bracket) (only token.semicolon))) ≡ true) expected.AfterExtensionStart expected.AfterExtensionEnd refl refl l

extensions-high : (l : List ReservedRange) → within (union (ranges_more l) (union (only token.open_bracket) (only token.semicolon))) (allowed (said.behind_extensions l None)) ≡ true
unfolding said.behind_extensions
extensions-high l = by-range (λ S w. within (union (union S (only token.comma)) (union (only token.open_bracket) (only token.semicolon))) (allowed w) ≡ true) expected.AfterExtensionStart expected.AfterExtensionEnd refl refl l

listed-is : (l : List ReservedRange) (o : OptionList) → said.behind_extensions l (Some o) ≡ expected.Semicolon
unfolding said.behind_extensions
listed-is l o = refl

-- A list of options and `;`, or `;` alone.
extensions-end : (l : List ReservedRange) → Exact (seq (options_rule.list_if_any).code (fixed (Mark s.semicolon))) (and_then (options_rule.list_if_any).code options.list (λ given. always (said.behind_extensions l given))) (said.behind_extensions l None)
    (union (only token.open_bracket) (only token.semicolon)) (λ x. none)
unfolding options_rule.list_if_any
extensions-end l = option-exact list-exact-of (λ o. mark-exact s.semicolon token.semicolon refl (omega arith) (said.behind_extensions l o))
    (λ o. subst (λ w. within (named w) (union none (only token.semicolon)) ≡ true) (sym (listed-is l o)) refl) (λ o. subst (λ w. within (union none (only token.semicolon)) (allowed w) ≡ true) (sym (listed-is l o)) refl)

pub extensions-exact : (e : Expected) → Exact (rule.extensions).code (said.extensions e) e (only token.extensions) (λ x. none)
unfolding rule.extensions said.extensions
extensions-exact e = mapped-exact (λ x. none) _ (λ x. refl)
    (seq-exact (word-exact (codes "extensions") token.extensions refl (omega arith) e) (λ m. seq-exact ranges-exact extensions-end extensions-low extensions-high) (λ m. refl) (λ m. refl))

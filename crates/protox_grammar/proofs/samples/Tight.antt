-- For small sources: which first faults have no fault before them, which faults stand in the
-- source, and which are those of its lexemes; and which are not.
use Rattle.std.proofs.Common.{◌≡◌, ◌<◌, inl, inr, ℕ, zero, suc, true, false, List, [], ◌∷◌, ◌++◌, length, Any, Option, Some, codes, refl, ap, ◌∙◌, arith, slice_index_or}
use Rattle.protox_fault.specs.Faults.{span_from}
use Rattle.protox_lexeme.specs.Lexemes.{Lexeme}
use Rattle.protox_lexeme.specs.Shapes.{LineComment}
use Rattle.protox_lexeme.specs.Table.{row_faults, rows_of}
use Rattle.protox_fault.specs.declared.error.ParseErrorKind.{ParseErrorKind}
use Rattle.protox_fault.specs.declared.error.ParseErrorKind.TheVariants as fault
use Rattle.protox_ast.specs.Basics.{first_of}
use Rattle.protox_ast.specs.FaultList.{AreFaultsOf, StandIn}
use Rattle.protox_ast.specs.FirstFault.{IsFirstFault}
use Rattle.protox_ast.specs.Fronts.{AreCleanBehind}
use Rattle.protox_ast.specs.Spells.{IsUnexpected, shapes}
use Rattle.protox_ast.specs.Truth.{IsWrongBehind, source_row}
use Rattle.protox_ast.proofs.Lemmas.{somewhere-from}
use Rattle.protox_grammar.specs.Reads.{read}
use Rattle.protox_grammar.specs.Rules as r
use Rattle.protox_grammar.specs.Bodies as rule
use Rattle.protox_grammar.specs.Reader as reader
use Rattle.protox_grammar.proofs.samples.Sources as x
use Rattle.protox_grammar.proofs.samples.Sources.{IsMade, goes-on}
use Rattle.protox_grammar.proofs.samples.True.{inside-none, parent-behind}

-- # x, and behind it # y
abbrev later : Lexeme
later = x.faulty (x.at (LineComment (codes " y")) 4 7) (fault.HashCommentOutsideTextFormat (span_from 4 7) ∷ [])

abbrev hashes : List Lexeme
hashes = x.hash ∷ (later ∷ [])

abbrev hash_fault : ParseErrorKind
hash_fault = fault.HashCommentOutsideTextFormat (span_from 0 3)

nothing-made : IsMade []
unfolding read r.strings r.syntax r.import_kind r.«import» r.fullident r.«package» rule.statement rule.file reader.star_at reader.star
nothing-made = refl

-- ---- before the first fault

-- No fault comes before the first comment.
hash-is-first : IsFirstFault hashes hash_fault
hash-is-first = (
  record {
    before = [];
    here = x.hash;
    behind = later ∷ [];
    parts = refl;
    is_first = refl;
    clean = tt;
    begins = (x.made [], goes-on hashes 0 [] (omega arith) nothing-made);
    none_before = λ k wrong l h. absurd (omega (arith, l));
  },
  inside-none hashes,
)

abbrev start_of : Option ParseErrorKind → ℕ
start_of (Some (fault.HashCommentOutsideTextFormat span)) = span.start
start_of _ = 9

-- This doesn't hold for the second comment: the one before it isn't clean.
later-is-not-first : IsFirstFault hashes (fault.HashCommentOutsideTextFormat (span_from 4 7)) → ⊥
later-is-not-first (h, outside) = by h.before h.parts h.clean
  where
    by : (before : List Lexeme) → hashes ≡ before ++ (h.here ∷ h.behind) → AreCleanBehind hashes 0 before → ⊥
    by [] e c = absurd (omega (arith, ap (λ l. start_of (first_of (row_faults (slice_index_or l 0 h.here)))) e, ap start_of h.is_first))
    by (b ∷ before) e c =
        let same : x.hash ≡ b = ap (λ l. slice_index_or l 0 x.hash) e in
        inside-none hashes (c.0.2 (λ none. let z : 1 ≡ 0 = ap length (ap (λ (u : Lexeme). u.faults) same ∙ none) in omega (arith, z)))

-- `import '..' message`: the unexpected `message` is not the first fault, since the import before
-- it is wrong.
message-is-not-first : (expected found : List ℕ) → IsFirstFault x.parent (fault.UnexpectedToken (span_from 12 19) expected found) → ⊥
message-is-not-first expected found h = by h.number h.unexpected h.place h.none_before
  where
    by : (n : ℕ) → IsUnexpected (shapes (rows_of x.parent)) n → span_from 12 19 ≡ (source_row (rows_of x.parent) n).at → ((k : ℕ) (wrong : ParseErrorKind) → k < suc n → IsWrongBehind x.parent k wrong → ⊥) → ⊥
    by zero u p none = let z : 12 ≡ 0 = ap (λ v. v.start) p in omega (arith, z)
    by (suc zero) u p none = let z : 12 ≡ 7 = ap (λ v. v.start) p in omega (arith, z)
    by (suc (suc n)) u p none = none 2 (fault.InvalidImport (span_from 7 11)) (omega arith) parent-behind

-- ---- where faults stand

-- No fault of a lexeme is twice in the list.
not-twice : StandIn (x.hash ∷ []) (hash_fault ∷ (hash_fault ∷ [])) → ⊥
not-twice h = let z : true ≡ false = h.1 [] [] [] hash_fault refl in absurd cc

abbrev is_invalid_token : ParseErrorKind → ℕ
is_invalid_token (fault.InvalidToken span) = 1
is_invalid_token _ = 0

-- No fault is in the list that no lexeme has.
not-nowhere : StandIn (x.hash ∷ []) (fault.InvalidToken (span_from 0 3) ∷ []) → ⊥
not-nowhere h =
    let wrong : ParseErrorKind = fault.InvalidToken (span_from 0 3) in
    elim (somewhere-from (λ y. Any (λ own. own ≡ wrong) (row_faults y)) (x.hash ∷ []) (h.0.0 refl)) as (λ _. ⊥) [
      | inl own ↦ elim (somewhere-from (λ own. own ≡ wrong) (row_faults x.hash) own) as (λ _. ⊥) [
        | inl e ↦ (let z : 0 ≡ 1 = ap is_invalid_token e in omega (arith, z))
        | inr none ↦ none
      ]
      | inr none ↦ none
    ]

-- ---- the faults of lexemes

-- The fault of the comment is among them.
not-none : AreFaultsOf (x.hash ∷ []) [] → ⊥
not-none (own, others, parts, has, behind) =
    let its : own ≡ hash_fault ∷ [] = has.1 (inside-none (x.hash ∷ [])) in
    let some : [] ≡ hash_fault ∷ others = parts ∙ ap (λ v. v ++ others) its in
    absurd cc

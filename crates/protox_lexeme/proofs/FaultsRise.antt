-- The places of the faults of a lexeme rise, and lie within it.
use Rattle.std.proofs.Common.{◌≡◌, ℕ, ◌+◌, ◌-◌, ◌<◌, inl, inr, List, [], ◌∷◌, refl, sym, ◌∙◌, subst, append-nil, le_refl, arith}
use Rattle.std.proofs.lemmas.Str.{len_utf8_bounds}
use Rattle.std.specs.Prelude.{slice_index}
use Rattle.std.specs.Str.{chars}
use Rattle.protox_fault.specs.declared.error.ParseErrorKind.{ParseErrorKind}
use Rattle.protox_lexeme.specs.declared.scan.Kind.{Kind}
use Rattle.protox_lexeme.specs.declared.scan.Kind.TheVariants.{Identifier, Integer, Float, String, Mark, LineComment, BlockComment, Newline}
use Rattle.protox_lexeme.specs.Lexemes.{Lexeme, IsLexeme, lexeme}
use Rattle.protox_lexeme.specs.Lexicon.{pattern}
use Rattle.protox_lexeme.specs.Table.{row_faults}
use Rattle.protox_lexeme.proofs.Cut.{fits_some, lexeme_moves}
use Rattle.protox_lexeme.proofs.FaultOrder.{twice, keys, RiseWithin, kind_rise}
use Rattle.protox_lexeme.proofs.Fitting.{fits_within}

-- ---- a row

kind_row : (kind : Kind) (at : ℕ) (text : List ℕ) (n : ℕ) → row_faults (lexeme kind at text n) ≡ (lexeme kind at text n).faults
kind_row Identifier at text n = refl
kind_row Integer at text n = append-nil (lexeme Integer at text n).faults
kind_row Float at text n = append-nil (lexeme Float at text n).faults
kind_row String at text n = append-nil (lexeme String at text n).faults
kind_row Mark at text n = refl
kind_row LineComment at text n = append-nil (lexeme LineComment at text n).faults
kind_row BlockComment at text n = append-nil (lexeme BlockComment at text n).faults
kind_row Newline at text n = refl

-- The lexeme ends after `at`, and the keys of its faults rise between `at` and its end.
abbrev pub RowRises : ℕ → Lexeme → Type 0
RowRises at x = (at < x.stop) × RiseWithin (twice at) (twice x.stop) (row_faults x)

pub row_rises : (at : ℕ) (text : List ℕ) (x : Lexeme) → IsLexeme at text x → RowRises at x
row_rises at text x (inl (kind, n, longest, same)) =
    let f = longest.fits in
    let moves = lexeme_moves kind at text n (fits_some kind text n f) (fits_within (pattern kind) text n f) in
    let P : List ParseErrorKind → Type 0 = λ fs. RiseWithin (twice at) (twice (lexeme kind at text n).stop) fs in
    subst (RowRises at) (sym same) (moves, subst P (sym (kind_row kind at text n)) (kind_rise kind at text n f))
row_rises at text x (inr (none, same)) =
    let some_bytes = len_utf8_bounds (slice_index (chars text) 0) in
    subst (RowRises at) (sym same) (omega arith, (le_refl _, omega arith))

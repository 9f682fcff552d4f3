-- A part is read behind which others come.
use Rattle.std.proofs.Common.{◌≡◌, ℕ, Bool, true, false, List, [], refl, sym, subst, ◌∙◌}
use Rattle.std.specs.Option.{is_none}
use Rattle.std.specs.List.{All}
use Rattle.protox_fault.specs.declared.error.ParseErrorKind.{ParseErrorKind}
use Rattle.protox_lexeme.specs.Shapes.{Rows}
use Rattle.protox_lexeme.specs.Table.{Table}
use Rattle.protox_ast.specs.Basics.{Each}
use Rattle.protox_ast.specs.Places.{Place, placed}
use Rattle.protox_ast.specs.declared.ast.File.{File}
use Rattle.protox_ast.specs.declared.ast.FileItem.{FileItem}
use Rattle.protox_grammar.specs.Told.{AreValidTokens}
use Rattle.protox_syntax.proofs.Flawless.{flawless-of, tokens-of}
use Rattle.protox_syntax.proofs.Further.{all-further, tokens-left}
use Rattle.protox_syntax.proofs.Opening.{first-part, later-part, none-is, open-at, some-is}
use Rattle.protox_syntax.proofs.SomeRead.{opened}
use Rattle.protox_syntax.specs.declared.parts.Part.{Part}
use Rattle.protox_syntax.specs.declared.parts.Progress.{Progress}
use Rattle.protox_syntax.specs.inner.Parts.{IsBetween, IsFlawless, IsInPart, IsOpen, IsPartOf, lexemes_from}
use Rattle.protox_syntax.specs.inner.SomeRead.{AreRead, IsBehindFirst, IsSyntaxRead}

module _ (source : List ℕ) (part : Part) (progress : Progress) (p : IsPartOf (lexemes_from source progress.last) part) (begins : part.begins ≡ is_none progress.last) (none : All (λ (faults : List ParseErrorKind). faults ≡ []) part.table.faults) where
  flawless : Each IsFlawless p.inside
  flawless = flawless-of p.inside (subst (λ (t : Table). All (λ (faults : List ParseErrorKind). faults ≡ []) t.faults) p.table_is none)

  -- The rows of the part are valid tokens.
  pub all-valid : AreValidTokens (placed part.table)
  all-valid = subst (λ (t : Table). AreValidTokens (placed t)) (sym p.table_is) (tokens-of true p.inside flawless)

  module _ (gone : List FileItem) (head : File) (b : IsBetween source progress gone head) (rows : Rows Place) (now : File) (first : part.begins ≡ true → IsSyntaxRead (placed part.table) rows head now) (later : part.begins ≡ false → IsBehindFirst (placed part.table) rows)
      (same : part.begins ≡ false → now ≡ head) where
    -- where reading begins
    pub begun-in : IsInPart source part rows gone now
    begun-in = by part.begins refl
      where
        by : (v : Bool) → part.begins ≡ v → IsInPart source part rows gone now
        by true is =
            let i = first-part source progress gone head b part p flawless (none-is progress.last (sym begins ∙ is)) is in
            opened source part (placed part.table) rows gone head now i.0 i.1 (first is)
        by false is =
            let k = later is in
            subst (λ (h : File). IsInPart source part rows gone h) (sym (same is)) (later-part source progress gone head b part p flawless (some-is progress.last (sym begins ∙ is)) is k.0 rows k.1)

    pub begun-valid : AreValidTokens rows
    begun-valid = tokens-left source part rows gone now begun-in

    -- and where it ends
    pub read-in : (left : Rows Place) (end : File) → AreRead rows left now end → IsInPart source part left gone end
    read-in left end a = all-further source part rows left gone now begun-in end a

    pub begun-open : IsOpen source part.begins progress
    begun-open = open-at source progress gone head b part begins

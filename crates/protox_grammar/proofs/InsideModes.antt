-- Whether an aggregate is open after the first tokens of a source, by the steps with places. One is
-- open exactly when a file that begins with these tokens may be inside one.
use Rattle.std.proofs.Common.{◌≡◌, ◌↔◌, ◌≤◌, ℕ, zero, suc, Bool, true, false, ◌||◌, cond, List, [], ◌∷◌, length, refl, sym, ap, ◌∙◌, arith}
use Rattle.protox_lexeme.specs.Lexemes.{Lexeme}
use Rattle.protox_ast.specs.Fronts.{Inside}
use Rattle.protox_grammar.specs.CheckLaws.{is_too_deep_by, levels}
use Rattle.protox_grammar.specs.TagLaws.{placed_steps_by, placed_tokens}
use Rattle.protox_grammar.specs.Noted.{open_behind, trace}
use Rattle.protox_grammar.specs.Steps.{Token, Note, Steps, has_deep, is_too_deep, tokens, until}
use Rattle.protox_grammar.proofs.InsideLaws as insides
use Rattle.protox_grammar.proofs.PlaceLaws.{noted_alike}
use Rattle.protox_grammar.proofs.StepLists.{until-note}

-- If no body is too deep, this many rows are taken, as long as there are enough.
pub taken-until : {M : Type 0} (n : ℕ) (l : Steps M) → has_deep (until n l) ≡ false → n ≤ length (tokens l) → length (tokens (until n l)) ≡ n
taken-until zero [] d h = refl
taken-until (suc n) [] d h = absurd (omega (arith, h))
taken-until zero (Token r ∷ l) d h = refl
taken-until (suc n) (Token r ∷ l) d h = ap suc (taken-until n l d (omega (arith, h)))
taken-until {M} n (Note e ∷ l) d h = ap (λ v. length (tokens v)) (until-note n e l) ∙ under (is_too_deep e) (until n l) (sym (ap has_deep (until-note n e l)) ∙ d) (λ g. taken-until n l g h)
  where
    under : (b : Bool) (k : Steps M) → b || has_deep (cond b [] k) ≡ false → (has_deep k ≡ false → length (tokens k) ≡ n) → length (tokens (cond b [] k)) ≡ n
    under true k g f = absurd cc
    under false k g f = f g

-- An aggregate is open exactly when a file that begins with these tokens may be inside one; or
-- reading ended at a body that is too deep.
pub mode-inside : (lexemes : List Lexeme) (j : ℕ) → j ≤ length (tokens (trace levels (placed_tokens lexemes))) → is_too_deep_by lexemes j ≡ false → (open_behind false (placed_steps_by lexemes j) ≡ true) ↔ Inside lexemes j
mode-inside lexemes j le d =
    let alike = noted_alike lexemes j in
    let took = taken-until j (trace levels (placed_tokens lexemes)) (alike.too_deep ∙ d) le in (
      λ h. insides.open_is_inside lexemes j d (sym alike.taken ∙ took) (sym (alike.is_open false) ∙ h),
      λ h. alike.is_open false ∙ insides.inside_is_open lexemes j d h,
    )

-- The steps of reading a file are those of its tree. No body in it is too deep.
use Rattle.std.proofs.Common.{◌≡◌, ◌≤◌, ℕ, zero, suc, false, List, [], ◌∷◌, Ok, refl, ap, subst, ◌∙◌}
use Rattle.protox_lexeme.specs.Lexemes.{Lexeme}
use Rattle.protox_ast.specs.Nodes.{depth}
use Rattle.protox_ast.specs.Places.{Place}
use Rattle.protox_ast.specs.Spells.{Spells}
use Rattle.protox_ast.specs.Tree as t
use Rattle.protox_grammar.specs.TagLaws.{no_place, placed_tokens}
use Rattle.protox_grammar.specs.Noted.{steps, trace}
use Rattle.protox_grammar.specs.Reads.{read}
use Rattle.protox_grammar.specs.Steps.{ANode, APackage, AKeyword, ADeepBody, ADeeperBody, AnOpenBrace, ACloseBrace, Token, Note, Steps, until, has_deep}
use Rattle.protox_grammar.proofs.EndsDeep.{StopsDeep}
use Rattle.protox_grammar.proofs.Main as main
use Rattle.protox_grammar.proofs.StepLists.{until-note}
use Rattle.protox_grammar.proofs.Takes.{bind_ok, ok_is}

-- Steps that note no body that is too deep, up to some row.
pub none-deep : {M : Type 0} (l : Steps M) (n : ℕ) → has_deep l ≡ false → has_deep (until n l) ≡ false
none-deep [] zero h = refl
none-deep [] (suc n) h = refl
none-deep (Token r ∷ l) zero h = refl
none-deep (Token r ∷ l) (suc n) h = none-deep l n h
none-deep (Note (ADeepBody m) ∷ l) n h = absurd cc
none-deep (Note (ADeeperBody m) ∷ l) n h = absurd cc
none-deep (Note (AnOpenBrace m) ∷ l) n h = ap has_deep (until-note n (AnOpenBrace m) l) ∙ none-deep l n h
none-deep (Note (ACloseBrace m) ∷ l) n h = ap has_deep (until-note n (ACloseBrace m) l) ∙ none-deep l n h
none-deep (Note (ANode x) ∷ l) n h = ap has_deep (until-note n (ANode x) l) ∙ none-deep l n h
none-deep (Note (APackage x) ∷ l) n h = ap has_deep (until-note n (APackage x) l) ∙ none-deep l n h
none-deep (Note (AKeyword m) ∷ l) n h = ap has_deep (until-note n (AKeyword m) l) ∙ none-deep l n h

-- Reading takes the steps of the tree.
pub record IsTaken (lexemes : List Lexeme) (f : t.File Place) : Type 0 where
  pub same : trace 31 (placed_tokens lexemes) ≡ steps 31 f
  pub shallow : has_deep (trace 31 (placed_tokens lexemes)) ≡ false

pub taken : (lexemes : List Lexeme) (f : t.File Place) → Spells (placed_tokens lexemes) f → depth f ≤ 31 → IsTaken lexemes f
unfolding read
taken lexemes f h d =
    let rows = placed_tokens lexemes in
    let laws = (main.laws no_place 31).traced in
    let p = bind_ok ((main.file_at no_place 31).read rows) (λ x. Ok x.0) f ((main.accepts_iff no_place 31 rows f).1 (h, d)) in
    record {
      same = laws.ok rows p.0 p.1 ∙ ap (steps 31) (ok_is p.0.0 f p.2);
      shallow = subst (λ r. StopsDeep r (trace 31 rows)) p.1 (laws.stops rows);
    }

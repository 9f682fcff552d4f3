-- A body that is too deep is noted after the keyword of its message or group. Whatever keyword is
-- assumed before the first one, the same is noted.
use Rattle.std.proofs.Common.{◌≡◌, ◌≤◌, ℕ, suc, ◌+◌, Bool, true, false, List, [], ◌∷◌, ◌++◌, Option, Some, None, refl, sym, ap, subst, ◌∙◌, arith, inl, inr}
use Rattle.protox_lexeme.specs.Lexemes.{Lexeme}
use Rattle.protox_lexeme.specs.Shapes.{Rows}
use Rattle.protox_ast.specs.CheckedNodes.{CheckedNode, APackageAgain, ATooDeep, checked_nodes}
use Rattle.protox_ast.specs.Places.{Place}
use Rattle.protox_ast.specs.Tree as t
use Rattle.protox_grammar.specs.Bodies as rule
use Rattle.protox_grammar.specs.CheckLaws.{levels, tokens_of}
use Rattle.protox_grammar.specs.TagLaws.{map_steps, place_at, placed_tokens}
use Rattle.protox_grammar.specs.Noted.{noted_nodes, trace}
use Rattle.protox_grammar.specs.Steps.{ANode, APackage, AKeyword, ADeepBody, ADeeperBody, AnOpenBrace, ACloseBrace, Token, Note, Steps}
use Rattle.protox_grammar.specs.Told.{behind, brace_notes, node_notes, told}
use Rattle.protox_grammar.proofs.Holding.{Holds}
use Rattle.protox_grammar.proofs.Main as main
use Rattle.protox_grammar.proofs.TagLaws.{same_steps}
use Rattle.protox_grammar.proofs.NotedFiles.{file-noted}
use Rattle.protox_grammar.proofs.NotedTrue.{completed-at, noted-front}
use Rattle.protox_grammar.proofs.PlaceLaws.{places_are_looked_up}

-- Whether a body that is too deep is noted before any keyword.
abbrev pub is_wordless : {M : Type 0} → Steps M → Bool
is_wordless [] = false
is_wordless (Token r ∷ l) = is_wordless l
is_wordless (Note (AKeyword m) ∷ l) = false
is_wordless (Note (ADeepBody m) ∷ l) = true
is_wordless (Note e ∷ l) = is_wordless l

pub worded-front : {M : Type 0} (l k : Steps M) → is_wordless (l ++ k) ≡ false → is_wordless l ≡ false
worded-front [] k h = refl
worded-front (Token r ∷ l) k h = worded-front l k h
worded-front (Note (AKeyword m) ∷ l) k h = refl
worded-front (Note (ADeepBody m) ∷ l) k h = absurd cc
worded-front (Note e ∷ l) k h = worded-front l k h

worded-map : {M N : Type 0} (f : M → N) (l : Steps M) → is_wordless (map_steps f l) ≡ is_wordless l
worded-map f [] = refl
worded-map f (Token r ∷ l) = worded-map f l
worded-map f (Note (AKeyword m) ∷ l) = refl
worded-map f (Note (ADeepBody m) ∷ l) = refl
worded-map f (Note (ANode x) ∷ l) = worded-map f l
worded-map f (Note (APackage x) ∷ l) = worded-map f l
worded-map f (Note (ADeeperBody m) ∷ l) = worded-map f l
worded-map f (Note (AnOpenBrace m) ∷ l) = worded-map f l
worded-map f (Note (ACloseBrace m) ∷ l) = worded-map f l

-- ---- after any keyword

not-true : true ≡ false → ⊥
not-true e = absurd cc

pub same-nodes : {M : Type 0} (p : Option (t.Package M)) (w v : M) (l : Steps M) → is_wordless l ≡ false → noted_nodes p w l ≡ noted_nodes p v l
same-nodes p w v [] h = refl
same-nodes p w v (Token r ∷ l) h = same-nodes p w v l h
same-nodes p w v (Note (ANode x) ∷ l) h = ap (λ u. x ∷ u) (same-nodes p w v l h)
same-nodes None w v (Note (APackage x) ∷ l) h = same-nodes (Some x) w v l h
same-nodes (Some f) w v (Note (APackage x) ∷ l) h = ap (λ u. APackageAgain f x ∷ u) (same-nodes (Some f) w v l h)
same-nodes p w v (Note (AKeyword m) ∷ l) h = refl
same-nodes p w v (Note (ADeepBody m) ∷ l) h = absurd (not-true h)
same-nodes p w v (Note (ADeeperBody m) ∷ l) h = same-nodes p w v l h
same-nodes p w v (Note (AnOpenBrace m) ∷ l) h = same-nodes p w v l h
same-nodes p w v (Note (ACloseBrace m) ∷ l) h = same-nodes p w v l h

pub same-told : (p : Option (t.Package Place)) (w v : Place) (l : Steps Place) (xs : Rows Place) → is_wordless l ≡ false → told p w l xs ≡ told p v l xs
same-told p w v [] xs h = refl
same-told p w v (Token r ∷ l) xs h = same-told p w v l (behind xs) h
same-told p w v (Note (ANode x) ∷ l) xs h = ap (λ u. node_notes x xs ++ u) (same-told p w v l xs h)
same-told None w v (Note (APackage x) ∷ l) xs h = same-told (Some x) w v l xs h
same-told (Some f) w v (Note (APackage x) ∷ l) xs h = ap (λ u. node_notes (APackageAgain f x) xs ++ u) (same-told (Some f) w v l xs h)
same-told p w v (Note (AKeyword m) ∷ l) xs h = refl
same-told p w v (Note (ADeepBody m) ∷ l) xs h = absurd (not-true h)
same-told p w v (Note (ADeeperBody m) ∷ l) xs h = same-told p w v l xs h
same-told p w v (Note (AnOpenBrace m) ∷ l) xs h = ap (λ u. brace_notes true xs ++ u) (same-told p w v l xs h)
same-told p w v (Note (ACloseBrace m) ∷ l) xs h = ap (λ u. brace_notes false xs ++ u) (same-told p w v l xs h)

-- ---- the steps of reading a source

abbrev IsDeepOf : ℕ → CheckedNode ℕ → Type 0
IsDeepOf w (ATooDeep keyword open_at) = keyword ≡ w
IsDeepOf w _ = ⊥

wordless-noted : (p : Option (t.Package ℕ)) (w : ℕ) (l : Steps ℕ) → is_wordless l ≡ true → Holds (IsDeepOf w) (noted_nodes p w l)
wordless-noted p w [] h = absurd (not-true (sym h))
wordless-noted p w (Token r ∷ l) h = wordless-noted p w l h
wordless-noted p w (Note (ANode x) ∷ l) h = inr (wordless-noted p w l h)
wordless-noted None w (Note (APackage x) ∷ l) h = wordless-noted (Some x) w l h
wordless-noted (Some f) w (Note (APackage x) ∷ l) h = inr (wordless-noted (Some f) w l h)
wordless-noted p w (Note (AKeyword m) ∷ l) h = absurd (not-true (sym h))
wordless-noted p w (Note (ADeepBody m) ∷ l) h = inl refl
wordless-noted p w (Note (ADeeperBody m) ∷ l) h = wordless-noted p w l h
wordless-noted p w (Note (AnOpenBrace m) ∷ l) h = wordless-noted p w l h
wordless-noted p w (Note (ACloseBrace m) ∷ l) h = wordless-noted p w l h

-- A number that is not that of the keyword of such a node.
abbrev beyond : List (CheckedNode ℕ) → ℕ
beyond [] = 0
beyond (ATooDeep keyword open_at ∷ xs) = suc (keyword + beyond xs)
beyond (x ∷ xs) = beyond xs

not-beyond : (xs : List (CheckedNode ℕ)) (w : ℕ) → beyond xs ≤ w → Holds (IsDeepOf w) xs → ⊥
not-beyond [] w h g = g
not-beyond (ATooDeep keyword open_at ∷ xs) w h (inl g) = omega (arith, h, g)
not-beyond (ATooDeep keyword open_at ∷ xs) w h (inr g) = not-beyond xs w (omega (arith, h)) g
not-beyond (x ∷ xs) w h (inl g) = g
not-beyond (x ∷ xs) w h (inr g) = not-beyond xs w h g

-- If such a body is noted before any keyword, each keyword makes it another node. But a file has
-- only finitely many.
numbered-worded : (xs : Rows ℕ) → is_wordless (trace levels xs) ≡ false
unfolding rule.file
numbered-worded xs = at (is_wordless (trace levels xs)) refl
  where
    at : (b : Bool) → is_wordless (trace levels xs) ≡ b → is_wordless (trace levels xs) ≡ false
    at false h = h
    at true h =
        let c = completed-at xs ((main.file_at 0 31).read xs) refl in
        let w = beyond (checked_nodes c.tree) in
        let front = noted-front (IsDeepOf w) None w (trace levels xs) c.later (wordless-noted None w (trace levels xs) h) in
        let all = subst (λ u. Holds (IsDeepOf w) (noted_nodes None w u)) (sym c.goes_on) front in
        absurd (not-beyond (checked_nodes c.tree) w (omega arith) ((file-noted (IsDeepOf w) w c.tree (main.may-of 0 31 c.tree c.keeps)).0 all))

pub placed-worded : (lexemes : List Lexeme) → is_wordless (trace levels (placed_tokens lexemes)) ≡ false
placed-worded lexemes =
    let place = place_at lexemes in
    ap (λ u. is_wordless (trace levels u)) (sym (places_are_looked_up lexemes)) ∙ ap is_wordless (same_steps place levels (tokens_of lexemes)) ∙ worded-map place (trace levels (tokens_of lexemes)) ∙ numbered-worded (tokens_of lexemes)

-- A node of a file that goes on is noted while the tokens up to it are read, unless another node of
-- the file ends reading before.
use Rattle.std.proofs.Common.{◌≡◌, ◌<◌, ◌≤◌, ℕ, suc, ◌+◌, true, false, List, [], ◌∷◌, ◌++◌, length, take, drop, None, refl, sym, ap, subst, ◌∙◌, append_assoc, arith, inl, inr, ◌⊎◌}
use Rattle.std.proofs.lemmas.List.{append-nil, length-append}
use Rattle.protox_fault.specs.Faults.{Span}
use Rattle.protox_fault.specs.declared.error.ParseErrorKind.TheVariants.{MessageNestingTooDeep}
use Rattle.protox_lexeme.specs.Lexemes.{Lexeme}
use Rattle.protox_lexeme.specs.Shapes.{Shape, Rows}
use Rattle.protox_lexeme.specs.Table.{rows_of}
use Rattle.protox_ast.specs.Basics.{Each}
use Rattle.protox_ast.specs.CheckedNodes.{CheckedNode, ASyntax, AnImport, AReservedName, AGroupName, APackageAgain, ATooDeep, checked_nodes, node_end}
use Rattle.protox_ast.specs.Checks.{WrongCheckedNode}
use Rattle.protox_ast.specs.Fronts.{GoesOn, numbered, shapes}
use Rattle.protox_ast.specs.Spelling as s
use Rattle.protox_ast.specs.Tree as t
use Rattle.protox_ast.specs.Truth.{is_run, source_row, token_span}
use Rattle.protox_grammar.specs.Bodies as rule
use Rattle.protox_grammar.specs.CheckLaws.{is_too_deep_by, levels, noted_by, steps_by, tokens_of}
use Rattle.protox_grammar.specs.TagLaws.{no_place}
use Rattle.protox_grammar.specs.Noted.{noted_nodes, steps, trace}
use Rattle.protox_grammar.specs.Reader.{head_in, is_string}
use Rattle.protox_grammar.specs.Steps.{Steps, has_deep, tokens, until}
use Rattle.protox_grammar.proofs.Lemmas.{ArePlaced, Holds, Located, any-holds, cut-same, file-noted}
use Rattle.protox_grammar.proofs.Lemmas.{holds-one, is_string_row, last-past, last_row, locate}
use Rattle.protox_grammar.proofs.Lemmas.{noted-front, numbered-at, placed-front, string-at}
use Rattle.protox_grammar.proofs.Lemmas.{tokens-append, too_deep_is_noted, until-at-most, until-front}
use Rattle.protox_grammar.proofs.Lemmas as grammar
use Rattle.protox_syntax.specs.LostChecks.{EndsReading, IsReached}
use Rattle.protox_syntax.proofs.NodesTold.{AreNumbered, told-of}

-- ---- rows with their numbers

numbered-are : (c : ℕ) (a : List Shape) → AreNumbered c (numbered c a)
numbered-are c [] = tt
numbered-are c (x ∷ xs) = (refl, numbered-are (suc c) xs)

numbered-left : (c : ℕ) (ys zs : Rows ℕ) → AreNumbered c (ys ++ zs) → AreNumbered c ys
numbered-left c [] zs h = tt
numbered-left c (y ∷ ys) zs h = (h.0, numbered-left (suc c) ys zs h.1)

-- ---- one of many

pub each-of : {A : Type 0} (P : A → Type 0) (xs : List A) (x : A) → Each P xs → Holds (λ u. u ≡ x) xs → P x
each-of P [] x a h = absurd h
each-of P (y ∷ ys) x a (inl h) = subst P h a.0
each-of P (y ∷ ys) x a (inr h) = each-of P ys x a.1 h

-- a node with such a fault is a body that is too deep
deep-ends : (rows : Rows Span) (x : CheckedNode ℕ) (span : Span) → WrongCheckedNode (token_span rows) x (MessageNestingTooDeep span) → EndsReading x
deep-ends rows (ASyntax x) span h = absurd (let e = h.1 in cc)
deep-ends rows (AnImport x) span (inl h) = absurd (let e = h.1 in cc)
deep-ends rows (AnImport x) span (inr h) = absurd (let e = h.1 in cc)
deep-ends rows (AReservedName x) span (inl h) = absurd (let e = h.1 in cc)
deep-ends rows (AReservedName x) span (inr h) = absurd (let e = h.1 in cc)
deep-ends rows (AGroupName x) span h = absurd (let e = h.1 in cc)
deep-ends rows (APackageAgain first again) span h = absurd cc
deep-ends rows (ATooDeep keyword open_at) span h = tt

-- ---- a file that goes on

module _ (lexemes : List Lexeme) (n : ℕ) (f : t.File ℕ) (go : GoesOn (shapes (rows_of lexemes)) n f) where
  abbrev all_shapes : List Shape
  all_shapes = shapes (rows_of lexemes)

  abbrev front : Rows ℕ
  front = numbered 0 (take n all_shapes)

  abbrev rest : Rows ℕ
  rest = numbered (0 + length (take n all_shapes)) (drop n all_shapes)

  abbrev more : Rows ℕ
  more = numbered (0 + length (take n all_shapes)) go.more

  all-tokens : tokens (steps 31 f) ≡ s.spell f
  all-tokens = (grammar.laws 0 31).traced.rows f ∙ grammar.spelling 0 31 f

  placed : ArePlaced None (steps 31 f) []
  placed = (grammar.laws 0 31).traced.placed f [] (grammar.ends-of 0 31 f go.spells.1)

  -- Reading takes the steps of the file up to there, and ...
  abbrev pub IsSame : Type 0
  IsSame = steps_by lexemes n ≡ until n (steps 31 f)

  module _ (same : IsSame) where
    pub later : (k : Steps ℕ) × (steps 31 f ≡ steps_by lexemes n ++ k)
    later = let k = until-front n (steps 31 f) in (k.0, k.1 ∙ ap (λ u. u ++ k.0) (sym same))

    -- ... they are placed,
    pub steps-placed : ArePlaced None (steps_by lexemes n) (tokens later.0 ++ [])
    steps-placed = placed-front None (steps_by lexemes n) later.0 [] (subst (λ u. ArePlaced None u []) later.1 placed)

    -- their rows are numbered,
    pub steps-numbered : AreNumbered 0 (tokens (steps_by lexemes n))
    steps-numbered =
        let all : AreNumbered 0 (tokens (steps 31 f)) = subst (AreNumbered 0) (go.spells.0 ∙ sym all-tokens) (numbered-are 0 (take n all_shapes ++ go.more)) in
        numbered-left 0 (tokens (steps_by lexemes n)) (tokens later.0) (subst (AreNumbered 0) (ap tokens later.1 ∙ tokens-append (steps_by lexemes n) later.0) all)

    -- and the noted nodes are the file's, and end there.
    pub of-file : (x : CheckedNode ℕ) → Holds (λ u. u ≡ x) (noted_by lexemes n) → Holds (λ u. u ≡ x) (checked_nodes f) × (node_end x < n)
    unfolding rule.file
    of-file x h =
        let all : Holds (λ u. u ≡ x) (noted_nodes None 0 (steps 31 f)) = subst (λ v. Holds (λ u. u ≡ x) (noted_nodes None 0 v)) (sym later.1) (noted-front (λ u. u ≡ x) None 0 (steps_by lexemes n) later.0 h) in
        let v = told-of (λ (k : ℕ). no_place) (MessageNestingTooDeep no_place.span) 0 None (steps_by lexemes n) (tokens later.0 ++ []) steps-placed tt steps-numbered None 0 [] x h in
        let most : length (tokens (steps_by lexemes n)) ≤ n = until-at-most n (trace levels (tokens_of lexemes)) in
        ((file-noted (λ u. u ≡ x) 0 f (grammar.may-of 0 31 f go.spells.1)).0 all, omega (arith, v.at, v.within, most))

  module _ (node : CheckedNode ℕ) (ends : suc (node_end node) ≡ n) (whole : is_run node ≡ true → is_string (source_row (rows_of lexemes) n).shape ≡ false) where
    abbrev IsNode : CheckedNode ℕ → Type 0
    IsNode u = u ≡ node

    found : (v : Located IsNode None 0 (steps 31 f) [] []) → IsSame × (Holds IsNode (noted_by lexemes n) ⊎ (is_too_deep_by lexemes n ≡ true))
    found v =
        let spelled : s.spell f ≡ v.before ++ (v.here ∷ v.behind) = sym all-tokens ∙ v.parts in
        let at : v.here.at ≡ 0 + length v.before = numbered-at 0 (take n all_shapes ++ go.more) v.before v.here v.behind (go.spells.0 ∙ spelled) in
        let end : suc (length v.before) ≡ n = omega (arith, at, v.facts.0, ap node_end v.holds, ends) in
        let cuts : front ++ more ≡ (v.before ++ (v.here ∷ [])) ++ v.behind = sym (grammar.file-is lexemes n f go) ∙ spelled ∙ sym (append_assoc v.before (v.here ∷ []) v.behind) in
        let len : length more ≡ length v.behind = omega (arith, ap length cuts, length-append front more, length-append (v.before ++ (v.here ∷ [])) v.behind, length-append v.before (v.here ∷ []), grammar.front-length lexemes n f go, end) in
        let two = cut-same front (v.before ++ (v.here ∷ [])) more v.behind cuts len in
        let last : is_string_row (last_row None front) ≡ is_string v.here.shape = ap (λ u. is_string_row (last_row None u)) two.0 ∙ ap is_string_row (last-past None v.before v.here []) in
        let alike : is_string_row (last_row None front) ≡ true → head_in is_string rest ≡ head_in is_string more = λ g.
        let run : is_run v.node ≡ true = sym v.facts.1 ∙ sym last ∙ g in
        sym (string-at (rows_of lexemes) n _) ∙ whole (ap is_run (sym v.holds) ∙ run) ∙ sym (ap (head_in is_string) (two.1 ∙ sym (append-nil v.behind)) ∙ (v.facts.2 run).0) in
        let same : IsSame = grammar.same-steps lexemes n f go alike in
        let cut : until (suc (length v.before)) (steps 31 f) ≡ steps_by lexemes n = ap (λ u. until u (steps 31 f)) end ∙ sym same in (
          same,
          elim v.seen [
            | inl a ↦ inl (subst (λ u. Holds IsNode (noted_nodes None 0 u)) cut a)
            | inr a ↦ inr (subst (λ u. has_deep u ≡ true) cut a)
          ],
        )

    found-in : Holds IsNode (checked_nodes f) → IsSame × (Holds IsNode (noted_by lexemes n) ⊎ (is_too_deep_by lexemes n ≡ true))
    unfolding rule.file
    found-in h = found (locate IsNode (steps 31 f) [] [] placed placed None 0 ((file-noted IsNode 0 f (grammar.may-of 0 31 f go.spells.1)).1 h))

    -- a node that ends reading by then is this node
    pub ends-here : IsSame → IsReached f n node → (x : CheckedNode ℕ) → EndsReading x → Holds (λ u. u ≡ x) (noted_by lexemes n) → x ≡ node
    ends-here same reached x e h = let o = of-file same x h in each-of (λ other. EndsReading other → node_end other < n → other ≡ node) (checked_nodes f) x reached o.0 e o.1

    -- The node is noted.
    pub node-noted : Holds IsNode (checked_nodes f) → IsReached f n node → IsSame × Holds IsNode (noted_by lexemes n)
    node-noted h reached =
        let v = found-in h in (
          v.0,
          elim v.1 [
            | inl a ↦ a
            | inr a ↦
                let d = too_deep_is_noted lexemes n a in
                let x = holds-one (λ y. WrongCheckedNode (token_span (rows_of lexemes)) y (MessageNestingTooDeep d.0)) (noted_by lexemes n) (any-holds _ (noted_by lexemes n) d.1) in
                subst (λ y. Holds (λ u. u ≡ y) (noted_by lexemes n)) (ends-here v.0 reached x.0 (deep-ends (rows_of lexemes) x.0 d.0 x.1) x.2) x.2
          ],
        )

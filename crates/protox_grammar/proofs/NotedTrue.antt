-- Each check that is noted is true.
use Rattle.std.proofs.Common.{◌≡◌, ◌≤◌, ℕ, suc, true, false, List, [], ◌∷◌, ◌++◌, length, take, drop, Option, Some, None, Result, Ok, Err, refl, sym, ap, subst, ◌∙◌, append_assoc, arith, inl, inr}
use Rattle.std.proofs.lemmas.List.{append-nil, length-append}
use Rattle.protox_lexeme.specs.Lexemes.{Lexeme}
use Rattle.protox_lexeme.specs.Shapes.{Shape, Rows}
use Rattle.protox_lexeme.specs.Table.{rows_of}
use Rattle.protox_fault.specs.declared.error.ParseErrorKind.{ParseErrorKind}
use Rattle.protox_ast.specs.Tree as t
use Rattle.protox_ast.specs.Spelling as s
use Rattle.protox_ast.specs.KeywordWalk as k
use Rattle.protox_ast.specs.DepthWalk as d
use Rattle.protox_ast.specs.CheckedNodes.{CheckedNode, node_end, checked_nodes}
use Rattle.protox_ast.specs.Checks.{WrongCheckedNode}
use Rattle.protox_ast.specs.Spells.{Spells}
use Rattle.protox_ast.specs.Fronts.{GoesOn, numbered, shapes}
use Rattle.protox_ast.specs.Truth.{IsWrongBefore, IsWrongBehind, is_run, token_span}
use Rattle.protox_grammar.specs.Reader.{Refusal, head_in, is_string}
use Rattle.protox_grammar.specs.Bodies as rule
use Rattle.protox_grammar.specs.Steps.{ANode, APackage, AKeyword, ADeepBody, ADeeperBody, AnOpenBrace, ACloseBrace, Token, Note, Steps, tokens, until}
use Rattle.protox_grammar.specs.Noted.{noted_nodes, steps, trace}
use Rattle.protox_grammar.specs.CheckLaws.{AllIsNoted, NotedIsTrue, tokens_of, noted_by, steps_by}
use Rattle.protox_grammar.proofs.Tags.{head-same-shapes}
use Rattle.protox_grammar.proofs.Fronts as fronts
use Rattle.protox_grammar.proofs.StepLists.{until-all, tokens-append, take-front, until-ends, deep-whole, until-until, until-at-most, until-front}
use Rattle.protox_grammar.proofs.Main as main
use Rattle.protox_grammar.proofs.EndsDeep.{stops-ends}
use Rattle.protox_grammar.proofs.Holding.{Holds, any-holds, holds-any, holds-one, holds-of}
use Rattle.protox_grammar.proofs.NotedFiles.{file-noted}
use Rattle.protox_grammar.proofs.Located.{Located, locate}
use Rattle.protox_grammar.proofs.Numbers.{numbered-length, numbered-at, numbered-front, shapes-append, shapes-numbered, drop-front, shapes-length, string-at}
use Rattle.protox_grammar.proofs.PassedOver as passed
use Rattle.protox_grammar.proofs.Placing.{last_row, is_string_row, ArePlaced, last-past, placed-front}

-- ---- nodes at the beginning of a file

pub noted-front : {M : Type 0} (P : CheckedNode M → Type 0) (p : Option (t.Package M)) (w : M) (l j : Steps M) → Holds P (noted_nodes p w l) → Holds P (noted_nodes p w (l ++ j))
noted-front P p w [] j h = absurd h
noted-front P p w (Token r ∷ l) j h = noted-front P p w l j h
noted-front P p w (Note (ANode x) ∷ l) j (inl h) = inl h
noted-front P p w (Note (ANode x) ∷ l) j (inr h) = inr (noted-front P p w l j h)
noted-front P None w (Note (APackage x) ∷ l) j h = noted-front P (Some x) w l j h
noted-front P (Some f) w (Note (APackage x) ∷ l) j (inl h) = inl h
noted-front P (Some f) w (Note (APackage x) ∷ l) j (inr h) = inr (noted-front P (Some f) w l j h)
noted-front P p w (Note (AKeyword m) ∷ l) j h = noted-front P p m l j h
noted-front P p w (Note (ADeepBody m) ∷ l) j (inl h) = inl h
noted-front P p w (Note (ADeepBody m) ∷ l) j (inr h) = inr (noted-front P p w l j h)
noted-front P p w (Note (ADeeperBody m) ∷ l) j h = noted-front P p w l j h
noted-front P p w (Note (AnOpenBrace m) ∷ l) j h = noted-front P p w l j h
noted-front P p w (Note (ACloseBrace m) ∷ l) j h = noted-front P p w l j h

-- ---- a file that begins with what was read

-- Some file begins with what was read, with the same steps.
pub record Completed (xs : Rows ℕ) : Type 0 where
  pub rest : Rows ℕ
  pub parts : xs ≡ tokens (trace 31 xs) ++ rest
  pub placed : ArePlaced None (trace 31 xs) rest
  pub tree : t.File ℕ
  pub keeps : k.KeepsKeywords tree
  pub later : Steps ℕ
  pub goes_on : steps 31 tree ≡ trace 31 xs ++ later

pub completed-at : (xs : Rows ℕ) (res : Result (t.File ℕ × Rows ℕ) Refusal) → (main.file_at 0 31).read xs ≡ res → Completed xs
completed-at xs (Ok x) h =
    let l = main.laws 0 31 in
    let took = l.read.takes xs x h in
    let same = l.traced.ok xs x h in
    record {
      rest = x.1;
      parts = took.parts ∙ ap (λ u. u ++ x.1) (sym (l.traced.rows x.0)) ∙ ap (λ u. tokens u ++ x.1) (sym same);
      placed = subst (λ u. ArePlaced None u x.1) (sym same) (l.traced.placed x.0 x.1 took.ends);
      tree = x.0;
      keeps = (main.of-fits 0 31 x.0 took.fits).0;
      later = [];
      goes_on = sym same ∙ sym (append-nil (trace 31 xs));
    }
completed-at xs (Err e) h =
    let v = (main.laws 0 31).traced.halts xs e h in
    record { rest = v.rest; parts = v.parts; placed = v.placed; tree = v.tree; keeps = main.of-may 0 31 v.tree v.tree_may; later = v.later; goes_on = v.goes_on }

-- After the last token nothing more is noted.
pub all_is_noted : AllIsNoted
all_is_noted lexemes n h =
    let xs = tokens_of lexemes in
    let c = completed-at xs ((main.file_at 0 31).read xs) refl in
    until-all n (trace 31 xs) (omega (arith, h, ap length c.parts, length-append (tokens (trace 31 xs)) c.rest, numbered-length 0 (shapes (rows_of lexemes)), shapes-length (rows_of lexemes)))
    (stops-ends ((main.file_at 0 31).read xs) (trace 31 xs) ((main.laws 0 31).traced.stops xs))

-- the same file with other numbers
pub remarked : (f : t.File ℕ) → k.KeepsKeywords f → (rows : Rows ℕ) → shapes rows ≡ shapes (s.spell f) → (g : t.File ℕ) × Spells rows g
remarked f h rows e = let g = fronts.remarked 0 0 (d.depth f) f h (omega arith) rows e in (g.0, g.1)

module _ (lexemes : List Lexeme) (n : ℕ) (wrong : ParseErrorKind) (e : CheckedNode ℕ) (is-wrong : WrongCheckedNode (token_span (rows_of lexemes)) e wrong) (noted : Holds (λ u. u ≡ e) (noted_by lexemes n)) where
  abbrev xs : Rows ℕ
  xs = tokens_of lexemes

  abbrev all_shapes : List Shape
  all_shapes = shapes (rows_of lexemes)

  -- the steps so far, and how reading ended
  abbrev l : Steps ℕ
  l = steps_by lexemes n

  module _ (c : Completed xs) (j : Steps ℕ) (j-is : trace 31 xs ≡ l ++ j) (v : Located (λ u. u ≡ e) None 0 l (tokens j ++ c.rest) (tokens (j ++ c.later) ++ [])) where
    abbrev front : Rows ℕ
    front = v.before ++ (v.here ∷ [])

    abbrev end : ℕ
    end = suc (length v.before)

    front-length : length front ≡ end
    front-length = length-append v.before (v.here ∷ []) ∙ omega arith

    regroup : (ys : Rows ℕ) → tokens l ++ ys ≡ front ++ (v.behind ++ ys)
    regroup ys = ap (λ u. u ++ ys) v.parts ∙ append_assoc v.before (v.here ∷ v.behind) ys ∙ sym (append_assoc v.before (v.here ∷ []) (v.behind ++ ys))

    source-is : xs ≡ front ++ (v.behind ++ (tokens j ++ c.rest))
    source-is = c.parts ∙ ap (λ u. tokens u ++ c.rest) j-is ∙ ap (λ u. u ++ c.rest) (tokens-append l j) ∙ append_assoc (tokens l) (tokens j) c.rest ∙ regroup (tokens j ++ c.rest)

    tree-is : s.spell c.tree ≡ front ++ (v.behind ++ tokens (j ++ c.later))
    tree-is =
        sym (main.spelling 0 31 c.tree) ∙ sym ((main.laws 0 31).traced.rows c.tree) ∙ ap tokens (c.goes_on ∙ ap (λ u. u ++ c.later) j-is ∙ append_assoc l j c.later)
        ∙ tokens-append l (j ++ c.later) ∙ regroup (tokens (j ++ c.later))

    abbrev more : List Shape
    more = shapes (v.behind ++ tokens (j ++ c.later))

    front-is : numbered 0 (shapes front) ≡ front
    front-is = numbered-front 0 all_shapes front (v.behind ++ (tokens j ++ c.rest)) source-is

    all-is : all_shapes ≡ shapes front ++ shapes (v.behind ++ (tokens j ++ c.rest))
    all-is = sym (shapes-numbered 0 all_shapes) ∙ ap shapes source-is ∙ shapes-append front (v.behind ++ (tokens j ++ c.rest))

    end-is : end ≡ length (shapes front)
    end-is = sym front-length ∙ sym (shapes-length front)

    take-is : take end all_shapes ≡ shapes front
    take-is = ap (take end) all-is ∙ take-front end (shapes front) (shapes (v.behind ++ (tokens j ++ c.rest))) end-is

    drop-is : drop end all_shapes ≡ shapes (v.behind ++ (tokens j ++ c.rest))
    drop-is = ap (drop end) all-is ∙ drop-front end (shapes front) (shapes (v.behind ++ (tokens j ++ c.rest))) end-is

    abbrev new_rows : Rows ℕ
    new_rows = numbered 0 (take end all_shapes ++ more)

    new-shapes : shapes new_rows ≡ shapes (s.spell c.tree)
    new-shapes = shapes-numbered 0 (take end all_shapes ++ more) ∙ ap (λ u. u ++ more) take-is ∙ sym (shapes-append front (v.behind ++ tokens (j ++ c.later))) ∙ ap shapes (sym tree-is)

    there : end ≤ length (rows_of lexemes)
    there = omega (arith, ap length source-is, numbered-length 0 all_shapes, shapes-length (rows_of lexemes), length-append front (v.behind ++ (tokens j ++ c.rest)), front-length)

    node-is : v.node ≡ e
    node-is = v.holds

    at-end : suc (node_end e) ≡ end
    at-end = omega (arith, ap node_end node-is, v.facts.0, numbered-at 0 all_shapes v.before v.here (v.behind ++ (tokens j ++ c.rest)) (source-is ∙ append_assoc v.before (v.here ∷ []) (v.behind ++ (tokens j ++ c.rest))))

    next-is : (m : ℕ) → is_run e ≡ true → head_in is_string (numbered m (drop end all_shapes)) ≡ false
    next-is m g =
        head-same-shapes is_string (numbered m (drop end all_shapes)) (v.behind ++ (tokens j ++ c.rest)) (shapes-numbered m (drop end all_shapes) ∙ drop-is)
        ∙ (v.facts.2 (ap is_run node-is ∙ g)).0

    more-is : (m : ℕ) → is_run e ≡ true → head_in is_string (numbered m more) ≡ false
    more-is m g =
        head-same-shapes is_string (numbered m more) (v.behind ++ tokens (j ++ c.later)) (shapes-numbered m more)
        ∙ ap (λ u. head_in is_string (v.behind ++ u)) (sym (append-nil (tokens (j ++ c.later)))) ∙ (v.facts.2 (ap is_run node-is ∙ g)).1

    before-wrong : IsWrongBefore lexemes end wrong e
    before-wrong = (at-end, (λ g. string-at (rows_of lexemes) end 0 ∙ next-is 0 g), is-wrong)

    seen : Holds (λ u. u ≡ e) (noted_nodes None 0 (until end l))
    seen = elim v.seen [
      | inl h ↦ h
      | inr h ↦ subst (λ u. Holds (λ y. y ≡ e) (noted_nodes None 0 u)) (sym (deep-whole end l (until-ends n (trace 31 xs)) h)) noted
    ]

    end-most : end ≤ n
    end-most = omega (arith, ap length v.parts, length-append v.before (v.here ∷ v.behind), until-at-most n (trace 31 xs))

    with-file : (f : t.File ℕ) → Spells new_rows f → IsWrongBehind lexemes end wrong
    unfolding rule.file
    with-file f spells =
        let go : GoesOn (shapes (rows_of lexemes)) end f = record { more = more; there = omega (arith, there, shapes-length (rows_of lexemes)); spells = spells } in
        let last : is_string_row (last_row None (numbered 0 (take end all_shapes))) ≡ is_string v.here.shape = ap (λ u. is_string_row (last_row None u)) (ap (numbered 0) take-is ∙ front-is) ∙ ap is_string_row (last-past None v.before v.here []) in
        let run : is_string_row (last_row None (numbered 0 (take end all_shapes))) ≡ true → is_run e ≡ true = λ g. ap is_run (sym node-is) ∙ sym v.facts.1 ∙ sym last ∙ g in
        let same : steps_by lexemes end ≡ until end (steps 31 f) = passed.same-steps lexemes end f go (λ g. next-is _ (run g) ∙ sym (more-is _ (run g))) in
        let k = until-front end (steps 31 f) in
        let there : Holds (λ u. u ≡ e) (noted_nodes None 0 (until end (steps 31 f))) = subst (λ u. Holds (λ y. y ≡ e) (noted_nodes None 0 u)) (until-until end n (trace 31 xs) end-most ∙ same) seen in
        let all : Holds (λ u. u ≡ e) (noted_nodes None 0 (steps 31 f)) = subst (λ u. Holds (λ y. y ≡ e) (noted_nodes None 0 u)) (sym k.1) (noted-front (λ u. u ≡ e) None 0 (until end (steps 31 f)) k.0 there) in
        let of-file : Holds (λ u. u ≡ e) (checked_nodes f) = (file-noted (λ u. u ≡ e) 0 f (main.may-of 0 31 f spells.1)).0 all in
        (f, go, holds-any (IsWrongBefore lexemes end wrong) (checked_nodes f) (holds-of (IsWrongBefore lexemes end wrong) e (checked_nodes f) before-wrong of-file))

    is-true : (m : ℕ) × (m ≤ n) × IsWrongBehind lexemes m wrong
    is-true = let g = remarked c.tree c.keeps new_rows new-shapes in (end, end-most, with-file g.0 g.1)

  found-true : (m : ℕ) × (m ≤ n) × IsWrongBehind lexemes m wrong
  found-true =
      let c = completed-at xs ((main.file_at 0 31).read xs) refl in
      let j = until-front n (trace 31 xs) in
      let tree-placed : ArePlaced None (steps 31 c.tree) [] = (main.laws 0 31).traced.placed c.tree [] (main.ends-of 0 31 c.tree c.keeps) in
      let same : steps 31 c.tree ≡ l ++ (j.0 ++ c.later) = c.goes_on ∙ ap (λ u. u ++ c.later) j.1 ∙ append_assoc l j.0 c.later in
      let here = placed-front None l j.0 c.rest (subst (λ u. ArePlaced None u c.rest) j.1 c.placed) in
      let on = placed-front None l (j.0 ++ c.later) [] (subst (λ u. ArePlaced None u []) same tree-placed) in
      is-true c j.0 j.1 (locate (λ u. u ≡ e) l (tokens j.0 ++ c.rest) (tokens (j.0 ++ c.later) ++ []) here on None 0 noted)

pub noted_is_true : NotedIsTrue
noted_is_true lexemes n wrong h =
    let v = holds-one (λ node. WrongCheckedNode (token_span (rows_of lexemes)) node wrong) (noted_by lexemes n) (any-holds (λ node. WrongCheckedNode (token_span (rows_of lexemes)) node wrong) (noted_by lexemes n) h) in
    found-true lexemes n wrong v.0 v.1 v.2

-- No check is passed over.
use Rattle.std.proofs.Common.{◌≡◌, ℕ, suc, ◌+◌, true, List, [], ◌∷◌, ◌++◌, length, take, drop, None, sym, ap, subst, ◌∙◌, append_assoc, arith, inl, inr, ◌⊎◌}
use Rattle.std.proofs.lemmas.List.{append-nil, length-append}
use Rattle.protox_lexeme.specs.Lexemes.{Lexeme}
use Rattle.protox_lexeme.specs.Shapes.{Shape, Rows}
use Rattle.protox_lexeme.specs.Table.{rows_of}
use Rattle.protox_fault.specs.declared.error.ParseErrorKind.{ParseErrorKind}
use Rattle.protox_ast.specs.Tree as t
use Rattle.protox_ast.specs.Spelling as s
use Rattle.protox_ast.specs.CheckedNodes.{CheckedNode, checked_nodes}
use Rattle.protox_ast.specs.Fronts.{GoesOn, numbered, shapes}
use Rattle.protox_ast.specs.Truth.{IsWrongBefore, is_run}
use Rattle.protox_grammar.specs.Reader.{head_in, is_string}
use Rattle.protox_grammar.specs.Bodies as rule
use Rattle.protox_grammar.specs.Steps.{tokens, until, has_deep}
use Rattle.protox_grammar.specs.Noted.{noted_nodes, steps, trace}
use Rattle.protox_grammar.specs.CheckLaws.{NoneIsPassedOver, tokens_of, noted_by, is_too_deep_by, steps_by}
use Rattle.protox_grammar.proofs.Reading.{cut-same}
use Rattle.protox_grammar.proofs.Main as main
use Rattle.protox_grammar.proofs.Holding.{Holds, any-holds, holds-any}
use Rattle.protox_grammar.proofs.NotedFiles.{file-noted}
use Rattle.protox_grammar.proofs.Located.{Located, locate}
use Rattle.protox_grammar.proofs.Numbers.{numbered-append, numbered-length, numbered-at, take-drop, take-length, shapes-length, string-at}
use Rattle.protox_grammar.proofs.Placing.{last_row, is_string_row, last-past}

-- The beginning and the next row, of a source and of a file that begins as it does.
module _ (lexemes : List Lexeme) (n : ℕ) (f : t.File ℕ) (go : GoesOn (shapes (rows_of lexemes)) n f) where
  abbrev all_shapes : List Shape
  all_shapes = shapes (rows_of lexemes)

  abbrev front : Rows ℕ
  front = numbered 0 (take n all_shapes)

  abbrev rest : Rows ℕ
  rest = numbered (0 + length (take n all_shapes)) (drop n all_shapes)

  abbrev more : Rows ℕ
  more = numbered (0 + length (take n all_shapes)) go.more

  pub front-length : length front ≡ n
  front-length = numbered-length 0 (take n all_shapes) ∙ take-length n all_shapes (omega (arith, go.there, shapes-length (rows_of lexemes)))

  pub source-is : tokens_of lexemes ≡ front ++ rest
  source-is = ap (numbered 0) (sym (take-drop n all_shapes)) ∙ numbered-append 0 (take n all_shapes) (drop n all_shapes)

  pub file-is : s.spell f ≡ front ++ more
  file-is = sym go.spells.0 ∙ numbered-append 0 (take n all_shapes) go.more

  -- the steps up to there are the same, if the next rows are alike
  pub same-steps : (is_string_row (last_row None front) ≡ true → head_in is_string rest ≡ head_in is_string more) → steps_by lexemes n ≡ until n (steps 31 f)
  same-steps alike =
      let l = main.laws 0 31 in
      let agree = l.traced.agrees front rest f [] more (main.ends-of 0 31 f go.spells.1) (append-nil ((main.file_at 0 31).spell f) ∙ main.spelling 0 31 f ∙ file-is) alike in
      ap (λ u. until n (trace 31 u)) source-is ∙ ap (λ u. until u (trace 31 (front ++ rest))) (sym front-length) ∙ agree ∙ ap (λ u. until u (steps 31 f)) front-length

module _ (lexemes : List Lexeme) (n : ℕ) (wrong : ParseErrorKind) (f : t.File ℕ) (go : GoesOn (shapes (rows_of lexemes)) n f) where
  abbrev Q : CheckedNode ℕ → Type 0
  Q = IsWrongBefore lexemes n wrong

  all-tokens : tokens (steps 31 f) ≡ s.spell f
  all-tokens = (main.laws 0 31).traced.rows f ∙ main.spelling 0 31 f

  passed : (v : Located Q None 0 (steps 31 f) [] []) → Holds Q (noted_by lexemes n) ⊎ (is_too_deep_by lexemes n ≡ true)
  passed v =
      let spelled : s.spell f ≡ v.before ++ (v.here ∷ v.behind) = sym all-tokens ∙ v.parts in
      let at : v.here.at ≡ 0 + length v.before = numbered-at 0 (take n (shapes (rows_of lexemes)) ++ go.more) v.before v.here v.behind (go.spells.0 ∙ spelled) in
      let end : suc (length v.before) ≡ n = omega (arith, at, v.facts.0, v.holds.0) in
      let cuts : front lexemes n f go ++ more lexemes n f go ≡ (v.before ++ (v.here ∷ [])) ++ v.behind = sym (file-is lexemes n f go) ∙ spelled ∙ sym (append_assoc v.before (v.here ∷ []) v.behind) in
      let len : length (more lexemes n f go) ≡ length v.behind = omega (arith, ap length cuts, length-append (front lexemes n f go) (more lexemes n f go), length-append (v.before ++ (v.here ∷ [])) v.behind, length-append v.before (v.here ∷ []), front-length lexemes n f go, end) in
      let two = cut-same (front lexemes n f go) (v.before ++ (v.here ∷ [])) (more lexemes n f go) v.behind cuts len in
      let last : is_string_row (last_row None (front lexemes n f go)) ≡ is_string v.here.shape = ap (λ u. is_string_row (last_row None u)) two.0 ∙ ap is_string_row (last-past None v.before v.here []) in
      let alike : is_string_row (last_row None (front lexemes n f go)) ≡ true → head_in is_string (rest lexemes n f go) ≡ head_in is_string (more lexemes n f go) = λ g.
      let run : is_run v.node ≡ true = sym v.facts.1 ∙ sym last ∙ g in
      sym (string-at (rows_of lexemes) n _) ∙ v.holds.1 run ∙ sym (ap (head_in is_string) (two.1 ∙ sym (append-nil v.behind)) ∙ (v.facts.2 run).0) in
      let same : steps_by lexemes n ≡ until n (steps 31 f) = same-steps lexemes n f go alike in
      elim v.seen [
        | inl a ↦ inl (subst (λ u. Holds Q (noted_nodes None 0 u)) (ap (λ u. until u (steps 31 f)) end ∙ sym same) a)
        | inr a ↦ inr (subst (λ u. has_deep u ≡ true) (ap (λ u. until u (steps 31 f)) end ∙ sym same) a)
      ]

  none-passed : Holds Q (checked_nodes f) → Holds Q (noted_by lexemes n) ⊎ (is_too_deep_by lexemes n ≡ true)
  unfolding rule.file
  none-passed h =
      let placed = (main.laws 0 31).traced.placed f [] (main.ends-of 0 31 f go.spells.1) in
      passed (locate Q (steps 31 f) [] [] placed placed None 0 ((file-noted Q 0 f (main.may-of 0 31 f go.spells.1)).1 h))

pub none_is_passed_over : NoneIsPassedOver
none_is_passed_over lexemes n wrong h = elim (none-passed lexemes n wrong h.0 h.1 (any-holds (IsWrongBefore lexemes n wrong) (checked_nodes h.0) h.2)) [
  | inl a ↦ inl (holds-any (IsWrongBefore lexemes n wrong) (noted_by lexemes n) a)
  | inr a ↦ inr a
]

-- What is read and noted of rows with other tags.
use Rattle.std.proofs.Common.{◌≡◌, ◌↔◌, ℕ, zero, suc, Bool, true, false, ◌||◌, List, [], ◌∷◌, ◌++◌, map, Option, Some, None, Result, Ok, Err, refl, sym, ap, subst, ◌∙◌, ◌⊎◌}
use Rattle.std.specs.Prelude.{Any, option_map}
use Rattle.protox_fault.specs.Faults.{Span}
use Rattle.protox_lexeme.specs.Shapes.{Rows}
use Rattle.protox_fault.specs.declared.error.ParseErrorKind.{ParseErrorKind}
use Rattle.protox_fault.specs.declared.error.ParseErrorKind.TheVariants as fault
use Rattle.protox_ast.specs.AstParts.{join, last_place, run_span, strings_value, values}
use Rattle.protox_ast.specs.CheckedNodes.{CheckedNode, ASyntax, AnImport, AReservedName, AGroupName, APackageAgain, ATooDeep}
use Rattle.protox_ast.specs.Checks.{is_group_name, WrongCheckedNode, WrongSyntax, WrongImport, WrongReservedName}
use Rattle.protox_ast.specs.Tree as t
use Rattle.protox_grammar.specs.Bodies as rule
use Rattle.protox_grammar.specs.TagLaws.{map_tags, map_text, map_strings, map_package, map_event, map_node, map_step, map_steps, SameOutcome, IsSameOutcome, SameSteps}
use Rattle.protox_grammar.specs.Noted.{noted_nodes, open_behind}
use Rattle.protox_grammar.specs.Reader.{Refusal, ◌>>=◌}
use Rattle.protox_grammar.specs.Reads.{read}
use Rattle.protox_grammar.specs.Steps.{Event, ANode, APackage, AKeyword, ADeepBody, ADeeperBody, AnOpenBrace, ACloseBrace, Token, Note, Steps, tokens, is_too_deep, until, has_deep}
use Rattle.protox_grammar.proofs.Holding.{Holds, any-holds, holds-any}
use Rattle.protox_grammar.proofs.StepLists.{until-note}
use Rattle.protox_grammar.proofs.Tags.{Goes, Unnoted, no_mark, same-unmarked, steps-if}
use Rattle.protox_grammar.proofs.TagsOfRules.{file_at-alike}

-- ---- what holds for steps with other tags

module _ {M N : Type 0} (f : M → N) where
  event-deep : (e : Event M) → is_too_deep (map_event f e) ≡ is_too_deep e
  event-deep (ANode x) = refl
  event-deep (APackage x) = refl
  event-deep (AKeyword m) = refl
  event-deep (ADeepBody m) = refl
  event-deep (ADeeperBody m) = refl
  event-deep (AnOpenBrace m) = refl
  event-deep (ACloseBrace m) = refl

  pub tokens-map : (l : Steps M) → tokens (map_steps f l) ≡ map_tags f (tokens l)
  tokens-map [] = refl
  tokens-map (Token r ∷ l) = ap (λ u. record { shape = r.shape; at = f r.at } ∷ u) (tokens-map l)
  tokens-map (Note e ∷ l) = tokens-map l

  pub deep-map : (l : Steps M) → has_deep (map_steps f l) ≡ has_deep l
  deep-map [] = refl
  deep-map (Token r ∷ l) = deep-map l
  deep-map (Note e ∷ l) = λ i. event-deep e i || deep-map l i

  pub until-map : (n : ℕ) (l : Steps M) → until n (map_steps f l) ≡ map_steps f (until n l)
  until-map zero [] = refl
  until-map (suc n) [] = refl
  until-map zero (Token r ∷ l) = refl
  until-map (suc n) (Token r ∷ l) = ap (λ u. map_step f (Token r) ∷ u) (until-map n l)
  until-map n (Note e ∷ l) =
      until-note n (map_event f e) (map_steps f l)
      ∙ ap (λ u. Note (map_event f e) ∷ u) (steps-if f (is_too_deep e) (is_too_deep (map_event f e)) [] (until n l) [] (until n (map_steps f l)) (event-deep e) refl (until-map n l))
      ∙ ap (map_steps f) (sym (until-note n e l))

  pub open-map : (before : Bool) (l : Steps M) → open_behind before (map_steps f l) ≡ open_behind before l
  open-map before [] = refl
  open-map before (Token r ∷ l) = open-map before l
  open-map before (Note (ANode x) ∷ l) = open-map before l
  open-map before (Note (APackage x) ∷ l) = open-map before l
  open-map before (Note (AKeyword m) ∷ l) = open-map before l
  open-map before (Note (ADeepBody m) ∷ l) = open-map before l
  open-map before (Note (ADeeperBody m) ∷ l) = open-map before l
  open-map before (Note (AnOpenBrace m) ∷ l) = open-map true l
  open-map before (Note (ACloseBrace m) ∷ l) = open-map false l

  pub nodes-map : (first : Option (t.Package M)) (keyword : M) (l : Steps M) → noted_nodes (option_map (map_package f) first) (f keyword) (map_steps f l) ≡ map (map_node f) (noted_nodes first keyword l)
  nodes-map first keyword [] = refl
  nodes-map first keyword (Token r ∷ l) = nodes-map first keyword l
  nodes-map first keyword (Note (ANode x) ∷ l) = ap (λ u. map_node f x ∷ u) (nodes-map first keyword l)
  nodes-map None keyword (Note (APackage x) ∷ l) = nodes-map (Some x) keyword l
  nodes-map (Some first) keyword (Note (APackage x) ∷ l) = ap (λ u. map_node f (APackageAgain first x) ∷ u) (nodes-map (Some first) keyword l)
  nodes-map first keyword (Note (AKeyword m) ∷ l) = nodes-map first m l
  nodes-map first keyword (Note (ADeepBody m) ∷ l) = ap (λ u. map_node f (ATooDeep keyword m) ∷ u) (nodes-map first keyword l)
  nodes-map first keyword (Note (ADeeperBody m) ∷ l) = nodes-map first keyword l
  nodes-map first keyword (Note (AnOpenBrace m) ∷ l) = nodes-map first keyword l
  nodes-map first keyword (Note (ACloseBrace m) ∷ l) = nodes-map first keyword l

  -- ---- the faults of a node

  values-map : (xs : List (t.Text M)) → values (map (map_text f) xs) ≡ values xs
  values-map [] = refl
  values-map (x ∷ xs) = ap (λ u. x.0 ++ u) (values-map xs)

  pub strings_value-map : (x : t.Strings M) → strings_value (map_strings f x) ≡ strings_value x
  strings_value-map x = ap (λ u. x.first.0 ++ u) (values-map x.others)

  module _ (span : N → Span) (of : M → Span) (same : (m : M) → span (f m) ≡ of m) where
    last_place-map : (here : Span) (xs : List (t.Text M)) → last_place (λ (y : t.Text N). span y.1) here (map (map_text f) xs) ≡ last_place (λ (y : t.Text M). of y.1) here xs
    last_place-map here [] = refl
    last_place-map here (x ∷ xs) = ap (λ u. last_place (λ (y : t.Text N). span y.1) u (map (map_text f) xs)) (same x.1) ∙ last_place-map (of x.1) xs

    pub run_span-map : (x : t.Strings M) → run_span span (map_strings f x) ≡ run_span of x
    run_span-map x = λ i. join (same x.first.1 i) ((ap (λ u. last_place (λ (y : t.Text N). span y.1) u (map (map_text f) x.others)) (same x.first.1) ∙ last_place-map (of x.first.1) x.others) i)

    pub wrong-map : (node : CheckedNode M) (wrong : ParseErrorKind) → WrongCheckedNode span (map_node f node) wrong ≡ WrongCheckedNode of node wrong
    wrong-map (ASyntax x) wrong = λ i. WrongSyntax (run_span-map x i) (strings_value-map x i) wrong
    wrong-map (AnImport x) wrong = λ i. WrongImport (run_span-map x i) (strings_value-map x i) wrong
    wrong-map (AReservedName x) wrong = λ i. WrongReservedName (run_span-map x i) (strings_value-map x i) wrong
    wrong-map (AGroupName x) wrong = λ i. (is_group_name x.0 ≡ false) × (wrong ≡ fault.InvalidGroupName (same x.1 i))
    wrong-map (APackageAgain first again) wrong = λ i. wrong ≡ fault.DuplicatePackage (join (same first.keyword i) (same first.end i)) (join (same again.keyword i) (same again.end i))
    wrong-map (ATooDeep keyword open_at) wrong = λ i. wrong ≡ fault.MessageNestingTooDeep (same keyword i)

    holds-map : (wrong : ParseErrorKind) (nodes : List (CheckedNode M)) → Holds (λ node. WrongCheckedNode span node wrong) (map (map_node f) nodes) ≡ Holds (λ node. WrongCheckedNode of node wrong) nodes
    holds-map wrong [] = refl
    holds-map wrong (x ∷ xs) = λ i. wrong-map x wrong i ⊎ holds-map wrong xs i

    pub any-map : (wrong : ParseErrorKind) (nodes : List (CheckedNode M)) → Any (λ node. WrongCheckedNode span node wrong) (map (map_node f) nodes) ↔ Any (λ node. WrongCheckedNode of node wrong) nodes
    any-map wrong nodes = (
      λ h. holds-any _ nodes (subst (λ T. T) (holds-map wrong nodes) (any-holds _ (map (map_node f) nodes) h)),
      λ h. holds-any _ (map (map_node f) nodes) (subst (λ T. T) (sym (holds-map wrong nodes)) (any-holds _ nodes h)),
    )

-- ---- reading

mapped-outcome : {M N : Type 0} (f : M → N) (n : ℕ) (rows : Rows M) → IsSameOutcome (read n rows) (read n (map_tags f rows))
unfolding read
mapped-outcome {M} {N} f n rows = of-results ((rule.file (rule.mbody_at n)).read rows) ((rule.file (rule.mbody_at n)).read (map_tags f rows)) ((file_at-alike f n).reads rows)
  where
    of-results : (p : Result (t.File M × Rows M) Refusal) (q : Result (t.File N × Rows N) Refusal) → Goes f Unnoted p q → IsSameOutcome (p >>= λ x. Ok x.0) (q >>= λ y. Ok y.0)
    of-results (Ok x) (Ok y) h = tt
    of-results (Ok x) (Err e) h = absurd h
    of-results (Err d) (Ok y) h = absurd h
    of-results (Err d) (Err e) h = h

-- Two outcomes are the same if both are the same as a third one.
same-both : {A B C : Type 0} (p : Result A Refusal) (q : Result B Refusal) (u : Result C Refusal) → IsSameOutcome p u → IsSameOutcome q u → IsSameOutcome p q
same-both (Ok x) (Ok y) u h g = tt
same-both (Ok x) (Err e) (Ok z) h g = absurd g
same-both (Ok x) (Err e) (Err z) h g = absurd h
same-both (Err d) (Ok y) (Ok z) h g = absurd h
same-both (Err d) (Ok y) (Err z) h g = absurd g
same-both (Err d) (Err e) (Ok z) h g = absurd h
same-both (Err d) (Err e) (Err z) h g = h ∙ sym g

pub same_outcome : {M N : Type 0} → SameOutcome M N
same_outcome n rows others e =
    same-both (read n rows) (read n others) (read n (map_tags no_mark rows)) (mapped-outcome no_mark n rows)
    (subst (λ u. IsSameOutcome (read n others) (read n u)) (sym (same-unmarked rows others e)) (mapped-outcome no_mark n others))

pub same_steps : {M N : Type 0} → SameSteps M N
same_steps f n rows = (file_at-alike f n).traces rows

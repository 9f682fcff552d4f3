-- The laws of tags. What is read and noted depends on the tokens alone, not on their tags. Other
-- laws tag tokens with their numbers. Tokens that are tagged with their places give the same notes,
-- with the place of each number.
use Rattle.std.specs.Prelude.{◌≡◌, ◌↔◌, ◌≤◌, ℕ, Bool, List, [], map, length, None, Result, Ok, Err, Any}
use Rattle.protox_fault.specs.Faults.{span_from}
use Rattle.protox_lexeme.specs.Lexemes.{Lexeme}
use Rattle.protox_lexeme.specs.Shapes.{Rows}
use Rattle.protox_lexeme.specs.Table.{rows_of, table_of}
use Rattle.protox_fault.specs.declared.error.ParseErrorKind.{ParseErrorKind}
use Rattle.protox_ast.specs.CheckedNodes.{CheckedNode, ASyntax, AnImport, AReservedName, AGroupName, APackageAgain, ATooDeep}
use Rattle.protox_ast.specs.Checks.{WrongCheckedNode}
use Rattle.protox_ast.specs.Places.{Place, placed}
use Rattle.protox_ast.specs.Spells.{row_at, shapes}
use Rattle.protox_ast.specs.Tree as t
use Rattle.protox_ast.specs.Truth.{token_span}
use Rattle.protox_grammar.specs.CheckLaws.{IsNotedBy, is_too_deep_by, levels, noted_by, steps_by, tokens_of}
use Rattle.protox_grammar.specs.Noted.{noted_nodes, open_behind, trace}
use Rattle.protox_grammar.specs.Reader.{Refusal}
use Rattle.protox_grammar.specs.Reads.{read}
use Rattle.protox_grammar.specs.Steps.{Event, ANode, APackage, AKeyword, ADeepBody, ADeeperBody, AnOpenBrace, ACloseBrace, Step, Token, Note, Steps, tokens, until, has_deep}

-- ---- the same with other tags

-- Rows with other tags.
abbrev pub map_tags : {M N : Type 0} → (M → N) → Rows M → Rows N
map_tags f rows = map (λ row. record { shape = row.shape; at = f row.at }) rows

-- A word or a string with another tag.
abbrev pub map_text : {M N : Type 0} → (M → N) → t.Text M → t.Text N
map_text f x = (x.0, f x.1)

-- A run of strings with other tags.
abbrev pub map_strings : {M N : Type 0} → (M → N) → t.Strings M → t.Strings N
map_strings f x = record { first = map_text f x.first; others = map (map_text f) x.others }

-- A name with other tags.
abbrev pub map_fullident : {M N : Type 0} → (M → N) → t.FullIdent M → t.FullIdent N
map_fullident f x = record { first = map_text f x.first; others = map (λ y. (f y.0, map_text f y.1)) x.others }

-- A package statement with other tags.
abbrev pub map_package : {M N : Type 0} → (M → N) → t.Package M → t.Package N
map_package f x = record { keyword = f x.keyword; name = map_fullident f x.name; end = f x.end }

-- A checked node with other tags.
abbrev pub map_node : {M N : Type 0} → (M → N) → CheckedNode M → CheckedNode N
map_node f (ASyntax x) = ASyntax (map_strings f x)
map_node f (AnImport x) = AnImport (map_strings f x)
map_node f (AReservedName x) = AReservedName (map_strings f x)
map_node f (AGroupName x) = AGroupName (map_text f x)
map_node f (APackageAgain first again) = APackageAgain (map_package f first) (map_package f again)
map_node f (ATooDeep keyword open_at) = ATooDeep (f keyword) (f open_at)

-- An event with other tags.
abbrev pub map_event : {M N : Type 0} → (M → N) → Event M → Event N
map_event f (ANode x) = ANode (map_node f x)
map_event f (APackage x) = APackage (map_package f x)
map_event f (AKeyword m) = AKeyword (f m)
map_event f (ADeepBody m) = ADeepBody (f m)
map_event f (ADeeperBody m) = ADeeperBody (f m)
map_event f (AnOpenBrace m) = AnOpenBrace (f m)
map_event f (ACloseBrace m) = ACloseBrace (f m)

-- A step with other tags.
abbrev pub map_step : {M N : Type 0} → (M → N) → Step M → Step N
map_step f (Token r) = Token (record { shape = r.shape; at = f r.at })
map_step f (Note e) = Note (map_event f e)

-- Steps with other tags.
abbrev pub map_steps : {M N : Type 0} → (M → N) → Steps M → Steps N
map_steps f l = map (map_step f) l

-- ---- other tags change nothing

-- Both are read, or both are refused for the same reason at the same row.
abbrev pub IsSameOutcome : {A B : Type 0} → Result A Refusal → Result B Refusal → Type 0
IsSameOutcome (Ok x) (Ok y) = Unit {0}
IsSameOutcome (Err d) (Err e) = d ≡ e
IsSameOutcome _ _ = ⊥

-- Rows of the same shapes have the same outcome, whatever their tags are.
abbrev pub SameOutcome : Type 0 → Type 0 → Type 0
SameOutcome M N = (n : ℕ) (rows : Rows M) (others : Rows N) → shapes rows ≡ shapes others → IsSameOutcome (read n rows) (read n others)

-- Rows with other tags give the same steps, with these other tags.
abbrev pub SameSteps : Type 0 → Type 0 → Type 0
SameSteps M N = (f : M → N) (n : ℕ) (rows : Rows M) → trace n (map_tags f rows) ≡ map_steps f (trace n rows)

-- ---- the tokens of a source with their places

-- The tokens of a source, tagged with their places.
abbrev pub placed_tokens : List Lexeme → Rows Place
placed_tokens lexemes = placed (table_of lexemes)

-- A place that is not one of a token.
abbrev pub no_place : Place
no_place = record { span = span_from 0 0; detached = []; leading = None; trailing = None }

-- The place of token n.
abbrev pub place_at : List Lexeme → ℕ → Place
place_at lexemes n = (row_at no_place (placed_tokens lexemes) n).at

-- The tokens with their places are the tokens with their numbers, if the place of each number is
-- looked up.
abbrev pub PlacesAreLookedUp : Type 0
PlacesAreLookedUp = (lexemes : List Lexeme) → map_tags (place_at lexemes) (tokens_of lexemes) ≡ placed_tokens lexemes

-- The span of that place is the span of the token.
abbrev pub PlacesHaveSpans : Type 0
PlacesHaveSpans = (lexemes : List Lexeme) (n : ℕ) → (place_at lexemes n).span ≡ token_span (rows_of lexemes) n

-- Without the comments around them, these are the tokens with their spans.
abbrev pub SpansAreLeft : Type 0
SpansAreLeft = (lexemes : List Lexeme) → map_tags (λ place. place.span) (placed_tokens lexemes) ≡ rows_of lexemes

-- ---- what is noted of these tokens

-- The steps of reading the first n tokens with their places.
abbrev pub placed_steps_by : List Lexeme → ℕ → Steps Place
placed_steps_by lexemes n = until n (trace levels (placed_tokens lexemes))

-- The checked nodes that are noted by then.
abbrev pub placed_nodes_by : List Lexeme → ℕ → List (CheckedNode Place)
placed_nodes_by lexemes n = noted_nodes None (place_at lexemes 0) (placed_steps_by lexemes n)

-- Reading the first n tokens notes the same, whether they are tagged with places or with numbers.
pub record IsNotedAlike (lexemes : List Lexeme) (n : ℕ) : Type 0 where
  -- the steps are the same, if the place of each number is looked up
  pub steps : placed_steps_by lexemes n ≡ map_steps (place_at lexemes) (steps_by lexemes n)
  -- after the last token these are all steps of reading
  pub whole : length (rows_of lexemes) ≤ n → placed_steps_by lexemes n ≡ trace levels (placed_tokens lexemes)
  -- as many tokens are taken
  pub taken : length (tokens (placed_steps_by lexemes n)) ≡ length (tokens (steps_by lexemes n))
  -- both open a body that is too deep, or neither does
  pub too_deep : has_deep (placed_steps_by lexemes n) ≡ is_too_deep_by lexemes n
  -- an aggregate is open after both, or after neither
  pub is_open : (before : Bool) → open_behind before (placed_steps_by lexemes n) ≡ open_behind before (steps_by lexemes n)
  -- the same nodes are noted, if the place of each number is looked up
  pub nodes : placed_nodes_by lexemes n ≡ map (map_node (place_at lexemes)) (noted_by lexemes n)
  -- these nodes have the same faults
  pub faults : (wrong : ParseErrorKind) → Any (λ node. WrongCheckedNode (λ place. place.span) node wrong) (placed_nodes_by lexemes n) ↔ IsNotedBy lexemes n wrong

-- This holds for every source and every number of tokens.
abbrev pub NotedAlike : Type 0
NotedAlike = (lexemes : List Lexeme) (n : ℕ) → IsNotedAlike lexemes n

-- A node has the same faults, whether its tags are numbers or places.
abbrev pub WrongAlike : Type 0
WrongAlike = (lexemes : List Lexeme) (node : CheckedNode ℕ) (wrong : ParseErrorKind)
    → WrongCheckedNode (λ place. place.span) (map_node (place_at lexemes) node) wrong ↔ WrongCheckedNode (token_span (rows_of lexemes)) node wrong

-- Among the steps of a tree, a body that is too deep is noted only outside aggregates. Right after
-- its `{` no brace of an aggregate is noted.
use Rattle.std.proofs.Common.{◌≡◌, ℕ, zero, suc, Bool, true, false, List, [], ◌∷◌, ◌++◌, Option, Some, None, refl, sym, subst}
use Rattle.protox_lexeme.specs.Shapes.{Mark, Row, Rows}
use Rattle.protox_ast.specs.Tree as t
use Rattle.protox_ast.specs.Spelling as s
use Rattle.protox_ast.specs.KeywordWalk as k
use Rattle.protox_ast.specs.DepthWalk as d
use Rattle.protox_ast.specs.inner.AggregateWalk as a
use Rattle.protox_ast.specs.inner.AggregateWalk.{Braces}
use Rattle.protox_ast.specs.CheckedNodes.{CheckedNode, ASyntax, AnImport, AReservedName}
use Rattle.protox_grammar.specs.Rule.{Rule, row, seq}
use Rattle.protox_grammar.specs.Rules as r
use Rattle.protox_grammar.specs.Bodies as rule
use Rattle.protox_grammar.specs.Steps.{Event, ANode, APackage, AKeyword, ADeepBody, ADeeperBody, AnOpenBrace, ACloseBrace, Token, Note, Steps, plainly, steps_of_many, steps_of_option}
use Rattle.protox_grammar.specs.Noted.{steps}
use Rattle.protox_grammar.proofs.Laws.{head-same}
use Rattle.protox_grammar.proofs.StepLists.{Quiet}
use Rattle.protox_grammar.proofs.Notes.{notes, brace_events}
use Rattle.protox_grammar.proofs.Braced as braced
use Rattle.protox_grammar.proofs.Braced.{Braced}
use Rattle.protox_grammar.proofs.Messages as messages
use Rattle.protox_grammar.proofs.Depths as depths

-- a row comes first
abbrev pub TakesFirst : {M : Type 0} → Steps M → Type 0
TakesFirst [] = ⊥
TakesFirst (Token r ∷ l) = Unit {0}
TakesFirst (Note e ∷ l) = ⊥

-- Given whether an aggregate is open before these steps: none is open at a body that is too deep,
-- nor at the end. After such a body a row is taken.
abbrev pub Outside : {M : Type 0} → Bool → Steps M → Type 0
Outside b [] = b ≡ false
Outside b (Token r ∷ l) = Outside b l
Outside b (Note (AnOpenBrace m) ∷ l) = Outside true l
Outside b (Note (ACloseBrace m) ∷ l) = Outside false l
Outside b (Note (ADeepBody m) ∷ l) = (b ≡ false) × TakesFirst l × Outside b l
Outside b (Note (ADeeperBody m) ∷ l) = (b ≡ false) × TakesFirst l × Outside b l
Outside b (Note (ANode x) ∷ l) = Outside b l
Outside b (Note (APackage x) ∷ l) = Outside b l
Outside b (Note (AKeyword x) ∷ l) = Outside b l

-- ---- lists of steps

takes-both : {M : Type 0} (l j : Steps M) → TakesFirst l → TakesFirst (l ++ j)
takes-both [] j h = absurd h
takes-both (Token r ∷ l) j h = tt
takes-both (Note e ∷ l) j h = absurd h

takes-last : {M : Type 0} (l : Steps M) (q : Row M) → Quiet l → TakesFirst (l ++ (Token q ∷ []))
takes-last [] q h = tt
takes-last (Token r ∷ l) q h = tt
takes-last (Note e ∷ l) q h = absurd h

takes-plainly : {M : Type 0} (rs : Rows M) (q : Row M) → TakesFirst (plainly (rs ++ (q ∷ [])))
takes-plainly [] q = tt
takes-plainly (r ∷ rs) q = tt

pub outside-both : {M : Type 0} (b : Bool) (l j : Steps M) → Outside b l → Outside false j → Outside b (l ++ j)
outside-both b [] j h g = subst (λ v. Outside v j) (sym h) g
outside-both b (Token r ∷ l) j h g = outside-both b l j h g
outside-both b (Note (AnOpenBrace m) ∷ l) j h g = outside-both true l j h g
outside-both b (Note (ACloseBrace m) ∷ l) j h g = outside-both false l j h g
outside-both b (Note (ADeepBody m) ∷ l) j h g = (h.0, takes-both l j h.1, outside-both b l j h.2 g)
outside-both b (Note (ADeeperBody m) ∷ l) j h g = (h.0, takes-both l j h.1, outside-both b l j h.2 g)
outside-both b (Note (ANode x) ∷ l) j h g = outside-both b l j h g
outside-both b (Note (APackage x) ∷ l) j h g = outside-both b l j h g
outside-both b (Note (AKeyword x) ∷ l) j h g = outside-both b l j h g

outside-plainly : {M : Type 0} (rs : Rows M) → Outside false (plainly rs)
outside-plainly [] = refl
outside-plainly (r ∷ rs) = outside-plainly rs

outside-many : {M A : Type 0} (f : A → Steps M) → ((x : A) → Outside false (f x)) → (xs : List A) → Outside false (steps_of_many f xs)
outside-many f h [] = refl
outside-many f h (x ∷ xs) = outside-both false (f x) (steps_of_many f xs) (h x) (outside-many f h xs)

-- ---- where only braces are noted, in pairs

-- The notes to come, given whether an aggregate is open.
abbrev Comes : {M : Type 0} → Bool → M → Braces M → List (Event M)
Comes true c bs = ACloseBrace c ∷ brace_events bs
Comes false c bs = brace_events bs

no-notes : {M : Type 0} (e : Event M) (es : List (Event M)) → [] ≡ e ∷ es → ⊥
no-notes e es h = absurd cc

outside-at : {M : Type 0} (l : Steps M) (b : Bool) (c : M) (bs : Braces M) → notes l ≡ Comes b c bs → Outside b l
outside-at [] true c bs h = absurd (no-notes (ACloseBrace c) (brace_events bs) h)
outside-at [] false c bs h = refl
outside-at (Token r ∷ l) b c bs h = outside-at l b c bs h
outside-at (Note e ∷ l) true c bs h =
    let same = head-same e (ACloseBrace c) (notes l) (brace_events bs) h in
    subst (λ u. Outside true (Note u ∷ l)) (sym same.0) (outside-at l false c bs same.1)
outside-at (Note e ∷ l) false c [] h = absurd (no-notes e (notes l) (sym h))
outside-at (Note e ∷ l) false c (p ∷ bs) h =
    let same = head-same e (AnOpenBrace p.0) (notes l) (ACloseBrace p.1 ∷ brace_events bs) h in
    subst (λ u. Outside false (Note u ∷ l)) (sym same.0) (outside-at l true p.1 bs same.1)

-- without a brace
outside-bare : {M : Type 0} (l : Steps M) → Braced l [] → Outside false l
outside-bare [] h = refl
outside-bare (Token r ∷ l) h = outside-bare l h
outside-bare (Note e ∷ l) h = absurd (no-notes e (notes l) (sym h))

outside-braced : {M : Type 0} (l : Steps M) (bs : Braces M) → Braced l bs → Outside false l
outside-braced l [] h = outside-bare l h
outside-braced l (p ∷ bs) h = outside-at l false p.0 (p ∷ bs) h

-- ---- trees without bodies

module _ {M : Type 0} where
  run-outside : (node : t.Strings M → CheckedNode M) (x : t.Strings M) → Outside false ((r.noted_strings node).steps x)
  run-outside node x = outside-both false (r.strings.steps x) (Note (ANode (node x)) ∷ []) (outside-braced (r.strings.steps x) [] (braced.strings-braced x)) refl

  syntax-outside : (o : Option (t.Syntax M)) → Outside false (steps_of_option r.syntax.steps o)
  unfolding r.syntax
  syntax-outside None = refl
  syntax-outside (Some x) = outside-both false ((r.noted_strings ASyntax).steps x.value) ((r.sign s.semicolon).steps x.end) (run-outside ASyntax x.value) refl

  import-outside : (x : t.Import M) → Outside false (r.«import».steps x)
  unfolding r.«import»
  import-outside x =
      outside-both false (steps_of_option r.import_kind.steps x.kind) ((seq (r.noted_strings AnImport) (r.sign s.semicolon)).steps (x.value, x.end))
      (outside-braced (steps_of_option r.import_kind.steps x.kind) [] (braced.maybe-none r.import_kind.steps braced.import_kind-braced x.kind))
      (outside-both false ((r.noted_strings AnImport).steps x.value) ((r.sign s.semicolon).steps x.end) (run-outside AnImport x.value) refl)

  reserved_kind-outside : (x : t.ReservedKind M) → Outside false (r.reserved_kind.steps x)
  unfolding r.reserved_kind r.names
  reserved_kind-outside (t.ranges x) = outside-braced (r.ranges.steps x) [] (braced.ranges-braced x)
  reserved_kind-outside (t.names x) =
      outside-both false ((r.noted_strings AReservedName).steps x.first) (steps_of_many (seq (r.sign s.comma) (r.noted_strings AReservedName)).steps x.others)
      (run-outside AReservedName x.first) (outside-many (seq (r.sign s.comma) (r.noted_strings AReservedName)).steps (λ y. run-outside AReservedName y.1) x.others)

  reserved-outside : (x : t.Reserved M) → Outside false (r.reserved.steps x)
  unfolding r.reserved
  reserved-outside x = outside-both false (r.reserved_kind.steps x.kind) ((r.sign s.semicolon).steps x.end) (reserved_kind-outside x.kind) refl

  option-outside : (x : t.OptionStatement M) → Outside false (r.option.steps x)
  option-outside x = outside-braced (r.option.steps x) (a.of_option x) (braced.option-braced x)

  enum_element-outside : (x : t.EnumElement M) → Outside false (r.enum_element.steps x)
  unfolding r.enum_element
  enum_element-outside (t.enum_empty x) = refl
  enum_element-outside (t.enum_option x) = option-outside x
  enum_element-outside (t.enum_reserved x) = reserved-outside x
  enum_element-outside (t.enum_value x) = outside-braced (r.evalue.steps x) (a.of_list x.options) (braced.evalue-braced x)

  enum-outside : (x : t.Enum M) → Outside false (r.enum.steps x)
  unfolding r.enum
  enum-outside x = outside-both false (steps_of_many r.enum_element.steps x.elements) ((r.sign s.close_brace).steps x.close_at) (outside-many r.enum_element.steps enum_element-outside x.elements) refl

  -- ---- given the rule of a body

  module _ (b : Rule M (t.Mbody M)) (f : (x : t.Mbody M) → Outside false (b.steps x)) where
    group-outside : (x : t.Group M) → Outside false ((rule.group b).steps x)
    unfolding rule.group
    group-outside (t.group_of m n e i o x) =
        outside-both false (r.int.steps i) (steps_of_option r.list.steps o ++ b.steps x) (outside-braced (r.int.steps i) [] (braced.int-braced i))
        (outside-both false (steps_of_option r.list.steps o) (b.steps x) (outside-braced (steps_of_option r.list.steps o) (a.of_list o) (braced.options-braced o)) (f x))

    kind-outside : (x : t.FieldKind M) → Outside false ((rule.field_kind b).steps x)
    unfolding rule.field_kind
    kind-outside (t.normal x) = outside-braced (r.normal.steps x) (a.of_list x.options) (braced.normal-braced x)
    kind-outside (t.map x) = outside-braced (r.map.steps x) (a.of_list x.options) (braced.map-braced x)
    kind-outside (t.group x) = group-outside x

    field-outside : (x : t.Field M) → Outside false ((rule.field b).steps x)
    unfolding rule.field
    field-outside (t.field_of (Some l) x) = outside-both false (r.label.steps l) ((rule.field_kind b).steps x) (outside-braced (r.label.steps l) [] (braced.label-braced l)) (kind-outside x)
    field-outside (t.field_of None x) = kind-outside x

    oneof_element-outside : (x : t.OneofElement M) → Outside false ((rule.oneof_element b).steps x)
    unfolding rule.oneof_element
    oneof_element-outside (t.oneof_empty m) = refl
    oneof_element-outside (t.oneof_option x) = option-outside x
    oneof_element-outside (t.oneof_field x) = field-outside x

    oneof_elements-outside : (x : t.OneofElements M) → Outside false ((rule.oneof_elements b).steps x)
    unfolding rule.oneof_elements
    oneof_elements-outside t.no_oneof_elements = refl
    oneof_elements-outside (t.oneof_elements e es) = outside-both false ((rule.oneof_element b).steps e) ((rule.oneof_elements b).steps es) (oneof_element-outside e) (oneof_elements-outside es)

    oneof-outside : (x : t.Oneof M) → Outside false ((rule.oneof b).steps x)
    unfolding rule.oneof
    oneof-outside (t.oneof_of m n o es z) = outside-both false ((rule.oneof_elements b).steps es) ((r.sign s.close_brace).steps z) (oneof_elements-outside es) refl

    extend_element-outside : (x : t.ExtendElement M) → Outside false ((rule.extend_element b).steps x)
    unfolding rule.extend_element
    extend_element-outside (t.extend_empty m) = refl
    extend_element-outside (t.extend_field x) = field-outside x

    extend_elements-outside : (x : t.ExtendElements M) → Outside false ((rule.extend_elements b).steps x)
    unfolding rule.extend_elements
    extend_elements-outside t.no_extend_elements = refl
    extend_elements-outside (t.extend_elements e es) = outside-both false ((rule.extend_element b).steps e) ((rule.extend_elements b).steps es) (extend_element-outside e) (extend_elements-outside es)

    extend-outside : (x : t.Extend M) → Outside false ((rule.extend b).steps x)
    unfolding rule.extend
    extend-outside (t.extend_of m n o es z) =
        outside-both false (r.typename.steps n) ((r.sign s.open_brace).steps o ++ ((rule.extend_elements b).steps es ++ (r.sign s.close_brace).steps z)) (outside-braced (r.typename.steps n) [] (braced.typename-braced n))
        (outside-both false ((rule.extend_elements b).steps es) ((r.sign s.close_brace).steps z) (extend_elements-outside es) refl)

    message-outside : (x : t.Message M) → Outside false ((rule.message b).steps x)
    unfolding rule.message
    message-outside (t.message_of m n x) = f x

    element-outside : (x : t.Element M) → Outside false ((rule.element b).steps x)
    unfolding rule.element
    element-outside (t.empty m) = refl
    element-outside (t.field x) = field-outside x
    element-outside (t.oneof x) = oneof-outside x
    element-outside (t.enum x) = enum-outside x
    element-outside (t.message x) = message-outside x
    element-outside (t.extend x) = extend-outside x
    element-outside (t.option x) = option-outside x
    element-outside (t.reserved x) = reserved-outside x
    element-outside (t.extensions x) = outside-braced (r.extensions.steps x) (a.of_extensions x) (braced.extensions-braced x)

    elements-outside : (x : t.Elements M) → Outside false ((rule.elements b).steps x)
    unfolding rule.elements
    elements-outside t.no_elements = refl
    elements-outside (t.elements e es) = outside-both false ((rule.element b).steps e) ((rule.elements b).steps es) (element-outside e) (elements-outside es)

    -- the elements of a body and its `}`
    inside-outside : (es : t.Elements M) (z : M) → Outside false ((rule.elements b).steps es ++ (r.sign s.close_brace).steps z)
    inside-outside es z = outside-both false ((rule.elements b).steps es) ((r.sign s.close_brace).steps z) (elements-outside es) refl

    statement-outside : (x : t.Statement M) → Outside false ((rule.statement b).steps x)
    unfolding rule.statement
    statement-outside (t.an_empty m) = refl
    statement-outside (t.an_import x) = import-outside x
    statement-outside (t.a_package x) = outside-both false (r.«package».steps x) (Note (APackage x) ∷ []) (outside-braced (r.«package».steps x) [] (braced.package-braced x)) refl
    statement-outside (t.an_option x) = option-outside x
    statement-outside (t.an_extend x) = extend-outside x
    statement-outside (t.a_message x) = message-outside x
    statement-outside (t.an_enum x) = enum-outside x
    statement-outside (t.a_service x) = outside-braced (r.service.steps x) (a.of_service x) (braced.service-braced x)

  -- ---- bodies

  abbrev deeper : ℕ → Rule M (t.Mbody M)
  deeper n = rule.sealed k.KeepsMbody (λ x. ⊥) rule.deep_read (rule.deep_steps ADeeperBody n) (rule.deep_trace ADeeperBody)

  -- after the `{` of a body a row is taken
  behind-open : (n : ℕ) (es : t.Elements M) (z : M) → TakesFirst ((rule.elements (deeper n)).steps es ++ (r.sign s.close_brace).steps z)
  behind-open n es z =
      takes-last ((rule.elements (deeper n)).steps es) (row (Mark s.close_brace) z)
      ((messages.elements-laws z k.KeepsMbody (λ x. ⊥) rule.deep_read (rule.deep_steps ADeeperBody n) (rule.deep_trace ADeeperBody) (depths.inner-laws z n)).traced.quiet es)

  deeper-outside : (n : ℕ) (x : t.Mbody M) → Outside false (rule.deep_steps ADeeperBody n x)
  unfolding rule.deep_steps rule.mbody
  deeper-outside zero (t.mbody_of o es z) = (refl, takes-plainly (s.elements es) (row (Mark s.close_brace) z), outside-plainly (s.elements es ++ (row (Mark s.close_brace) z ∷ [])))
  deeper-outside (suc n) (t.mbody_of o es z) = (refl, behind-open n es z, inside-outside (deeper n) (deeper-outside n) es z)

  deep-outside : (n : ℕ) (x : t.Mbody M) → Outside false (rule.deep_steps ADeepBody n x)
  unfolding rule.deep_steps rule.mbody
  deep-outside zero (t.mbody_of o es z) = (refl, takes-plainly (s.elements es) (row (Mark s.close_brace) z), outside-plainly (s.elements es ++ (row (Mark s.close_brace) z ∷ [])))
  deep-outside (suc n) (t.mbody_of o es z) = (refl, behind-open n es z, inside-outside (deeper n) (deeper-outside n) es z)

  body-outside : (n : ℕ) (x : t.Mbody M) → Outside false ((rule.mbody_at n).steps x)
  unfolding rule.unsealed rule.mbody
  body-outside zero x = deep-outside (suc (d.mbody_depth x)) x
  body-outside (suc n) (t.mbody_of o es z) = inside-outside (rule.mbody_at n) (body-outside n) es z

  -- ---- files

  pub file-outside : (n : ℕ) (f : t.File M) → Outside false (steps n f)
  unfolding rule.file
  file-outside n f =
      outside-both false (steps_of_option r.syntax.steps f.syntax) (steps_of_many (rule.statement (rule.mbody_at n)).steps f.statements)
      (syntax-outside f.syntax) (outside-many (rule.statement (rule.mbody_at n)).steps (statement-outside (rule.mbody_at n) (body-outside n)) f.statements)

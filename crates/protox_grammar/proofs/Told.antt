-- What is noted among the steps of a tree: its checked nodes, the braces of its aggregates, and
-- bodies that are too deep, of which the first has level 32.
use Rattle.std.proofs.Common.{◌≡◌, ◌≤◌, ℕ, zero, suc, ◌+◌, cond, List, [], ◌∷◌, ◌++◌, map, Option, Some, None, refl, sym, ap, subst, ◌∙◌, append_assoc, arith}
use Rattle.std.proofs.lemmas.Bool.{ne_eqb}
use Rattle.std.proofs.lemmas.List.{append-nil}
use Rattle.std.specs.List.{flat_map}
use Rattle.protox_ast.specs.Tree as t
use Rattle.protox_ast.specs.Spelling as s
use Rattle.protox_ast.specs.KeywordWalk as k
use Rattle.protox_ast.specs.DepthWalk as d
use Rattle.protox_ast.specs.inner.AggregateWalk as a
use Rattle.protox_ast.specs.inner.AggregateWalk.{Braces}
use Rattle.protox_ast.specs.inner.CheckWalk as c
use Rattle.protox_ast.specs.CheckedNodes.{CheckedNode, ASyntax, AnImport, AReservedName, AGroupName, ATooDeep}
use Rattle.protox_grammar.specs.Rule.{Rule, seq}
use Rattle.protox_grammar.specs.Rules as r
use Rattle.protox_grammar.specs.Bodies as rule
use Rattle.protox_grammar.specs.Steps.{ANode, APackage, ADeepBody, ADeeperBody, Note, Steps, steps_of_many, steps_of_option}
use Rattle.protox_grammar.specs.Noted.{noted_nodes}
use Rattle.protox_grammar.proofs.Notes.{notes, notes-append, brace_events, events-append, braces_in, braces-append, brace_notes, brace_pairs, IsBrace, events-braces, past-braces, IsShallow, shallow-append, events-shallow}
use Rattle.protox_grammar.proofs.Braced as braced
use Rattle.protox_grammar.proofs.Braced.{Braced}
use Rattle.protox_grammar.proofs.Levels.{mbody-into}

-- These nodes are noted, whatever comes before and after.
abbrev pub Says : {M : Type 0} → Steps M → List (CheckedNode M) → Type 0
Says {M} l ns = (p : Option (t.Package M)) (w : M) → (v : M) × ((j : Steps M) → noted_nodes p w (l ++ j) ≡ ns ++ noted_nodes p v j)

-- If no node is noted.
pub past : {M : Type 0} (p : Option (t.Package M)) (w : M) (l j : Steps M) (bs : Braces M) → Braced l bs → noted_nodes p w (l ++ j) ≡ noted_nodes p w j
past p w l j bs h = past-braces p w l j (subst (k.Each IsBrace) (sym h) (events-braces bs))

-- For steps under S, which says that they are not in a body that is too deep.
module _ {M : Type 0} (S : Type 0) where
  -- these braces are noted; of the bodies that are too deep the first has level 32
  abbrev pub Marks : Steps M → Braces M → Type 0
  Marks l bs = (brace_notes l ≡ brace_pairs bs) × (S → IsShallow (notes l))

  abbrev pub Tells : Steps M → List (CheckedNode M) → Braces M → Type 0
  Tells l ns bs = Says l ns × Marks l bs

  pub marks-both : (l j : Steps M) (xs ys : Braces M) → Marks l xs → Marks j ys → Marks (l ++ j) (xs ++ ys)
  marks-both l j xs ys f g = (
    ap braces_in (notes-append l j) ∙ braces-append (notes l) (notes j) ∙ (λ i. f.0 i ++ g.0 i) ∙ sym (braces-append (brace_events xs) (brace_events ys)) ∙ ap braces_in (sym (events-append xs ys)),
    λ s. subst IsShallow (sym (notes-append l j)) (shallow-append (notes l) (notes j) (f.1 s) (g.1 s)),
  )

  pub marks-braced : (l : Steps M) (bs : Braces M) → Braced l bs → Marks l bs
  marks-braced l bs h = (ap braces_in h, λ s. subst IsShallow (sym h) (events-shallow bs))

  -- with no aggregate after it
  pub marks-after : (l j : Steps M) (bs : Braces M) → Marks l bs → Braced j [] → Marks (l ++ j) bs
  marks-after l j bs f h = subst (Marks (l ++ j)) (append-nil bs) (marks-both l j bs [] f (marks-braced j [] h))

  pub tells-none : Tells [] [] []
  tells-none = ((λ p w. (w, λ j. refl)), (refl, λ s. tt))

  pub tells-braced : (l : Steps M) (bs : Braces M) → Braced l bs → Tells l [] bs
  tells-braced l bs h = ((λ p w. (w, λ j. past p w l j bs h)), marks-braced l bs h)

  pub tells-both : (l j : Steps M) (ns ms : List (CheckedNode M)) (xs ys : Braces M) → Tells l ns xs → Tells j ms ys → Tells (l ++ j) (ns ++ ms) (xs ++ ys)
  tells-both l j ns ms xs ys f g = (says, marks-both l j xs ys f.1 g.1)
    where
      says : Says (l ++ j) (ns ++ ms)
      says p w =
          let e = f.0 p w in
          let h = g.0 p e.0 in
          (h.0, λ i. ap (λ u. noted_nodes p w u) (append_assoc l j i) ∙ e.1 (j ++ i) ∙ ap (λ u. ns ++ u) (h.1 i) ∙ sym (append_assoc ns ms (noted_nodes p h.0 i)))

  -- with nothing noted after it, or before it
  pub tells-after : (l j : Steps M) (ns : List (CheckedNode M)) (bs : Braces M) → Tells l ns bs → Braced j [] → Tells (l ++ j) ns bs
  tells-after l j ns bs f h = (says, marks-after l j bs f.1 h)
    where
      says : Says (l ++ j) ns
      says p w =
          let e = f.0 p w in
          (e.0, λ i. ap (λ u. noted_nodes p w u) (append_assoc l j i) ∙ e.1 (j ++ i) ∙ ap (λ u. ns ++ u) (past p e.0 j i [] h))

  pub tells-before : (l j : Steps M) (ns : List (CheckedNode M)) (bs : Braces M) → Braced l [] → Tells j ns bs → Tells (l ++ j) ns bs
  tells-before l j ns bs h f = tells-both l j [] ns [] bs (tells-braced l [] h) f

  pub tells-many : {A : Type 0} (f : A → Steps M) (g : A → List (CheckedNode M)) (b : A → Braces M) → ((x : A) → Tells (f x) (g x) (b x)) → (xs : List A) → Tells (steps_of_many f xs) (flat_map g xs) (flat_map b xs)
  tells-many f g b h [] = tells-none
  tells-many f g b h (x ∷ xs) = tells-both (f x) (steps_of_many f xs) (g x) (flat_map g xs) (b x) (flat_map b xs) (h x) (tells-many f g b h xs)

  -- ---- runs of strings

  one-node : (n : CheckedNode M) → Tells (Note (ANode n) ∷ []) (n ∷ []) []
  one-node n = ((λ p w. (w, λ j. refl)), (refl, λ s. tt))

  run-tells : (node : t.Strings M → CheckedNode M) (x : t.Strings M) → Tells ((r.noted_strings node).steps x) (node x ∷ []) []
  run-tells node x = tells-before (r.strings.steps x) (Note (ANode (node x)) ∷ []) (node x ∷ []) [] (braced.strings-braced x) (one-node (node x))

  pub syntax-tells : (o : Option (t.Syntax M)) → Tells (steps_of_option r.syntax.steps o) (c.syntax_nodes o) []
  unfolding r.syntax
  syntax-tells None = tells-none
  syntax-tells (Some x) = tells-after ((r.noted_strings ASyntax).steps x.value) ((r.sign s.semicolon).steps x.end) (ASyntax x.value ∷ []) [] (run-tells ASyntax x.value) refl

  pub import-tells : (x : t.Import M) → Tells (r.«import».steps x) (AnImport x.value ∷ []) []
  unfolding r.«import»
  import-tells x =
      tells-before (steps_of_option r.import_kind.steps x.kind) ((seq (r.noted_strings AnImport) (r.sign s.semicolon)).steps (x.value, x.end)) (AnImport x.value ∷ []) [] (braced.maybe-none r.import_kind.steps braced.import_kind-braced x.kind)
      (tells-after ((r.noted_strings AnImport).steps x.value) ((r.sign s.semicolon).steps x.end) (AnImport x.value ∷ []) [] (run-tells AnImport x.value) refl)

  names-tell : (xs : List (M × t.Strings M)) → Tells (steps_of_many (seq (r.sign s.comma) (r.noted_strings AReservedName)).steps xs) (map (λ y. AReservedName y.1) xs) []
  names-tell [] = tells-none
  names-tell (x ∷ xs) =
      tells-both ((seq (r.sign s.comma) (r.noted_strings AReservedName)).steps x) (steps_of_many (seq (r.sign s.comma) (r.noted_strings AReservedName)).steps xs) (AReservedName x.1 ∷ []) (map (λ y. AReservedName y.1) xs) [] []
      (run-tells AReservedName x.1) (names-tell xs)

  reserved_kind-tells : (x : t.ReservedKind M) → Tells (r.reserved_kind.steps x) (c.reserved_nodes x) []
  unfolding r.reserved_kind r.names
  reserved_kind-tells (t.ranges x) = tells-braced (r.ranges.steps x) [] (braced.ranges-braced x)
  reserved_kind-tells (t.names x) =
      tells-both ((r.noted_strings AReservedName).steps x.first) (steps_of_many (seq (r.sign s.comma) (r.noted_strings AReservedName)).steps x.others) (AReservedName x.first ∷ []) (map (λ y. AReservedName y.1) x.others) [] []
      (run-tells AReservedName x.first) (names-tell x.others)

  pub reserved-tells : (x : t.Reserved M) → Tells (r.reserved.steps x) (c.reserved_nodes x.kind) []
  unfolding r.reserved
  reserved-tells x = tells-after (r.reserved_kind.steps x.kind) ((r.sign s.semicolon).steps x.end) (c.reserved_nodes x.kind) [] (reserved_kind-tells x.kind) refl

  enum_element-tells : (x : t.EnumElement M) → Tells (r.enum_element.steps x) (c.enum_element_nodes x) (a.of_enum_element x)
  unfolding r.enum_element
  enum_element-tells (t.enum_empty x) = tells-none
  enum_element-tells (t.enum_option x) = tells-braced (r.option.steps x) (a.of_option x) (braced.option-braced x)
  enum_element-tells (t.enum_reserved x) = reserved-tells x
  enum_element-tells (t.enum_value x) = tells-braced (r.evalue.steps x) (a.of_list x.options) (braced.evalue-braced x)

  pub enum-tells : (x : t.Enum M) → Tells (r.enum.steps x) (c.enum_nodes x) (a.of_enum x)
  unfolding r.enum
  enum-tells x = tells-after (steps_of_many r.enum_element.steps x.elements) ((r.sign s.close_brace).steps x.close_at) (c.enum_nodes x) (a.of_enum x) (tells-many r.enum_element.steps c.enum_element_nodes a.of_enum_element enum_element-tells x.elements) refl

  -- ---- given what is noted in a body of this level

  abbrev pub SaysBody : ℕ → t.Mbody M → Steps M → Type 0
  SaysBody level x l = (p : Option (t.Package M)) (w : M) → (v : M) × ((j : Steps M) → noted_nodes p w (l ++ j) ≡ c.body_nodes level w x ++ noted_nodes p v j)

  abbrev pub TellsBody : ℕ → t.Mbody M → Steps M → Type 0
  TellsBody level x l = SaysBody level x l × Marks l (a.of_mbody x)

  module _ (b : Rule M (t.Mbody M)) (P : t.Mbody M → Type 0) (level : ℕ) (f : (x : t.Mbody M) → P x → TellsBody level x (b.steps x)) where
    group-tells : (x : t.Group M) → rule.GroupHas P x → Tells ((rule.group b).steps x) (c.group_nodes level x) (a.of_group x)
    unfolding rule.group
    group-tells (t.group_of m n e i o x) h =
        let l : Steps M = r.int.steps i ++ steps_of_option r.list.steps o in
        let bare : Braced l (a.of_list o) = braced.second (r.int.steps i) (steps_of_option r.list.steps o) (a.of_list o) (braced.int-braced i) (braced.options-braced o) in
        let all : r.int.steps i ++ (steps_of_option r.list.steps o ++ b.steps x) ≡ l ++ b.steps x = sym (append_assoc (r.int.steps i) (steps_of_option r.list.steps o) (b.steps x)) in
        let y = f x h.1 in (
          λ p w. let v = y.0 p m in (v.0, λ j. ap (λ u. AGroupName n ∷ noted_nodes p m (u ++ j)) all ∙ ap (λ u. AGroupName n ∷ u) (ap (noted_nodes p m) (append_assoc l (b.steps x) j) ∙ past p m l (b.steps x ++ j) (a.of_list o) bare ∙ v.1 j)),
          subst (λ u. Marks u (a.of_list o ++ a.of_mbody x)) (sym all) (marks-both l (b.steps x) (a.of_list o) (a.of_mbody x) (marks-braced l (a.of_list o) bare) y.1),
        )

    kind-tells : (x : t.FieldKind M) → rule.KindHas P x → Tells ((rule.field_kind b).steps x) (c.kind_nodes level x) (a.of_kind x)
    unfolding rule.field_kind
    kind-tells (t.normal x) h = tells-braced (r.normal.steps x) (a.of_list x.options) (braced.normal-braced x)
    kind-tells (t.map x) h = tells-braced (r.map.steps x) (a.of_list x.options) (braced.map-braced x)
    kind-tells (t.group x) h = group-tells x h

    field-tells : (x : t.Field M) → rule.FieldHas P x → Tells ((rule.field b).steps x) (c.field_nodes level x) (a.of_field x)
    unfolding rule.field
    field-tells (t.field_of (Some l) x) h = tells-before (r.label.steps l) ((rule.field_kind b).steps x) (c.kind_nodes level x) (a.of_kind x) (braced.label-braced l) (kind-tells x h.1)
    field-tells (t.field_of None x) h = kind-tells x h.1

    oneof_element-tells : (x : t.OneofElement M) → rule.OneofElementHas P x → Tells ((rule.oneof_element b).steps x) (c.oneof_element_nodes level x) (a.of_oneof_element x)
    unfolding rule.oneof_element
    oneof_element-tells (t.oneof_empty m) h = tells-none
    oneof_element-tells (t.oneof_option x) h = tells-braced (r.option.steps x) (a.of_option x) (braced.option-braced x)
    oneof_element-tells (t.oneof_field x) h = field-tells x h.1

    oneof_elements-tell : (x : t.OneofElements M) → rule.OneofElementsHas P x → Tells ((rule.oneof_elements b).steps x) (c.oneof_elements_nodes level x) (a.of_oneof_elements x)
    unfolding rule.oneof_elements
    oneof_elements-tell t.no_oneof_elements h = tells-none
    oneof_elements-tell (t.oneof_elements e es) h =
        tells-both ((rule.oneof_element b).steps e) ((rule.oneof_elements b).steps es) (c.oneof_element_nodes level e) (c.oneof_elements_nodes level es) (a.of_oneof_element e) (a.of_oneof_elements es) (oneof_element-tells e h.0) (oneof_elements-tell es h.1)

    oneof-tells : (x : t.Oneof M) → rule.OneofHas P x → Tells ((rule.oneof b).steps x) (c.oneof_nodes level x) (a.of_oneof x)
    unfolding rule.oneof
    oneof-tells (t.oneof_of m n o es z) h = tells-after ((rule.oneof_elements b).steps es) ((r.sign s.close_brace).steps z) (c.oneof_elements_nodes level es) (a.of_oneof_elements es) (oneof_elements-tell es h) refl

    extend_element-tells : (x : t.ExtendElement M) → rule.ExtendElementHas P x → Tells ((rule.extend_element b).steps x) (c.extend_element_nodes level x) (a.of_extend_element x)
    unfolding rule.extend_element
    extend_element-tells (t.extend_empty m) h = tells-none
    extend_element-tells (t.extend_field x) h = field-tells x h

    extend_elements-tell : (x : t.ExtendElements M) → rule.ExtendElementsHas P x → Tells ((rule.extend_elements b).steps x) (c.extend_elements_nodes level x) (a.of_extend_elements x)
    unfolding rule.extend_elements
    extend_elements-tell t.no_extend_elements h = tells-none
    extend_elements-tell (t.extend_elements e es) h =
        tells-both ((rule.extend_element b).steps e) ((rule.extend_elements b).steps es) (c.extend_element_nodes level e) (c.extend_elements_nodes level es) (a.of_extend_element e) (a.of_extend_elements es) (extend_element-tells e h.0) (extend_elements-tell es h.1)

    pub extend-tells : (x : t.Extend M) → rule.ExtendHas P x → Tells ((rule.extend b).steps x) (c.extend_nodes level x) (a.of_extend x)
    unfolding rule.extend
    extend-tells (t.extend_of m n o es z) h =
        tells-before (r.typename.steps n) ((r.sign s.open_brace).steps o ++ ((rule.extend_elements b).steps es ++ (r.sign s.close_brace).steps z)) (c.extend_elements_nodes level es) (a.of_extend_elements es) (braced.typename-braced n)
        (tells-after ((rule.extend_elements b).steps es) ((r.sign s.close_brace).steps z) (c.extend_elements_nodes level es) (a.of_extend_elements es) (extend_elements-tell es h) refl)

    pub message-tells : (x : t.Message M) → rule.MessageHas P x → Tells ((rule.message b).steps x) (c.message_nodes level x) (a.of_message x)
    unfolding rule.message
    message-tells (t.message_of m n x) h = let y = f x h in ((λ p w. y.0 p m), y.1)

    element-tells : (x : t.Element M) → rule.ElementHas P x → Tells ((rule.element b).steps x) (c.element_nodes level x) (a.of_element x)
    unfolding rule.element
    element-tells (t.empty m) h = tells-none
    element-tells (t.field x) h = field-tells x h.1
    element-tells (t.oneof x) h = oneof-tells x h
    element-tells (t.enum x) h = enum-tells x
    element-tells (t.message x) h = message-tells x h
    element-tells (t.extend x) h = extend-tells x h
    element-tells (t.option x) h = tells-braced (r.option.steps x) (a.of_option x) (braced.option-braced x)
    element-tells (t.reserved x) h = reserved-tells x
    element-tells (t.extensions x) h = tells-braced (r.extensions.steps x) (a.of_extensions x) (braced.extensions-braced x)

    elements-tell : (x : t.Elements M) → rule.ElementsHas P x → Tells ((rule.elements b).steps x) (c.elements_nodes level x) (a.of_elements x)
    unfolding rule.elements
    elements-tell t.no_elements h = tells-none
    elements-tell (t.elements e es) h =
        tells-both ((rule.element b).steps e) ((rule.elements b).steps es) (c.element_nodes level e) (c.elements_nodes level es) (a.of_element e) (a.of_elements es) (element-tells e h.0) (elements-tell es h.1)

    -- the elements of a body and its `}`
    pub inside-tells : (es : t.Elements M) (z : M) → rule.ElementsHas P es → Tells ((rule.elements b).steps es ++ (r.sign s.close_brace).steps z) (c.elements_nodes level es) (a.of_elements es)
    inside-tells es z h = tells-after ((rule.elements b).steps es) ((r.sign s.close_brace).steps z) (c.elements_nodes level es) (a.of_elements es) (elements-tell es h) refl

    statement-marks : (x : t.Statement M) → rule.StatementHas P x → Marks ((rule.statement b).steps x) (a.of_statement x)
    unfolding rule.statement
    statement-marks (t.an_empty m) h = tells-none.1
    statement-marks (t.an_import x) h = (import-tells x).1
    statement-marks (t.a_package x) h = marks-both (r.«package».steps x) (Note (APackage x) ∷ []) [] [] (marks-braced (r.«package».steps x) [] (braced.package-braced x)) (refl, λ s. tt)
    statement-marks (t.an_option x) h = marks-braced (r.option.steps x) (a.of_option x) (braced.option-braced x)
    statement-marks (t.an_extend x) h = (extend-tells x h).1
    statement-marks (t.a_message x) h = (message-tells x h).1
    statement-marks (t.an_enum x) h = (enum-tells x).1
    statement-marks (t.a_service x) h = marks-braced (r.service.steps x) (a.of_service x) (braced.service-braced x)

    pub statements-mark : (xs : List (t.Statement M)) → k.Each (rule.StatementHas P) xs → Marks (steps_of_many (rule.statement b).steps xs) (flat_map a.of_statement xs)
    statements-mark [] h = tells-none.1
    statements-mark (x ∷ xs) h = marks-both ((rule.statement b).steps x) (steps_of_many (rule.statement b).steps xs) (a.of_statement x) (flat_map a.of_statement xs) (statement-marks x h.0) (statements-mark xs h.1)

-- ---- bodies

module _ {M : Type 0} where
  not-that : (level : ℕ) → (level ≡ 32 → ⊥) → (w o : M) → c.deep_nodes level w o ≡ []
  not-that level h w o = ap (λ v. cond v (ATooDeep w o ∷ []) []) (ne_eqb level 32 h)

  -- a body whose level is not 32
  body-of : (S : Type 0) (level : ℕ) (o z : M) (es : t.Elements M) (l : Steps M) → (level ≡ 32 → ⊥) → Tells S l (c.elements_nodes (suc level) es) (a.of_elements es) → TellsBody S level (t.mbody_of o es z) l
  body-of S level o z es l far h = (
    λ p v. let e = h.0 p v in (e.0, λ j. e.1 j ∙ ap (λ u. (u ++ c.elements_nodes (suc level) es) ++ noted_nodes p e.0 j) (sym (not-that level far v o))),
    h.1,
  )

  abbrev Within : ℕ → t.Mbody M → Type 0
  Within n x = k.KeepsMbody x × (suc (d.mbody_depth x) ≤ n)

  within : (n : ℕ) (o z : M) (es : t.Elements M) → Within (suc n) (t.mbody_of o es z) → rule.ElementsHas (Within n) es
  within n o z es h = mbody-into (Within n) n (λ y g q. (g, q)) (t.mbody_of o es z) h.0 (omega (arith, h.1))

  abbrev deeper : ℕ → Rule M (t.Mbody M)
  deeper n = rule.sealed k.KeepsMbody (λ x. ⊥) rule.deep_read (rule.deep_steps ADeeperBody n) (rule.deep_trace ADeeperBody)

  -- in a body that is too deep
  deeper-tells : (n level : ℕ) → 33 ≤ level → (x : t.Mbody M) → Within n x → TellsBody ⊥ level x (rule.deep_steps ADeeperBody n x)
  unfolding rule.deep_steps rule.mbody
  deeper-tells zero level far x h = absurd (omega (arith, h.1))
  deeper-tells (suc n) level far (t.mbody_of o es z) h =
      let e = body-of ⊥ level o z es ((rule.elements (deeper n)).steps es ++ (r.sign s.close_brace).steps z) (λ q. omega (arith, q, far))
      (inside-tells ⊥ (deeper n) (Within n) (suc level) (deeper-tells n (suc level) (omega (arith, far))) es z (within n o z es h)) in
      (e.0, (e.1.0, λ s. absurd s))

  deep-tells : (S : Type 0) (n : ℕ) (x : t.Mbody M) → Within n x → TellsBody S 32 x (rule.deep_steps ADeepBody n x)
  unfolding rule.deep_steps rule.mbody
  deep-tells S zero x h = absurd (omega (arith, h.1))
  deep-tells S (suc n) (t.mbody_of o es z) h =
      let e = inside-tells ⊥ (deeper n) (Within n) 33 (deeper-tells n 33 (omega arith)) es z (within n o z es h) in
      ((λ p v. let y = e.0 p v in (y.0, λ j. ap (λ u. ATooDeep v o ∷ u) (y.1 j))), (e.1.0, λ s. tt))

  pub body-tells : (S : Type 0) (n level : ℕ) → n + level ≡ 32 → (x : t.Mbody M) → k.KeepsMbody x → TellsBody S level x ((rule.mbody_at n).steps x)
  unfolding rule.unsealed rule.mbody
  body-tells S zero level e x h = let same : 32 ≡ level = omega (arith, e) in subst (λ u. TellsBody S u x (rule.deep_steps ADeepBody (suc (d.mbody_depth x)) x)) same (deep-tells S (suc (d.mbody_depth x)) x (h, omega arith))
  body-tells S (suc n) level e (t.mbody_of o es z) h =
      let has = mbody-into k.KeepsMbody (d.mbody_depth (t.mbody_of o es z)) (λ y g q. g) (t.mbody_of o es z) h (omega arith) in
      body-of S level o z es ((rule.elements (rule.mbody_at n)).steps es ++ (r.sign s.close_brace).steps z) (λ q. omega (arith, e, q))
      (inside-tells S (rule.mbody_at n) k.KeepsMbody (suc level) (body-tells S n (suc level) (omega (arith, e))) es z has)

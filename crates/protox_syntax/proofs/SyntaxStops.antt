-- If a fault is noted at the syntax statement, it is that of the first noted node of a source.
use Rattle.std.proofs.Common.{◌≡◌, ℕ, suc, List, [], ◌∷◌, ◌++◌, length, map, Option, Some, None, Result, Ok, Err, refl, sym, ap, subst, ◌∙◌, append_assoc, append-nil, inl, inr}
use Rattle.protox_fault.specs.Faults.{Span}
use Rattle.protox_fault.specs.declared.error.ParseErrorKind.{ParseErrorKind}
use Rattle.protox_lexeme.specs.Lexemes.{Lexeme}
use Rattle.protox_lexeme.specs.Shapes.{Rows}
use Rattle.protox_lexeme.specs.Table.{rows_of}
use Rattle.protox_ast.specs.CheckedNodes.{CheckedNode, ASyntax, AnImport, AReservedName, AGroupName, APackageAgain, ATooDeep}
use Rattle.protox_ast.specs.Checks.{WrongCheckedNode}
use Rattle.protox_ast.specs.Places.{Place}
use Rattle.protox_ast.specs.Tree as t
use Rattle.protox_ast.specs.Truth.{token_span}
use Rattle.protox_grammar.specs.Bodies as bodies
use Rattle.protox_grammar.specs.CheckLaws.{levels, noted_by}
use Rattle.protox_grammar.specs.Class.{all, in_set, only}
use Rattle.protox_grammar.specs.TagLaws.{map_node, place_at, placed_nodes_by, placed_tokens}
use Rattle.protox_grammar.specs.Noted.{noted_nodes, trace}
use Rattle.protox_grammar.specs.Reader.{Refusal}
use Rattle.protox_grammar.specs.Rule.{Rule, optional}
use Rattle.protox_grammar.specs.Rules as r
use Rattle.protox_grammar.specs.Steps.{ANode, APackage, AKeyword, ADeepBody, ADeeperBody, AnOpenBrace, ACloseBrace, Token, Note, Steps, star_trace, then_steps, until}
use Rattle.protox_grammar.specs.Told.{told, IsFaultless}
use Rattle.protox_grammar.specs.Token as token
use Rattle.protox_grammar.proofs.Lemmas.{FirstCheck, Holds, fault_note, first-check, holds-right}
use Rattle.protox_grammar.proofs.Lemmas.{noted-front, noted_alike, optional-laws, syntax-tells}
use Rattle.protox_grammar.proofs.Lemmas.{until-front, wrong_alike}
use Rattle.protox_grammar.proofs.Lemmas as parts
use Rattle.protox_declarations.specs.inner.Options.{here}
use Rattle.protox_syntax.specs.LostChecks.{EndsReading}
use Rattle.protox_syntax.specs.inner.Statements.{statement_rule, syntax_if_any}
use Rattle.protox_syntax.proofs.Modes.{faults-none}
use Rattle.protox_syntax.proofs.NodesTold.{IsOfFault}
use Rattle.protox_syntax.proofs.SyntaxNotes.{syntax-faults}

-- ---- nodes that are noted first

-- the notes of a front come first
nodes-front : {M : Type 0} (first : Option (t.Package M)) (w : M) (l k : Steps M) → (q : List (CheckedNode M)) × (noted_nodes first w (l ++ k) ≡ noted_nodes first w l ++ q)
nodes-front first w [] k = (noted_nodes first w k, refl)
nodes-front first w (Token x ∷ l) k = nodes-front first w l k
nodes-front first w (Note (ANode x) ∷ l) k = let v = nodes-front first w l k in (v.0, ap (λ u. x ∷ u) v.1)
nodes-front None w (Note (APackage x) ∷ l) k = nodes-front (Some x) w l k
nodes-front (Some f) w (Note (APackage x) ∷ l) k = let v = nodes-front (Some f) w l k in (v.0, ap (λ u. APackageAgain f x ∷ u) v.1)
nodes-front first w (Note (AKeyword m) ∷ l) k = nodes-front first m l k
nodes-front first w (Note (ADeepBody m) ∷ l) k = let v = nodes-front first w l k in (v.0, ap (λ u. ATooDeep w m ∷ u) v.1)
nodes-front first w (Note (ADeeperBody m) ∷ l) k = nodes-front first w l k
nodes-front first w (Note (AnOpenBrace m) ∷ l) k = nodes-front first w l k
nodes-front first w (Note (ACloseBrace m) ∷ l) k = nodes-front first w l k

-- the one of a list of one, in a front of it
one-alone : {A : Type 0} (front q : List A) (y x : A) → front ++ q ≡ y ∷ [] → Holds (λ u. u ≡ x) front → (y ≡ x) × (front ≡ y ∷ [])
one-alone [] q y x e h = absurd h
one-alone (z ∷ []) q y x e (inl h) = let same : y ≡ z = cc in (same ∙ h, ap (λ u. u ∷ []) (sym same))
one-alone (z ∷ []) q y x e (inr h) = absurd h
one-alone (z ∷ (v ∷ front)) q y x e h = absurd cc

none-there : {A : Type 0} (front q : List A) (x : A) → front ++ q ≡ [] → Holds (λ u. u ≡ x) front → ⊥
none-there [] q x e h = h
none-there (z ∷ front) q x e h = absurd cc

-- the first of a list, in a front that has any
first-there : {A : Type 0} (front q more : List A) (y x : A) → front ++ q ≡ y ∷ more → Holds (λ u. u ≡ x) front → Holds (λ u. u ≡ y) front
first-there [] q more y x e h = absurd h
first-there (z ∷ front) q more y x e h = let same : z ≡ y = cc in inl same

map-there : {A B : Type 0} (f : A → B) (xs : List A) (y : B) → Holds (λ u. u ≡ y) (map f xs) → (x : A) × Holds (λ u. u ≡ x) xs × (f x ≡ y)
map-there f [] y h = absurd h
map-there f (x ∷ xs) y (inl h) = (x, inl refl, h)
map-there f (x ∷ xs) y (inr h) = let v = map-there f xs y h in (v.0, inr v.1, v.2)

-- ---- of the syntax statement

abbrev rule : Rule Place (Option (t.Syntax Place))
rule = optional (only token.syntax) r.syntax

-- the noted node is its string
syntax-tree : (xs : Rows Place) → (tree : Option (t.Syntax Place)) × (later : Steps Place) × (rule.steps tree ≡ rule.trace xs ++ later)
syntax-tree xs = at (rule.read xs) refl
  where
    at : (q : Result (Option (t.Syntax Place) × Rows Place) Refusal) → rule.read xs ≡ q → (tree : Option (t.Syntax Place)) × (later : Steps Place) × (rule.steps tree ≡ rule.trace xs ++ later)
    at (Ok x) e = (x.0, [], sym ((optional-laws (only token.syntax) (parts.syntax-laws here) refl).traced.ok xs x e) ∙ sym (append-nil (rule.trace xs)))
    at (Err d) e = let v = (optional-laws (only token.syntax) (parts.syntax-laws here) refl).traced.halts xs d e in (v.tree, v.later, v.goes_on)

-- a node of it is a syntax, and the only one
syntax-alone : (w : Place) (xs : Rows Place) (x : CheckedNode Place) → Holds (λ u. u ≡ x) (noted_nodes None w (rule.trace xs)) → (value : t.Strings Place) × (ASyntax value ≡ x) × (noted_nodes None w (rule.trace xs) ≡ ASyntax value ∷ [])
syntax-alone w xs x h = by (syntax-tree xs).0 (syntax-tree xs).1 (syntax-tree xs).2
  where
    by : (tree : Option (t.Syntax Place)) (later : Steps Place) → rule.steps tree ≡ rule.trace xs ++ later → (value : t.Strings Place) × (ASyntax value ≡ x) × (noted_nodes None w (rule.trace xs) ≡ ASyntax value ∷ [])
    by None later e =
        let q = nodes-front None w (rule.trace xs) later in
        absurd (none-there (noted_nodes None w (rule.trace xs)) q.0 x (sym q.1 ∙ ap (noted_nodes None w) (sym e)) h)
    by (Some y) later e =
        let q = nodes-front None w (rule.trace xs) later in
        let s = (syntax-tells (Unit {0}) (Some y)).0 None w in
        let all : noted_nodes None w (rule.steps (Some y)) ≡ ASyntax y.value ∷ [] = ap (noted_nodes None w) (sym (append-nil (rule.steps (Some y)))) ∙ s.1 [] in
        let one = one-alone (noted_nodes None w (rule.trace xs)) q.0 (ASyntax y.value) x (sym q.1 ∙ ap (noted_nodes None w) (sym e) ∙ all) h in
        (y.value, one.0, one.1)

-- the steps of a file begin with those of its syntax statement
file-steps : (xs : Rows Place) → (k : Steps Place) × (trace levels xs ≡ rule.trace xs ++ k)
unfolding bodies.file
file-steps xs = (then_steps (rule.read xs) (λ x. star_trace (in_set all) statement_rule.read statement_rule.trace (suc (length x.1)) x.1), refl)

-- ---- of a source

-- A syntax with a fault ends reading.
syntax-ends : (place : ℕ → Place) (rows : Rows Span) (x : CheckedNode ℕ) (value : t.Strings Place) (wrong : ParseErrorKind) → map_node place x ≡ ASyntax value → WrongCheckedNode (token_span rows) x wrong → EndsReading x
syntax-ends place rows (ASyntax x) value wrong e h = h.0
syntax-ends place rows (AnImport x) value wrong e h = absurd cc
syntax-ends place rows (AReservedName x) value wrong e h = absurd cc
syntax-ends place rows (AGroupName x) value wrong e h = absurd cc
syntax-ends place rows (APackageAgain first again) value wrong e h = absurd cc
syntax-ends place rows (ATooDeep keyword open_at) value wrong e h = absurd cc

module _ (lexemes : List Lexeme) (n : ℕ) where
  abbrev rows : Rows Place
  rows = placed_tokens lexemes

  abbrev place : ℕ → Place
  place = place_at lexemes

  abbrev IsWrong : CheckedNode Place → ParseErrorKind → Type 0
  IsWrong x wrong = WrongCheckedNode (λ (p : Place). p.span) x wrong

  -- The first noted node is a syntax with this fault, which is noted at the syntax statement.
  pub record Stops : Type 0 where
    pub node : CheckedNode ℕ
    pub noted : Holds (λ u. u ≡ node) (noted_by lexemes n)
    pub ends : EndsReading node
    pub holds : (wrong : ParseErrorKind) → IsWrong (map_node place node) wrong → Holds (IsOfFault wrong) (syntax_if_any.notes rows)

  same-fault : (x : CheckedNode Place) (value : t.Strings Place) (a b : ParseErrorKind) → ASyntax value ≡ x → IsWrong x a → IsWrong x b → a ≡ b
  same-fault x value a b e h g = let u = subst (λ y. IsWrong y a) (sym e) h in let v = subst (λ y. IsWrong y b) (sym e) g in u.1 ∙ sym v.1

  stops-with : (m : CheckedNode ℕ) → Holds (λ u. u ≡ m) (noted_by lexemes n) → FirstCheck None (place 0) (rule.trace rows) rows → Stops
  stops-with m h v =
      let w = place 0 in
      let s = rule.trace rows in
      let parts : s ≡ (v.before ++ (Note v.event ∷ [])) ++ v.later = v.parts ∙ sym (append_assoc v.before (Note v.event ∷ []) v.later) in
      let x-in : Holds (λ u. u ≡ v.node) (noted_nodes None w s) = subst (λ u. Holds (λ y. y ≡ v.node) (noted_nodes None w u)) (sym parts) (noted-front (λ u. u ≡ v.node) None w (v.before ++ (Note v.event ∷ [])) v.later v.noted) in
      let alone = syntax-alone w rows v.node x-in in
      let file = file-steps rows in
      let behind = nodes-front None w s file.0 in
      let all : noted_nodes None w (trace levels rows) ≡ v.node ∷ behind.0 = ap (noted_nodes None w) file.1 ∙ behind.1 ∙ ap (λ u. u ++ behind.0) (alone.2 ∙ ap (λ u. u ∷ []) alone.1) in
      let cut = until-front n (trace levels rows) in
      let fronted = nodes-front None w (until n (trace levels rows)) cut.0 in
      let placed-m : Holds (λ u. u ≡ map_node place m) (placed_nodes_by lexemes n) = subst (Holds (λ u. u ≡ map_node place m)) (sym (noted_alike lexemes n).nodes) (map-in (noted_by lexemes n) m h) in
      let first-in : Holds (λ u. u ≡ v.node) (placed_nodes_by lexemes n) = first-there (placed_nodes_by lexemes n) fronted.0 behind.0 v.node (map_node place m) (sym fronted.1 ∙ ap (noted_nodes None w) (sym cut.1) ∙ all) placed-m in
      let x = map-there (map_node place) (noted_by lexemes n) v.node (subst (Holds (λ u. u ≡ v.node)) (noted_alike lexemes n).nodes first-in) in
      let placed-wrong : IsWrong (map_node place x.0) v.fault = subst (λ u. IsWrong u v.fault) (sym x.2) v.is_wrong in
      let told-has : Holds (IsOfFault v.fault) (told None w s rows) = subst (Holds (IsOfFault v.fault)) (sym v.told_is) (holds-right (IsOfFault v.fault) (told None w v.before rows) (fault_note v.left v.fault ∷ v.more) (inl refl)) in
      let notes-have : Holds (IsOfFault v.fault) (syntax_if_any.notes rows) = subst (Holds (IsOfFault v.fault)) (syntax_if_any.tells.says None w rows) told-has in
      record {
        node = x.0;
        noted = x.1;
        ends = syntax-ends place (rows_of lexemes) x.0 alone.0 v.fault (x.2 ∙ sym alone.1) ((wrong_alike lexemes x.0 v.fault).0 placed-wrong);
        holds = λ wrong g.
            let same : v.fault ≡ wrong = same-fault v.node alone.0 v.fault wrong alone.1 v.is_wrong (subst (λ u. IsWrong u wrong) x.2 g) in
            subst (λ u. Holds (IsOfFault u) (syntax_if_any.notes rows)) same notes-have;
      }
    where
      map-in : (xs : List (CheckedNode ℕ)) (m : CheckedNode ℕ) → Holds (λ u. u ≡ m) xs → Holds (λ u. u ≡ map_node place m) (map (map_node place) xs)
      map-in [] m h = absurd h
      map-in (x ∷ xs) m (inl h) = inl (ap (map_node place) h)
      map-in (x ∷ xs) m (inr h) = inr (map-in xs m h)

  -- This holds if there is any note at the syntax statement, and any noted node in the source.
  pub stops : (m : CheckedNode ℕ) → Holds (λ u. u ≡ m) (noted_by lexemes n) → (syntax_if_any.notes rows ≡ [] → ⊥) → Stops
  stops m h some = elim (first-check None (place 0) (rule.trace rows) rows) [
    | inl fine ↦ absurd (some (faults-none (syntax_if_any.notes rows) (syntax-faults rows) (subst IsFaultless (syntax_if_any.tells.says None (place 0) rows) fine)))
    | inr v ↦ stops-with m h v
  ]

-- The nodes that are noted among the steps of a file are its checked nodes.
use Rattle.std.proofs.Common.{◌≡◌, List, [], ◌∷◌, ◌++◌, map, Option, Some, None, refl, sym, ap, subst, ◌∙◌, append_assoc, inl, inr, ◌⊎◌}
use Rattle.std.specs.List.{flat_map}
use Rattle.protox_ast.specs.Tree as t
use Rattle.protox_ast.specs.KeywordWalk as k
use Rattle.protox_ast.specs.inner.AggregateWalk as a
use Rattle.protox_ast.specs.Fronts.{aggregates}
use Rattle.protox_ast.specs.inner.CheckWalk as c
use Rattle.protox_ast.specs.CheckedNodes.{CheckedNode, APackageAgain}
use Rattle.protox_ast.proofs.Lemmas.{nodes-braced, nodes-checked}
use Rattle.protox_grammar.specs.Rule.{Rule}
use Rattle.protox_grammar.specs.Rules as r
use Rattle.protox_grammar.specs.Bodies as rule
use Rattle.protox_grammar.specs.Steps.{APackage, Note, Steps, steps_of_many, steps_of_option}
use Rattle.protox_grammar.specs.Noted.{noted_nodes, steps}
use Rattle.protox_grammar.proofs.Braced as braced
use Rattle.protox_grammar.proofs.Told.{Says, TellsBody, Marks, past, marks-both, tells-braced, syntax-tells, import-tells, enum-tells, extend-tells, message-tells, statements-mark, body-tells}
use Rattle.protox_grammar.proofs.Holding.{Holds, holds-left, holds-right, holds-either}

-- The package statements after a first one, or after none.
abbrev again : {M : Type 0} → Option (t.Package M) → List (t.Package M) → List (CheckedNode M)
again None ps = c.package_nodes ps
again (Some first) ps = map (λ x. APackageAgain first x) ps

module _ {M : Type 0} (Q : CheckedNode M → Type 0) where
  abbrev Same : List (CheckedNode M) → List (CheckedNode M) → List (CheckedNode M) → Type 0
  Same ns xs ys = (Holds Q ns → Holds Q xs ⊎ Holds Q ys) × (Holds Q xs ⊎ Holds Q ys → Holds Q ns)

  -- more nodes in front
  more-before : (ms ns xs ys : List (CheckedNode M)) → Same ns xs ys → Same (ms ++ ns) (ms ++ xs) ys
  more-before ms ns xs ys s = (
    λ h. elim (holds-either Q ms ns h) [
      | inl a ↦ inl (holds-left Q ms xs a)
      | inr a ↦ elim (s.0 a) [
        | inl b ↦ inl (holds-right Q ms xs b)
        | inr b ↦ inr b
      ]
    ],
    λ h. elim h [
      | inl a ↦ elim (holds-either Q ms xs a) [
        | inl b ↦ holds-left Q ms ns b
        | inr b ↦ holds-right Q ms ns (s.1 (inl b))
      ]
      | inr a ↦ holds-right Q ms ns (s.1 (inr a))
    ],
  )

  one-again : (e : CheckedNode M) (ns xs ys : List (CheckedNode M)) → Same ns xs ys → Same (e ∷ ns) xs (e ∷ ys)
  one-again e ns xs ys s = (forth, back)
    where
      forth : Holds Q (e ∷ ns) → Holds Q xs ⊎ Holds Q (e ∷ ys)
      forth (inl h) = inr (inl h)
      forth (inr h) = elim (s.0 h) [
        | inl b ↦ inl b
        | inr b ↦ inr (inr b)
      ]

      back : Holds Q xs ⊎ Holds Q (e ∷ ys) → Holds Q (e ∷ ns)
      back (inl h) = inr (s.1 (inl h))
      back (inr (inl h)) = inl h
      back (inr (inr h)) = inr (s.1 (inr h))

  module _ (b : Rule M (t.Mbody M)) (P : t.Mbody M → Type 0) (f : (x : t.Mbody M) → P x → TellsBody (Unit {0}) 1 x (b.steps x)) where
    abbrev many_steps : List (t.Statement M) → Steps M
    many_steps xs = steps_of_many (rule.statement b).steps xs

    abbrev Goal : Option (t.Package M) → M → List (t.Statement M) → Type 0
    Goal p w xs = Same (noted_nodes p w (many_steps xs)) (flat_map c.statement_nodes xs) (again p (c.packages_in xs))

    other : (p : Option (t.Package M)) (w : M) (x : t.Statement M) (xs : List (t.Statement M)) (ns : List (CheckedNode M)) → Says ((rule.statement b).steps x) ns → c.statement_nodes x ≡ ns → c.packages_in (x ∷ xs) ≡ c.packages_in xs
        → ((v : M) → Goal p v xs) → Goal p w (x ∷ xs)
    other p w x xs ns says e same next =
        let a = says p w in
        subst (λ (u : List (CheckedNode M)). Same u (flat_map c.statement_nodes (x ∷ xs)) (again p (c.packages_in (x ∷ xs)))) (sym (a.1 (many_steps xs)))
        (subst (λ (u : List (CheckedNode M)). Same (ns ++ noted_nodes p a.0 (many_steps xs)) (u ++ flat_map c.statement_nodes xs) (again p (c.packages_in (x ∷ xs)))) (sym e)
        (subst (λ (u : List (t.Package M)). Same (ns ++ noted_nodes p a.0 (many_steps xs)) (ns ++ flat_map c.statement_nodes xs) (again p u)) (sym same)
        (more-before ns (noted_nodes p a.0 (many_steps xs)) (flat_map c.statement_nodes xs) (again p (c.packages_in xs)) (next a.0))))

    package-past : (p : Option (t.Package M)) (w : M) (x : t.Package M) (xs : List (t.Statement M)) → noted_nodes p w (many_steps (t.a_package x ∷ xs)) ≡ noted_nodes p w (Note (APackage x) ∷ many_steps xs)
    unfolding rule.statement
    package-past p w x xs =
        ap (λ u. noted_nodes p w u) (append_assoc (r.«package».steps x) (Note (APackage x) ∷ []) (many_steps xs)) ∙ past p w (r.«package».steps x) (Note (APackage x) ∷ many_steps xs) [] (braced.package-braced x)

    statements-noted : (xs : List (t.Statement M)) → k.Each (rule.StatementHas P) xs → (p : Option (t.Package M)) (w : M) → Goal p w xs
    unfolding rule.statement
    statements-noted [] h None w = (λ a. absurd a, λ a. elim a [ inl b ↦ b | inr b ↦ b ])
    statements-noted [] h (Some y) w = (λ a. absurd a, λ a. elim a [ inl b ↦ b | inr b ↦ b ])
    statements-noted (t.a_package x ∷ xs) h None w =
        subst (λ (u : List (CheckedNode M)). Same u (flat_map c.statement_nodes xs) (again (Some x) (c.packages_in xs))) (sym (package-past None w x xs)) (statements-noted xs h.1 (Some x) w)
    statements-noted (t.a_package x ∷ xs) h (Some y) w =
        subst (λ (u : List (CheckedNode M)). Same u (flat_map c.statement_nodes xs) (APackageAgain y x ∷ again (Some y) (c.packages_in xs))) (sym (package-past (Some y) w x xs))
        (one-again (APackageAgain y x) (noted_nodes (Some y) w (many_steps xs)) (flat_map c.statement_nodes xs) (again (Some y) (c.packages_in xs)) (statements-noted xs h.1 (Some y) w))
    statements-noted (t.an_empty m ∷ xs) h p w = other p w (t.an_empty m) xs [] (λ q v. (v, λ j. refl)) refl refl (λ v. statements-noted xs h.1 p v)
    statements-noted (t.an_import x ∷ xs) h p w = other p w (t.an_import x) xs _ (import-tells (Unit {0}) x).0 refl refl (λ v. statements-noted xs h.1 p v)
    statements-noted (t.an_option x ∷ xs) h p w = other p w (t.an_option x) xs [] (tells-braced (Unit {0}) (r.option.steps x) (a.of_option x) (braced.option-braced x)).0 refl refl (λ v. statements-noted xs h.1 p v)
    statements-noted (t.an_extend x ∷ xs) h p w = other p w (t.an_extend x) xs _ (extend-tells (Unit {0}) b P 1 f x h.0).0 refl refl (λ v. statements-noted xs h.1 p v)
    statements-noted (t.a_message x ∷ xs) h p w = other p w (t.a_message x) xs _ (message-tells (Unit {0}) b P 1 f x h.0).0 refl refl (λ v. statements-noted xs h.1 p v)
    statements-noted (t.an_enum x ∷ xs) h p w = other p w (t.an_enum x) xs _ (enum-tells (Unit {0}) x).0 refl refl (λ v. statements-noted xs h.1 p v)
    statements-noted (t.a_service x ∷ xs) h p w = other p w (t.a_service x) xs [] (tells-braced (Unit {0}) (r.service.steps x) (a.of_service x) (braced.service-braced x)).0 refl refl (λ v. statements-noted xs h.1 p v)

  abbrev Alone : List (CheckedNode M) → List (CheckedNode M) → Type 0
  Alone ns ms = (Holds Q ns → Holds Q ms) × (Holds Q ms → Holds Q ns)

  joined : (ns xs ys : List (CheckedNode M)) → Same ns xs ys → Alone ns (xs ++ ys)
  joined ns xs ys s = (
    λ h. elim (s.0 h) [
      | inl a ↦ holds-left Q xs ys a
      | inr a ↦ holds-right Q xs ys a
    ],
    λ h. s.1 (holds-either Q xs ys h),
  )

  -- the noted nodes of a file are its nodes, if messages may be nested 31 deep
  pub file-noted : (w : M) (f : t.File M) → k.Each (rule.StatementHas k.KeepsMbody) f.statements → Alone (noted_nodes None w (steps 31 f)) (c.checked_nodes f)
  unfolding rule.file
  file-noted w f h =
      let o = (syntax-tells (Unit {0}) f.syntax).0 None w in
      let s = statements-noted (rule.mbody_at 31) k.KeepsMbody (body-tells (Unit {0}) 31 1 refl) f.statements h None o.0 in
      subst (λ (u : List (CheckedNode M)). Alone (noted_nodes None w (steps 31 f)) u) (sym (nodes-checked f))
      (subst (λ (u : List (CheckedNode M)). Alone u (c.walked_nodes f)) (sym (o.1 (steps_of_many (rule.statement (rule.mbody_at 31)).steps f.statements)))
      (joined-before (c.syntax_nodes f.syntax) _ _ (joined _ (flat_map c.statement_nodes f.statements) (c.package_nodes (c.packages_in f.statements)) s)))
    where
      joined-before : (ms ns xs : List (CheckedNode M)) → Alone ns xs → Alone (ms ++ ns) (ms ++ xs)
      joined-before ms ns xs s = (
        λ h. elim (holds-either Q ms ns h) [
          | inl a ↦ holds-left Q ms xs a
          | inr a ↦ holds-right Q ms xs (s.0 a)
        ],
        λ h. elim (holds-either Q ms xs h) [
          | inl a ↦ holds-left Q ms ns a
          | inr a ↦ holds-right Q ms ns (s.1 a)
        ],
      )

-- The noted braces are those of the file's aggregates. Of the bodies that are too deep the first
-- has level 32.
pub file-marks : {M : Type 0} (f : t.File M) → k.Each (rule.StatementHas k.KeepsMbody) f.statements → Marks (Unit {0}) (steps 31 f) (aggregates f)
unfolding rule.file
file-marks {M} f h =
    subst (λ (u : a.Braces M). Marks (Unit {0}) (steps 31 f) u) (sym (nodes-braced f))
    (marks-both (Unit {0}) (steps_of_option r.syntax.steps f.syntax) (steps_of_many (rule.statement (rule.mbody_at 31)).steps f.statements) [] (a.walked_aggregates f) (syntax-tells (Unit {0}) f.syntax).1
    (statements-mark (Unit {0}) (rule.mbody_at 31) k.KeepsMbody 1 (body-tells (Unit {0}) 31 1 refl) f.statements h))

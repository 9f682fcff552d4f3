-- Locations that the definition refuses: two of them would take the same comment.
use Rattle.std.proofs.Common.{◌≡◌, ◌≢◌, ℕ, zero, suc, List, [], ◌∷◌, ◌++◌, flat_map, Option, Some, None, true, refl, subst}
use Rattle.std.specs.Prelude.{codes}
use Rattle.protox_lexeme.specs.Lexemes.{Lexeme}
use Rattle.protox_lexeme.specs.Shapes.{LineComment}
use Rattle.protox_ast.proofs.Lemmas.{each-back, each-front}
use Rattle.protox_ast.specs.Keywords.{Each}
use Rattle.protox_descriptor.specs.declared.descriptor.source_code_info.Location.{Location}
use Rattle.protox_generate.specs.Commented.{AreText, CommentedOnce, NoneTwice, Sources, numbers_of}

-- `// a`
abbrev comments : List Lexeme
comments = record { start = 0; stop = 4; shape = LineComment (codes " a"); borrowed = true; faults = [] } ∷ []

abbrev bare : Location
bare = record { path = []; span = []; leading_comments = None; trailing_comments = None; leading_detached_comments = [] }

abbrev leads : Location
leads = record bare { leading_comments = Some (codes " a") }

abbrev trails : Location
trails = record bare { trailing_comments = Some (codes " a") }

none-is-some : (text : List ℕ) → None ≡ Some text → ⊥
none-is-some text e = subst (λ (o : Option (List ℕ)). elim o as (λ _. Type 0) [ None ↦ Unit {0} | Some t ↦ ⊥ ]) e tt

-- Any text is made of the only comment.
first-is-zero : (ns text : List ℕ) → AreText comments ns text → (rest : List ℕ) × (ns ≡ 0 ∷ rest)
first-is-zero [] text h = absurd h
first-is-zero (zero ∷ []) text h = ([], refl)
first-is-zero (suc n ∷ []) text h = absurd (none-is-some text h)
first-is-zero (zero ∷ (m ∷ ns)) text h = (m ∷ ns, refl)
first-is-zero (suc n ∷ (m ∷ ns)) text h = absurd (none-is-some h.0 h.2)

no-second : (s r : Sources) (a d : List ℕ) → s.leading ≡ 0 ∷ a → r.trailing ≡ 0 ∷ d → NoneTwice (flat_map numbers_of (s ∷ r ∷ [])) → ⊥
no-second s r a d e f h =
    let others = s.trailing ++ flat_map (λ (ns : List ℕ). ns) s.detached in
    let detached = flat_map (λ (ns : List ℕ). ns) r.detached in
    let first = subst (λ l. NoneTwice ((l ++ others) ++ (numbers_of r ++ []))) e h in
    let second = each-front (λ m. m ≢ 0) (numbers_of r) [] (each-back (λ m. m ≢ 0) (a ++ others) (numbers_of r ++ []) first.0) in
    let trailing = each-back (λ m. m ≢ 0) r.leading (r.trailing ++ detached) second in
    (subst (λ l. Each (λ m. m ≢ 0) (l ++ detached)) f trailing).0 refl

-- One has it as a leading comment and the other as a trailing one.
twice : CommentedOnce (codes "// a") comments (leads ∷ trails ∷ []) → ⊥
twice ([], are, h) = absurd are
twice (s ∷ [], are, h) = absurd are.2
twice (s ∷ (r ∷ []), are, h) =
    let a = first-is-zero s.leading (codes " a") are.0.leading in
    let d = first-is-zero r.trailing (codes " a") are.2.0.trailing in no-second s r a.0 d.0 a.1 d.1 h
twice (s ∷ (r ∷ (q ∷ more)), are, h) = absurd are.2.2

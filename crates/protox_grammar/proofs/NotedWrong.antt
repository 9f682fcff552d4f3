-- If a file is read, no fault is noted exactly when no node of it has a fault.
use Rattle.std.proofs.Common.{◌≡◌, ◌↔◌, ℕ, List, [], ◌∷◌, None, refl, sym, subst, ◌∙◌, inl, inr}
use Rattle.protox_lexeme.specs.Shapes.{Rows}
use Rattle.protox_ast.proofs.Lemmas.{nothing-wrong}
use Rattle.protox_ast.specs.CheckedNodes.{checked_nodes}
use Rattle.protox_ast.specs.Checks.{NothingWrong}
use Rattle.protox_ast.specs.inner.Fine.{IsFine}
use Rattle.protox_ast.specs.KeywordWalk as k
use Rattle.protox_ast.specs.Keywords.{Each}
use Rattle.protox_ast.specs.Places.{Place}
use Rattle.protox_ast.specs.Tree as t
use Rattle.protox_grammar.specs.Bodies as rule
use Rattle.protox_grammar.specs.Noted.{noted_nodes, steps, trace}
use Rattle.protox_grammar.specs.Reads.{read}
use Rattle.protox_grammar.specs.Told.{told, AreValidTokens, IsFaultless}
use Rattle.protox_grammar.proofs.FineNotes.{told-fine, fine-told}
use Rattle.protox_grammar.proofs.Holding.{Holds}
use Rattle.protox_grammar.proofs.NotedFiles.{file-noted}

each-in : {A : Type 0} (P : A → Type 0) (xs : List A) (x : A) → Each P xs → Holds (λ y. y ≡ x) xs → P x
each-in P [] x h e = absurd e
each-in P (y ∷ ys) x h (inl e) = subst P e h.0
each-in P (y ∷ ys) x h (inr e) = each-in P ys x h.1 e

each-by : {A : Type 0} (P : A → Type 0) (xs : List A) → ((x : A) → Holds (λ y. y ≡ x) xs → P x) → Each P xs
each-by P [] h = tt
each-by P (y ∷ ys) h = (h y (inl refl), each-by P ys (λ x e. h x (inr e)))

-- The nodes that are noted are all fine, or they are those of the file.
each-noted : (w : Place) (f : t.File Place) → k.Each (rule.StatementHas k.KeepsMbody) f.statements → Each IsFine (noted_nodes None w (steps 31 f)) ↔ Each IsFine (checked_nodes f)
each-noted w f h = (
  λ g. each-by IsFine (checked_nodes f) (λ x e. each-in IsFine (noted_nodes None w (steps 31 f)) x g ((file-noted (λ y. y ≡ x) w f h).1 e)),
  λ g. each-by IsFine (noted_nodes None w (steps 31 f)) (λ x e. each-in IsFine (checked_nodes f) x g ((file-noted (λ y. y ≡ x) w f h).0 e)),
)

pub noted-wrong : (w : Place) (xs : Rows Place) (f : t.File Place) → AreValidTokens xs → k.Each (rule.StatementHas k.KeepsMbody) f.statements → trace 31 xs ≡ steps 31 f
    → IsFaultless (told None w (trace 31 xs) xs) ↔ NothingWrong f
noted-wrong w xs f a h e = (
  λ g. (nothing-wrong f).1 ((each-noted w f h).0 (subst (λ l. Each IsFine (noted_nodes None w l)) e (fine-told None w (trace 31 xs) xs a g))),
  λ g. told-fine None w (trace 31 xs) xs (subst (λ l. Each IsFine (noted_nodes None w l)) (sym e) ((each-noted w f h).1 ((nothing-wrong f).0 g))),
)

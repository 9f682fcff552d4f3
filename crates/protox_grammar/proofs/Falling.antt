-- Notes without a fault come in order: from note to note the number of rows that are left never
-- grows.
use Rattle.std.proofs.Common.{inl, inr, ◌≡◌, ◌≤◌, ℕ, suc, [], ◌∷◌, ◌++◌, length, Option, Some, None, sym, subst, arith}
use Rattle.protox_lexeme.specs.Shapes.{Rows}
use Rattle.protox_ast.specs.CheckedNodes.{CheckedNode, APackageAgain, ATooDeep}
use Rattle.protox_ast.specs.Keywords.{Each}
use Rattle.protox_ast.specs.Places.{Place}
use Rattle.protox_ast.specs.Tree as t
use Rattle.protox_grammar.specs.Steps.{ANode, APackage, AKeyword, ADeepBody, ADeeperBody, AnOpenBrace, ACloseBrace, Token, Note, Steps}
use Rattle.protox_grammar.specs.Told.{Notes, behind, node_notes, past, told, IsFaultless}
use Rattle.protox_grammar.specs.declared.note.Note as note_type
use Rattle.protox_grammar.proofs.FineNotes.{faultless-first, faultless-last}
use Rattle.protox_grammar.proofs.FirstCheck.{node-by}

-- From note to note the number of rows that are left never grows.
abbrev pub Fall : ℕ → Notes → Type 0
Fall bound [] = Unit {0}
Fall bound (n ∷ ns) = (n.left ≤ bound) × Fall n.left ns

-- For each note at least this many rows are left.
abbrev pub AreAbove : ℕ → Notes → Type 0
AreAbove least ns = Each (λ (n : note_type.Note). least ≤ n.left) ns

fall-wider : (b c : ℕ) (ns : Notes) → b ≤ c → Fall b ns → Fall c ns
fall-wider b c [] le h = tt
fall-wider b c (n ∷ ns) le h = (omega (arith, le, h.0), h.1)

behind-fewer : (xs : Rows Place) → length (behind xs) ≤ length xs
behind-fewer [] = omega arith
behind-fewer (x ∷ xs) = omega arith

pub past-fewer : (l : Steps Place) (xs : Rows Place) → length (past l xs) ≤ length xs
past-fewer [] xs = omega arith
past-fewer (Token r ∷ l) xs = omega (arith, past-fewer l (behind xs), behind-fewer xs)
past-fewer (Note e ∷ l) xs = past-fewer l xs

-- A node without a noted fault has no notes.
pub none-noted-of : (x : CheckedNode Place) (xs : Rows Place) → IsFaultless (node_notes x xs) → node_notes x xs ≡ []
none-noted-of x xs h = elim (node-by x xs) [
  | inl e ↦ e
  | inr v ↦ absurd (subst IsFaultless v.is h).0
]

abbrev IsInOrder : Steps Place → Rows Place → Notes → Type 0
IsInOrder l xs ns = Fall (suc (length xs)) ns × AreAbove (suc (length (past l xs))) ns

past-node : (x : CheckedNode Place) (l : Steps Place) (xs : Rows Place) (more : Notes) → IsFaultless (node_notes x xs ++ more) → (IsFaultless more → IsInOrder l xs more) → IsInOrder l xs (node_notes x xs ++ more)
past-node x l xs more f h =
    let none = none-noted-of x xs (faultless-first (node_notes x xs) more f) in
    subst (λ v. IsInOrder l xs (v ++ more)) (sym none) (h (faultless-last (node_notes x xs) more f))

-- Notes without a fault come in order, and all of them come before the rows after the steps.
pub told-in-order : (p : Option (t.Package Place)) (w : Place) (l : Steps Place) (xs : Rows Place) → IsFaultless (told p w l xs) → Fall (suc (length xs)) (told p w l xs) × AreAbove (suc (length (past l xs))) (told p w l xs)
told-in-order p w [] xs f = (tt, tt)
told-in-order p w (Token r ∷ l) xs f =
    let v = told-in-order p w l (behind xs) f in
    (fall-wider (suc (length (behind xs))) (suc (length xs)) (told p w l (behind xs)) (omega (arith, behind-fewer xs)) v.0, v.1)
told-in-order p w (Note (ANode x) ∷ l) xs f = past-node x l xs (told p w l xs) f (told-in-order p w l xs)
told-in-order None w (Note (APackage x) ∷ l) xs f = told-in-order (Some x) w l xs f
told-in-order (Some y) w (Note (APackage x) ∷ l) xs f = past-node (APackageAgain y x) l xs (told (Some y) w l xs) f (told-in-order (Some y) w l xs)
told-in-order p w (Note (AKeyword m) ∷ l) xs f = told-in-order p m l xs f
told-in-order p w (Note (ADeepBody m) ∷ l) xs f = past-node (ATooDeep w m) l xs (told p w l xs) f (told-in-order p w l xs)
told-in-order p w (Note (ADeeperBody m) ∷ l) xs f = told-in-order p w l xs f
told-in-order p w (Note (AnOpenBrace m) ∷ l) xs f = let v = told-in-order p w l xs f.1 in ((omega arith, v.0), (omega (arith, past-fewer l xs), v.1))
told-in-order p w (Note (ACloseBrace m) ∷ l) xs f = let v = told-in-order p w l xs f.1 in ((omega arith, v.0), (omega (arith, past-fewer l xs), v.1))

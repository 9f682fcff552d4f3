-- The faults along the steps of a statement are those of its notes, merged among the rows.
use Rattle.std.proofs.Common.{◌≡◌, suc, Bool, true, false, cond, List, [], ◌∷◌, ◌++◌, length, Option, Some, None, refl, sym, ap, ◌∙◌, append_assoc}
use Rattle.protox_fault.specs.declared.error.ParseErrorKind.{ParseErrorKind}
use Rattle.protox_lexeme.specs.Shapes.{Rows}
use Rattle.protox_lexeme.specs.Table.{Table}
use Rattle.protox_ast.specs.AstParts.{text_of, strings_value, strings_span}
use Rattle.protox_ast.specs.CheckedNodes.{CheckedNode, ASyntax, AnImport, AReservedName, AGroupName, APackageAgain, ATooDeep}
use Rattle.protox_ast.specs.Places.{Place}
use Rattle.protox_ast.specs.Tree as tree
use Rattle.protox_grammar.specs.Reader.{head_in}
use Rattle.protox_grammar.specs.Steps.{ANode, APackage, AKeyword, ADeepBody, ADeeperBody, AnOpenBrace, ACloseBrace, Token, Note, Steps}
use Rattle.protox_grammar.specs.Told.{Notes, at_once, behind, group_faults, ident_faults, is_invalid, node_notes, noted, path_faults, run_note, syntax_faults, text_faults, told}
use Rattle.protox_grammar.specs.declared.note.Noted.TheVariants.{Fault}
use Rattle.protox_syntax.specs.AllFaults.{along, found, found_at, found_at_once, found_behind, found_of_run, in_mode, read}
use Rattle.protox_syntax.specs.AllFaults.{Progress}
use Rattle.protox_syntax.specs.inner.Leading.{found_with_notes}

pub found_with_notes-append : (t : Table) (a b : Notes) (p : Progress) → found_with_notes t (a ++ b) p ≡ found_with_notes t b (found_with_notes t a p)
found_with_notes-append t [] b p = refl
found_with_notes-append t (n ∷ a) b p = found_with_notes-append t a b (found_with_notes t (n ∷ []) p)

-- ---- a node

noted-append : (a b : List ParseErrorKind) (xs : Rows Place) → noted (a ++ b) xs ≡ noted a xs ++ noted b xs
noted-append [] b xs = refl
noted-append (f ∷ a) b xs = ap (λ v. run_note f xs ++ v) (noted-append a b xs) ∙ sym (append_assoc (run_note f xs) (noted a xs) (noted b xs))

module _ (t : Table) (xs : Rows Place) where
  behind-invalid : (fs : List ParseErrorKind) (p : Progress) → head_in is_invalid xs ≡ true → p ≡ found_with_notes t (noted fs xs) p
  behind-invalid [] p e = refl
  behind-invalid (f ∷ fs) p e = behind-invalid fs p e ∙ sym (ap (λ b. found_with_notes t (cond b [] (record { left = length xs; noted = Fault f } ∷ []) ++ noted fs xs) p) e)

  behind-token : (fs : List ParseErrorKind) (p : Progress) → head_in is_invalid xs ≡ false → found_behind t xs fs p ≡ found_with_notes t (noted fs xs) p
  behind-token [] p e = refl
  behind-token (f ∷ fs) p e = behind-token fs (found f (read t (length xs) p)) e ∙ sym (ap (λ b. found_with_notes t (cond b [] (record { left = length xs; noted = Fault f } ∷ []) ++ noted fs xs) p) e)

  run-found_with_notes : (fs : List ParseErrorKind) (p : Progress) → found_of_run t xs fs p ≡ found_with_notes t (noted fs xs) p
  run-found_with_notes fs p = by (head_in is_invalid xs) refl
    where
      by : (c : Bool) → head_in is_invalid xs ≡ c → cond c p (found_behind t xs fs p) ≡ found_with_notes t (noted fs xs) p
      by true e = behind-invalid fs p e
      by false e = behind-token fs p e

  both-found_with_notes : (a b : List ParseErrorKind) (p : Progress) → found_of_run t xs (a ++ b) p ≡ found_with_notes t (noted a xs ++ noted b xs) p
  both-found_with_notes a b p = run-found_with_notes (a ++ b) p ∙ ap (λ n. found_with_notes t n p) (noted-append a b xs)

  once-found_with_notes : (fs : List ParseErrorKind) (p : Progress) → found_at_once t xs fs p ≡ found_with_notes t (at_once fs xs) p
  once-found_with_notes [] p = refl
  once-found_with_notes (f ∷ fs) p = once-found_with_notes fs (found f (read t (suc (length xs)) p))

  pub node-found_with_notes : (x : CheckedNode Place) (p : Progress) → found_at t x xs p ≡ found_with_notes t (node_notes x xs) p
  node-found_with_notes (ASyntax x) p = run-found_with_notes (syntax_faults (strings_value x) (strings_span x)) p
  node-found_with_notes (AnImport x) p = both-found_with_notes (text_faults (strings_value x) (strings_span x)) (path_faults (text_of (strings_value x)) (strings_span x)) p
  node-found_with_notes (AReservedName x) p = both-found_with_notes (text_faults (strings_value x) (strings_span x)) (ident_faults (text_of (strings_value x)) (strings_span x)) p
  node-found_with_notes (AGroupName x) p = once-found_with_notes (group_faults x.0 x.1.span) p
  node-found_with_notes (APackageAgain first again) p = refl
  node-found_with_notes (ATooDeep keyword brace) p = refl

-- ---- steps

pub along-found_with_notes : (t : Table) (first : Option (tree.Package Place)) (w : Place) (l : Steps Place) (xs : Rows Place) (p : Progress) → along t first w l xs p ≡ found_with_notes t (told first w l xs) p
along-found_with_notes t first w [] xs p = refl
along-found_with_notes t first w (Token r ∷ l) xs p = along-found_with_notes t first w l (behind xs) p
along-found_with_notes t first w (Note (ANode x) ∷ l) xs p = along-found_with_notes t first w l xs (found_at t x xs p) ∙ ap (found_with_notes t (told first w l xs)) (node-found_with_notes t xs x p) ∙ sym (found_with_notes-append t (node_notes x xs) (told first w l xs) p)
along-found_with_notes t None w (Note (APackage x) ∷ l) xs p = along-found_with_notes t (Some x) w l xs p
along-found_with_notes t (Some f) w (Note (APackage x) ∷ l) xs p = along-found_with_notes t (Some f) w l xs (found_at t (APackageAgain f x) xs p)
along-found_with_notes t first w (Note (AKeyword m) ∷ l) xs p = along-found_with_notes t first m l xs p
along-found_with_notes t first w (Note (ADeepBody m) ∷ l) xs p = along-found_with_notes t first w l xs (found_at t (ATooDeep w m) xs p)
along-found_with_notes t first w (Note (ADeeperBody m) ∷ l) xs p = along-found_with_notes t first w l xs p
along-found_with_notes t first w (Note (AnOpenBrace m) ∷ l) xs p = along-found_with_notes t first w l xs (in_mode true (read t (suc (length xs)) p))
along-found_with_notes t first w (Note (ACloseBrace m) ∷ l) xs p = along-found_with_notes t first w l xs (in_mode false (read t (suc (length xs)) p))

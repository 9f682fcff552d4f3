-- Whether an aggregate is open at a row, by the notes before it. This agrees with the steps of
-- reading.
use Rattle.std.proofs.Common.{◌≡◌, ◌≤◌, ◌<◌, ◌+◌, ℕ, zero, suc, Bool, true, false, cond, List, [], ◌∷◌, ◌++◌, length, Option, Some, None, refl, ap, ◌∙◌, arith}
use Rattle.std.specs.Prelude.{nat_lt, if◌then◌else◌}
use Rattle.std.proofs.lemmas.Bool.{lt-ltb, le-ltb}
use Rattle.protox_fault.specs.declared.error.ParseErrorKind.{ParseErrorKind}
use Rattle.protox_fault.specs.declared.error.ParseErrorKind.TheVariants as fault
use Rattle.protox_lexeme.specs.Shapes.{Rows}
use Rattle.protox_ast.specs.CheckedNodes.{CheckedNode, ASyntax, AnImport, AReservedName, AGroupName, APackageAgain, ATooDeep}
use Rattle.protox_ast.specs.AstParts.{text_of, strings_value, strings_span}
use Rattle.protox_ast.specs.Checks.{package_span}
use Rattle.protox_ast.specs.Places.{Place}
use Rattle.protox_ast.specs.Tree as t
use Rattle.protox_grammar.specs.Noted.{open_behind}
use Rattle.protox_grammar.specs.Reader.{head_in}
use Rattle.protox_grammar.specs.Steps.{ANode, APackage, AKeyword, ADeepBody, ADeeperBody, AnOpenBrace, ACloseBrace, Token, Note, Steps, tokens, until}
use Rattle.protox_grammar.specs.Told.{Notes, behind, told, noted, run_note, read_note, at_once, node_notes, is_invalid, syntax_faults, text_faults, path_faults, ident_faults, group_faults, span_of}
use Rattle.protox_grammar.specs.declared.note.Noted.{Noted}
use Rattle.protox_grammar.specs.declared.note.Noted.TheVariants.{Fault, TextFormat}
use Rattle.protox_grammar.proofs.StepLists.{EndsDeep}

-- The mode that is noted, if one is.
abbrev pub mode_of : Bool → Noted → Bool
mode_of before (Fault f) = before
mode_of before (TextFormat on) = on

-- The mode of the row from which on `left` rows are left. It is the last mode that is noted while
-- more are left, with the end of the source counted.
abbrev pub mode_at : Bool → ℕ → Notes → Bool
mode_at before left [] = before
mode_at before left (n ∷ ns) = mode_at (if nat_lt left n.left then mode_of before n.noted else before) left ns

mode-append : (b : Bool) (left : ℕ) (a c : Notes) → mode_at b left (a ++ c) ≡ mode_at (mode_at b left a) left c
mode-append b left [] c = refl
mode-append b left (n ∷ a) c = mode-append (if nat_lt left n.left then mode_of b n.noted else b) left a c

-- ---- faults set no mode

abbrev Plain : Notes → Type 0
Plain ns = (b : Bool) (left : ℕ) → mode_at b left ns ≡ b

same-both : (c b : Bool) → cond c b b ≡ b
same-both true b = refl
same-both false b = refl

plain-none : Plain []
plain-none b left = refl

plain-both : (a c : Notes) → Plain a → Plain c → Plain (a ++ c)
plain-both a c h k b left = mode-append b left a c ∙ ap (λ v. mode_at v left c) (h b left) ∙ k b left

plain-one : (wrong : ParseErrorKind) (xs : Rows Place) → Plain (run_note wrong xs)
plain-one wrong xs b left = at (head_in is_invalid xs)
  where
    at : (c : Bool) → mode_at b left (cond c [] (record { left = length xs; noted = Fault wrong } ∷ [])) ≡ b
    at true = refl
    at false = same-both (nat_lt left (length xs)) b

plain-read : (wrong : ParseErrorKind) (xs : Rows Place) → Plain (read_note wrong xs)
plain-read wrong xs b left = same-both (nat_lt left (length xs)) b

plain-noted : (fs : List ParseErrorKind) (xs : Rows Place) → Plain (noted fs xs)
plain-noted [] xs = plain-none
plain-noted (f ∷ fs) xs = plain-both (run_note f xs) (noted fs xs) (plain-one f xs) (plain-noted fs xs)

plain-at-once : (fs : List ParseErrorKind) (xs : Rows Place) → Plain (at_once fs xs)
plain-at-once [] xs b left = refl
plain-at-once (f ∷ fs) xs b left = ap (λ v. mode_at v left (at_once fs xs)) (same-both (nat_lt left (suc (length xs))) b) ∙ plain-at-once fs xs b left

plain-node : (x : CheckedNode Place) (xs : Rows Place) → Plain (node_notes x xs)
plain-node (ASyntax x) xs = plain-noted (syntax_faults (strings_value x) (strings_span x)) xs
plain-node (AnImport x) xs = plain-both (noted (text_faults (strings_value x) (strings_span x)) xs) (noted (path_faults (text_of (strings_value x)) (strings_span x)) xs)
    (plain-noted (text_faults (strings_value x) (strings_span x)) xs) (plain-noted (path_faults (text_of (strings_value x)) (strings_span x)) xs)
plain-node (AReservedName x) xs = plain-both (noted (text_faults (strings_value x) (strings_span x)) xs) (noted (ident_faults (text_of (strings_value x)) (strings_span x)) xs)
    (plain-noted (text_faults (strings_value x) (strings_span x)) xs) (plain-noted (ident_faults (text_of (strings_value x)) (strings_span x)) xs)
plain-node (AGroupName x) xs = plain-at-once (group_faults x.0 x.1.span) xs
plain-node (APackageAgain first again) xs = plain-read (fault.DuplicatePackage (package_span span_of first) (package_span span_of again)) xs
plain-node (ATooDeep keyword open_at) xs = plain-read (fault.MessageNestingTooDeep keyword.span) xs

-- The notes of a node set no mode.
past-node : (x : CheckedNode Place) (xs : Rows Place) (b : Bool) (left : ℕ) (more : Notes) → mode_at b left (node_notes x xs ++ more) ≡ mode_at b left more
past-node x xs b left more = mode-append b left (node_notes x xs) more ∙ ap (λ v. mode_at v left more) (plain-node x xs b left)

-- ---- after the row

fewer : (xs : Rows Place) (left : ℕ) → length xs < left → length (behind xs) < left
fewer [] left h = h
fewer (x ∷ xs) left h = omega (arith, h)

no-mode : (b on : Bool) (left : ℕ) (xs : Rows Place) → length xs < left → (if nat_lt left (suc (length xs)) then on else b) ≡ b
no-mode b on left xs h = ap (λ c. cond c on b) (le-ltb left (suc (length xs)) (omega (arith, h)))

-- Notes after the row don't matter.
told-behind : (p : Option (t.Package Place)) (w : Place) (l : Steps Place) (xs : Rows Place) (b : Bool) (left : ℕ) → length xs < left → mode_at b left (told p w l xs) ≡ b
told-behind p w [] xs b left h = refl
told-behind p w (Token r ∷ l) xs b left h = told-behind p w l (behind xs) b left (fewer xs left h)
told-behind p w (Note (ANode x) ∷ l) xs b left h = past-node x xs b left (told p w l xs) ∙ told-behind p w l xs b left h
told-behind None w (Note (APackage x) ∷ l) xs b left h = told-behind (Some x) w l xs b left h
told-behind (Some f) w (Note (APackage x) ∷ l) xs b left h = past-node (APackageAgain f x) xs b left (told (Some f) w l xs) ∙ told-behind (Some f) w l xs b left h
told-behind p w (Note (AKeyword m) ∷ l) xs b left h = told-behind p m l xs b left h
told-behind p w (Note (ADeepBody m) ∷ l) xs b left h = past-node (ATooDeep w m) xs b left (told p w l xs) ∙ told-behind p w l xs b left h
told-behind p w (Note (ADeeperBody m) ∷ l) xs b left h = told-behind p w l xs b left h
told-behind p w (Note (AnOpenBrace m) ∷ l) xs b left h = ap (λ v. mode_at v left (told p w l xs)) (no-mode b true left xs h) ∙ told-behind p w l xs b left h
told-behind p w (Note (ACloseBrace m) ∷ l) xs b left h = ap (λ v. mode_at v left (told p w l xs)) (no-mode b false left xs h) ∙ told-behind p w l xs b left h

-- ---- before the row

some-mode : (b on : Bool) (left : ℕ) (xs : Rows Place) → left ≤ length xs → (if nat_lt left (suc (length xs)) then on else b) ≡ on
some-mode b on left xs h = ap (λ c. cond c on b) (lt-ltb left (suc (length xs)) (omega (arith, h)))

-- An aggregate is open at the row exactly when one is open after the steps that take the rows
-- before it.
pub told-mode : (p : Option (t.Package Place)) (w : Place) (l : Steps Place) (xs : Rows Place) (b : Bool) (n left : ℕ) → length xs ≡ n + left → length (tokens l) ≤ length xs → EndsDeep l
    → mode_at b left (told p w l xs) ≡ open_behind b (until n l)
told-mode p w [] xs b zero left e h d = refl
told-mode p w [] xs b (suc n) left e h d = refl
told-mode p w (Token r ∷ l) [] b n left e h d = absurd (omega (arith, h))
told-mode p w (Token r ∷ l) (x ∷ xs) b zero left e h d = told-behind p w l xs b left (omega (arith, e))
told-mode p w (Token r ∷ l) (x ∷ xs) b (suc n) left e h d = told-mode p w l xs b n left (omega (arith, e)) (omega (arith, h)) d
told-mode p w (Note (ANode x) ∷ l) xs b zero left e h d = past-node x xs b left (told p w l xs) ∙ told-mode p w l xs b zero left e h d.1
told-mode p w (Note (ANode x) ∷ l) xs b (suc n) left e h d = past-node x xs b left (told p w l xs) ∙ told-mode p w l xs b (suc n) left e h d.1
told-mode None w (Note (APackage x) ∷ l) xs b zero left e h d = told-mode (Some x) w l xs b zero left e h d.1
told-mode None w (Note (APackage x) ∷ l) xs b (suc n) left e h d = told-mode (Some x) w l xs b (suc n) left e h d.1
told-mode (Some f) w (Note (APackage x) ∷ l) xs b zero left e h d = past-node (APackageAgain f x) xs b left (told (Some f) w l xs) ∙ told-mode (Some f) w l xs b zero left e h d.1
told-mode (Some f) w (Note (APackage x) ∷ l) xs b (suc n) left e h d = past-node (APackageAgain f x) xs b left (told (Some f) w l xs) ∙ told-mode (Some f) w l xs b (suc n) left e h d.1
told-mode p w (Note (AKeyword m) ∷ l) xs b zero left e h d = told-mode p m l xs b zero left e h d.1
told-mode p w (Note (AKeyword m) ∷ l) xs b (suc n) left e h d = told-mode p m l xs b (suc n) left e h d.1
told-mode p w (Note (ADeepBody m) ∷ l) xs b zero left e h d = past-node (ATooDeep w m) xs b left (told p w l xs) ∙ ap (λ k. mode_at b left (told p w k xs)) (d.0 refl)
told-mode p w (Note (ADeepBody m) ∷ l) xs b (suc n) left e h d = past-node (ATooDeep w m) xs b left (told p w l xs) ∙ ap (λ k. mode_at b left (told p w k xs)) (d.0 refl)
told-mode p w (Note (ADeeperBody m) ∷ l) xs b zero left e h d = ap (λ k. mode_at b left (told p w k xs)) (d.0 refl)
told-mode p w (Note (ADeeperBody m) ∷ l) xs b (suc n) left e h d = ap (λ k. mode_at b left (told p w k xs)) (d.0 refl)
told-mode p w (Note (AnOpenBrace m) ∷ l) xs b zero left e h d = ap (λ v. mode_at v left (told p w l xs)) (some-mode b true left xs (omega (arith, e))) ∙ told-mode p w l xs true zero left e h d.1
told-mode p w (Note (AnOpenBrace m) ∷ l) xs b (suc n) left e h d = ap (λ v. mode_at v left (told p w l xs)) (some-mode b true left xs (omega (arith, e))) ∙ told-mode p w l xs true (suc n) left e h d.1
told-mode p w (Note (ACloseBrace m) ∷ l) xs b zero left e h d = ap (λ v. mode_at v left (told p w l xs)) (some-mode b false left xs (omega (arith, e))) ∙ told-mode p w l xs false zero left e h d.1
told-mode p w (Note (ACloseBrace m) ∷ l) xs b (suc n) left e h d = ap (λ v. mode_at v left (told p w l xs)) (some-mode b false left xs (omega (arith, e))) ∙ told-mode p w l xs false (suc n) left e h d.1

-- No fault is noted exactly when each node that is noted is fine, provided that the rows after it
-- are valid tokens.
use Rattle.std.proofs.Common.{◌≡◌, ℕ, Bool, true, false, cond, [], ◌∷◌, ◌++◌, length, Option, Some, None, refl, sym, true≢false}
use Rattle.protox_fault.specs.declared.error.ParseErrorKind.{ParseErrorKind}
use Rattle.protox_lexeme.specs.Shapes.{Rows}
use Rattle.protox_ast.specs.AstParts.{text_of, strings_value}
use Rattle.protox_ast.specs.CheckedNodes.{CheckedNode, ASyntax, AnImport, AReservedName, AGroupName, APackageAgain, ATooDeep}
use Rattle.protox_ast.specs.Checks.{is_group_name, is_ident, is_known_syntax, is_text, is_import_path}
use Rattle.protox_ast.specs.inner.Fine.{IsFine}
use Rattle.protox_ast.specs.Keywords.{Each}
use Rattle.protox_ast.specs.Places.{Place}
use Rattle.protox_ast.specs.Tree as t
use Rattle.protox_grammar.specs.Noted.{noted_nodes}
use Rattle.protox_grammar.specs.Reader.{head_in}
use Rattle.protox_grammar.specs.Steps.{ANode, APackage, AKeyword, ADeepBody, ADeeperBody, AnOpenBrace, ACloseBrace, Token, Note, Steps}
use Rattle.protox_grammar.specs.Told.{AreValidTokens, IsFaultless, Notes, behind, is_invalid, node_notes, noted, at_once, told, unless_so}
use Rattle.protox_grammar.specs.declared.note.Noted.TheVariants.{Fault}

-- ---- notes without a fault

pub faultless-both : (a b : Notes) → IsFaultless a → IsFaultless b → IsFaultless (a ++ b)
faultless-both [] b h k = k
faultless-both (n ∷ ns) b h k = (h.0, faultless-both ns b h.1 k)

pub faultless-first : (a b : Notes) → IsFaultless (a ++ b) → IsFaultless a
faultless-first [] b h = tt
faultless-first (n ∷ ns) b h = (h.0, faultless-first ns b h.1)

pub faultless-last : (a b : Notes) → IsFaultless (a ++ b) → IsFaultless b
faultless-last [] b h = h
faultless-last (n ∷ ns) b h = faultless-last ns b h.1

-- ---- one test

none-noted : (b : Bool) (f : ParseErrorKind) (xs : Rows Place) → b ≡ true → IsFaultless (noted (unless_so b f) xs)
none-noted true f xs e = tt
none-noted false f xs e = absurd (true≢false (sym e))

faulty : (c : Bool) (left : ℕ) (f : ParseErrorKind) → c ≡ false → IsFaultless (cond c [] (record { left = left; noted = Fault f } ∷ [])) → ⊥
faulty true left f g k = true≢false g
faulty false left f g k = k.0

some-noted : (b : Bool) (f : ParseErrorKind) (xs : Rows Place) → head_in is_invalid xs ≡ false → IsFaultless (noted (unless_so b f) xs) → b ≡ true
some-noted true f xs e h = refl
some-noted false f xs e h = absurd (faulty (head_in is_invalid xs) (length xs) f e (faultless-first _ [] h))

none-at-once : (b : Bool) (f : ParseErrorKind) (xs : Rows Place) → b ≡ true → IsFaultless (at_once (unless_so b f) xs)
none-at-once true f xs e = tt
none-at-once false f xs e = absurd (true≢false (sym e))

some-at-once : (b : Bool) (f : ParseErrorKind) (xs : Rows Place) → IsFaultless (at_once (unless_so b f) xs) → b ≡ true
some-at-once true f xs h = refl
some-at-once false f xs h = absurd h.0

-- ---- nodes

pub fine-noted : (x : CheckedNode Place) (xs : Rows Place) → IsFine x → IsFaultless (node_notes x xs)
fine-noted (ASyntax x) xs h = none-noted (is_known_syntax (strings_value x)) _ xs h
fine-noted (AnImport x) xs h = faultless-both _ _ (none-noted (is_text (strings_value x)) _ xs h.0) (none-noted (is_import_path (text_of (strings_value x))) _ xs h.1)
fine-noted (AReservedName x) xs h = faultless-both _ _ (none-noted (is_text (strings_value x)) _ xs h.0) (none-noted (is_ident (text_of (strings_value x))) _ xs h.1)
fine-noted (AGroupName x) xs h = none-at-once (is_group_name x.0) _ xs h
fine-noted (APackageAgain first again) xs h = absurd h
fine-noted (ATooDeep keyword open_at) xs h = absurd h

pub noted-fine : (x : CheckedNode Place) (xs : Rows Place) → head_in is_invalid xs ≡ false → IsFaultless (node_notes x xs) → IsFine x
noted-fine (ASyntax x) xs e h = some-noted (is_known_syntax (strings_value x)) _ xs e h
noted-fine (AnImport x) xs e h = (some-noted (is_text (strings_value x)) _ xs e (faultless-first _ _ h), some-noted (is_import_path (text_of (strings_value x))) _ xs e (faultless-last (noted (unless_so (is_text (strings_value x)) _) xs) _ h))
noted-fine (AReservedName x) xs e h =
    (some-noted (is_text (strings_value x)) _ xs e (faultless-first _ _ h), some-noted (is_ident (text_of (strings_value x))) _ xs e (faultless-last (noted (unless_so (is_text (strings_value x)) _) xs) _ h))
noted-fine (AGroupName x) xs e h = some-at-once (is_group_name x.0) _ xs h
noted-fine (APackageAgain first again) xs e h = h.0
noted-fine (ATooDeep keyword open_at) xs e h = h.0

-- ---- steps

head-token : (xs : Rows Place) → AreValidTokens xs → head_in is_invalid xs ≡ false
head-token [] h = refl
head-token (r ∷ rs) h = h.0

tokens-behind : (xs : Rows Place) → AreValidTokens xs → AreValidTokens (behind xs)
tokens-behind [] h = tt
tokens-behind (r ∷ rs) h = h.1

pub told-fine : (first : Option (t.Package Place)) (w : Place) (l : Steps Place) (xs : Rows Place) → Each IsFine (noted_nodes first w l) → IsFaultless (told first w l xs)
told-fine first w [] xs h = tt
told-fine first w (Token r ∷ l) xs h = told-fine first w l (behind xs) h
told-fine first w (Note (ANode x) ∷ l) xs h = faultless-both (node_notes x xs) _ (fine-noted x xs h.0) (told-fine first w l xs h.1)
told-fine None w (Note (APackage x) ∷ l) xs h = told-fine (Some x) w l xs h
told-fine (Some f) w (Note (APackage x) ∷ l) xs h = absurd h.0
told-fine first w (Note (AKeyword m) ∷ l) xs h = told-fine first m l xs h
told-fine first w (Note (ADeepBody m) ∷ l) xs h = absurd h.0
told-fine first w (Note (ADeeperBody m) ∷ l) xs h = told-fine first w l xs h
told-fine first w (Note (AnOpenBrace m) ∷ l) xs h = (tt, told-fine first w l xs h)
told-fine first w (Note (ACloseBrace m) ∷ l) xs h = (tt, told-fine first w l xs h)

pub fine-told : (first : Option (t.Package Place)) (w : Place) (l : Steps Place) (xs : Rows Place) → AreValidTokens xs → IsFaultless (told first w l xs) → Each IsFine (noted_nodes first w l)
fine-told first w [] xs a h = tt
fine-told first w (Token r ∷ l) xs a h = fine-told first w l (behind xs) (tokens-behind xs a) h
fine-told first w (Note (ANode x) ∷ l) xs a h = (noted-fine x xs (head-token xs a) (faultless-first _ _ h), fine-told first w l xs a (faultless-last (node_notes x xs) _ h))
fine-told None w (Note (APackage x) ∷ l) xs a h = fine-told (Some x) w l xs a h
fine-told (Some f) w (Note (APackage x) ∷ l) xs a h = absurd h.0
fine-told first w (Note (AKeyword m) ∷ l) xs a h = fine-told first m l xs a h
fine-told first w (Note (ADeepBody m) ∷ l) xs a h = absurd h.0
fine-told first w (Note (ADeeperBody m) ∷ l) xs a h = fine-told first w l xs a h
fine-told first w (Note (AnOpenBrace m) ∷ l) xs a h = fine-told first w l xs a h.1
fine-told first w (Note (ACloseBrace m) ∷ l) xs a h = fine-told first w l xs a h.1

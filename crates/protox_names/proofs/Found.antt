-- Dots that are found in a name, or not.
use Rattle.std.proofs.Common.{◌≡◌, ◌≢◌, ◌<◌, ◌≤◌, ◌+◌, ◌==◌, ℕ, Bool, true, false, not, List, [], ◌∷◌, ◌++◌, length, take, drop, get_or, Option, Some, None, MatchOption, Bor, lit<, refl, sym, ap, ◌∙◌, arith}
use Rattle.std.specs.List.{before_first, position_or_len}
use Rattle.std.specs.Str.Pattern.{RFindsChar}
use Rattle.std.specs.Str.{NoCharPasses}
use Rattle.std.proofs.lemmas.Bool.{true≢false}
use Rattle.std.proofs.lemmas.Bool.Decides.{Decides-eqb}
use Rattle.std.proofs.lemmas.List.{length-drop, take-append-drop, take_all}
use Rattle.std.proofs.lemmas.List.Elements.{All-from_get_or}
use Rattle.std.proofs.lemmas.List.Folds.{list_any_none}
use Rattle.std.proofs.lemmas.Str.Pattern.{NoCharPasses-char, drop_at_char}
use Rattle.protox_names.specs.Names.{is_dot, is_one_part, scopes}
use Rattle.protox_names.proofs.Joining.{scopes_at_dot, scopes_of_one_part}

pub not_true : (b : Bool) → (b ≡ true → false ≡ true) → b ≡ false
not_true true h = sym (h refl)
not_true false h = refl

is_no_dot : (byte : ℕ) → byte ≢ 46 → is_dot byte ≡ false
is_no_dot byte other = not_true (is_dot byte) (λ same. absurd (other ((Decides-eqb byte 46).0 same)))

-- a name where no byte is a dot has one part
pub one_part : (name : List ℕ) → ((i : ℕ) → i < length name → get_or name i 0 ≢ 46) → is_one_part name ≡ true
one_part name other =
    ap not (list_any_none is_dot name (All-from_get_or (λ byte. is_dot byte ≡ false) name 0 (λ i below. is_no_dot (get_or name i 0) (other i below))))

no_char : (name : List ℕ) → NoCharPasses (λ d. d == 46) name → is_one_part name ≡ true
no_char name none = one_part name (λ i below. NoCharPasses-char 46 name i none (lit< tt) below)

-- what `rsplit_once` says
pub last_dot : (name : List ℕ) (r : Option (Bor (List ℕ) × Bor (List ℕ))) → MatchOption r (RFindsChar 46 name None) (λ x. (i : ℕ) × (j : ℕ) × RFindsChar 46 name (Some (i, j)) × (x.0.now ≡ take i name) × (x.1.now ≡ drop j name) × (i ≤ j) × (length x.0.now ≡ i) × (length x.1.now + j ≡ length name)) → MatchOption r (scopes name ≡ []) (λ x. (scopes name ≡ x.0.now ∷ scopes x.0.now) × (length x.0.now < length name))
last_dot name None none = scopes_of_one_part name (no_char name none)
last_dot name (Some x) (i, j, at, before, after, order, front, back) =
    let after_dot : drop i name ≡ 46 ∷ drop j name = drop_at_char 46 name i j at.1 (lit< tt) in
    let whole : name ≡ take i name ++ 46 ∷ drop j name = sym (take-append-drop i name) ∙ ap (λ l. take i name ++ l) after_dot in
    let innermost : scopes name ≡ take i name ∷ scopes (take i name) = ap scopes whole ∙ scopes_at_dot (take i name) (drop j name) (no_char (drop j name) at.0) in
    (innermost ∙ ap (λ l. l ∷ scopes l) (sym before), omega (arith, ap length after_dot, length-drop i name))

-- what `split_once` says, or the name where it finds no dot
pub first_dot : (name : List ℕ) → position_or_len is_dot name ≡ length name → before_first is_dot name ≡ name
first_dot name all = take_all (position_or_len is_dot name) name (omega (arith, all))

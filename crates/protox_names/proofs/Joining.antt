-- Names join and split in one way only.
use Rattle.std.proofs.Common.{◌≡◌, ◌<◌, ◌==◌, ◌||◌, ◌&&◌, ℕ, Bool, true, false, not, cond, List, [], ◌∷◌, ◌++◌, length, map, refl, sym, ap, ◌∙◌, arith}
use Rattle.std.specs.List.{All, AllPass, list_all, list_any, onto_first, position_or_len}
use Rattle.std.proofs.lemmas.Bool.{false≢true, true≢false}
use Rattle.std.proofs.lemmas.Bool.Decides.{nat_tests}
use Rattle.std.proofs.lemmas.List.{append_assoc, append_cancel_left, take_all}
use Rattle.std.proofs.lemmas.List.Elements.{All-append, All-cons, All-head, All-map, All-nil, All-tail, All-weaker}
use Rattle.std.proofs.lemmas.List.Sums.{position_or_len_is}
use Rattle.std.proofs.lemmas.List.Splits.{join_with_byte-slice_split, slice_split_at, slice_split_none}
use Rattle.protox_names.specs.Names.{is_dot, is_identifier, is_identifier_byte, is_one_part, joined, parts, scopes, within}
use Rattle.protox_names.specs.Unique.{FullNamesDiffer, IdentifiersAreOnePart, NamesDiffer, OneMorePart, OnePartIsTheFront, PartsHaveNoDots, PartsMakeTheName, PiecesAreTheParts, ScopeComesFirst, ScopesAreShorter, ScopesEnd, ScopesGoOutwards, ScopesNest}

neither : (a b : Bool) → not (a || b) ≡ true → (a ≡ false) × (not b ≡ true)
neither true b h = absurd (true≢false (sym h))
neither false b h = (refl, h)

-- no byte of a name of one part is a dot
pub no_dots : (name : List ℕ) → is_one_part name ≡ true → All (λ byte. is_dot byte ≡ false) name
no_dots [] h = All-nil (λ byte. is_dot byte ≡ false)
no_dots (byte ∷ rest) h =
    let both = neither (is_dot byte) (list_any is_dot rest) h in
    All-cons (λ byte. is_dot byte ≡ false) byte rest both.0 (no_dots rest both.1)

-- ---- parts

pub name_of_parts : PartsMakeTheName
name_of_parts name = join_with_byte-slice_split 46 name

abbrev IsOnePart : List ℕ → Type 0
IsOnePart part = is_one_part part ≡ true

onto_one_part : (byte : ℕ) (pieces : List (List ℕ)) → is_dot byte ≡ false → AllPass is_one_part pieces → AllPass is_one_part (onto_first byte pieces)
onto_one_part byte [] is h = All-cons IsOnePart (byte ∷ []) [] (ap (λ b. not (b || false)) is) (All-nil IsOnePart)
onto_one_part byte (first ∷ others) is h =
    All-cons IsOnePart (byte ∷ first) others (ap (λ b. not (b || list_any is_dot first)) is ∙ All-head IsOnePart first others h) (All-tail IsOnePart first others h)

chosen_one_part : (dot : Bool) (byte : ℕ) (pieces : List (List ℕ)) → is_dot byte ≡ dot → AllPass is_one_part pieces → AllPass is_one_part (cond dot ([] ∷ pieces) (onto_first byte pieces))
chosen_one_part true byte pieces is h = All-cons IsOnePart [] pieces refl h
chosen_one_part false byte pieces is h = onto_one_part byte pieces is h

-- no part has a dot
pub parts_have_no_dots : PartsHaveNoDots
parts_have_no_dots [] = All-cons IsOnePart [] [] refl (All-nil IsOnePart)
parts_have_no_dots (byte ∷ rest) = chosen_one_part (is_dot byte) byte (parts rest) refl (parts_have_no_dots rest)

some_parts : (first : List ℕ) (others : List (List ℕ)) → AllPass is_one_part (first ∷ others) → parts (joined (first ∷ others)) ≡ first ∷ others
some_parts first [] h = slice_split_none is_dot first (no_dots first (All-head (λ p. is_one_part p ≡ true) first [] h))
some_parts first (second ∷ others) h =
    slice_split_at is_dot first 46 (joined (second ∷ others)) (no_dots first (All-head (λ p. is_one_part p ≡ true) first (second ∷ others) h)) refl
    ∙ ap (λ more. first ∷ more) (some_parts second others (All-tail (λ p. is_one_part p ≡ true) first (second ∷ others) h))

pub parts_of_joined : PiecesAreTheParts
parts_of_joined [] some h = absurd (omega arith)
parts_of_joined (first ∷ others) some h = some_parts first others h

-- the first of the pieces of a list, and the others
record HasFirst (pieces : List (List ℕ)) : Type 0 where
  first : List ℕ
  others : List (List ℕ)
  is : pieces ≡ first ∷ others

onto_has_first : (byte : ℕ) (pieces : List (List ℕ)) → HasFirst (onto_first byte pieces)
onto_has_first byte [] = record { first = byte ∷ []; others = []; is = refl }
onto_has_first byte (piece ∷ pieces) = record { first = byte ∷ piece; others = pieces; is = refl }

chosen_has_first : (dot : Bool) (byte : ℕ) (pieces : List (List ℕ)) → HasFirst (cond dot ([] ∷ pieces) (onto_first byte pieces))
chosen_has_first true byte pieces = record { first = []; others = pieces; is = refl }
chosen_has_first false byte pieces = onto_has_first byte pieces

parts_have_first : (name : List ℕ) → HasFirst (parts name)
parts_have_first [] = record { first = []; others = []; is = refl }
parts_have_first (byte ∷ rest) = chosen_has_first (is_dot byte) byte (parts rest)

onto_first-append : (byte : ℕ) (pieces more : List (List ℕ)) → HasFirst pieces → onto_first byte (pieces ++ more) ≡ onto_first byte pieces ++ more
onto_first-append byte pieces more has =
    ap (λ l. onto_first byte (l ++ more)) has.is ∙ sym (ap (λ l. onto_first byte l ++ more) has.is)

chosen-append : (dot : Bool) (byte : ℕ) (pieces more : List (List ℕ)) → HasFirst pieces → cond dot ([] ∷ (pieces ++ more)) (onto_first byte (pieces ++ more)) ≡ cond dot ([] ∷ pieces) (onto_first byte pieces) ++ more
chosen-append true byte pieces more has = refl
chosen-append false byte pieces more has = onto_first-append byte pieces more has

-- what stands on both sides of a dot
parts_at_dot : (before after : List ℕ) → parts (before ++ 46 ∷ after) ≡ parts before ++ parts after
parts_at_dot [] after = refl
parts_at_dot (byte ∷ before) after =
    ap (λ l. cond (is_dot byte) ([] ∷ l) (onto_first byte l)) (parts_at_dot before after)
    ∙ chosen-append (is_dot byte) byte (parts before) (parts after) (parts_have_first before)

pub parts_within : ScopeComesFirst
parts_within [] name named = absurd (named refl)
parts_within (byte ∷ scope) name named = parts_at_dot (byte ∷ scope) name

pub front_of_one_part : OnePartIsTheFront
front_of_one_part name h =
    let none = no_dots name h in
    let all : position_or_len is_dot name ≡ length name = position_or_len_is is_dot name (length name) 0 (omega arith) (λ k below. none k 0 below) (λ past. absurd (omega arith)) in
    take_all (position_or_len is_dot name) name (omega (arith, all))

-- ---- scopes

pub scopes_of_one_part : ScopesEnd
scopes_of_one_part [] h = refl
scopes_of_one_part (byte ∷ rest) h =
    let both = neither (is_dot byte) (list_any is_dot rest) h in
    ap (λ l. map (λ scope. byte ∷ scope) l ++ cond (is_dot byte) ([] ∷ []) []) (scopes_of_one_part rest both.1)
    ∙ ap (λ b. cond b ([] ∷ []) []) both.0

-- the innermost scope ends at the last dot
pub scopes_at_dot : (scope name : List ℕ) → is_one_part name ≡ true → scopes (scope ++ 46 ∷ name) ≡ scope ∷ scopes scope
scopes_at_dot [] name h = ap (λ l. map (λ scope. 46 ∷ scope) l ++ [] ∷ []) (scopes_of_one_part name h)
scopes_at_dot (byte ∷ scope) name h =
    ap (λ l. map (λ scope. byte ∷ scope) l ++ cond (is_dot byte) ([] ∷ []) []) (scopes_at_dot scope name h)

pub scopes_within : ScopesGoOutwards
scopes_within [] name named h = absurd (named refl)
scopes_within (byte ∷ scope) name named h = scopes_at_dot (byte ∷ scope) name h

abbrev IsBelow : ℕ → List ℕ → Type 0
IsBelow limit scope = length scope < limit

last_is_below : (limit : ℕ) (dot : Bool) → 0 < limit → All (IsBelow limit) (cond dot ([] ∷ []) [])
last_is_below limit true some = All-cons (IsBelow limit) [] [] some (All-nil (IsBelow limit))
last_is_below limit false some = All-nil (IsBelow limit)

-- a scope around a name is shorter than the name
pub scopes_are_shorter : ScopesAreShorter
scopes_are_shorter [] = All-nil (IsBelow 0)
scopes_are_shorter (byte ∷ rest) =
    let limit = length (byte ∷ rest) in
    let inner = All-weaker (IsBelow (length rest)) (λ scope. IsBelow limit (byte ∷ scope)) (λ scope h. omega (arith, h)) (scopes rest) (scopes_are_shorter rest) in
    All-append (IsBelow limit) (map (λ scope. byte ∷ scope) (scopes rest)) (cond (is_dot byte) ([] ∷ []) [])
    (All-map (IsBelow limit) (λ scope. byte ∷ scope) (scopes rest) inner)
    (last_is_below limit (is_dot byte) (omega arith))

-- ---- full names

pub dropped_dot : (first second : List ℕ) → 46 ∷ first ≡ 46 ∷ second → first ≡ second
dropped_dot first second h = cc

pub within_differs : NamesDiffer
within_differs [] first second h = h
within_differs (byte ∷ scope) first second h = dropped_dot first second (append_cancel_left (byte ∷ scope) (46 ∷ first) (46 ∷ second) h)

-- where the scopes are the same, only the names can differ
same_scope : (one other first second : List ℕ) → one ≡ other → within one first ≡ within other second → (one ≡ other) × (first ≡ second)
same_scope one other first second same h =
    (same, within_differs other first second (ap (λ scope. within scope first) (sym same) ∙ h))

inner_scope : (one other : List ℕ) (more others : List (List ℕ)) → one ∷ more ≡ other ∷ others → one ≡ other
inner_scope one other more others h = cc

one_or_none : (one : List ℕ) (more : List (List ℕ)) {P : Type 0} → one ∷ more ≡ [] → P
one_or_none one more h = cc

pub full_names_differ : FullNamesDiffer
full_names_differ [] [] first second f s h = (refl, h)
full_names_differ [] (byte ∷ scope) first second f s h =
    one_or_none (byte ∷ scope) (scopes (byte ∷ scope)) (sym (scopes_at_dot (byte ∷ scope) second s) ∙ ap scopes (sym h) ∙ scopes_of_one_part first f)
full_names_differ (byte ∷ scope) [] first second f s h =
    one_or_none (byte ∷ scope) (scopes (byte ∷ scope)) (sym (scopes_at_dot (byte ∷ scope) first f) ∙ ap scopes h ∙ scopes_of_one_part second s)
full_names_differ (byte ∷ scope) (byte' ∷ scope') first second f s h =
    let both : (byte ∷ scope) ∷ scopes (byte ∷ scope) ≡ (byte' ∷ scope') ∷ scopes (byte' ∷ scope') = sym (scopes_at_dot (byte ∷ scope) first f) ∙ ap scopes h ∙ scopes_at_dot (byte' ∷ scope') second s in
    same_scope (byte ∷ scope) (byte' ∷ scope') first second (inner_scope (byte ∷ scope) (byte' ∷ scope') (scopes (byte ∷ scope)) (scopes (byte' ∷ scope')) both) h

pub within_nests : ScopesNest
within_nests [] name member named = refl
within_nests (byte ∷ scope) [] member named = absurd (named refl)
within_nests (byte ∷ scope) (letter ∷ name) member named = append_assoc (byte ∷ scope) (46 ∷ letter ∷ name) (46 ∷ member)

-- ---- identifiers

both_hold : (a b : Bool) → (a && b) ≡ true → (a ≡ true) × (b ≡ true)
both_hold true b h = (refl, h)
both_hold false b h = absurd (true≢false (sym h))

-- a byte of an identifier is no dot
identifier_byte : (byte : ℕ) → is_identifier_byte byte ≡ true → is_dot byte ≡ false
identifier_byte byte h = grind (arith, nat_tests)

none_is_dot : (name : List ℕ) → list_all is_identifier_byte name ≡ true → is_one_part name ≡ true
none_is_dot [] h = refl
none_is_dot (byte ∷ rest) h =
    let both = both_hold (is_identifier_byte byte) (list_all is_identifier_byte rest) h in
    ap (λ b. not (b || list_any is_dot rest)) (identifier_byte byte both.0) ∙ none_is_dot rest both.1

pub identifiers_are_one_part : IdentifiersAreOnePart
identifiers_are_one_part name h = none_is_dot name (both_hold (not (length name == 0)) (list_all is_identifier_byte name) h).1

-- ---- identifiers, joined

join_push : (first : List ℕ) (others : List (List ℕ)) (name : List ℕ) → joined ((first ∷ others) ++ name ∷ []) ≡ joined (first ∷ others) ++ 46 ∷ name
join_push first [] name = refl
join_push first (second ∷ others) name =
    ap (λ l. first ++ 46 ∷ l) (join_push second others name) ∙ sym (append_assoc first (46 ∷ joined (second ∷ others)) (46 ∷ name))

begins_with : (byte : ℕ) (rest : List ℕ) (others : List (List ℕ)) → (more : List ℕ) × (joined ((byte ∷ rest) ∷ others) ≡ byte ∷ more)
begins_with byte rest [] = (rest, refl)
begins_with byte rest (second ∷ others) = (rest ++ 46 ∷ joined (second ∷ others), refl)

pub joined_one_more : OneMorePart
joined_one_more [] name h = refl
joined_one_more ([] ∷ others) name h = absurd (false≢true (All-head (λ p. is_identifier p ≡ true) [] others h))
joined_one_more ((byte ∷ rest) ∷ others) name h =
    let begins = begins_with byte rest others in
    join_push (byte ∷ rest) others name ∙ ap (λ l. l ++ 46 ∷ name) begins.1 ∙ sym (ap (λ l. within l name) begins.1)

pub ruleset unique = (name_of_parts, parts_have_no_dots, parts_of_joined, front_of_one_part, joined_one_more, parts_within, scopes_of_one_part, scopes_within, scopes_are_shorter, within_differs, full_names_differ, within_nests, identifiers_are_one_part)

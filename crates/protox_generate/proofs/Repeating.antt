-- What repeats much in one level of a tree, given what does in the levels below.
use Rattle.std.proofs.Common.{◌≡◌, ◌<◌, ◌≤◌, ◌||◌, ℕ, Bool, true, false, List, [], ◌∷◌, get_or, length, take, map, refl, ap, sym, ◌∙◌, subst}
use Rattle.std.specs.List.{list_any}
use Rattle.std.proofs.lemmas.List.{length-map, take_all}
use Rattle.std.proofs.lemmas.List.Folds.{list_any_at}
use Rattle.protox_ast.specs.Steps.{of_item, of_extend, of_field, of_body, of_oneof}
use Rattle.protox_ast.specs.declared.ast.Extend.{Extend, out-Extend}
use Rattle.protox_ast.specs.declared.ast.MessageBody.{MessageBody, out-MessageBody}
use Rattle.protox_ast.specs.declared.ast.Oneof.{Oneof, out-Oneof}
use Rattle.protox_ast.proofs.Lemmas.{body-gives, extend-gives, oneof-gives}
use Rattle.protox_generate.specs.Repeats.{repeat_steps, repeats_extendee, repeats_options, some}

-- Some part repeats much if it does before it is replaced by that.
some_map : {A : Type 0} (test : A → Bool) (xs : List A) → some (map test xs) ≡ list_any test xs
some_map test [] = refl
some_map test (x ∷ xs) = ap (λ b. test x || b) (some_map test xs)

-- ---- a walk over a list

-- It stops at a part that passes the test.
pub found_at : {A : Type 0} (test : A → Bool) (xs ys : List A) (i : ℕ) (x : A) → xs ≡ ys → i < length xs → x ≡ get_or xs i x → test x ≡ true → true ≡ list_any test ys
found_at test xs ys i x same within is passes =
    sym (subst (λ zs. list_any test zs ≡ true) same (list_any_at test xs i x within (ap test (sym is) ∙ passes)))

-- It comes to the end if no part does.
pub none_found : {A : Type 0} (test : A → Bool) (xs ys : List A) (i : ℕ) → xs ≡ ys → length xs ≤ i → list_any test (take i xs) ≡ false → false ≡ list_any test ys
none_found test xs ys i same past none =
    sym (subst (λ zs. list_any test zs ≡ false) (take_all i xs past ∙ same) none)

-- ---- levels

-- One of two tests fails, so that the other decides.
pub or_other : (first other both r : Bool) → first ≡ false → (first || other) ≡ both → r ≡ other → r ≡ both
or_other first other both r fails same is = is ∙ ap (λ b. b || other) (sym fails) ∙ same

pub body_repeats : (x : MessageBody) → (list_any repeats_options (out-MessageBody x).extensions || list_any (of_item repeat_steps) (out-MessageBody x).items) ≡ of_body repeat_steps x
body_repeats x =
    ap (λ b. list_any repeats_options (out-MessageBody x).extensions || b) (sym (some_map (of_item repeat_steps) (out-MessageBody x).items))
    ∙ sym (body-gives repeat_steps x)

pub oneof_repeats : (x : Oneof) → list_any (of_field repeat_steps) (out-Oneof x).fields ≡ of_oneof repeat_steps x
oneof_repeats x = sym (some_map (of_field repeat_steps) (out-Oneof x).fields) ∙ sym (oneof-gives repeat_steps x)

pub extend_repeats : (x : Extend) → (repeats_extendee (out-Extend x).extendee (length (out-Extend x).fields) || list_any (of_field repeat_steps) (out-Extend x).fields) ≡ of_extend repeat_steps x
extend_repeats x =
    ap (λ b. repeats_extendee (out-Extend x).extendee (length (out-Extend x).fields) || b) (sym (some_map (of_field repeat_steps) (out-Extend x).fields))
    ∙ ap (λ n. repeats_extendee (out-Extend x).extendee n || some (map (of_field repeat_steps) (out-Extend x).fields)) (sym (length-map (out-Extend x).fields (of_field repeat_steps)))
    ∙ sym (extend-gives repeat_steps x)

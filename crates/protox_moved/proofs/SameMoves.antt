-- Moves that say the same, whatever the path, make the same of all locations.
use Rattle.std.proofs.Common.{◌≡◌, ℕ, ◌++◌, Bool, true, false, cond, refl, List, [], ◌∷◌, drop, length, take, not, map, ap, ◌∙◌, arith}
use Rattle.std.specs.Prelude.{ℤ}
use Rattle.std.specs.List.{filter, list_any}
use Rattle.std.specs.Option.{unwrap_or}
use Rattle.std.proofs.lemmas.List.{append-nil, drop_all, take_all}
use Rattle.protox_descriptor.specs.declared.descriptor.source_code_info.Location.{Location}
use Rattle.protox_moved.specs.declared.Move.{Move}
use Rattle.protox_moved.specs.Moved.{is_below, is_part, moved, new_path}

-- A location that stays has one new path by both.
pub same_steps : (xs ys : List Move)
    → ((path : List ℤ) → list_any (λ (m : Move). is_below m.from path) xs ≡ false
    → new_path ys path ≡ new_path xs path)
    → ((path : List ℤ) → list_any (λ (m : Move). is_below m.from path) ys
    ≡ list_any (λ (m : Move). is_below m.from path) xs)
    → (ls : List Location) → map (moved ys) (filter (λ (l : Location). not (is_part ys l)) ls)
    ≡ map (moved xs) (filter (λ (l : Location). not (is_part xs l)) ls)
same_steps xs ys paths parts [] = refl
same_steps xs ys paths parts (l ∷ ls) =
    ap (λ b. map (moved ys) (cond (not b) (l ∷ filter (λ (l : Location). not (is_part ys l)) ls) (filter (λ (l : Location). not (is_part ys l)) ls))) (parts l.path)
    ∙ go (is_part xs l) refl (same_steps xs ys paths parts ls)
  where
    go : (b : Bool) → is_part xs l ≡ b
        → map (moved ys) (filter (λ (l : Location). not (is_part ys l)) ls)
        ≡ map (moved xs) (filter (λ (l : Location). not (is_part xs l)) ls)
        → map (moved ys) (cond (not b) (l ∷ filter (λ (l : Location). not (is_part ys l)) ls) (filter (λ (l : Location). not (is_part ys l)) ls))
        ≡ map (moved xs) (cond (not b) (l ∷ filter (λ (l : Location). not (is_part xs l)) ls) (filter (λ (l : Location). not (is_part xs l)) ls))
    go true e rest = rest
    go false e rest =
        ap (λ p. record l { path = unwrap_or p l.path } ∷ map (moved ys) (filter (λ (l : Location). not (is_part ys l)) ls)) (paths l.path e)
        ∙ ap (λ r. moved xs l ∷ r) rest

-- no move changes nothing
pub unmoved : (moves : List Move) → length moves ≡ 0 → (ls : List Location)
    → map (moved moves) (filter (λ (l : Location). not (is_part moves l)) ls) ≡ ls
unmoved [] none [] = refl
unmoved [] none (l ∷ ls) = ap (λ r. l ∷ r) (unmoved [] none ls)
unmoved (m ∷ moves) none ls = absurd (omega (arith, none))

-- a list that was written over from its start to its end
pub written_back : {X : Type 0} (n : ℕ) (new old : List X) → n ≡ length old → length new ≡ n
    → take n (new ++ drop (length new) old) ≡ new
written_back n new old long same =
    ap (take n) (ap (λ l. new ++ l) (drop_all (length new) old (omega arith)) ∙ append-nil new)
    ∙ take_all n new (omega arith)

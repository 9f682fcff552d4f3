-- What a message declares, by what the messages in it declare.
use denote.Param.Weighed.{most, at_most}
use Rattle.std.proofs.Common.{◌≡◌, ℕ, ◌<◌, ◌≤◌, List, OnOk, Result, [], ◌∷◌, ◌++◌, arith, get_or, length, map, refl, ap, subst, sym, ◌∙◌}
use Rattle.std.specs.List.{FoldsTo}
use Rattle.protox_descriptor.specs.declared.descriptor.DescriptorProto.{DescriptorProto, size-DescriptorProto, size_is-DescriptorProto}
use Rattle.protox_descriptor.specs.declared.descriptor.DescriptorProto.TheFolds.{fold-DescriptorProto, fold_out-DescriptorProto}
use Rattle.protox_descriptor.specs.declared.tag.message.TheConstants as message_tag
use Rattle.protox_walk.proofs.Folds.{folds-last}
use Rattle.protox_walk.specs.Declarations.{At, OfMessage, Path, all_in, each_told, message_at, message_step, siblings_at}
use Rattle.protox_walk.specs.Parts.{Declared}
use Rattle.protox_walk.specs.Steps.{back_at, front_at, name_of_message, nested_of}

told-all : (scope : List ℕ) (ms : List DescriptorProto) → each_told scope (map (fold-DescriptorProto OfMessage message_step) ms) ms ≡ all_in message_at scope ms
told-all scope [] = refl
told-all scope (m ∷ ms) = ap (λ more. message_at m scope ∷ more) (told-all scope ms)

message-declares : (m : DescriptorProto) (scope : List ℕ) (path : Path) → message_at m scope path
    ≡ front_at m (name_of_message m scope) path
    ++ (siblings_at path message_tag.NESTED_TYPE (all_in message_at (name_of_message m scope) (nested_of m)) ++ back_at m (name_of_message m scope) path)
message-declares m scope path =
    let name = name_of_message m scope in
    ap (λ (declares : OfMessage). declares m scope path) (fold_out-DescriptorProto OfMessage message_step m)
    ∙ ap (λ (nested : List At). front_at m name path ++ (siblings_at path message_tag.NESTED_TYPE nested ++ back_at m name path)) (told-all name (nested_of m))

-- a message that is visited step by step
pub folds-message : {V T E : Type 0} (gives : V → Declared → V → Type 0) (m : DescriptorProto) (scope : List ℕ) (path : Path) (name : List ℕ) (a b c d : V) (r : Result T E)
    → name ≡ name_of_message m scope
    → FoldsTo gives a (front_at m (name_of_message m scope) path) b
    → FoldsTo gives b (siblings_at path message_tag.NESTED_TYPE (all_in message_at (name_of_message m scope) (nested_of m))) c
    → OnOk r (FoldsTo gives c (back_at m name path) d)
    → OnOk r (FoldsTo gives a (message_at m scope path) d)
folds-message gives m scope path name a b c d r is front nested back =
    subst (λ (ds : List Declared). OnOk r (FoldsTo gives a ds d)) (sym (message-declares m scope path))
    (folds-last gives a (front_at m (name_of_message m scope) path) b _ d r front
    (folds-last gives b _ c (back_at m (name_of_message m scope) path) d r nested
    (subst (λ (n : List ℕ). OnOk r (FoldsTo gives c (back_at m n path) d)) is back)))

-- A message is larger than one in it.
pub size-nested : (m n : DescriptorProto) (i : ℕ) → i < length (nested_of m) → n ≡ get_or (nested_of m) i n → size-DescriptorProto n < size-DescriptorProto m
size-nested m n i within is =
    let below : size-DescriptorProto n ≤ most size-DescriptorProto (nested_of m) = rw (← is) at (at_most size-DescriptorProto (nested_of m) i n within) in
    omega (arith, size_is-DescriptorProto m)

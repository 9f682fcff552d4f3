-- Lists of what holds of each fault, and faults that are told of a file.
use Rattle.std.proofs.Common.{◌≡◌, ℕ, zero, suc, Bool, true, false, cond, List, [], ◌∷◌, Some, inl, inr, slice_get}
use Rattle.std.specs.Prelude.{All, Contains}
use Rattle.std.specs.List.{flat_map}
use Rattle.std.proofs.lemmas.List.Elements.{All-append, All-cons, All-head, All-nil, All-tail}
use Rattle.std.proofs.lemmas.Option.{same_Some}
use Rattle.protox_ast.proofs.Lemmas.{Among, among-flat, somewhere-at}
use Rattle.protox_descriptor.specs.declared.descriptor.FileDescriptorProto.{FileDescriptorProto}
use Rattle.protox_link.specs.Stands.{LeadsInto}
use Rattle.protox_link_fault.specs.declared.LinkFault.{LinkFault}

-- ---- lists

module _ {X : Type 0} (P : X → Type 0) where
  pub all_if : (b : Bool) (xs ys : List X) → All P xs → All P ys → All P (cond b xs ys)
  all_if true xs ys here there = here
  all_if false xs ys here there = there

  pub one : (x : X) → P x → All P (x ∷ [])
  one x is = All-cons P x [] is (All-nil P)

  pub all_flat : {A : Type 0} (f : A → List X) (xs : List A) → All (λ x. All P (f x)) xs → All P (flat_map f xs)
  all_flat f [] each = All-nil P
  all_flat f (x ∷ xs) each = All-append P (f x) (flat_map f xs) (All-head (λ x. All P (f x)) x xs each) (all_flat f xs (All-tail (λ x. All P (f x)) x xs each))

pub among_flat : {X Y : Type 0} (f : X → List Y) (xs : List X) (x : X) (y : Y) → Contains xs x → Among (f x) y → Among (flat_map f xs) y
among_flat f xs x y has there =
    among-flat (λ a. Among (f a) y) f y (λ a is. is) xs (somewhere-at (λ a. Among (f a) y) xs has.0 x has.1 has.2 there)

pub slice_among : {X : Type 0} (xs : List X) (k : ℕ) (x : X) → slice_get xs k ≡ Some x → Among xs x
slice_among [] zero x is = cc
slice_among [] (suc k) x is = cc
slice_among (y ∷ ys) zero x is = inl (same_Some y x is)
slice_among (y ∷ ys) (suc k) x is = inr (slice_among ys k x is)

-- ---- faults

-- The fault is told of this file, at a part of it.
pub record IsToldOfFile (number : ℕ) (file : FileDescriptorProto) (fault : LinkFault) : Type 0 where
  pub of_file : fault.file ≡ number
  pub leads : LeadsInto file fault.path

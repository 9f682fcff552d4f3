-- What was found out of a file tells its unused imports.
use Rattle.std.proofs.Common.{◌≡◌, ◌==◌, ◌∙◌, ℕ, suc, Bool, true, false, List, [], ◌∷◌, filter, length, MatchOption, Option, Some, refl, subst, sym, arith}
use Rattle.std.specs.Prelude.{slice_get}
use Rattle.std.specs.List.{range_with_len}
use Rattle.std.proofs.lemmas.Bool.{true≢false}
use Rattle.protox_descriptor.specs.declared.descriptor.FileDescriptorProto.{FileDescriptorProto}
use Rattle.protox_usage.specs.Unused.{AreUnused, AreUnusedIn}

pub told : (files : List FileDescriptorProto) (n : ℕ) (file : FileDescriptorProto) (unused : List ℕ) → slice_get files n ≡ Some file → AreUnusedIn files n file unused → AreUnused files n unused
told files n file unused is are = subst (λ (o : Option FileDescriptorProto). MatchOption o (unused ≡ []) (λ f. AreUnusedIn files n f unused)) (sym is) are

later_is_some : (n : ℕ) → (suc n == 0) ≡ false
later_is_some n = grind arith

-- Of no imports, none is unused.
pub none_of_none : {X : Type 0} (p : ℕ → Bool) (xs : List X) (empty : Bool) → empty ≡ (length xs == 0) → empty ≡ true → [] ≡ filter p (range_with_len 0 (length xs))
none_of_none p [] empty is full = refl
none_of_none p (x ∷ xs) empty is full = absurd (true≢false (sym full ∙ is ∙ later_is_some (length xs)))

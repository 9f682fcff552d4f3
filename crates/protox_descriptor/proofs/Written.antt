-- The front of a list after two writes.
--     written_twice      what was written, one behind the other
use Rattle.std.proofs.Common.{◌≡◌, ℕ, ◌+◌, List, ◌++◌, take, length, refl, ap, ◌∙◌, arith, length-append}
use Rattle.std.proofs.lemmas.List.{take_at}
use Rattle.std.proofs.lemmas.Slice.{take-put_mid}
use borrow.Rule.Slice.PartMut.{put_mid}

written_behind : {X : Type 0} (front back rest : List X) (k : ℕ) → take (length front + length back) (put_mid (length front) k (front ++ rest) back) ≡ front ++ back
written_behind front back rest k =
    take-put_mid (length front) k (front ++ rest) back _ refl (omega (arith, length-append front rest))
    ∙ ap (λ items. items ++ back) (take_at front rest _ refl)

pub written_twice : {X : Type 0} (front back rest first second : List X) (k : ℕ) → first ≡ front → second ≡ back
    → take (length front + length back) (put_mid (length front) k (first ++ rest) second) ≡ front ++ back
written_twice front back rest first second k is_front is_back = rw (is_front, is_back) (written_behind front back rest k)

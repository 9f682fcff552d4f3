-- What holds of each item of a list.
use Rattle.std.proofs.Common.{zero, suc, List, [], ◌∷◌, ◌++◌, arith}
use Rattle.std.specs.List.{All}

-- P holds of each
abbrev pub Every : {T : Type 0} → (T → Type 0) → List T → Type 0
Every P [] = Unit {0}
Every P (x ∷ xs) = P x × Every P xs

pub every_append : {T : Type 0} (P : T → Type 0) (xs ys : List T) → Every P xs → Every P ys → Every P (xs ++ ys)
every_append P [] ys h k = k
every_append P (x ∷ xs) ys (here, h) k = (here, every_append P xs ys h k)

pub all_every : {T : Type 0} (P Q : T → Type 0) (xs : List T) → ((x : T) → P x → Q x) → Every P xs → All Q xs
all_every P Q [] f h k d l = absurd (omega arith)
all_every P Q (x ∷ xs) f (here, h) zero d l = f x here
all_every P Q (x ∷ xs) f (here, h) (suc k) d l = all_every P Q xs f h k d (omega arith)

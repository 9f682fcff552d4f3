-- Files whose locations are in a pool, and the locations that a pool lends.
use Rattle.std.proofs.Common.{◌≡◌, ◌<◌, ◌≤◌, ◌-◌, ◌++◌, ℕ, zero, suc, ℤ, List, [], ◌∷◌, length, drop, slice_get, Option, Some, None, refl, ap, subst, sym, ◌∙◌, append-nil, append_assoc, arith}
use Rattle.protox_descriptor.specs.Location.{Location}
use Rattle.protox_descriptor.specs.declared.descriptor.FileDescriptorProto.{FileDescriptorProto}
use Rattle.protox_encode.specs.Floats.{has_floats}
use Rattle.protox_encode.specs.Messages as words
use Rattle.protox_encode.specs.Payloads.{each, nested}
use Rattle.protox_encode.specs.Pooled.{with_pool}
use Rattle.protox_encode.specs.Wire.{Bytes, field, message, part}
use Rattle.protox_pool.specs.Pool.{location}
use Rattle.protox_pool.specs.declared.comments.LocationComments.{LocationComments}

-- The locations of a file hold no float.
pub pooled_floats : (file : FileDescriptorProto) (locations : List Location) → has_floats (with_pool file locations) ≡ has_floats file
unfolding has_floats
pooled_floats file locations = refl

pub path_of : (path span : List ℤ) (comments : Option LocationComments) → (location path span comments).path ≡ path
path_of path span None = refl
path_of path span (Some comments) = refl

pub span_of : (path span : List ℤ) (comments : Option LocationComments) → (location path span comments).span ≡ span
span_of path span None = refl
span_of path span (Some comments) = refl

one_in_front : (pool : List Location) (k : ℕ) → k < length pool
    → part 1 (nested words.location (slice_get pool k)) ++ part 1 (each words.location (drop (suc k) pool)) ≡ part 1 (each words.location (drop k pool))
one_in_front [] k h = absurd (omega (arith, h))
one_in_front (x ∷ xs) zero h = ap (λ bytes. bytes ++ part 1 (each words.location xs)) (append-nil (field 1 (Bytes (message (words.location x)))))
one_in_front (x ∷ xs) (suc k) h = one_in_front xs k (omega (arith, h))

-- One more location stands in front of the bytes.
pub next_in_front : (pool : List Location) (i : ℕ) (behind : List ℕ) → 0 < i → i ≤ length pool
    → part 1 (nested words.location (slice_get pool (i - 1))) ++ (part 1 (each words.location (drop i pool)) ++ behind) ≡ part 1 (each words.location (drop (i - 1) pool)) ++ behind
next_in_front pool i behind some within =
    let is : suc (i - 1) ≡ i = omega arith in
    subst (λ k. part 1 (nested words.location (slice_get pool (i - 1))) ++ (part 1 (each words.location (drop k pool)) ++ behind) ≡ part 1 (each words.location (drop (i - 1) pool)) ++ behind) is
    (sym (append_assoc (part 1 (nested words.location (slice_get pool (i - 1)))) (part 1 (each words.location (drop (suc (i - 1)) pool))) behind)
    ∙ ap (λ bytes. bytes ++ behind) (one_in_front pool (i - 1) (omega arith)))

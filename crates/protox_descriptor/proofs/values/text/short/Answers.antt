use Rattle.std.proofs.Common.{◌≡◌, ◌+◌, ◌++◌, ℕ, List, take, length, IsUtf8, rules}
use Rattle.std.proofs.lemmas.Str.{IsUtf8-append}
use Rattle.protox_descriptor.proofs.values.text.short.Goals as goal

joined_is_text : (front back first second whole : List ℕ) → first ≡ front → second ≡ back → take (length first + length second) whole ≡ first ++ second
    → IsUtf8 front → IsUtf8 back → IsUtf8 (take (length front + length back) whole)
joined_is_text front back first second whole is_front is_back taken front_utf8 back_utf8 =
    rw (rw (is_front, is_back) at taken) (IsUtf8-append front back front_utf8 back_utf8)

pub invariant_of-result : goal.invariant_of-result
invariant_of-result c = (
  c.requires,
  (search rules, ∣ joined_is_text _ _ _ _ _ c.as_bytes.ensures.value c.as_bytes-2.ensures.value c.filled.ensures c.utf8.front c.utf8.back ∣₁),
)

-- Paths of like siblings, one after another.
use Rattle.std.proofs.Common.{◌≡◌, ◌+◌, ℕ, [], ◌∷◌, ◌++◌, length, take, sym, ap, ◌∙◌, append_assoc}
use Rattle.std.specs.Prelude.{ℤ, pos}
use Rattle.std.proofs.Math.Seq.{take-append_seam}
use Rattle.std.proofs.lemmas.List.{length-append}
use Rattle.protox_walk.specs.Declarations.{Path, nth}

module _ (path : Path) (tag : ℤ) where
  seam : (more : Path) → take (length path + 1) ((path ++ tag ∷ []) ++ more) ≡ path ++ tag ∷ []
  seam more = ap (λ n. take n ((path ++ tag ∷ []) ++ more)) (sym (length-append path (tag ∷ []))) ∙ take-append_seam (path ++ tag ∷ []) more

  -- an index behind it
  pub place_of : (before after : Path) (n i : ℕ) → n ≡ length path + 1 → take (length path + 1) before ≡ path ++ tag ∷ [] → after ≡ take n before ++ pos i ∷ [] → after ≡ nth path tag i
  place_of before after n i same so_far is =
      is ∙ ap (λ (front : Path). front ++ pos i ∷ []) (ap (λ m. take m before) same ∙ so_far)
      ∙ append_assoc path (tag ∷ []) (pos i ∷ [])

  -- it is still the same but for the index
  pub place_kept : (after : Path) (i : ℕ) → after ≡ nth path tag i → take (length path + 1) after ≡ path ++ tag ∷ []
  place_kept after i is =
      ap (take (length path + 1)) (is ∙ sym (append_assoc path (tag ∷ []) (pos i ∷ []))) ∙ seam (pos i ∷ [])

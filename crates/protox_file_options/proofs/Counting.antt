-- Values of fields counted.
use Rattle.std.proofs.Common.{◌≡◌, ℕ, ◌+◌, Bool, true, false, cond, List, Option, Some, ap, refl, ◌∙◌}
use Rattle.std.specs.Option.{unwrap_or}
use Rattle.std.proofs.lemmas.Slice.Eq.{bytes_eq-Decides}
use Rattle.protox_file_options.specs.Moves.{is_path}

one_more : (b : Bool) (old : Option ℕ) (next : ℕ) → (b ≡ true → next ≡ unwrap_or old 0 + 1)
    → unwrap_or (cond b (Some next) old) 0 ≡ cond b (unwrap_or old 0 + 1) (unwrap_or old 0)
one_more true old next h = h refl
one_more false old next h = refl

-- a count that is put at a path, one more than the one before it
pub counted : (f : List ℕ → Option ℕ) (path q : List ℕ) (next : ℕ) → next ≡ unwrap_or (f path) 0 + 1
    → unwrap_or (cond (is_path path q) (Some next) (f q)) 0 ≡ cond (is_path path q) (unwrap_or (f q) 0 + 1) (unwrap_or (f q) 0)
counted f path q next h = one_more (is_path path q) (f q) next (λ e. h ∙ ap (λ p. unwrap_or (f p) 0 + 1) ((bytes_eq-Decides path q).0 e))

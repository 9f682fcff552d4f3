-- The lexemes of a stretch of a source.
use Rattle.std.specs.Prelude.{ℕ, ◌≡◌, ◌<◌, ◌≤◌, ◌-◌, ◌⊎◌, List, length, take, drop}
use Rattle.std.specs.List.{All}
use Rattle.protox_lexeme.specs.Lexemes.{Lexeme, cut}
use Rattle.protox_lex.specs.Parts.{EndsAt, end_of}

-- From one place on there are these lexemes, just as many as it takes to reach the other place.
-- They end where the last of them stops; or at the end of the source, if no lexeme is left.
pub record IsStretch (source : List ℕ) (from until : ℕ) (lexemes : List Lexeme) (end : ℕ) : Type 0 where
  pub ends : EndsAt source from lexemes end
  pub stopped : All (λ x. x.stop ≤ end) lexemes
  pub before : All (λ x. x.stop < until) (take (length lexemes - 1) lexemes)
  pub stops : (end ≡ end_of from lexemes) ⊎ ((end ≡ length source) × (cut from (drop from source) ≡ lexemes))

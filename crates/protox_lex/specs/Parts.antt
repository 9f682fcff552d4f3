-- A part of a source: some of its lexemes, one after another.
use Rattle.std.specs.Prelude.{ℕ, ◌≡◌, ◌<◌, ◌≤◌, ◌+◌, ◌-◌, ◌++◌, ◌∷◌, ◌⊎◌, List, [], length, take, drop}
use Rattle.std.specs.List.{All}
use Rattle.protox_lexeme.specs.Lexemes.{Lexeme, cut}
use Rattle.protox_lexeme.specs.Table.{Table, table_of}

-- The lexemes from one place on are these, and then those from the other place on.
abbrev pub EndsAt : List ℕ → ℕ → List Lexeme → ℕ → Type 0
EndsAt source from lexemes end = cut from (drop from source) ≡ lexemes ++ cut end (drop end source)

-- The table is that of the lexemes between two places.
pub record IsPart (source : List ℕ) (from : ℕ) (table : Table) (end : ℕ) : Type 0 where
  pub lexemes : List Lexeme
  pub is : table ≡ table_of lexemes
  pub ends : EndsAt source from lexemes end

-- Where lexemes end: where the last of them stops. Without any it is the place from which on they
-- were looked for.
abbrev pub end_of : ℕ → List Lexeme → ℕ
end_of from [] = from
end_of from (x ∷ xs) = end_of x.stop xs

-- From one place on there are just as many lexemes as it takes to reach the other place: each but the
-- last stops before it. They end where the last of them stops; or at the end of the source, if no
-- lexeme is left, so that blanks at the end of the source are skipped.
pub record IsReach (source : List ℕ) (from until end : ℕ) : Type 0 where
  pub lexemes : List Lexeme
  pub ends : EndsAt source from lexemes end
  pub before : All (λ x. x.stop < until) (take (length lexemes - 1) lexemes)
  pub stops : (end ≡ end_of from lexemes) ⊎ ((end ≡ length source) × (cut from (drop from source) ≡ lexemes))

-- The part reaches the other place, and its last lexeme goes at most `long` bytes beyond. Or that
-- lexeme would go further, and the part goes on to the end of the source.
abbrev pub IsReachOrRest : List ℕ → ℕ → ℕ → ℕ → ℕ → Type 0
IsReachOrRest source from until long end =
    (IsReach source from until end × (end ≤ until + long))
    ⊎ ((mid : ℕ)
    × IsReach source from until mid
    × (until + long < mid)
    × IsReach source from (length source) end
    × (length source ≤ end))

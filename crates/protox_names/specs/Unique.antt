-- Names join and split in one way only.
use Rattle.std.specs.Prelude.{◌≡◌, ◌≢◌, ◌<◌, ℕ, true, List, [], ◌∷◌, ◌++◌, length}
use Rattle.std.specs.List.{All, AllPass}
use Rattle.protox_names.specs.Names.{front, is_identifier, is_one_part, joined, parts, scopes, within}

-- Joined by dots, the parts of a name are the name.
abbrev pub PartsMakeTheName : Type 0
PartsMakeTheName = (name : List ℕ) → joined (parts name) ≡ name

-- No part of a name has a dot.
abbrev pub PartsHaveNoDots : Type 0
PartsHaveNoDots = (name : List ℕ) → AllPass is_one_part (parts name)

-- Pieces without dots, at least one of them, are the parts of the name that they make.
abbrev pub PiecesAreTheParts : Type 0
PiecesAreTheParts = (pieces : List (List ℕ)) → 0 < length pieces → AllPass is_one_part pieces → parts (joined pieces) ≡ pieces

-- Joined, identifiers are the full name of the last one in the scope that the others name.
abbrev pub OneMorePart : Type 0
OneMorePart = (pieces : List (List ℕ)) (name : List ℕ) → AllPass is_identifier pieces → joined (pieces ++ name ∷ []) ≡ within (joined pieces) name

-- In a named scope, a name has the parts of the scope, and then its own.
abbrev pub ScopeComesFirst : Type 0
ScopeComesFirst = (scope name : List ℕ) → scope ≢ [] → parts (within scope name) ≡ parts scope ++ parts name

-- In one scope, different names have different full names.
abbrev pub NamesDiffer : Type 0
NamesDiffer = (scope first second : List ℕ) → within scope first ≡ within scope second → first ≡ second

-- A full name that ends in a name without dots tells the scope and the name.
abbrev pub FullNamesDiffer : Type 0
FullNamesDiffer = (one other first second : List ℕ) → is_one_part first ≡ true → is_one_part second ≡ true → within one first ≡ within other second → (one ≡ other) × (first ≡ second)

-- Around what has a name without dots in a scope, there is this scope, and what is around it.
abbrev pub ScopesGoOutwards : Type 0
ScopesGoOutwards = (scope name : List ℕ) → scope ≢ [] → is_one_part name ≡ true → scopes (within scope name) ≡ scope ∷ scopes scope

-- Around what has a name without dots in the nameless scope, there is no other.
abbrev pub ScopesEnd : Type 0
ScopesEnd = (name : List ℕ) → is_one_part name ≡ true → scopes name ≡ []

-- Each scope around what has a full name is shorter than the name.
abbrev pub ScopesAreShorter : Type 0
ScopesAreShorter = (name : List ℕ) → All (λ scope. length scope < length name) (scopes name)

-- A name without dots is its own first part.
abbrev pub OnePartIsTheFront : Type 0
OnePartIsTheFront = (name : List ℕ) → is_one_part name ≡ true → front name ≡ name

-- An identifier has no dot.
abbrev pub IdentifiersAreOnePart : Type 0
IdentifiersAreOnePart = (name : List ℕ) → is_identifier name ≡ true → is_one_part name ≡ true

-- What has a name in a scope that has a name in another one: the two names make one.
abbrev pub ScopesNest : Type 0
ScopesNest = (scope name member : List ℕ) → name ≢ [] → within (within scope name) member ≡ within scope (within name member)

-- Laws of the scoping rule. Things are numbers here.
use Rattle.std.specs.Prelude.{◌≡◌, ◌↔◌, ℕ, true, List, Option, Some, option_map}
use Rattle.protox_names.specs.Names.{is_absolute}
use Rattle.protox_scopes.specs.declared.kind.Kind.{Kind}
use Rattle.protox_scopes.specs.declared.kind.Wanted.{Wanted}
use Rattle.protox_scopes.specs.Scopes.{resolve}
use Rattle.protox_scopes.specs.StandsFor.{StandsFor}

-- A name stands for one thing at most.
abbrev pub OneMeaning : Type 0
OneMeaning = (kind : ℕ → Kind) (seen : List ℕ → Option ℕ) (wanted : Wanted) (name user : List ℕ) (one other : ℕ) → StandsFor kind seen wanted name user one → StandsFor kind seen wanted name user other → one ≡ other

-- A search finds just what the name stands for.
abbrev pub ResolveIsMeaning : Type 0
ResolveIsMeaning = (kind : ℕ → Kind) (seen : List ℕ → Option ℕ) (wanted : Wanted) (name user : List ℕ) (thing : ℕ) → (resolve kind seen wanted name user ≡ Some thing) ↔ StandsFor kind seen wanted name user thing

-- A name that begins with a dot stands for the same, whoever uses it and whatever is wanted.
abbrev pub DotIsSafe : Type 0
DotIsSafe = (kind : ℕ → Kind) (seen : List ℕ → Option ℕ) (wanted wanted' : Wanted) (name user user' : List ℕ) (thing : ℕ) → is_absolute name ≡ true → StandsFor kind seen wanted name user thing → StandsFor kind seen wanted' name user' thing

-- What a name stands for doesn't depend on how things are numbered.
abbrev pub NumbersDontMatter : Type 0
NumbersDontMatter = (number : ℕ → ℕ) (kind kind' : ℕ → Kind) (seen : List ℕ → Option ℕ) → ((thing : ℕ) → kind' (number thing) ≡ kind thing) → (wanted : Wanted) (name user : List ℕ) → resolve kind' (λ full_name. option_map number (seen full_name)) wanted name user ≡ option_map number (resolve kind seen wanted name user)

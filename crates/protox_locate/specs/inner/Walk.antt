-- What each function that walks a tree adds to the list, and what a loop still has to
-- add.
use Rattle.std.specs.Prelude.{ℕ, ◌≡◌, ◌+◌, Bool, true, false, List, ◌++◌, length, ℤ, codes}
use Rattle.protox_ast.specs.Options.{without_first}
use Rattle.protox_ast.specs.declared.ast.OptionBody.{OptionBody}
use Rattle.protox_descriptor.specs.declared.descriptor.source_code_info.Location.{Location}
use Rattle.protox_locate.specs.LocationWords.{Part, part, each_at, numbered}
use Rattle.protox_locate.specs.declared.context.Context.{Context}

-- The path is as before, and these locations are added at the end.
pub record Emits (old new : Context) (more : List Location) : Type 0 where
  pub path : new.path ≡ old.path
  pub locations : new.locations ≡ old.locations ++ more

-- These siblings are located, from the index `first` on. `next` is the index behind the last of
-- them.
pub record Numbers (old new : Context) (tag : ℤ) (first next : ℕ) (siblings : List Part) : Type 0 where
  pub located : Emits old new (numbered old.path tag first siblings)
  pub counted : next ≡ first + length siblings

-- Once the rest is located, all are. `next` is the index of the first of the rest, `first` that of
-- the first of all.
pub record ToCome (old now : Context) (tag : ℤ) (first next : ℕ) (all rest : List Part) : Type 0 where
  pub path : now.path ≡ old.path
  pub locations : now.locations ++ numbered old.path tag next rest ≡ old.locations ++ numbered old.path tag first all
  pub counted : next + length rest ≡ first + length all

-- Once the rest is located at this field number, all are.
pub record ToAdd (old now : Context) (tag : ℤ) (all rest : List Part) : Type 0 where
  pub path : now.path ≡ old.path
  pub locations : now.locations ++ each_at (part old.path tag) rest ≡ old.locations ++ each_at (part old.path tag) all

-- the options without the first of this name, if none was taken before
abbrev pub left_of : Bool → List ℕ → List OptionBody → List OptionBody
left_of true name bodies = bodies
left_of false name bodies = without_first name bodies

-- The options without the first `default` and the first `json_name`. The two flags say whether that
-- option was taken before; then none of its name goes.
abbrev pub left : Bool → Bool → List OptionBody → List OptionBody
left default json_name bodies = left_of json_name (codes "json_name") (left_of default (codes "default") bodies)

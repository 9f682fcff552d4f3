-- What is found under a full name has it.
use Rattle.std.proofs.Common.{◌≡◌, ℕ, false, List, [], Option, Some, None, MatchOption, is_some, sym, ap}
use Rattle.std.proofs.lemmas.Option.{get_or_from_slice_get}
use Rattle.protox_name_tree.proofs.Lemmas.{found_name}
use Rattle.protox_name_tree.specs.Tree.{name_at, number_of}
use Rattle.protox_symbols.specs.Symbols.{Table}
use Rattle.protox_views.specs.Views.{stands}

pub stands-found : (table : Table) (full_name : List ℕ) (found : Option ℕ) → found ≡ number_of table.names full_name → MatchOption found (stands table full_name ≡ false) (λ n. name_at table.names n ≡ full_name)
stands-found table full_name None is = ap is_some (sym is)
stands-found table full_name (Some n) is = get_or_from_slice_get table.names.full_names n full_name [] (found_name table.names.full_names full_name n (sym is))

-- Names in a list.
use Rattle.std.specs.Prelude.{ℕ, List, Option, position, slice_get, option_map, string_bytes, unwrap_or}
use Rattle.std.specs.Str.{bytes_eq}
use Rattle.protox_scopes.specs.declared.kind.Kind.{Kind}
use Rattle.protox_scopes.specs.declared.kind.Kind.TheVariants.{Member}
use Rattle.scopecases.specs.declared.listed.Listed.{Listed}

-- the place of the first entry that has this full name
abbrev pub place_of : Listed → List ℕ → Option ℕ
place_of listed full_name = position (λ entry. bytes_eq (string_bytes entry.full_name) full_name) listed.entries.items

-- the kind of the entry at a place; a member where there is none
abbrev pub kind_at : Listed → ℕ → Kind
kind_at listed place = unwrap_or (option_map (λ entry. entry.kind) (slice_get listed.entries.items place)) Member

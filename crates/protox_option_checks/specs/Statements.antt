-- What the statements of an options message say of a standard option.
use Rattle.std.specs.Prelude.{ℕ, Bool, false, not, ◌&&◌, List, [], ◌∷◌, bytes_eq, codes}
use Rattle.std.specs.List.{list_any}
use Rattle.std.specs.Option.{option_map_or}
use Rattle.protox_descriptor.specs.declared.descriptor.options.UninterpretedOption.{UninterpretedOption}
use Rattle.protox_descriptor.specs.declared.descriptor.uninterpreted_option.NamePart.{NamePart}

-- The name has one part, this one, and that is no extension.
abbrev pub is_named : List ℕ → List NamePart → Bool
is_named name [] = false
is_named name (part ∷ []) = not part.is_extension && bytes_eq part.name_part name
is_named name (part ∷ next ∷ more) = false

-- The statement sets the option of this name to this word.
abbrev pub sets_to : List ℕ → List ℕ → UninterpretedOption → Bool
sets_to name word statement =
    is_named name statement.name && option_map_or (λ said. bytes_eq said word) statement.identifier_value false

-- Some statement does.
abbrev pub says : List UninterpretedOption → List ℕ → List ℕ → Bool
says statements name word = list_any (sets_to name word) statements

-- Some statement sets the option to `true`.
abbrev pub is_true : List UninterpretedOption → List ℕ → Bool
is_true statements name = says statements name (codes "true")

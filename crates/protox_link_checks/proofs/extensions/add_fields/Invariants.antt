use Rattle.std.proofs.Common.{◌≡◌, ◌++◌, ℕ, List, drop}
use Rattle.std.specs.List.{flat_map}
use Rattle.protox_link_checks.specs.Extensions.{extension_of}
use Rattle.protox_symbols.specs.Scopes.{IsFoundScope}
use Rattle.protox_walk.specs.Declarations.{all_in, field_at, numbered, siblings_at}
use Rattle.protox_link_checks.proofs.extensions.add_fields.Given as goal

abbrev pub invariant-loop-index : goal.invariant-loop-index
invariant-loop-index l =
    let extension = extension_of l.view.symbols.now l.view.sees.now l.view.packages in
    (full : List ℕ) → IsFoundScope l.view.symbols.now full l.scope
    → l.made.items ++ flat_map extension (numbered l.path l.tag l.index (all_in field_at full (drop l.index l.fields)))
    ≡ l.initial.made.items ++ flat_map extension (siblings_at l.path l.tag (all_in field_at full l.fields))

use Rattle.std.proofs.Common.{◌≡◌, ◌+◌, [], ◌∷◌, ◌++◌, drop, length, take}
use Rattle.protox_name_tree.specs.Tree.{IsKnown}
use Rattle.protox_walk.specs.Declarations.{all_in, numbered, siblings_at}
use Rattle.protox_symbols.specs.Scopes.{scope_name, with_declarations}
use Rattle.protox_symbols.proofs.declares.declare_each.Given as goal

-- the scope is there as before, and what is left completes what all siblings declare
abbrev pub invariant-loop-index : goal.invariant-loop-index
invariant-loop-index g l = record {
  known : IsKnown l.symbols.names.full_names l.scope;
  place : take (length l.path + 1) l.place.items ≡ l.path ++ l.tag ∷ [];
  kept : scope_name l.symbols l.scope ≡ scope_name l.fn.symbols l.scope;
  left : with_declarations l.file l.symbols (numbered l.path l.tag l.index (all_in g.D.Declares.declares (scope_name l.fn.symbols l.scope) (drop l.index l.elements)))
      ≡ with_declarations l.file l.fn.symbols (siblings_at l.path l.tag (all_in g.D.Declares.declares (scope_name l.fn.symbols l.scope) l.elements));
}

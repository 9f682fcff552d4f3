-- Places taken one behind another.
use Rattle.std.proofs.Common.{◌≡◌, ℕ, ◌+◌, ◌<◌, ◌≤◌, ◌==◌, false, List, [], ◌∷◌, drop, get_or, length, refl, subst, sym, ◌∙◌, ap}
use Rattle.std.proofs.lemmas.List.{drop_all, drop_more}
use Rattle.std.specs.List.{FoldsTo, flat_map}
use Rattle.protox_descriptor.specs.declared.descriptor.descriptor_proto.ExtensionRange.{ExtensionRange}
use Rattle.protox_descriptor.specs.declared.descriptor.options.UninterpretedOption.{UninterpretedOption}
use Rattle.protox_file_options.proofs.One.{place, some_place}
use Rattle.protox_file_options.specs.Places.{Place, place_if_any, place_of_range, ranges_from}
use Rattle.protox_walk.proofs.Lemmas.{folds-append}
use Rattle.protox_walk.specs.Declarations.{Path}

module _ {P : Type 0} (takes : P → Place → P → Type 0) where
  -- There is one place, if there is a statement.
  pub one_taken : (a b : P) (path : Path) (scope options : List ℕ) (statements : List UninterpretedOption) → (length statements == 0) ≡ false
      → takes a (place path scope options statements) b → FoldsTo takes a (place_if_any path scope options statements) b
  one_taken a b path scope options statements some taken =
      subst (λ (places : List Place). FoldsTo takes a places b) (sym (some_place path scope options statements some)) (b, taken, refl)

  -- the places of a range, and of those behind it
  pub range_taken : (path : Path) (scope : List ℕ) (ranges : List ExtensionRange) (i : ℕ) (x : ExtensionRange) (a b end : P)
      → i < length ranges → x ≡ get_or ranges i x → FoldsTo takes a (place_of_range path scope i x) b
      → FoldsTo takes b (ranges_from path scope (i + 1) (drop (i + 1) ranges)) end
      → FoldsTo takes a (ranges_from path scope i (drop i ranges)) end
  range_taken path scope ranges i x a b end below is here rest =
      subst (λ (left : List ExtensionRange). FoldsTo takes a (ranges_from path scope i left) end)
      (sym (drop_more ranges i x below ∙ ap (λ (y : ExtensionRange). y ∷ drop (i + 1) ranges) (sym is)))
      (folds-append takes a (place_of_range path scope i x) b (ranges_from path scope (i + 1) (drop (i + 1) ranges)) end here rest)

  -- Behind the last range there is none.
  pub no_range_taken : (path : Path) (scope : List ℕ) (ranges : List ExtensionRange) (i : ℕ) (a : P)
      → length ranges ≤ i → FoldsTo takes a (ranges_from path scope i (drop i ranges)) a
  no_range_taken path scope ranges i a end =
      subst (λ (left : List ExtensionRange). FoldsTo takes a (ranges_from path scope i left) a) (sym (drop_all i ranges end)) refl

  -- the places of all declarations
  pub all_taken : {W D : Type 0} (to : W → P) (at : D → List Place) (a b : W) (ds : List D) → FoldsTo (λ old one new. FoldsTo takes (to old) (at one) (to new)) a ds b
      → FoldsTo takes (to a) (flat_map at ds) (to b)
  all_taken to at a b [] p = ap to p
  all_taken to at a b (d ∷ ds) p = folds-append takes (to a) (at d) (to p.0) (flat_map at ds) (to b) p.1 (all_taken to at p.0 b ds p.2)

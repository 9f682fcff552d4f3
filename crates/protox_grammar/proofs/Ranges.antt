-- The laws of ranges, reserved names and extensions.
use Rattle.std.proofs.Common.{◌≡◌, false, not, [], ◌∷◌, codes, refl, inl, inr, ◌⊎◌}
use Rattle.protox_grammar.specs.Class.{Set, none, only, among, just_word, just_mark, but_mark, among_marks, an_integer, a_string, mark}
use Rattle.protox_grammar.specs.Rule.{seq, choice}
use Rattle.protox_ast.specs.Tree as t
use Rattle.protox_ast.specs.Spelling as s
use Rattle.protox_ast.specs.KeywordWalk as k
use Rattle.protox_grammar.specs.Rules as r
use Rattle.protox_ast.specs.CheckedNodes.{AReservedName}
use Rattle.protox_grammar.proofs.Forms.{Lawful, word-laws, mark-laws, seq-laws, choice-laws, optional-laws, times-laws, named-laws, wide}
use Rattle.protox_grammar.proofs.Parts as parts
use Rattle.protox_grammar.proofs.Options as options

module _ {M : Type 0} (m : M) where
  range_end-back : (x : t.RangeEnd M) → r.to_range_end (r.from_range_end x) ≡ x
  range_end-back (t.up_to a b) = refl
  range_end-back (t.up_to_max a b) = refl

  range_end-there : (x : M × (t.Int M ⊎ M)) → r.from_range_end (r.to_range_end x) ≡ x
  range_end-there (a, inl x) = refl
  range_end-there (a, inr x) = refl

  range_end-is : (x : t.RangeEnd M) → s.range_end x ≡ (seq (r.the (codes "to")) (choice (among (an_integer ∷ mark s.minus ∷ [])) r.int (r.the (codes "max")))).spell (r.from_range_end x)
  unfolding r.range_end r.int
  range_end-is (t.up_to a b) = refl
  range_end-is (t.up_to_max a b) = refl

  range_end-obeys : (x : t.RangeEnd M) → Unit {0} → (seq (r.the (codes "to")) (choice (among (an_integer ∷ mark s.minus ∷ [])) r.int (r.the (codes "max")))).may (r.from_range_end x)
  unfolding r.range_end r.int
  range_end-obeys (t.up_to a b) h = (tt, tt)
  range_end-obeys (t.up_to_max a b) h = (tt, tt)

  range_end-allows : (x : t.RangeEnd M) → (seq (r.the (codes "to")) (choice (among (an_integer ∷ mark s.minus ∷ [])) r.int (r.the (codes "max")))).may (r.from_range_end x) → Unit {0}
  unfolding r.range_end r.int
  range_end-allows (t.up_to a b) h = tt
  range_end-allows (t.up_to_max a b) h = tt

  pub range_end-laws : Lawful {M = M} r.range_end false (just_word (codes "to")) none
  unfolding r.range_end r.int
  range_end-laws = wide _ _ (named-laws s.range_end r.free _ _ range_end-back range_end-there range_end-is
      range_end-obeys range_end-allows (λ x h. h)
      (seq-laws (word-laws m (codes "to")) (choice-laws (among (an_integer ∷ mark s.minus ∷ [])) (parts.int-laws m) refl (word-laws m (codes "max")) refl) refl)) refl refl

  pub range-laws : Lawful {M = M} r.range false (among (an_integer ∷ mark s.minus ∷ [])) (just_word (codes "to"))
  unfolding r.range r.int r.range_end
  range-laws = wide _ _ (named-laws s.range r.free _ _ (λ x. refl) (λ x. refl) (λ x. refl)
      (λ x h. (tt, parts.given-all _ (λ y. tt) x.stop)) (λ x h. tt) (λ x h. h)
      (seq-laws (parts.int-laws m) (optional-laws (just_word (codes "to")) range_end-laws refl) refl)) refl refl

  -- what may not follow ranges
  abbrev unclosed : Set
  unclosed n = not (among_marks (s.open_bracket ∷ s.semicolon ∷ []) n)

  pub ranges-laws : Lawful {M = M} r.ranges false (among (an_integer ∷ mark s.minus ∷ [])) unclosed
  unfolding r.ranges r.range
  ranges-laws = wide _ _ (named-laws s.ranges r.free _ _ (λ x. refl) (λ x. refl) (λ x. refl)
      (λ x h. (tt, parts.each-all _ (λ y. (tt, tt)) x.others)) (λ x h. tt) (λ x h. h)
      (seq-laws range-laws (times-laws (just_mark s.comma) (seq-laws (mark-laws m s.comma) range-laws refl) refl refl) refl)) refl refl

  pub name-laws : Lawful {M = M} (r.noted_strings AReservedName) false (only a_string) (only a_string)
  name-laws = parts.noted_strings-laws m AReservedName (λ x. refl) (λ x. refl)

  pub names-laws : Lawful {M = M} r.names false (only a_string) (among (a_string ∷ mark s.comma ∷ []))
  unfolding r.names r.strings
  names-laws = wide _ _ (named-laws s.names r.free _ _ (λ x. refl) (λ x. refl) (λ x. refl)
      (λ x h. (tt, parts.each-all _ (λ y. (tt, tt)) x.others)) (λ x h. tt) (λ x h. h)
      (seq-laws name-laws (times-laws (just_mark s.comma) (seq-laws (mark-laws m s.comma) name-laws refl) refl refl) refl)) refl refl

  reserved_kind-back : (x : t.ReservedKind M) → r.to_reserved_kind (r.from_reserved_kind x) ≡ x
  reserved_kind-back (t.ranges a) = refl
  reserved_kind-back (t.names a) = refl

  reserved_kind-there : (x : t.Ranges M ⊎ t.Names M) → r.from_reserved_kind (r.to_reserved_kind x) ≡ x
  reserved_kind-there (inl x) = refl
  reserved_kind-there (inr x) = refl

  reserved_kind-is : (x : t.ReservedKind M) → s.reserved_kind x ≡ (choice (among (an_integer ∷ mark s.minus ∷ [])) r.ranges r.names).spell (r.from_reserved_kind x)
  unfolding r.reserved_kind r.ranges r.names
  reserved_kind-is (t.ranges a) = refl
  reserved_kind-is (t.names a) = refl

  reserved_kind-obeys : (x : t.ReservedKind M) → Unit {0} → (choice (among (an_integer ∷ mark s.minus ∷ [])) r.ranges r.names).may (r.from_reserved_kind x)
  unfolding r.reserved_kind r.ranges r.names
  reserved_kind-obeys (t.ranges a) h = tt
  reserved_kind-obeys (t.names a) h = tt

  reserved_kind-allows : (x : t.ReservedKind M) → (choice (among (an_integer ∷ mark s.minus ∷ [])) r.ranges r.names).may (r.from_reserved_kind x) → Unit {0}
  unfolding r.reserved_kind r.ranges r.names
  reserved_kind-allows (t.ranges a) h = tt
  reserved_kind-allows (t.names a) h = tt

  pub reserved_kind-laws : Lawful {M = M} r.reserved_kind false (among (an_integer ∷ mark s.minus ∷ a_string ∷ [])) (but_mark s.semicolon)
  unfolding r.reserved_kind r.ranges r.names
  reserved_kind-laws = wide _ _ (named-laws s.reserved_kind r.free _ _ reserved_kind-back reserved_kind-there reserved_kind-is
      reserved_kind-obeys reserved_kind-allows (λ x h. h)
      (choice-laws (among (an_integer ∷ mark s.minus ∷ [])) ranges-laws refl names-laws refl)) refl refl

  pub reserved-laws : Lawful {M = M} r.reserved false (just_word (codes "reserved")) none
  unfolding r.reserved r.reserved_kind
  reserved-laws = wide _ _ (named-laws s.reserved r.free _ _ (λ x. refl) (λ x. refl) (λ x. refl)
      (λ x h. (tt, (tt, tt))) (λ x h. tt) (λ x h. h)
      (seq-laws (word-laws m (codes "reserved")) (seq-laws reserved_kind-laws (mark-laws m s.semicolon) refl) refl)) refl refl

  pub extensions-laws : Lawful {M = M} r.extensions false (just_word (codes "extensions")) none
  unfolding r.extensions r.ranges r.list
  extensions-laws = wide _ _ (named-laws s.extensions k.KeepsExtensions _ _ (λ x. refl) (λ x. refl)
      (λ x. refl) (λ x h. (tt, (tt, (h, tt)))) (λ x h. h.1.1.0) (λ x h. h)
      (seq-laws (word-laws m (codes "extensions")) (seq-laws ranges-laws (seq-laws (optional-laws (just_mark s.open_bracket) (options.list-laws m) refl) (mark-laws m s.semicolon) refl) refl) refl)) refl refl

-- The laws of enums.
use Rattle.std.proofs.Common.{◌≡◌, false, [], ◌∷◌, None, codes, refl, inl, inr, ◌⊎◌}
use Rattle.protox_grammar.specs.Class.{none, words, union, just_word, just_mark, but_mark, among_words}
use Rattle.protox_grammar.specs.Rule.{unless, choice}
use Rattle.protox_ast.specs.Tree as t
use Rattle.protox_ast.specs.Spelling as s
use Rattle.protox_ast.specs.KeywordWalk as k
use Rattle.protox_grammar.specs.Rules as r
use Rattle.protox_grammar.proofs.Begin.{none-among, among-none}
use Rattle.protox_grammar.proofs.Forms.{Lawful, word-laws, mark-laws, seq-laws, unless-laws, choice-laws, optional-laws, times-laws, named-laws, wide}
use Rattle.protox_grammar.proofs.Parts as parts
use Rattle.protox_grammar.proofs.Options as options
use Rattle.protox_grammar.proofs.Ranges as ranges

module _ {M : Type 0} (m : M) where
  pub evalue-laws : Lawful {M = M} r.evalue false words none
  unfolding r.evalue r.int r.list
  evalue-laws = wide _ _ (named-laws s.evalue r.EvalueAlone _ _ (λ x. refl) (λ x. refl) (λ x. refl)
      (λ x h. (tt, (tt, (tt, (h, tt))))) (λ x h. h.1.1.1.0) (λ x h. h)
      (seq-laws (parts.ident-laws m) (seq-laws (mark-laws m s.equals) (seq-laws (parts.int-laws m) (seq-laws (optional-laws (just_mark s.open_bracket) (options.list-laws m) refl) (mark-laws m s.semicolon) refl) refl) refl) refl)) refl refl

  abbrev some_value : t.Evalue M
  some_value = record { name = ([], m); equals_sign = m; number = record { sign = None; number = (0, m) }; options = None; end = m }

  enum_element-back : (x : t.EnumElement M) → r.to_enum_element (r.from_enum_element x) ≡ x
  enum_element-back (t.enum_empty x) = refl
  enum_element-back (t.enum_option x) = refl
  enum_element-back (t.enum_reserved x) = refl
  enum_element-back (t.enum_value x) = refl

  enum_element-there : (x : M ⊎ ((t.OptionStatement M ⊎ (t.Reserved M)) ⊎ t.Evalue M)) → r.from_enum_element (r.to_enum_element x) ≡ x
  enum_element-there (inl x) = refl
  enum_element-there (inr (inl (inl x))) = refl
  enum_element-there (inr (inl (inr x))) = refl
  enum_element-there (inr (inr x)) = refl

  enum_element-is : (x : t.EnumElement M) → s.enum_element x ≡ (choice (just_mark s.semicolon) (r.sign s.semicolon) (unless (among_words (codes "option" ∷ codes "reserved" ∷ [])) (choice (just_word (codes "option")) r.option r.reserved) r.evalue)).spell (r.from_enum_element x)
  unfolding r.enum_element r.option r.reserved r.evalue
  enum_element-is (t.enum_empty a) = refl
  enum_element-is (t.enum_option a) = refl
  enum_element-is (t.enum_reserved a) = refl
  enum_element-is (t.enum_value a) = refl

  enum_element-obeys : (x : t.EnumElement M) → k.KeepsEnumElement x → (choice (just_mark s.semicolon) (r.sign s.semicolon) (unless (among_words (codes "option" ∷ codes "reserved" ∷ [])) (choice (just_word (codes "option")) r.option r.reserved) r.evalue)).may (r.from_enum_element x)
  unfolding r.enum_element r.option r.reserved r.evalue
  enum_element-obeys (t.enum_empty a) h = tt
  enum_element-obeys (t.enum_option a) h = h
  enum_element-obeys (t.enum_reserved a) h = tt
  enum_element-obeys (t.enum_value a) h = (h.1, none-among (codes "option" ∷ codes "reserved" ∷ []) refl a.name.0 h.0)

  enum_element-allows : (x : t.EnumElement M) → (choice (just_mark s.semicolon) (r.sign s.semicolon) (unless (among_words (codes "option" ∷ codes "reserved" ∷ [])) (choice (just_word (codes "option")) r.option r.reserved) r.evalue)).may (r.from_enum_element x) → k.KeepsEnumElement x
  unfolding r.enum_element r.option r.reserved r.evalue
  enum_element-allows (t.enum_empty a) h = tt
  enum_element-allows (t.enum_option a) h = h
  enum_element-allows (t.enum_reserved a) h = tt
  enum_element-allows (t.enum_value a) h = (among-none (codes "option" ∷ codes "reserved" ∷ []) a.name.0 h.1, h.0)

  pub enum_element-laws : Lawful {M = M} r.enum_element false (union words (just_mark s.semicolon)) none
  unfolding r.enum_element r.option r.reserved r.evalue
  enum_element-laws = wide _ _ (named-laws s.enum_element k.KeepsEnumElement _ _ enum_element-back enum_element-there enum_element-is
      enum_element-obeys enum_element-allows (λ x h. h)
      (choice-laws (just_mark s.semicolon) (mark-laws m s.semicolon) refl (unless-laws (among_words (codes "option" ∷ codes "reserved" ∷ [])) (choice-laws (just_word (codes "option")) (options.option-laws m) refl (ranges.reserved-laws m) refl) refl evalue-laws some_value tt refl) refl)) refl refl

  pub enum-laws : Lawful {M = M} r.enum false (just_word (codes "enum")) none
  unfolding r.enum r.enum_element
  enum-laws = wide _ _ (named-laws s.enum k.KeepsEnum _ _ (λ x. refl) (λ x. refl) (λ x. refl)
      (λ x h. (tt, (tt, (tt, (h, tt))))) (λ x h. h.1.1.1.0) (λ x h. h)
      (seq-laws (word-laws m (codes "enum")) (seq-laws (parts.ident-laws m) (seq-laws (mark-laws m s.open_brace) (seq-laws (times-laws (but_mark s.close_brace) enum_element-laws refl refl) (mark-laws m s.close_brace) refl) refl) refl) refl)) refl refl

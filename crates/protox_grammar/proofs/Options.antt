-- The laws of options.
use Rattle.std.proofs.Common.{◌≡◌, false, [], ◌∷◌, Option, None, codes, refl, sym, subst, arith, inl, inr, ◌⊎◌}
use Rattle.protox_lexeme.specs.Shapes.{Mark, Rows}
use Rattle.std.proofs.lemmas.List.{length-append}
use Rattle.protox_grammar.specs.Steps.{AnOpenBrace, ACloseBrace}
use Rattle.protox_grammar.specs.Class.{all, none, only, words, union, among, just_word, just_mark, an_integer, a_float, a_string, mark}
use Rattle.protox_grammar.specs.Rule.{row, seq, choice, optional, noting}
use Rattle.protox_ast.specs.Tree as t
use Rattle.protox_ast.specs.Spelling as s
use Rattle.protox_ast.specs.KeywordWalk as k
use Rattle.protox_grammar.specs.Rules as r
use Rattle.protox_grammar.proofs.TracingNotes.{plain-traced}
use Rattle.protox_grammar.proofs.Closed.{closed-spelled, closed-read, closed-deep}
use Rattle.protox_grammar.proofs.Forms.{Lawful, word-laws, mark-laws, seq-laws, choice-laws, optional-laws, times-laws, named-laws, wide, noting-laws}
use Rattle.protox_grammar.proofs.Parts as parts
use Rattle.protox_grammar.proofs.Placing.{IsPlaced, last-past}

module _ {M : Type 0} (m : M) where
  closed-laws : Lawful {M = M} r.closed false all none
  closed-laws = record { spelled = closed-spelled; read = closed-read m; traced = plain-traced r.closed false all none closed-spelled (closed-read m) closed-deep (λ t. refl) (λ xs. refl) }

  opened-laws : Lawful {M = M} (noting AnOpenBrace (r.sign s.open_brace)) false (just_mark s.open_brace) none
  opened-laws = noting-laws AnOpenBrace (mark-laws m s.open_brace) (λ x h. tt) (λ x y z h a. tt) (λ x. omega arith) (λ x z h. (refl, refl, λ g. absurd cc, λ g. refl)) (λ x. refl)

  noted_closed-laws : Lawful {M = M} (noting (λ x. ACloseBrace x.1) r.closed) false all none
  noted_closed-laws = noting-laws (λ x. ACloseBrace x.1) closed-laws (λ x h. h) (λ x y z h a. h) (λ x. omega (arith, length-append x.0 (row (Mark s.close_brace) x.1 ∷ [])))
      (λ x z h. subst (λ u. IsPlaced u (ACloseBrace x.1) z) (sym (last-past None x.0 (row (Mark s.close_brace) x.1) [])) (refl, refl, λ g. absurd cc, λ g. refl)) (λ x. refl)

  part-back : (x : t.Part M) → r.to_part (r.from_part x) ≡ x
  part-back (t.plain_part a) = refl
  part-back (t.extension_part a b c) = refl

  part-there : (x : t.Word M ⊎ (M × (t.TypeName M × M))) → r.from_part (r.to_part x) ≡ x
  part-there (inl x) = refl
  part-there (inr x) = refl

  part-is : (x : t.Part M) → s.part x ≡ (choice words r.ident (seq (r.sign s.open_paren) (seq r.typename (r.sign s.close_paren)))).spell (r.from_part x)
  unfolding r.part r.typename
  part-is (t.plain_part a) = refl
  part-is (t.extension_part a b c) = refl

  part-obeys : (x : t.Part M) → Unit {0} → (choice words r.ident (seq (r.sign s.open_paren) (seq r.typename (r.sign s.close_paren)))).may (r.from_part x)
  unfolding r.part r.typename
  part-obeys (t.plain_part a) h = tt
  part-obeys (t.extension_part a b c) h = (tt, (tt, tt))

  part-allows : (x : t.Part M) → (choice words r.ident (seq (r.sign s.open_paren) (seq r.typename (r.sign s.close_paren)))).may (r.from_part x) → Unit {0}
  unfolding r.part r.typename
  part-allows (t.plain_part a) h = tt
  part-allows (t.extension_part a b c) h = tt

  pub part-laws : Lawful {M = M} r.part false (union words (just_mark s.open_paren)) none
  unfolding r.part r.typename
  part-laws = wide _ _ (named-laws s.part r.free _ _ part-back part-there part-is
      part-obeys part-allows (λ x h. h)
      (choice-laws words (parts.ident-laws m) refl (seq-laws (mark-laws m s.open_paren) (seq-laws (parts.typename-laws m) (mark-laws m s.close_paren) refl) refl) refl)) refl refl

  constant-back : (x : t.Constant M) → r.to_constant (r.from_constant x) ≡ x
  constant-back (t.ident a) = refl
  constant-back (t.integer a) = refl
  constant-back (t.float a) = refl

  constant-there : (x : t.Word M ⊎ (t.Number M ⊎ t.Float M)) → r.from_constant (r.to_constant x) ≡ x
  constant-there (inl x) = refl
  constant-there (inr (inl x)) = refl
  constant-there (inr (inr x)) = refl

  constant-is : (x : t.Constant M) → s.constant x ≡ (choice words r.ident (choice (only an_integer) r.integer r.float)).spell (r.from_constant x)
  unfolding r.constant
  constant-is (t.ident a) = refl
  constant-is (t.integer a) = refl
  constant-is (t.float a) = refl

  constant-obeys : (x : t.Constant M) → Unit {0} → (choice words r.ident (choice (only an_integer) r.integer r.float)).may (r.from_constant x)
  unfolding r.constant
  constant-obeys (t.ident a) h = tt
  constant-obeys (t.integer a) h = tt
  constant-obeys (t.float a) h = tt

  constant-allows : (x : t.Constant M) → (choice words r.ident (choice (only an_integer) r.integer r.float)).may (r.from_constant x) → Unit {0}
  unfolding r.constant
  constant-allows (t.ident a) h = tt
  constant-allows (t.integer a) h = tt
  constant-allows (t.float a) h = tt

  pub constant-laws : Lawful {M = M} r.constant false (union words (among (an_integer ∷ a_float ∷ []))) none
  unfolding r.constant
  constant-laws = wide _ _ (named-laws s.constant r.free _ _ constant-back constant-there constant-is
      constant-obeys constant-allows (λ x h. h)
      (choice-laws words (parts.ident-laws m) refl (choice-laws (only an_integer) (parts.integer-laws m) refl (parts.float-laws m) refl) refl)) refl refl

  value-back : (x : t.Value M) → r.to_value (r.from_value x) ≡ x
  value-back (t.constant a b) = refl
  value-back (t.strings a) = refl
  value-back (t.aggregate a b c) = refl

  value-there : (x : (Option M × t.Constant M) ⊎ (t.Strings M ⊎ (M × (Rows M × M)))) → r.from_value (r.to_value x) ≡ x
  value-there (inl x) = refl
  value-there (inr (inl x)) = refl
  value-there (inr (inr x)) = refl

  value-is : (x : t.Value M) → s.value x ≡ (choice (union words (among (an_integer ∷ a_float ∷ mark s.minus ∷ []))) (seq (optional (just_mark s.minus) (r.sign s.minus)) r.constant) (choice (only a_string) r.strings (seq (r.sign s.open_brace) r.closed))).spell (r.from_value x)
  unfolding r.value r.constant r.strings
  value-is (t.constant a b) = refl
  value-is (t.strings a) = refl
  value-is (t.aggregate a b c) = refl

  value-obeys : (x : t.Value M) → k.KeepsValue x → (choice (union words (among (an_integer ∷ a_float ∷ mark s.minus ∷ []))) (seq (optional (just_mark s.minus) (r.sign s.minus)) r.constant) (choice (only a_string) r.strings (seq (r.sign s.open_brace) r.closed))).may (r.from_value x)
  unfolding r.value r.constant r.strings
  value-obeys (t.constant a b) h = (parts.given-all _ (λ y. tt) a, tt)
  value-obeys (t.strings a) h = tt
  value-obeys (t.aggregate a b c) h = (tt, h)

  value-allows : (x : t.Value M) → (choice (union words (among (an_integer ∷ a_float ∷ mark s.minus ∷ []))) (seq (optional (just_mark s.minus) (r.sign s.minus)) r.constant) (choice (only a_string) r.strings (seq (r.sign s.open_brace) r.closed))).may (r.from_value x) → k.KeepsValue x
  unfolding r.value r.constant r.strings
  value-allows (t.constant a b) h = tt
  value-allows (t.strings a) h = tt
  value-allows (t.aggregate a b c) h = h.1

  pub value-laws : Lawful {M = M} r.value false (union words (among (an_integer ∷ a_float ∷ mark s.minus ∷ a_string ∷ mark s.open_brace ∷ []))) (only a_string)
  unfolding r.value r.constant r.strings
  value-laws = wide _ _ (named-laws s.value k.KeepsValue _ _ value-back value-there value-is
      value-obeys value-allows (λ x h. h)
      (choice-laws (union words (among (an_integer ∷ a_float ∷ mark s.minus ∷ []))) (seq-laws (optional-laws (just_mark s.minus) (mark-laws m s.minus) refl) constant-laws refl) refl (choice-laws (only a_string) (parts.strings-laws m) refl (seq-laws opened-laws noted_closed-laws refl) refl) refl)) refl refl

  pub option_body-laws : Lawful {M = M} r.body false (union words (just_mark s.open_paren)) (only a_string)
  unfolding r.body r.part r.value
  option_body-laws = wide _ _ (named-laws s.body k.KeepsBody _ _ (λ x. refl) (λ x. refl) (λ x. refl)
      (λ x h. (tt, (parts.each-all _ (λ y. (tt, tt)) x.others, (tt, h)))) (λ x h. h.1.1.1) (λ x h. h)
      (seq-laws part-laws (seq-laws (times-laws (just_mark s.dot) (seq-laws (mark-laws m s.dot) part-laws refl) refl refl) (seq-laws (mark-laws m s.equals) value-laws refl) refl) refl)) refl refl

  pub option-laws : Lawful {M = M} r.option false (just_word (codes "option")) none
  unfolding r.option r.body
  option-laws = wide _ _ (named-laws s.option k.KeepsOption _ _ (λ x. refl) (λ x. refl) (λ x. refl)
      (λ x h. (tt, (h, tt))) (λ x h. h.1.0) (λ x h. h)
      (seq-laws (word-laws m (codes "option")) (seq-laws option_body-laws (mark-laws m s.semicolon) refl) refl)) refl refl

  pub list-laws : Lawful {M = M} r.list false (just_mark s.open_bracket) none
  unfolding r.list r.body
  list-laws = wide _ _ (named-laws s.list k.KeepsList _ _ (λ x. refl) (λ x. refl) (λ x. refl)
      (λ x h. (tt, (h.0, (parts.each-map _ _ (λ y h. (tt, h)) x.others h.1, tt)))) (λ x h. (h.1.0, parts.each-map _ _ (λ y h. h.1) x.others h.1.1.0)) (λ x h. h)
      (seq-laws (mark-laws m s.open_bracket) (seq-laws option_body-laws (seq-laws (times-laws (just_mark s.comma) (seq-laws (mark-laws m s.comma) option_body-laws refl) refl refl) (mark-laws m s.close_bracket) refl) refl) refl)) refl refl

-- The laws of fields that hold no body.
use Rattle.std.proofs.Common.{false, codes, refl}
use Rattle.protox_grammar.specs.Class.{none, words, union, just_word, just_mark}
use Rattle.protox_ast.specs.Spelling as s
use Rattle.protox_ast.specs.KeywordWalk as k
use Rattle.protox_grammar.specs.Rules as r
use Rattle.protox_grammar.proofs.Forms.{Lawful, word-laws, mark-laws, seq-laws, optional-laws, named-laws, wide}
use Rattle.protox_grammar.proofs.Parts as parts
use Rattle.protox_grammar.proofs.Options as options

module _ {M : Type 0} (m : M) where
  pub normal-laws : Lawful {M = M} r.normal false (union words (just_mark s.dot)) none
  unfolding r.normal r.type r.int r.list
  normal-laws = wide _ _ (named-laws s.normal r.NormalAlone _ _ (λ x. refl) (λ x. refl) (λ x. refl)
      (λ x h. (h.0, (tt, (tt, (tt, (h.1, tt)))))) (λ x h. (h.0, h.1.1.1.1.0)) (λ x h. h)
      (seq-laws (parts.type-laws m) (seq-laws (parts.ident-laws m) (seq-laws (mark-laws m s.equals) (seq-laws (parts.int-laws m) (seq-laws (optional-laws (just_mark s.open_bracket) (options.list-laws m) refl) (mark-laws m s.semicolon) refl) refl) refl) refl) refl)) refl refl

  pub map-laws : Lawful {M = M} r.map false (just_word (codes "map")) none
  unfolding r.map r.type r.int r.list
  map-laws = wide _ _ (named-laws s.map k.KeepsMap _ _ (λ x. refl) (λ x. refl) (λ x. refl)
      (λ x h. (tt, (tt, (h.0.0, (tt, (h.0.1, (tt, (tt, (tt, (tt, (h.1, tt))))))))))) (λ x h. ((h.1.1.0, h.1.1.1.1.0), h.1.1.1.1.1.1.1.1.1.0)) (λ x h. h)
      (seq-laws (word-laws m (codes "map")) (seq-laws (mark-laws m s.open_angle) (seq-laws (parts.type-laws m) (seq-laws (mark-laws m s.comma) (seq-laws (parts.type-laws m) (seq-laws (mark-laws m s.close_angle) (seq-laws (parts.ident-laws m) (seq-laws (mark-laws m s.equals) (seq-laws (parts.int-laws m) (seq-laws (optional-laws (just_mark s.open_bracket) (options.list-laws m) refl) (mark-laws m s.semicolon) refl) refl) refl) refl) refl) refl) refl) refl) refl) refl)) refl refl

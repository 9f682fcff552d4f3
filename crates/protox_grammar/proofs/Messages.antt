-- The laws of the rules with messages in them, given the laws of a body.
use Rattle.std.proofs.Common.{ℕ, List, true, false, [], ◌∷◌, None, codes, refl, arith}
use Rattle.protox_grammar.specs.Class.{none, words, union, among, all, just_word, just_mark, but_mark, among_words, mark, word}
use Rattle.protox_grammar.specs.Reader.{Reader}
use Rattle.protox_lexeme.specs.Shapes.{Rows}
use Rattle.protox_ast.specs.CheckedNodes.{AGroupName}
use Rattle.protox_grammar.specs.Steps.{Steps, AKeyword, ANode}
use Rattle.protox_grammar.specs.Rule.{Rule, noting}
use Rattle.protox_ast.specs.Tree as t
use Rattle.protox_ast.specs.Spelling as s
use Rattle.protox_grammar.specs.Rules as r
use Rattle.protox_grammar.specs.Bodies as rule
use Rattle.protox_grammar.proofs.Forms.{Lawful, word-laws, mark-laws, seq-laws, unless-laws, choice-laws, optional-laws, times-laws, named_fits-laws, wide, noting-laws}
use Rattle.protox_grammar.proofs.Parts as parts
use Rattle.protox_grammar.proofs.Options as options
use Rattle.protox_grammar.proofs.Fields as fields
use Rattle.protox_grammar.proofs.Ranges as ranges
use Rattle.protox_grammar.proofs.Enums as enums
use Rattle.protox_grammar.proofs.Services as services
use Rattle.protox_grammar.proofs.Ties as tie

module _ {M : Type 0} (m : M) (P F : t.Mbody M → Type 0) (read : Reader M (t.Mbody M)) (S : t.Mbody M → Steps M) (T : Rows M → Steps M) (lb : Lawful (rule.sealed P F read S T) false (just_mark s.open_brace) none) where
  abbrev body : Rule M (t.Mbody M)
  body = rule.sealed P F read S T

  abbrev some_normal : t.Normal M
  some_normal = record { type = t.named (parts.some_name m); name = ([], m); equals_sign = m; number = record { sign = None; number = (0, m) }; options = None; end = m }

  abbrev some_field : t.Field M
  some_field = t.field_of None (t.normal some_normal)

  opener-laws : (w : List ℕ) → Lawful {M = M} (noting AKeyword (r.the w)) false (just_word w) none
  opener-laws w = noting-laws AKeyword (word-laws m w) (λ x h. tt) (λ x y z h a. tt) (λ x. omega arith) (λ x z h. (refl, refl, λ g. absurd cc, λ g. refl)) (λ x. refl)

  group_name-laws : Lawful {M = M} (noting (λ x. ANode (AGroupName x)) r.ident) false words none
  group_name-laws = noting-laws (λ x. ANode (AGroupName x)) (parts.ident-laws m) (λ x h. tt) (λ x y z h a. tt) (λ x. omega arith) (λ x z h. (refl, refl, λ g. absurd cc, λ g. refl)) (λ x. refl)

  pub group-laws : Lawful (rule.group body) false (just_word (codes "group")) none
  unfolding rule.group r.int r.list
  group-laws = wide _ _ (named_fits-laws s.group (rule.GroupHas P) (rule.GroupHas F) rule.to_group rule.from_group (tie.group-back m read S T P) (tie.group-there m read S T P)
      (tie.group-is m read S T P) (tie.group-obeys m read S T P) (tie.group-allows m read S T P) (tie.group-obeys m read S T F) (tie.group-allows m read S T F)
      (seq-laws (opener-laws (codes "group")) (seq-laws group_name-laws (seq-laws (mark-laws m s.equals) (seq-laws (parts.int-laws m) (seq-laws (optional-laws (just_mark s.open_bracket) (options.list-laws m) refl) lb refl) refl) refl) refl) refl)) refl refl

  pub field_kind-laws : Lawful (rule.field_kind body) false (union (just_mark s.dot) words) none
  unfolding rule.field_kind rule.group r.map r.normal
  field_kind-laws = wide _ _ (named_fits-laws s.field_kind (rule.KindHas P) (rule.KindHas F) rule.to_field_kind rule.from_field_kind (tie.field_kind-back m read S T P) (tie.field_kind-there m read S T P)
      (tie.field_kind-is m read S T P) (tie.field_kind-obeys m read S T P) (tie.field_kind-allows m read S T P) (tie.field_kind-obeys m read S T F) (tie.field_kind-allows m read S T F)
      (unless-laws (among_words (codes "map" ∷ codes "group" ∷ [])) (choice-laws (just_word (codes "map")) (fields.map-laws m) refl group-laws refl) refl (fields.normal-laws m) some_normal (tt, tt) refl)) refl refl

  pub field-laws : Lawful (rule.field body) false (union (just_mark s.dot) words) none
  unfolding rule.field rule.field_kind r.label
  field-laws = wide _ _ (named_fits-laws s.field (rule.FieldHas P) (rule.FieldHas F) rule.to_field rule.from_field (tie.field-back m read S T P) (tie.field-there m read S T P)
      (tie.field-is m read S T P) (tie.field-obeys m read S T P) (tie.field-allows m read S T P) (tie.field-obeys m read S T F) (tie.field-allows m read S T F)
      (unless-laws (among_words (codes "optional" ∷ codes "required" ∷ codes "repeated" ∷ [])) (seq-laws (parts.label-laws m) field_kind-laws refl) refl field_kind-laws (t.normal some_normal) (tt, tt) refl)) refl refl

  pub oneof_element-laws : Lawful (rule.oneof_element body) false (union (just_mark s.semicolon) (union (just_mark s.dot) words)) none
  unfolding rule.oneof_element rule.field r.option
  oneof_element-laws = wide _ _ (named_fits-laws s.oneof_element (rule.OneofElementHas P) (rule.OneofElementHas F) rule.to_oneof_element rule.from_oneof_element (tie.oneof_element-back m read S T P) (tie.oneof_element-there m read S T P)
      (tie.oneof_element-is m read S T P) (tie.oneof_element-obeys m read S T P) (tie.oneof_element-allows m read S T P) (tie.oneof_element-obeys m read S T F) (tie.oneof_element-allows m read S T F)
      (choice-laws (just_mark s.semicolon) (mark-laws m s.semicolon) refl (unless-laws (among_words (codes "option" ∷ [])) (options.option-laws m) refl field-laws some_field (tt, (tt, tt)) refl) refl)) refl refl

  pub oneof_elements-laws : Lawful (rule.oneof_elements body) true (union (just_mark s.semicolon) (union (just_mark s.dot) words)) (but_mark s.close_brace)
  unfolding rule.oneof_elements rule.oneof_element
  oneof_elements-laws = wide _ _ (named_fits-laws s.oneof_elements (rule.OneofElementsHas P) (rule.OneofElementsHas F) rule.to_oneof_elements rule.from_oneof_elements (tie.oneof_elements-back m read S T P) (tie.oneof_elements-there m read S T P)
      (tie.oneof_elements-is m read S T P) (tie.oneof_elements-obeys m read S T P) (tie.oneof_elements-allows m read S T P) (tie.oneof_elements-obeys m read S T F) (tie.oneof_elements-allows m read S T F)
      (times-laws (but_mark s.close_brace) oneof_element-laws refl refl)) refl refl

  pub oneof-laws : Lawful (rule.oneof body) false (just_word (codes "oneof")) none
  unfolding rule.oneof rule.oneof_elements
  oneof-laws = wide _ _ (named_fits-laws s.oneof (rule.OneofHas P) (rule.OneofHas F) rule.to_oneof rule.from_oneof (tie.oneof-back m read S T P) (tie.oneof-there m read S T P)
      (tie.oneof-is m read S T P) (tie.oneof-obeys m read S T P) (tie.oneof-allows m read S T P) (tie.oneof-obeys m read S T F) (tie.oneof-allows m read S T F)
      (seq-laws (word-laws m (codes "oneof")) (seq-laws (parts.ident-laws m) (seq-laws (mark-laws m s.open_brace) (seq-laws oneof_elements-laws (mark-laws m s.close_brace) refl) refl) refl) refl)) refl refl

  pub extend_element-laws : Lawful (rule.extend_element body) false (union (just_mark s.semicolon) (union (just_mark s.dot) words)) none
  unfolding rule.extend_element rule.field
  extend_element-laws = wide _ _ (named_fits-laws s.extend_element (rule.ExtendElementHas P) (rule.ExtendElementHas F) rule.to_extend_element rule.from_extend_element (tie.extend_element-back m read S T P) (tie.extend_element-there m read S T P)
      (tie.extend_element-is m read S T P) (tie.extend_element-obeys m read S T P) (tie.extend_element-allows m read S T P) (tie.extend_element-obeys m read S T F) (tie.extend_element-allows m read S T F)
      (choice-laws (just_mark s.semicolon) (mark-laws m s.semicolon) refl field-laws refl)) refl refl

  pub extend_elements-laws : Lawful (rule.extend_elements body) true (union (just_mark s.semicolon) (union (just_mark s.dot) words)) (but_mark s.close_brace)
  unfolding rule.extend_elements rule.extend_element
  extend_elements-laws = wide _ _ (named_fits-laws s.extend_elements (rule.ExtendElementsHas P) (rule.ExtendElementsHas F) rule.to_extend_elements rule.from_extend_elements (tie.extend_elements-back m read S T P) (tie.extend_elements-there m read S T P)
      (tie.extend_elements-is m read S T P) (tie.extend_elements-obeys m read S T P) (tie.extend_elements-allows m read S T P) (tie.extend_elements-obeys m read S T F) (tie.extend_elements-allows m read S T F)
      (times-laws (but_mark s.close_brace) extend_element-laws refl refl)) refl refl

  pub extend-laws : Lawful (rule.extend body) false (just_word (codes "extend")) none
  unfolding rule.extend rule.extend_elements r.typename
  extend-laws = wide _ _ (named_fits-laws s.extend (rule.ExtendHas P) (rule.ExtendHas F) rule.to_extend rule.from_extend (tie.extend-back m read S T P) (tie.extend-there m read S T P)
      (tie.extend-is m read S T P) (tie.extend-obeys m read S T P) (tie.extend-allows m read S T P) (tie.extend-obeys m read S T F) (tie.extend-allows m read S T F)
      (seq-laws (word-laws m (codes "extend")) (seq-laws (parts.typename-laws m) (seq-laws (mark-laws m s.open_brace) (seq-laws extend_elements-laws (mark-laws m s.close_brace) refl) refl) refl) refl)) refl refl

  pub message-laws : Lawful (rule.message body) false (just_word (codes "message")) none
  unfolding rule.message
  message-laws = wide _ _ (named_fits-laws s.message (rule.MessageHas P) (rule.MessageHas F) rule.to_message rule.from_message (tie.message-back m read S T P) (tie.message-there m read S T P)
      (tie.message-is m read S T P) (tie.message-obeys m read S T P) (tie.message-allows m read S T P) (tie.message-obeys m read S T F) (tie.message-allows m read S T F)
      (seq-laws (opener-laws (codes "message")) (seq-laws (parts.ident-laws m) lb refl) refl)) refl refl

  pub element-laws : Lawful (rule.element body) false (union (just_mark s.semicolon) (union (just_mark s.dot) words)) none
  unfolding rule.element rule.field rule.oneof r.enum rule.message rule.extend r.option r.reserved r.extensions
  element-laws = wide _ _ (named_fits-laws s.element (rule.ElementHas P) (rule.ElementHas F) rule.to_element rule.from_element (tie.element-back m read S T P) (tie.element-there m read S T P)
      (tie.element-is m read S T P) (tie.element-obeys m read S T P) (tie.element-allows m read S T P) (tie.element-obeys m read S T F) (tie.element-allows m read S T F)
      (choice-laws (just_mark s.semicolon) (mark-laws m s.semicolon) refl (unless-laws (among_words (codes "oneof" ∷ codes "enum" ∷ codes "message" ∷ codes "extend" ∷ codes "option" ∷ codes "reserved" ∷ codes "extensions" ∷ [])) (choice-laws (just_word (codes "oneof")) oneof-laws refl (choice-laws (just_word (codes "enum")) (enums.enum-laws m) refl (choice-laws (just_word (codes "message")) message-laws refl (choice-laws (just_word (codes "extend")) extend-laws refl (choice-laws (just_word (codes "option")) (options.option-laws m) refl (choice-laws (just_word (codes "reserved")) (ranges.reserved-laws m) refl (ranges.extensions-laws m) refl) refl) refl) refl) refl) refl) refl field-laws some_field (tt, (tt, tt)) refl) refl)) refl refl

  pub elements-laws : Lawful (rule.elements body) true (union (just_mark s.semicolon) (union (just_mark s.dot) words)) (but_mark s.close_brace)
  unfolding rule.elements rule.element
  elements-laws = wide _ _ (named_fits-laws s.elements (rule.ElementsHas P) (rule.ElementsHas F) rule.to_elements rule.from_elements (tie.elements-back m read S T P) (tie.elements-there m read S T P)
      (tie.elements-is m read S T P) (tie.elements-obeys m read S T P) (tie.elements-allows m read S T P) (tie.elements-obeys m read S T F) (tie.elements-allows m read S T F)
      (times-laws (but_mark s.close_brace) element-laws refl refl)) refl refl

  pub mbody-laws : Lawful (rule.mbody body) false (just_mark s.open_brace) none
  unfolding rule.mbody rule.elements
  mbody-laws = wide _ _ (named_fits-laws s.mbody (rule.MbodyHas P) (rule.MbodyHas F) rule.to_mbody rule.from_mbody (tie.mbody-back m read S T P) (tie.mbody-there m read S T P)
      (tie.mbody-is m read S T P) (tie.mbody-obeys m read S T P) (tie.mbody-allows m read S T P) (tie.mbody-obeys m read S T F) (tie.mbody-allows m read S T F)
      (seq-laws (mark-laws m s.open_brace) (seq-laws elements-laws (mark-laws m s.close_brace) refl) refl)) refl refl

  pub statement-laws : Lawful (rule.statement body) false (among (mark s.semicolon ∷ word (codes "import") ∷ word (codes "package") ∷ word (codes "option") ∷ word (codes "extend") ∷ word (codes "message") ∷ word (codes "enum") ∷ word (codes "service") ∷ [])) none
  unfolding rule.statement r.«import» r.«package» r.option rule.extend rule.message r.enum r.service
  statement-laws = wide _ _ (named_fits-laws s.statement (rule.StatementHas P) (rule.StatementHas F) rule.to_statement rule.from_statement (tie.statement-back m read S T P) (tie.statement-there m read S T P)
      (tie.statement-is m read S T P) (tie.statement-obeys m read S T P) (tie.statement-allows m read S T P) (tie.statement-obeys m read S T F) (tie.statement-allows m read S T F)
      (choice-laws (just_mark s.semicolon) (mark-laws m s.semicolon) refl (choice-laws (just_word (codes "import")) (parts.import-laws m) refl (choice-laws (just_word (codes "package")) (parts.noted_package-laws m) refl (choice-laws (just_word (codes "option")) (options.option-laws m) refl (choice-laws (just_word (codes "extend")) extend-laws refl (choice-laws (just_word (codes "message")) message-laws refl (choice-laws (just_word (codes "enum")) (enums.enum-laws m) refl (services.service-laws m) refl) refl) refl) refl) refl) refl) refl)) refl refl

  pub file-laws : Lawful (rule.file body) true (among (word (codes "syntax") ∷ mark s.semicolon ∷ word (codes "import") ∷ word (codes "package") ∷ word (codes "option") ∷ word (codes "extend") ∷ word (codes "message") ∷ word (codes "enum") ∷ word (codes "service") ∷ [])) all
  unfolding rule.file rule.statement r.syntax
  file-laws = wide _ _ (named_fits-laws s.spell (rule.FileHas P) (rule.FileHas F) _ _ (λ x. refl) (λ x. refl)
      (λ x. refl) (λ x h. (parts.given-all _ (λ y. tt) x.syntax, h)) (λ x h. h.1) (λ x h. (parts.given-all _ (λ y. tt) x.syntax, h)) (λ x h. h.1)
      (seq-laws (optional-laws (just_word (codes "syntax")) (parts.syntax-laws m) refl) (times-laws all statement-laws refl refl) refl)) refl refl

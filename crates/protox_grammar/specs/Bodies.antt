-- The rules of the grammar that hold messages or stand in them, given the rule of a
-- body; and the rule of files. `to_x` and `from_x` turn pairs and choices into trees and back.
use Rattle.std.specs.Prelude.{◌≤◌, ℕ, zero, suc, if◌then◌else◌, List, [], ◌∷◌, Option, Some, None, ◌⊎◌, codes}
use Rattle.std.proofs.Common.{inl, inr}
use Rattle.protox_lexeme.specs.Shapes.{Mark, Rows}
use Rattle.protox_grammar.specs.Class.{all, just_word, just_mark, but_mark, among_words}
use Rattle.protox_ast.specs.Tree as t
use Rattle.protox_ast.specs.Spelling as s
use Rattle.protox_ast.specs.KeywordWalk as k
use Rattle.protox_ast.specs.DepthWalk as d
use Rattle.protox_grammar.specs.Reader as reader
use Rattle.protox_grammar.specs.Reader.{Reader}
use Rattle.protox_grammar.specs.Steps.{Event, ADeepBody, ADeeperBody, AKeyword, ANode, APackage, Token, Note, Steps, plainly}
use Rattle.protox_ast.specs.CheckedNodes.{AGroupName}
use Rattle.protox_grammar.specs.Rule.{Rule, seq, named_fits, unless, choice, optional, times, noting}
use Rattle.protox_grammar.specs.Rules.{the, sign, ident, int, list, label, map, normal, option, typename, enum, reserved, extensions, syntax, «import», «package», service}

-- ---- which trees may stand in a message, given which bodies may

module _ {M : Type 0} (P : t.Mbody M → Type 0) where
  -- The group keeps the keyword rules, and P holds for its body.
  abbrev pub GroupHas : t.Group M → Type 0
  GroupHas (t.group_of m n e i l b) = k.Given k.KeepsList l × P b

  -- The kind of a field keeps the keyword rules, and P holds for the body of a group.
  abbrev pub KindHas : t.FieldKind M → Type 0
  KindHas (t.normal x) = k.KeepsNormal x
  KindHas (t.map x) = k.KeepsMap x
  KindHas (t.group x) = GroupHas x

  -- The field keeps the keyword rules, and P holds for the body of a group. Its type doesn't begin
  -- with a label.
  abbrev pub FieldHas : t.Field M → Type 0
  FieldHas (t.field_of l x) = k.BeginsWithNoLabel (t.field_of l x) × KindHas x

  -- The element of a oneof keeps the keyword rules, and P holds for the bodies in it.
  abbrev pub OneofElementHas : t.OneofElement M → Type 0
  OneofElementHas (t.oneof_empty m) = Unit {0}
  OneofElementHas (t.oneof_option x) = k.KeepsOption x
  OneofElementHas (t.oneof_field x) = k.BeginsWithNoOption x × FieldHas x

  -- Each element of a oneof does.
  abbrev pub OneofElementsHas : t.OneofElements M → Type 0
  OneofElementsHas t.no_oneof_elements = Unit {0}
  OneofElementsHas (t.oneof_elements e es) = OneofElementHas e × OneofElementsHas es

  -- Each element of the oneof keeps the keyword rules, and P holds for the bodies in them.
  abbrev pub OneofHas : t.Oneof M → Type 0
  OneofHas (t.oneof_of m n o es c) = OneofElementsHas es

  -- The element of an extend keeps the keyword rules, and P holds for the bodies in it.
  abbrev pub ExtendElementHas : t.ExtendElement M → Type 0
  ExtendElementHas (t.extend_empty m) = Unit {0}
  ExtendElementHas (t.extend_field x) = FieldHas x

  -- Each element of an extend does.
  abbrev pub ExtendElementsHas : t.ExtendElements M → Type 0
  ExtendElementsHas t.no_extend_elements = Unit {0}
  ExtendElementsHas (t.extend_elements e es) = ExtendElementHas e × ExtendElementsHas es

  -- Each element of the extend keeps the keyword rules, and P holds for the bodies in them.
  abbrev pub ExtendHas : t.Extend M → Type 0
  ExtendHas (t.extend_of m n o es c) = ExtendElementsHas es

  -- P holds for the body of the message.
  abbrev pub MessageHas : t.Message M → Type 0
  MessageHas (t.message_of m n b) = P b

  -- The element of a message keeps the keyword rules, and P holds for the bodies in it.
  abbrev pub ElementHas : t.Element M → Type 0
  ElementHas (t.empty m) = Unit {0}
  ElementHas (t.field x) = k.BeginsWithNoElement x × FieldHas x
  ElementHas (t.oneof x) = OneofHas x
  ElementHas (t.enum x) = k.KeepsEnum x
  ElementHas (t.message x) = MessageHas x
  ElementHas (t.extend x) = ExtendHas x
  ElementHas (t.option x) = k.KeepsOption x
  ElementHas (t.reserved x) = Unit {0}
  ElementHas (t.extensions x) = k.KeepsExtensions x

  -- Each element of a message does.
  abbrev pub ElementsHas : t.Elements M → Type 0
  ElementsHas t.no_elements = Unit {0}
  ElementsHas (t.elements e es) = ElementHas e × ElementsHas es

  -- The elements of the body keep the keyword rules, and P holds for the bodies in them.
  abbrev pub MbodyHas : t.Mbody M → Type 0
  MbodyHas (t.mbody_of o es c) = ElementsHas es

  -- The statement of a file keeps the keyword rules, and P holds for the bodies in it.
  abbrev pub StatementHas : t.Statement M → Type 0
  StatementHas (t.an_empty m) = Unit {0}
  StatementHas (t.an_import x) = Unit {0}
  StatementHas (t.a_package x) = Unit {0}
  StatementHas (t.an_option x) = k.KeepsOption x
  StatementHas (t.an_extend x) = ExtendHas x
  StatementHas (t.a_message x) = MessageHas x
  StatementHas (t.an_enum x) = k.KeepsEnum x
  StatementHas (t.a_service x) = k.KeepsService x

  -- Each statement of the file keeps the keyword rules, and P holds for the bodies in it.
  abbrev pub FileHas : t.File M → Type 0
  FileHas x = k.Each StatementHas x.statements

-- The rule of a body that is read and noted in a given way. Anything may follow it.
abbrev pub sealed : {M : Type 0} → (t.Mbody M → Type 0) → (t.Mbody M → Type 0) → Reader M (t.Mbody M) → (t.Mbody M → Steps M) → (Rows M → Steps M) → Rule M (t.Mbody M)
sealed P F read steps trace = record { spell = s.mbody; may = P; fits = F; ends = λ x z. P x; read = read; steps = steps; trace = trace }

-- ---- the rules of messages, given the rule of a body

abbrev pub to_group : {M : Type 0} → M × (t.Word M × (M × (t.Int M × (Option (t.OptionList M) × t.Mbody M)))) → t.Group M
to_group = λ (keyword, (name, (equals_sign, (number, (options, body))))). t.group_of keyword name equals_sign number options body

abbrev pub from_group : {M : Type 0} → t.Group M → M × (t.Word M × (M × (t.Int M × (Option (t.OptionList M) × t.Mbody M))))
from_group (t.group_of m n e i l b) = (m, (n, (e, (i, (l, b)))))

unfoldable pub group : {M : Type 0} → Rule M (t.Mbody M) → Rule M (t.Group M)
group b = named_fits s.group (GroupHas b.may) (GroupHas b.fits) to_group from_group
    (seq (noting AKeyword (the (codes "group"))) (seq (noting (λ x. ANode (AGroupName x)) ident) (seq (sign s.equals) (seq int (seq (optional (just_mark s.open_bracket) list) b)))))

abbrev pub to_field_kind : {M : Type 0} → (t.Map M ⊎ t.Group M) ⊎ t.Normal M → t.FieldKind M
to_field_kind (inl (inl x)) = t.map x
to_field_kind (inl (inr x)) = t.group x
to_field_kind (inr x) = t.normal x

abbrev pub from_field_kind : {M : Type 0} → t.FieldKind M → (t.Map M ⊎ t.Group M) ⊎ t.Normal M
from_field_kind (t.map x) = inl (inl x)
from_field_kind (t.group x) = inl (inr x)
from_field_kind (t.normal x) = inr x

unfoldable pub field_kind : {M : Type 0} → Rule M (t.Mbody M) → Rule M (t.FieldKind M)
field_kind b = named_fits s.field_kind (KindHas b.may) (KindHas b.fits) to_field_kind from_field_kind
    (unless (among_words (codes "map" ∷ codes "group" ∷ [])) (choice (just_word (codes "map")) map (group b)) normal)

abbrev pub to_field : {M : Type 0} → (t.Label M × t.FieldKind M) ⊎ t.FieldKind M → t.Field M
to_field (inl x) = t.field_of (Some x.0) x.1
to_field (inr x) = t.field_of None x

abbrev pub from_field : {M : Type 0} → t.Field M → (t.Label M × t.FieldKind M) ⊎ t.FieldKind M
from_field (t.field_of (Some l) x) = inl (l, x)
from_field (t.field_of None x) = inr x

unfoldable pub field : {M : Type 0} → Rule M (t.Mbody M) → Rule M (t.Field M)
field b = named_fits s.field (FieldHas b.may) (FieldHas b.fits) to_field from_field
    (unless (among_words k.labels) (seq label (field_kind b)) (field_kind b))

abbrev pub to_oneof_element : {M : Type 0} → M ⊎ (t.OptionStatement M ⊎ t.Field M) → t.OneofElement M
to_oneof_element (inl x) = t.oneof_empty x
to_oneof_element (inr (inl x)) = t.oneof_option x
to_oneof_element (inr (inr x)) = t.oneof_field x

abbrev pub from_oneof_element : {M : Type 0} → t.OneofElement M → M ⊎ (t.OptionStatement M ⊎ t.Field M)
from_oneof_element (t.oneof_empty x) = inl x
from_oneof_element (t.oneof_option x) = inr (inl x)
from_oneof_element (t.oneof_field x) = inr (inr x)

unfoldable pub oneof_element : {M : Type 0} → Rule M (t.Mbody M) → Rule M (t.OneofElement M)
oneof_element b = named_fits s.oneof_element (OneofElementHas b.may) (OneofElementHas b.fits) to_oneof_element from_oneof_element
    (choice (just_mark s.semicolon) (sign s.semicolon) (unless (among_words (codes "option" ∷ [])) option (field b)))

abbrev pub to_oneof_elements : {M : Type 0} → List (t.OneofElement M) → t.OneofElements M
to_oneof_elements [] = t.no_oneof_elements
to_oneof_elements (x ∷ xs) = t.oneof_elements x (to_oneof_elements xs)

abbrev pub from_oneof_elements : {M : Type 0} → t.OneofElements M → List (t.OneofElement M)
from_oneof_elements t.no_oneof_elements = []
from_oneof_elements (t.oneof_elements x xs) = x ∷ from_oneof_elements xs

unfoldable pub oneof_elements : {M : Type 0} → Rule M (t.Mbody M) → Rule M (t.OneofElements M)
oneof_elements b = named_fits s.oneof_elements (OneofElementsHas b.may) (OneofElementsHas b.fits) to_oneof_elements from_oneof_elements (times (but_mark s.close_brace) (oneof_element b))

abbrev pub to_oneof : {M : Type 0} → M × (t.Word M × (M × (t.OneofElements M × M))) → t.Oneof M
to_oneof = λ (keyword, (name, (open_at, (inside, close_at)))). t.oneof_of keyword name open_at inside close_at

abbrev pub from_oneof : {M : Type 0} → t.Oneof M → M × (t.Word M × (M × (t.OneofElements M × M)))
from_oneof (t.oneof_of m n o es c) = (m, (n, (o, (es, c))))

unfoldable pub oneof : {M : Type 0} → Rule M (t.Mbody M) → Rule M (t.Oneof M)
oneof b = named_fits s.oneof (OneofHas b.may) (OneofHas b.fits) to_oneof from_oneof
    (seq (the (codes "oneof")) (seq ident (seq (sign s.open_brace) (seq (oneof_elements b) (sign s.close_brace)))))

abbrev pub to_extend_element : {M : Type 0} → M ⊎ t.Field M → t.ExtendElement M
to_extend_element (inl x) = t.extend_empty x
to_extend_element (inr x) = t.extend_field x

abbrev pub from_extend_element : {M : Type 0} → t.ExtendElement M → M ⊎ t.Field M
from_extend_element (t.extend_empty x) = inl x
from_extend_element (t.extend_field x) = inr x

unfoldable pub extend_element : {M : Type 0} → Rule M (t.Mbody M) → Rule M (t.ExtendElement M)
extend_element b = named_fits s.extend_element (ExtendElementHas b.may) (ExtendElementHas b.fits) to_extend_element from_extend_element
    (choice (just_mark s.semicolon) (sign s.semicolon) (field b))

abbrev pub to_extend_elements : {M : Type 0} → List (t.ExtendElement M) → t.ExtendElements M
to_extend_elements [] = t.no_extend_elements
to_extend_elements (x ∷ xs) = t.extend_elements x (to_extend_elements xs)

abbrev pub from_extend_elements : {M : Type 0} → t.ExtendElements M → List (t.ExtendElement M)
from_extend_elements t.no_extend_elements = []
from_extend_elements (t.extend_elements x xs) = x ∷ from_extend_elements xs

unfoldable pub extend_elements : {M : Type 0} → Rule M (t.Mbody M) → Rule M (t.ExtendElements M)
extend_elements b = named_fits s.extend_elements (ExtendElementsHas b.may) (ExtendElementsHas b.fits) to_extend_elements from_extend_elements (times (but_mark s.close_brace) (extend_element b))

abbrev pub to_extend : {M : Type 0} → M × (t.TypeName M × (M × (t.ExtendElements M × M))) → t.Extend M
to_extend = λ (keyword, (extendee, (open_at, (inside, close_at)))). t.extend_of keyword extendee open_at inside close_at

abbrev pub from_extend : {M : Type 0} → t.Extend M → M × (t.TypeName M × (M × (t.ExtendElements M × M)))
from_extend (t.extend_of m n o es c) = (m, (n, (o, (es, c))))

unfoldable pub extend : {M : Type 0} → Rule M (t.Mbody M) → Rule M (t.Extend M)
extend b = named_fits s.extend (ExtendHas b.may) (ExtendHas b.fits) to_extend from_extend
    (seq (the (codes "extend")) (seq typename (seq (sign s.open_brace) (seq (extend_elements b) (sign s.close_brace)))))

abbrev pub to_message : {M : Type 0} → M × (t.Word M × t.Mbody M) → t.Message M
to_message = λ (keyword, (name, body)). t.message_of keyword name body

abbrev pub from_message : {M : Type 0} → t.Message M → M × (t.Word M × t.Mbody M)
from_message (t.message_of m n b) = (m, (n, b))

unfoldable pub message : {M : Type 0} → Rule M (t.Mbody M) → Rule M (t.Message M)
message b = named_fits s.message (MessageHas b.may) (MessageHas b.fits) to_message from_message
    (seq (noting AKeyword (the (codes "message"))) (seq ident b))

-- The elements of a message that begin with a keyword of their own.
abbrev pub Special : Type 0 → Type 0
Special M = t.Oneof M ⊎ (t.Enum M ⊎ (t.Message M ⊎ (t.Extend M ⊎ (t.OptionStatement M ⊎ (t.Reserved M ⊎ t.Extensions M)))))

abbrev pub to_element : {M : Type 0} → M ⊎ (Special M ⊎ t.Field M) → t.Element M
to_element (inl x) = t.empty x
to_element (inr (inl (inl x))) = t.oneof x
to_element (inr (inl (inr (inl x)))) = t.enum x
to_element (inr (inl (inr (inr (inl x))))) = t.message x
to_element (inr (inl (inr (inr (inr (inl x)))))) = t.extend x
to_element (inr (inl (inr (inr (inr (inr (inl x))))))) = t.option x
to_element (inr (inl (inr (inr (inr (inr (inr (inl x)))))))) = t.reserved x
to_element (inr (inl (inr (inr (inr (inr (inr (inr x)))))))) = t.extensions x
to_element (inr (inr x)) = t.field x

abbrev pub from_element : {M : Type 0} → t.Element M → M ⊎ (Special M ⊎ t.Field M)
from_element (t.empty x) = inl x
from_element (t.field x) = inr (inr x)
from_element (t.oneof x) = inr (inl (inl x))
from_element (t.enum x) = inr (inl (inr (inl x)))
from_element (t.message x) = inr (inl (inr (inr (inl x))))
from_element (t.extend x) = inr (inl (inr (inr (inr (inl x)))))
from_element (t.option x) = inr (inl (inr (inr (inr (inr (inl x))))))
from_element (t.reserved x) = inr (inl (inr (inr (inr (inr (inr (inl x)))))))
from_element (t.extensions x) = inr (inl (inr (inr (inr (inr (inr (inr x)))))))

-- The rule of such an element.
abbrev pub special : {M : Type 0} → Rule M (t.Mbody M) → Rule M (Special M)
special b = choice (just_word (codes "oneof")) (oneof b) (choice (just_word (codes "enum")) enum (choice (just_word (codes "message")) (message b) (choice (just_word (codes "extend")) (extend b) (choice (just_word (codes "option")) option (choice (just_word (codes "reserved")) reserved extensions)))))

unfoldable pub element : {M : Type 0} → Rule M (t.Mbody M) → Rule M (t.Element M)
element b = named_fits s.element (ElementHas b.may) (ElementHas b.fits) to_element from_element
    (choice (just_mark s.semicolon) (sign s.semicolon) (unless (among_words k.in_message) (special b) (field b)))

abbrev pub to_elements : {M : Type 0} → List (t.Element M) → t.Elements M
to_elements [] = t.no_elements
to_elements (x ∷ xs) = t.elements x (to_elements xs)

abbrev pub from_elements : {M : Type 0} → t.Elements M → List (t.Element M)
from_elements t.no_elements = []
from_elements (t.elements x xs) = x ∷ from_elements xs

unfoldable pub elements : {M : Type 0} → Rule M (t.Mbody M) → Rule M (t.Elements M)
elements b = named_fits s.elements (ElementsHas b.may) (ElementsHas b.fits) to_elements from_elements (times (but_mark s.close_brace) (element b))

abbrev pub to_mbody : {M : Type 0} → M × (t.Elements M × M) → t.Mbody M
to_mbody = λ (open_at, (inside, close_at)). t.mbody_of open_at inside close_at

abbrev pub from_mbody : {M : Type 0} → t.Mbody M → M × (t.Elements M × M)
from_mbody (t.mbody_of o es c) = (o, (es, c))

-- A body whose inner bodies follow the rule b.
unfoldable pub mbody : {M : Type 0} → Rule M (t.Mbody M) → Rule M (t.Mbody M)
mbody b = named_fits s.mbody (MbodyHas b.may) (MbodyHas b.fits) to_mbody from_mbody
    (seq (sign s.open_brace) (seq (elements b) (sign s.close_brace)))

-- ---- levels

-- The body keeps the keyword rules and has at most n levels.
abbrev pub FitsMbody : {M : Type 0} → ℕ → t.Mbody M → Type 0
FitsMbody n b = k.KeepsMbody b × (suc (d.mbody_depth b) ≤ n)

-- The `{` of a body.
abbrev pub opening : {M : Type 0} → t.Mbody M → M
opening (t.mbody_of o es c) = o

-- A note after the first row.
abbrev pub behind_first : {M : Type 0} → Event M → Steps M → Steps M
behind_first e [] = Note e ∷ []
behind_first e (x ∷ l) = x ∷ (Note e ∷ l)

-- Of a body that is too deep only the `{` is read.
unfoldable pub deep_read : {M : Type 0} → Reader M (t.Mbody M)
deep_read xs = reader.too_deep (Mark s.open_brace) xs

-- The steps of reading a body that is too deep: its `{`, and the note.
unfoldable pub deep_trace : {M : Type 0} → (M → Event M) → Rows M → Steps M
deep_trace note [] = []
deep_trace note (r ∷ rs) = if reader.is_token (Mark s.open_brace) r.shape then Token r ∷ (Note (note r.at) ∷ []) else []

-- The steps of a body that is too deep. They go on into it, down to n levels, so that each checked
-- node of a file is noted.
unfoldable pub deep_steps : {M : Type 0} → (M → Event M) → ℕ → t.Mbody M → Steps M
deep_steps note zero b = behind_first (note (opening b)) (plainly (s.mbody b))
deep_steps note (suc n) b = behind_first (note (opening b)) ((mbody (sealed k.KeepsMbody (λ x. ⊥) deep_read (deep_steps ADeeperBody n) (deep_trace ADeeperBody))).steps b)

-- A body of which at most n levels can be read.
unfoldable pub unsealed : {M : Type 0} → ℕ → Rule M (t.Mbody M)
unsealed zero = sealed k.KeepsMbody (FitsMbody 0) deep_read (λ b. deep_steps ADeepBody (suc (d.mbody_depth b)) b) (deep_trace ADeepBody)
unsealed (suc n) = mbody (sealed k.KeepsMbody (FitsMbody n) (unsealed n).read (unsealed n).steps (unsealed n).trace)

-- A body of which at most n levels can be read. Anything may follow it.
abbrev pub mbody_at : {M : Type 0} → ℕ → Rule M (t.Mbody M)
mbody_at n = sealed k.KeepsMbody (FitsMbody n) (unsealed n).read (unsealed n).steps (unsealed n).trace

-- ---- files

-- A statement of a file, by its kind.
abbrev pub Form : Type 0 → Type 0
Form M = M ⊎ (t.Import M ⊎ (t.Package M ⊎ (t.OptionStatement M ⊎ (t.Extend M ⊎ (t.Message M ⊎ (t.Enum M ⊎ t.Service M))))))

abbrev pub to_statement : {M : Type 0} → Form M → t.Statement M
to_statement (inl x) = t.an_empty x
to_statement (inr (inl x)) = t.an_import x
to_statement (inr (inr (inl x))) = t.a_package x
to_statement (inr (inr (inr (inl x)))) = t.an_option x
to_statement (inr (inr (inr (inr (inl x))))) = t.an_extend x
to_statement (inr (inr (inr (inr (inr (inl x)))))) = t.a_message x
to_statement (inr (inr (inr (inr (inr (inr (inl x))))))) = t.an_enum x
to_statement (inr (inr (inr (inr (inr (inr (inr x))))))) = t.a_service x

abbrev pub from_statement : {M : Type 0} → t.Statement M → Form M
from_statement (t.an_empty x) = inl x
from_statement (t.an_import x) = inr (inl x)
from_statement (t.a_package x) = inr (inr (inl x))
from_statement (t.an_option x) = inr (inr (inr (inl x)))
from_statement (t.an_extend x) = inr (inr (inr (inr (inl x))))
from_statement (t.a_message x) = inr (inr (inr (inr (inr (inl x)))))
from_statement (t.an_enum x) = inr (inr (inr (inr (inr (inr (inl x))))))
from_statement (t.a_service x) = inr (inr (inr (inr (inr (inr (inr x))))))

unfoldable pub statement : {M : Type 0} → Rule M (t.Mbody M) → Rule M (t.Statement M)
statement b = named_fits s.statement (StatementHas b.may) (StatementHas b.fits) to_statement from_statement
    (choice (just_mark s.semicolon) (sign s.semicolon) (choice (just_word (codes "import")) «import» (choice (just_word (codes "package")) (noting APackage «package») (choice (just_word (codes "option")) option (choice (just_word (codes "extend")) (extend b) (choice (just_word (codes "message")) (message b) (choice (just_word (codes "enum")) enum service)))))))

unfoldable pub file : {M : Type 0} → Rule M (t.Mbody M) → Rule M (t.File M)
file b = named_fits s.spell (FileHas b.may) (FileHas b.fits) (λ (syntax, statements). record { syntax = syntax; statements = statements }) (λ x. (x.syntax, x.statements))
    (seq (optional (just_word (codes "syntax")) syntax) (times all (statement b)))

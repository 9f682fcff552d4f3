-- The faults of a syntax tree are no faults of lexemes and no unexpected tokens. So a list of them
-- stands in each source.
use Rattle.std.proofs.Common.{◌≡◌, inl, inr, Bool, true, false, List, [], ◌∷◌, ◌++◌, Option, Some, None, refl, ap, subst}
use Rattle.protox_fault.specs.Faults.{Span}
use Rattle.protox_fault.specs.declared.error.ParseErrorKind.{ParseErrorKind}
use Rattle.protox_fault.specs.declared.error.ParseErrorKind.TheVariants as fault
use Rattle.protox_lexeme.specs.Lexemes.{Lexeme}
use Rattle.protox_ast.specs.Basics.{Each}
use Rattle.protox_ast.specs.FaultList.{StandIn, Stands, is_lexical}
use Rattle.protox_ast.specs.Spans.{body_span}
use Rattle.protox_ast.specs.Values.{Wanted, wanted, a_float, an_integer, a_bool, a_text, some_bytes, anything}
use Rattle.protox_ast.specs.declared.ast.FieldLabel.{FieldLabel}
use Rattle.protox_ast.specs.declared.ast.FieldLabel.TheVariants as label
use Rattle.protox_ast.specs.declared.ast.File.{File}
use Rattle.protox_ast.specs.declared.ast.OptionBody.{OptionBody}
use Rattle.protox_ast.specs.declared.ast.OptionValue.{OptionValue}
use Rattle.protox_ast.specs.declared.ast.OptionValue.TheVariants as value
use Rattle.protox_ast.specs.declared.ast.Syntax.{Syntax}
use Rattle.protox_ast.specs.declared.ast.Syntax.TheVariants.{Proto2, Proto3}
use Rattle.protox_checks.specs.Faults.{Wrong, WrongNode}
use Rattle.protox_checks.specs.FieldFaults.{FieldNode, KindNode, Map, Normal, Group, WrongDefault, on_map, on_repeated, on_group, in_proto3, WrongDefaultValue, WrongField, of_label, of_kind, of_default, of_default_value, WrongKind, WrongLabel, WrongMap}
use Rattle.protox_checks.specs.declared.scope.Scope.{Scope}
use Rattle.protox_checks.specs.declared.scope.Scope.TheVariants.{InMessage, InOneof, InExtend}
use Rattle.protox_checks.specs.Nodes.{Node, AMessageNumber, AnEnumNumber, AField, AJsonName, AnOption, AnEmptyOneof}
use Rattle.protox_checks.specs.ValueFaults.{WrongUninterpreted, WrongValue}

-- neither a fault of a lexeme nor an unexpected token
abbrev is_plain : ParseErrorKind → Bool
is_plain (fault.InvalidToken span) = false
is_plain (fault.IntegerOutOfRange span) = false
is_plain (fault.InvalidStringCharacters span) = false
is_plain (fault.UnterminatedString span) = false
is_plain (fault.InvalidStringEscape span) = false
is_plain (fault.NestedBlockComment span) = false
is_plain (fault.NoSpaceBetweenIntAndIdent span) = false
is_plain (fault.HashCommentOutsideTextFormat span) = false
is_plain (fault.FloatSuffixOutsideTextFormat span) = false
is_plain (fault.UnexpectedToken span expected found) = false
is_plain _ = true

abbrev pub IsPlain : ParseErrorKind → Type 0
IsPlain wrong = is_plain wrong ≡ true

-- ---- by nodes

label-plain : (syntax : Syntax) (scope : Scope) (kind : KindNode) (l : Option (FieldLabel × Span)) (span : Span) (wrong : ParseErrorKind) → WrongLabel syntax scope kind l span wrong → IsPlain wrong
label-plain syntax scope (Map key key_span) l span wrong h = absurd h
label-plain syntax InExtend (Normal t) (Some (label.Required, at)) span wrong h = ap is_plain h
label-plain syntax InExtend Group (Some (label.Required, at)) span wrong h = ap is_plain h
label-plain Proto2 InExtend (Normal t) (Some (label.Optional, at)) span wrong h = absurd h
label-plain Proto2 InExtend Group (Some (label.Optional, at)) span wrong h = absurd h
label-plain Proto2 InExtend (Normal t) (Some (label.Repeated, at)) span wrong h = absurd h
label-plain Proto2 InExtend Group (Some (label.Repeated, at)) span wrong h = absurd h
label-plain Proto3 InExtend (Normal t) (Some (label.Optional, at)) span wrong h = absurd h
label-plain Proto3 InExtend Group (Some (label.Optional, at)) span wrong h = absurd h
label-plain Proto3 InExtend (Normal t) (Some (label.Repeated, at)) span wrong h = absurd h
label-plain Proto3 InExtend Group (Some (label.Repeated, at)) span wrong h = absurd h
label-plain Proto2 InExtend (Normal t) None span wrong h = ap is_plain h
label-plain Proto2 InExtend Group None span wrong h = ap is_plain h
label-plain Proto3 InExtend (Normal t) None span wrong h = absurd h
label-plain Proto3 InExtend Group None span wrong h = absurd h
label-plain syntax InOneof (Normal t) (Some (l, at)) span wrong h = ap is_plain h
label-plain syntax InOneof Group (Some (l, at)) span wrong h = ap is_plain h
label-plain syntax InOneof (Normal t) None span wrong h = absurd h
label-plain syntax InOneof Group None span wrong h = absurd h
label-plain Proto2 InMessage (Normal t) None span wrong h = ap is_plain h
label-plain Proto2 InMessage Group None span wrong h = ap is_plain h
label-plain Proto2 InMessage (Normal t) (Some (l, at)) span wrong h = absurd h
label-plain Proto2 InMessage Group (Some (l, at)) span wrong h = absurd h
label-plain Proto3 InMessage (Normal t) None span wrong h = absurd h
label-plain Proto3 InMessage Group None span wrong h = absurd h
label-plain Proto3 InMessage (Normal t) (Some (label.Required, at)) span wrong h = ap is_plain h
label-plain Proto3 InMessage Group (Some (label.Required, at)) span wrong h = ap is_plain h
label-plain Proto3 InMessage (Normal t) (Some (label.Optional, at)) span wrong h = absurd h
label-plain Proto3 InMessage Group (Some (label.Optional, at)) span wrong h = absurd h
label-plain Proto3 InMessage (Normal t) (Some (label.Repeated, at)) span wrong h = absurd h
label-plain Proto3 InMessage Group (Some (label.Repeated, at)) span wrong h = absurd h

map-plain : (scope : Scope) (l : Option (FieldLabel × Span)) (span : Span) (wrong : ParseErrorKind) → WrongMap scope l span wrong → IsPlain wrong
map-plain InOneof l span wrong h = ap is_plain h.2
map-plain InExtend l span wrong h = ap is_plain h.2
map-plain InMessage (Some l) span wrong h = ap is_plain h
map-plain InMessage None span wrong h = absurd h

field-kind-plain : (syntax : Syntax) (scope : Scope) (f : FieldNode) (kind : KindNode) (wrong : ParseErrorKind) → WrongKind syntax scope f kind wrong → IsPlain wrong
field-kind-plain syntax scope f (Normal t) wrong h = absurd h
field-kind-plain Proto2 scope f Group wrong h = absurd h
field-kind-plain Proto3 scope f Group wrong h = ap is_plain h
field-kind-plain syntax scope f (Map key span) wrong (inl h) = map-plain scope f.label f.span wrong h
field-kind-plain syntax scope f (Map key span) wrong (inr h) = ap is_plain h.1

default-plain : (syntax : Syntax) (f : FieldNode) (span : Span) (wrong : ParseErrorKind) → WrongDefault syntax f span wrong → IsPlain wrong
default-plain syntax f span wrong (on_map a h) = ap is_plain h.2
default-plain syntax f span wrong (on_repeated a b h) = ap is_plain h.2
default-plain syntax f span wrong (on_group a h) = ap is_plain h.2
default-plain syntax f span wrong (in_proto3 a b c h) = ap is_plain h

value-plain : (w : Wanted) (v : OptionValue) (wrong : ParseErrorKind) → WrongValue w v wrong → IsPlain wrong
value-plain a_float v wrong h = ap is_plain h.1
value-plain (an_integer interval) (value.Int int) wrong h = ap is_plain h.1
value-plain (an_integer interval) (value.Ident a b c) wrong h = ap is_plain h
value-plain (an_integer interval) (value.Float a) wrong h = ap is_plain h
value-plain (an_integer interval) (value.String a) wrong h = ap is_plain h
value-plain (an_integer interval) (value.Aggregate a b) wrong h = ap is_plain h
value-plain a_bool v wrong h = ap is_plain h.1
value-plain a_text (value.String a) wrong h = ap is_plain h.1
value-plain a_text (value.Int a) wrong h = ap is_plain h
value-plain a_text (value.Ident a b c) wrong h = ap is_plain h
value-plain a_text (value.Float a) wrong h = ap is_plain h
value-plain a_text (value.Aggregate a b) wrong h = ap is_plain h
value-plain some_bytes (value.String a) wrong h = absurd h
value-plain some_bytes (value.Int a) wrong h = ap is_plain h
value-plain some_bytes (value.Ident a b c) wrong h = ap is_plain h
value-plain some_bytes (value.Float a) wrong h = ap is_plain h
value-plain some_bytes (value.Aggregate a b) wrong h = ap is_plain h
value-plain anything v wrong h = absurd h

default-value-plain : (kind : KindNode) (body : OptionBody) (wrong : ParseErrorKind) → WrongDefaultValue kind body wrong → IsPlain wrong
default-value-plain (Normal t) body wrong h = value-plain (wanted t) body.value wrong h
default-value-plain Group body wrong h = absurd h
default-value-plain (Map key span) body wrong h = absurd h

field-plain : (syntax : Syntax) (scope : Scope) (f : FieldNode) (wrong : ParseErrorKind) → WrongField syntax scope f wrong → IsPlain wrong
field-plain syntax scope f wrong (of_label h) = label-plain syntax scope f.kind f.label f.span wrong h
field-plain syntax scope f wrong (of_kind h) = field-kind-plain syntax scope f f.kind wrong h
field-plain syntax scope f wrong (of_default body e h) = default-plain syntax f (body_span body) wrong h
field-plain syntax scope f wrong (of_default_value body e h) = default-value-plain f.kind body wrong h

uninterpreted-plain : (v : OptionValue) (wrong : ParseErrorKind) → WrongUninterpreted v wrong → IsPlain wrong
uninterpreted-plain (value.Ident a b c) wrong h = ap is_plain h.1
uninterpreted-plain (value.Int int) wrong h = ap is_plain h.1
uninterpreted-plain (value.Float a) wrong h = absurd h
uninterpreted-plain (value.String a) wrong h = absurd h
uninterpreted-plain (value.Aggregate a b) wrong h = absurd h

node-plain : (syntax : Syntax) (node : Node) (wrong : ParseErrorKind) → WrongNode syntax node wrong → IsPlain wrong
node-plain syntax (AMessageNumber int) wrong h = ap is_plain h.1
node-plain syntax (AnEnumNumber int) wrong h = ap is_plain h.1
node-plain syntax (AField scope field) wrong h = field-plain syntax scope field wrong h
node-plain syntax (AJsonName v) wrong h = value-plain a_text v wrong h
node-plain syntax (AnOption v) wrong h = uninterpreted-plain v wrong h
node-plain syntax (AnEmptyOneof span) wrong h = ap is_plain h

wrong-plain : (file : File) (wrong : ParseErrorKind) → Wrong file wrong → IsPlain wrong
wrong-plain file wrong h = node-plain file.syntax h.1 wrong h.4

pub all-plain : (file : File) (faults : List ParseErrorKind) → Each (Wrong file) faults → Each IsPlain faults
all-plain file [] h = tt
all-plain file (x ∷ xs) h = (wrong-plain file x h.0, all-plain file xs h.1)

-- ---- plain faults stand in each source

plain-stands : (lexemes : List Lexeme) (wrong : ParseErrorKind) → IsPlain wrong → Stands lexemes wrong
plain-stands lexemes (fault.InvalidToken span) h = absurd cc
plain-stands lexemes (fault.IntegerOutOfRange span) h = absurd cc
plain-stands lexemes (fault.InvalidStringCharacters span) h = absurd cc
plain-stands lexemes (fault.UnterminatedString span) h = absurd cc
plain-stands lexemes (fault.InvalidStringEscape span) h = absurd cc
plain-stands lexemes (fault.NestedBlockComment span) h = absurd cc
plain-stands lexemes (fault.NoSpaceBetweenIntAndIdent span) h = absurd cc
plain-stands lexemes (fault.HashCommentOutsideTextFormat span) h = absurd cc
plain-stands lexemes (fault.FloatSuffixOutsideTextFormat span) h = absurd cc
plain-stands lexemes (fault.UnexpectedToken span expected found) h = absurd cc
plain-stands lexemes _ h = λ e. absurd cc

plain-lexical : (wrong : ParseErrorKind) → IsPlain wrong → is_lexical wrong ≡ false
plain-lexical (fault.InvalidToken span) h = absurd cc
plain-lexical (fault.IntegerOutOfRange span) h = absurd cc
plain-lexical (fault.InvalidStringCharacters span) h = absurd cc
plain-lexical (fault.UnterminatedString span) h = absurd cc
plain-lexical (fault.InvalidStringEscape span) h = absurd cc
plain-lexical (fault.NestedBlockComment span) h = absurd cc
plain-lexical (fault.NoSpaceBetweenIntAndIdent span) h = absurd cc
plain-lexical (fault.HashCommentOutsideTextFormat span) h = absurd cc
plain-lexical (fault.FloatSuffixOutsideTextFormat span) h = absurd cc
plain-lexical _ h = refl

each-there : (P : ParseErrorKind → Type 0) (before : List ParseErrorKind) (x : ParseErrorKind) (behind : List ParseErrorKind) → Each P (before ++ (x ∷ behind)) → P x
each-there P [] x behind h = h.0
each-there P (y ∷ before) x behind h = each-there P before x behind h.1

each-stands : (lexemes : List Lexeme) (faults : List ParseErrorKind) → Each IsPlain faults → Each (Stands lexemes) faults
each-stands lexemes [] h = tt
each-stands lexemes (x ∷ xs) h = (plain-stands lexemes x h.0, each-stands lexemes xs h.1)

pub plain-stand : (lexemes : List Lexeme) (faults : List ParseErrorKind) → Each IsPlain faults → StandIn lexemes faults
plain-stand lexemes faults h = (
  each-stands lexemes faults h,
  λ before between behind wrong e. plain-lexical wrong (each-there IsPlain before wrong (between ++ (wrong ∷ behind)) (subst (Each IsPlain) e h)),
)

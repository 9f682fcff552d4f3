-- If nothing is wrong with a file, no field of a oneof has a label.
use Rattle.std.proofs.Common.{◌≡◌, inl, Option, Some, None, codes, refl, sym, subst}
use Rattle.protox_ast.specs.Keywords.{Each}
use Rattle.protox_ast.specs.declared.ast.FieldLabel.{FieldLabel}
use Rattle.protox_ast.specs.declared.ast.File.{File}
use Rattle.protox_ast.specs.declared.ast.OptionBody.{OptionBody}
use Rattle.protox_ast.specs.declared.ast.Syntax.{Syntax}
use Rattle.protox_ast.specs.declared.ast.Syntax.TheVariants.{Proto2, Proto3}
use Rattle.protox_fault.specs.Faults.{Span}
use Rattle.protox_fault.specs.declared.error.ParseErrorKind.{ParseErrorKind}
use Rattle.protox_fault.specs.declared.error.ParseErrorKind.TheVariants as fault
use Rattle.protox_checks.proofs.Membership.{among-each, any-from, somewhere-among}
use Rattle.protox_checks.specs.FieldFaults.{Scope, InMessage, InOneof, InExtend, KindNode, Normal, Group, Map, WrongField, of_label, of_kind}
use Rattle.protox_checks.specs.Faults.{IsFaultless, WrongNode, placed}
use Rattle.protox_checks.specs.Nodes.{Node, AField, AMessageNumber, AnEnumNumber, AJsonName, AnOption, AnEmptyOneof, file_nodes}

-- the place of a field, for other crates
abbrev pub Holder : Type 0
Holder = Scope

abbrev pub a_message : Holder
a_message = InMessage

abbrev pub a_oneof : Holder
a_oneof = InOneof

abbrev pub an_extend : Holder
an_extend = InExtend

-- A field of a oneof has no label.
abbrev pub Fine : Node → Type 0
Fine (AField InOneof field) = field.label ≡ None
Fine _ = Unit {0}

label-none : (syntax : Syntax) (kind : KindNode) (label : Option (FieldLabel × Span)) (default : Option OptionBody) (span : Span)
    → ((wrong : ParseErrorKind) → WrongField syntax InOneof (record { label = label; kind = kind; default = default; span = span }) wrong → ⊥) → label ≡ None
label-none syntax kind None default span right = refl
label-none Proto2 (Normal type) (Some (label, at)) default span right = absurd (right (fault.OneofFieldWithLabel at) (of_label refl))
label-none Proto3 (Normal type) (Some (label, at)) default span right = absurd (right (fault.OneofFieldWithLabel at) (of_label refl))
label-none Proto2 Group (Some (label, at)) default span right = absurd (right (fault.OneofFieldWithLabel at) (of_label refl))
label-none Proto3 Group (Some (label, at)) default span right = absurd (right (fault.OneofFieldWithLabel at) (of_label refl))
label-none Proto2 (Map key key_span) (Some (label, at)) default span right =
    absurd (right (fault.InvalidOneofFieldKind span (placed (codes "map"))) (of_kind (inl (placed (codes "map"), refl, refl))))
label-none Proto3 (Map key key_span) (Some (label, at)) default span right =
    absurd (right (fault.InvalidOneofFieldKind span (placed (codes "map"))) (of_kind (inl (placed (codes "map"), refl, refl))))

fine-node : (syntax : Syntax) (node : Node) → ((wrong : ParseErrorKind) → WrongNode syntax node wrong → ⊥) → Fine node
fine-node syntax (AField InOneof field) right = label-none syntax field.kind field.label field.default field.span right
fine-node syntax (AField InMessage field) right = tt
fine-node syntax (AField InExtend field) right = tt
fine-node syntax (AMessageNumber int) right = tt
fine-node syntax (AnEnumNumber int) right = tt
fine-node syntax (AJsonName value) right = tt
fine-node syntax (AnOption value) right = tt
fine-node syntax (AnEmptyOneof span) right = tt

pub all-fine : (file : File) → IsFaultless file → Each Fine (file_nodes file)
all-fine file right =
    among-each Fine (file_nodes file)
    (λ node there. fine-node file.syntax node (λ wrong is. right wrong (any-from (λ n. WrongNode file.syntax n wrong) (file_nodes file)
    (somewhere-among (λ n. WrongNode file.syntax n wrong) node (λ y e. subst (λ n. WrongNode file.syntax n wrong) (sym e) is) (file_nodes file) there))))

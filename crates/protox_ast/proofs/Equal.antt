-- Two parts of a tree that hold no message are equal exactly when they are the same.
use Rattle.std.proofs.Common.{◌≡◌, Bool, true, ◌&&◌, ◌==◌, List, ℕ, refl, ap}
use Rattle.std.proofs.lemmas.Bool.{false≢true}
use Rattle.protox_descriptor.proofs.Lemmas.{Tells, itself, same, tells-bool, tells-both, tells-if}
use Rattle.protox_descriptor.proofs.Lemmas.{tells-list, tells-option, tells-parts, tells-text}
use Rattle.protox_descriptor.proofs.Lemmas.{tells-unsigned}
use Rattle.protox_fault.specs.Faults.{Span}
use Rattle.protox_ast.specs.contracts.ast.commented.CommentsPartialEq.TheImpl as comments
use Rattle.protox_ast.specs.contracts.ast.EnumPartialEq.TheImpl as enumeration
use Rattle.protox_ast.specs.contracts.ast.EnumValuePartialEq.TheImpl as enum_value
use Rattle.protox_ast.specs.contracts.ast.ExtensionsPartialEq.TheImpl as extensions
use Rattle.protox_ast.specs.contracts.ast.FieldLabelPartialEq.TheImpl as field_label
use Rattle.protox_ast.specs.contracts.ast.FloatPartialEq.TheImpl as float_value
use Rattle.protox_ast.specs.contracts.ast.FullIdentPartialEq.TheImpl as full_ident
use Rattle.protox_ast.specs.contracts.ast.IdentPartialEq.TheImpl as ident
use Rattle.protox_ast.specs.contracts.ast.ImportKindPartialEq.TheImpl as import_kind
use Rattle.protox_ast.specs.contracts.ast.ImportPartialEq.TheImpl as imported
use Rattle.protox_ast.specs.contracts.ast.IntPartialEq.TheImpl as int_value
use Rattle.protox_ast.specs.contracts.ast.MethodPartialEq.TheImpl as method
use Rattle.protox_ast.specs.contracts.ast.OptionBodyPartialEq.TheImpl as option_body
use Rattle.protox_ast.specs.contracts.ast.OptionListPartialEq.TheImpl as option_list
use Rattle.protox_ast.specs.contracts.ast.OptionNamePartPartialEq.TheImpl as option_name_part
use Rattle.protox_ast.specs.contracts.ast.OptionPartialEq.TheImpl as option_statement
use Rattle.protox_ast.specs.contracts.ast.OptionValuePartialEq.TheImpl as option_value
use Rattle.protox_ast.specs.contracts.ast.PackagePartialEq.TheImpl as packaged
use Rattle.protox_ast.specs.contracts.ast.ReservedKindPartialEq.TheImpl as reserved_kind
use Rattle.protox_ast.specs.contracts.ast.ReservedPartialEq.TheImpl as reserved
use Rattle.protox_ast.specs.contracts.ast.ReservedRangeEndPartialEq.TheImpl as reserved_range_end
use Rattle.protox_ast.specs.contracts.ast.ReservedRangePartialEq.TheImpl as reserved_range
use Rattle.protox_ast.specs.contracts.ast.ServicePartialEq.TheImpl as service
use Rattle.protox_ast.specs.contracts.ast.StringPartialEq.TheImpl as string_value
use Rattle.protox_ast.specs.contracts.ast.SyntaxPartialEq.TheImpl as syntax
use Rattle.protox_ast.specs.contracts.ast.TyPartialEq.TheImpl as ty
use Rattle.protox_ast.specs.contracts.ast.TypeNamePartialEq.TheImpl as type_name
use Rattle.protox_ast.specs.declared.ast.Comments.{Comments}
use Rattle.protox_ast.specs.declared.ast.Enum.{Enum}
use Rattle.protox_ast.specs.declared.ast.EnumValue.{EnumValue}
use Rattle.protox_ast.specs.declared.ast.Extensions.{Extensions}
use Rattle.protox_ast.specs.declared.ast.FieldLabel.TheVariants as field_label_variant
use Rattle.protox_ast.specs.declared.ast.FieldLabel.{FieldLabel}
use Rattle.protox_ast.specs.declared.ast.Float.{Float}
use Rattle.protox_ast.specs.declared.ast.FullIdent.{FullIdent}
use Rattle.protox_ast.specs.declared.ast.Ident.{Ident}
use Rattle.protox_ast.specs.declared.ast.Import.{Import}
use Rattle.protox_ast.specs.declared.ast.ImportKind.TheVariants as import_kind_variant
use Rattle.protox_ast.specs.declared.ast.ImportKind.{ImportKind}
use Rattle.protox_ast.specs.declared.ast.Int.{Int}
use Rattle.protox_ast.specs.declared.ast.Method.{Method}
use Rattle.protox_ast.specs.declared.ast.Option.{Option}
use Rattle.protox_ast.specs.declared.ast.OptionBody.{OptionBody}
use Rattle.protox_ast.specs.declared.ast.OptionList.{OptionList}
use Rattle.protox_ast.specs.declared.ast.OptionNamePart.TheVariants as option_name_part_variant
use Rattle.protox_ast.specs.declared.ast.OptionNamePart.{OptionNamePart}
use Rattle.protox_ast.specs.declared.ast.OptionValue.TheVariants as option_value_variant
use Rattle.protox_ast.specs.declared.ast.OptionValue.{OptionValue}
use Rattle.protox_ast.specs.declared.ast.Package.{Package}
use Rattle.protox_ast.specs.declared.ast.Reserved.{Reserved}
use Rattle.protox_ast.specs.declared.ast.ReservedKind.TheVariants as reserved_kind_variant
use Rattle.protox_ast.specs.declared.ast.ReservedKind.{ReservedKind}
use Rattle.protox_ast.specs.declared.ast.ReservedRange.{ReservedRange}
use Rattle.protox_ast.specs.declared.ast.ReservedRangeEnd.TheVariants as reserved_range_end_variant
use Rattle.protox_ast.specs.declared.ast.ReservedRangeEnd.{ReservedRangeEnd}
use Rattle.protox_ast.specs.declared.ast.Service.{Service}
use Rattle.protox_ast.specs.declared.ast.String.{String}
use Rattle.protox_ast.specs.declared.ast.Syntax.TheVariants as syntax_variant
use Rattle.protox_ast.specs.declared.ast.Syntax.{Syntax}
use Rattle.protox_ast.specs.declared.ast.Ty.TheVariants as ty_variant
use Rattle.protox_ast.specs.declared.ast.Ty.{Ty}
use Rattle.protox_ast.specs.declared.ast.TypeName.{TypeName}

pub tells-pair : {A B : Type 0} {E : A → A → Bool} {F : B → B → Bool} → ((a : A) → Tells E a) → ((b : B) → Tells F b) → (p : A × B) → Tells (λ (p q : A × B). E p.0 q.0 && F p.1 q.1) p
tells-pair e f p = tells-both (e p.0) (f p.1)

pub tells-span : (x : Span) → Tells (λ (x y : Span). (x.start == y.start) && (x.end == y.end)) x
tells-span x = tells-parts (λ (z : Span). (z.start, z.end)) (λ p. record { start = p.0; end = p.1 }) (λ z. refl) x (tells-both (tells-unsigned x.start) (tells-unsigned x.end))

pub same-Comments : (x : Comments) → Tells comments.ghosts.eq x
same-Comments x =
    tells-parts (λ (z : Comments). (z.leading_detached_comments, (z.leading_comment, z.trailing_comment)))
    (λ p. record { leading_detached_comments = p.0; leading_comment = p.1.0; trailing_comment = p.1.1 }) (λ z. refl) x
    (tells-both (tells-list tells-text x.leading_detached_comments) (tells-both (tells-option tells-text x.leading_comment)
    (tells-option tells-text x.trailing_comment)))

pub same-Ident : (x : Ident) → Tells ident.ghosts.eq x
same-Ident x =
    tells-parts (λ (z : Ident). (z.value, z.span))
    (λ p. record { value = p.0; span = p.1 }) (λ z. refl) x
    (tells-both (tells-text x.value) (tells-span x.span))

pub same-FullIdent : (x : FullIdent) → Tells full_ident.ghosts.eq x
same-FullIdent x = tells-list same-Ident x

pub same-TypeName : (x : TypeName) → Tells type_name.ghosts.eq x
same-TypeName x =
    tells-parts (λ (z : TypeName). (z.leading_dot, z.name))
    (λ p. record { leading_dot = p.0; name = p.1 }) (λ z. refl) x
    (tells-both (tells-option tells-span x.leading_dot) (same-FullIdent x.name))

pub same-Int : (x : Int) → Tells int_value.ghosts.eq x
same-Int x =
    tells-parts (λ (z : Int). (z.negative, (z.value, z.span)))
    (λ p. record { negative = p.0; value = p.1.0; span = p.1.1 }) (λ z. refl) x
    (tells-both (tells-bool x.negative) (tells-both (tells-unsigned x.value) (tells-span x.span)))

pub same-Float : (x : Float) → Tells float_value.ghosts.eq x
same-Float x =
    tells-parts (λ (z : Float). (z.value, z.span))
    (λ p. record { value = p.0; span = p.1 }) (λ z. refl) x
    (tells-both (tells-text x.value) (tells-span x.span))

pub same-String : (x : String) → Tells string_value.ghosts.eq x
same-String x =
    tells-parts (λ (z : String). (z.value, z.span))
    (λ p. record { value = p.0; span = p.1 }) (λ z. refl) x
    (tells-both (tells-text x.value) (tells-span x.span))

alike-OptionValue : (x y : OptionValue) → option_value.ghosts.eq x y ≡ true → x ≡ y
alike-OptionValue (option_value_variant.Ident negative ident span) (option_value_variant.Ident negative' ident' span') h = ap (λ (p : Bool × (Ident × Span)). option_value_variant.Ident p.0 p.1.0 p.1.1) (same (tells-both (tells-bool negative) (tells-both (same-Ident ident) (tells-span span))) (negative', (ident', span')) h)
alike-OptionValue (option_value_variant.Ident negative ident span) _ h = absurd (false≢true h)
alike-OptionValue (option_value_variant.Int int) (option_value_variant.Int int') h = ap option_value_variant.Int (same (same-Int int) int' h)
alike-OptionValue (option_value_variant.Int int) _ h = absurd (false≢true h)
alike-OptionValue (option_value_variant.Float float) (option_value_variant.Float float') h = ap option_value_variant.Float (same (same-Float float) float' h)
alike-OptionValue (option_value_variant.Float float) _ h = absurd (false≢true h)
alike-OptionValue (option_value_variant.String string) (option_value_variant.String string') h = ap option_value_variant.String (same (same-String string) string' h)
alike-OptionValue (option_value_variant.String string) _ h = absurd (false≢true h)
alike-OptionValue (option_value_variant.Aggregate text span) (option_value_variant.Aggregate text' span') h = ap (λ (p : List ℕ × Span). option_value_variant.Aggregate p.0 p.1) (same (tells-both (tells-text text) (tells-span span)) (text', span') h)
alike-OptionValue (option_value_variant.Aggregate text span) _ h = absurd (false≢true h)

itself-OptionValue : (x : OptionValue) → option_value.ghosts.eq x x ≡ true
itself-OptionValue (option_value_variant.Ident negative ident span) = itself (tells-both (tells-bool negative) (tells-both (same-Ident ident) (tells-span span)))
itself-OptionValue (option_value_variant.Int int) = itself (same-Int int)
itself-OptionValue (option_value_variant.Float float) = itself (same-Float float)
itself-OptionValue (option_value_variant.String string) = itself (same-String string)
itself-OptionValue (option_value_variant.Aggregate text span) = itself (tells-both (tells-text text) (tells-span span))

pub same-OptionValue : (x : OptionValue) → Tells option_value.ghosts.eq x
same-OptionValue x = tells-if (alike-OptionValue x) (itself-OptionValue x)

alike-ImportKind : (x y : ImportKind) → import_kind.ghosts.eq x y ≡ true → x ≡ y
alike-ImportKind import_kind_variant.Weak import_kind_variant.Weak h = refl
alike-ImportKind import_kind_variant.Weak _ h = absurd (false≢true h)
alike-ImportKind import_kind_variant.Public import_kind_variant.Public h = refl
alike-ImportKind import_kind_variant.Public _ h = absurd (false≢true h)

itself-ImportKind : (x : ImportKind) → import_kind.ghosts.eq x x ≡ true
itself-ImportKind import_kind_variant.Weak = refl
itself-ImportKind import_kind_variant.Public = refl

pub same-ImportKind : (x : ImportKind) → Tells import_kind.ghosts.eq x
same-ImportKind x = tells-if (alike-ImportKind x) (itself-ImportKind x)

alike-Syntax : (x y : Syntax) → syntax.ghosts.eq x y ≡ true → x ≡ y
alike-Syntax syntax_variant.Proto2 syntax_variant.Proto2 h = refl
alike-Syntax syntax_variant.Proto2 _ h = absurd (false≢true h)
alike-Syntax syntax_variant.Proto3 syntax_variant.Proto3 h = refl
alike-Syntax syntax_variant.Proto3 _ h = absurd (false≢true h)

itself-Syntax : (x : Syntax) → syntax.ghosts.eq x x ≡ true
itself-Syntax syntax_variant.Proto2 = refl
itself-Syntax syntax_variant.Proto3 = refl

pub same-Syntax : (x : Syntax) → Tells syntax.ghosts.eq x
same-Syntax x = tells-if (alike-Syntax x) (itself-Syntax x)

alike-FieldLabel : (x y : FieldLabel) → field_label.ghosts.eq x y ≡ true → x ≡ y
alike-FieldLabel field_label_variant.Optional field_label_variant.Optional h = refl
alike-FieldLabel field_label_variant.Optional _ h = absurd (false≢true h)
alike-FieldLabel field_label_variant.Required field_label_variant.Required h = refl
alike-FieldLabel field_label_variant.Required _ h = absurd (false≢true h)
alike-FieldLabel field_label_variant.Repeated field_label_variant.Repeated h = refl
alike-FieldLabel field_label_variant.Repeated _ h = absurd (false≢true h)

itself-FieldLabel : (x : FieldLabel) → field_label.ghosts.eq x x ≡ true
itself-FieldLabel field_label_variant.Optional = refl
itself-FieldLabel field_label_variant.Required = refl
itself-FieldLabel field_label_variant.Repeated = refl

pub same-FieldLabel : (x : FieldLabel) → Tells field_label.ghosts.eq x
same-FieldLabel x = tells-if (alike-FieldLabel x) (itself-FieldLabel x)

pub same-Import : (x : Import) → Tells imported.ghosts.eq x
same-Import x =
    tells-parts (λ (z : Import). (z.kind, (z.value, (z.value_span, (z.comments, z.span)))))
    (λ p. record { kind = p.0; value = p.1.0; value_span = p.1.1.0; comments = p.1.1.1.0; span = p.1.1.1.1 }) (λ z. refl) x
    (tells-both (tells-option (tells-pair same-ImportKind tells-span) x.kind) (tells-both (tells-text x.value)
    (tells-both (tells-span x.value_span) (tells-both (same-Comments x.comments) (tells-span x.span)))))

pub same-Package : (x : Package) → Tells packaged.ghosts.eq x
same-Package x =
    tells-parts (λ (z : Package). (z.name, (z.comments, z.span)))
    (λ p. record { name = p.0; comments = p.1.0; span = p.1.1 }) (λ z. refl) x
    (tells-both (same-FullIdent x.name) (tells-both (same-Comments x.comments) (tells-span x.span)))

alike-OptionNamePart : (x y : OptionNamePart) → option_name_part.ghosts.eq x y ≡ true → x ≡ y
alike-OptionNamePart (option_name_part_variant.Ident ident) (option_name_part_variant.Ident ident') h = ap option_name_part_variant.Ident (same (same-Ident ident) ident' h)
alike-OptionNamePart (option_name_part_variant.Ident ident) _ h = absurd (false≢true h)
alike-OptionNamePart (option_name_part_variant.Extension name span) (option_name_part_variant.Extension name' span') h = ap (λ (p : TypeName × Span). option_name_part_variant.Extension p.0 p.1) (same (tells-both (same-TypeName name) (tells-span span)) (name', span') h)
alike-OptionNamePart (option_name_part_variant.Extension name span) _ h = absurd (false≢true h)

itself-OptionNamePart : (x : OptionNamePart) → option_name_part.ghosts.eq x x ≡ true
itself-OptionNamePart (option_name_part_variant.Ident ident) = itself (same-Ident ident)
itself-OptionNamePart (option_name_part_variant.Extension name span) = itself (tells-both (same-TypeName name) (tells-span span))

pub same-OptionNamePart : (x : OptionNamePart) → Tells option_name_part.ghosts.eq x
same-OptionNamePart x = tells-if (alike-OptionNamePart x) (itself-OptionNamePart x)

pub same-OptionBody : (x : OptionBody) → Tells option_body.ghosts.eq x
same-OptionBody x =
    tells-parts (λ (z : OptionBody). (z.name, z.value))
    (λ p. record { name = p.0; value = p.1 }) (λ z. refl) x
    (tells-both (tells-list same-OptionNamePart x.name) (same-OptionValue x.value))

pub same-OptionList : (x : OptionList) → Tells option_list.ghosts.eq x
same-OptionList x =
    tells-parts (λ (z : OptionList). (z.options, z.span))
    (λ p. record { options = p.0; span = p.1 }) (λ z. refl) x
    (tells-both (tells-list same-OptionBody x.options) (tells-span x.span))

pub same-Option : (x : Option) → Tells option_statement.ghosts.eq x
same-Option x =
    tells-parts (λ (z : Option). (z.body, (z.comments, z.span)))
    (λ p. record { body = p.0; comments = p.1.0; span = p.1.1 }) (λ z. refl) x
    (tells-both (same-OptionBody x.body) (tells-both (same-Comments x.comments) (tells-span x.span)))

alike-Ty : (x y : Ty) → ty.ghosts.eq x y ≡ true → x ≡ y
alike-Ty ty_variant.Double ty_variant.Double h = refl
alike-Ty ty_variant.Double _ h = absurd (false≢true h)
alike-Ty ty_variant.Float ty_variant.Float h = refl
alike-Ty ty_variant.Float _ h = absurd (false≢true h)
alike-Ty ty_variant.Int32 ty_variant.Int32 h = refl
alike-Ty ty_variant.Int32 _ h = absurd (false≢true h)
alike-Ty ty_variant.Int64 ty_variant.Int64 h = refl
alike-Ty ty_variant.Int64 _ h = absurd (false≢true h)
alike-Ty ty_variant.Uint32 ty_variant.Uint32 h = refl
alike-Ty ty_variant.Uint32 _ h = absurd (false≢true h)
alike-Ty ty_variant.Uint64 ty_variant.Uint64 h = refl
alike-Ty ty_variant.Uint64 _ h = absurd (false≢true h)
alike-Ty ty_variant.Sint32 ty_variant.Sint32 h = refl
alike-Ty ty_variant.Sint32 _ h = absurd (false≢true h)
alike-Ty ty_variant.Sint64 ty_variant.Sint64 h = refl
alike-Ty ty_variant.Sint64 _ h = absurd (false≢true h)
alike-Ty ty_variant.Fixed32 ty_variant.Fixed32 h = refl
alike-Ty ty_variant.Fixed32 _ h = absurd (false≢true h)
alike-Ty ty_variant.Fixed64 ty_variant.Fixed64 h = refl
alike-Ty ty_variant.Fixed64 _ h = absurd (false≢true h)
alike-Ty ty_variant.Sfixed32 ty_variant.Sfixed32 h = refl
alike-Ty ty_variant.Sfixed32 _ h = absurd (false≢true h)
alike-Ty ty_variant.Sfixed64 ty_variant.Sfixed64 h = refl
alike-Ty ty_variant.Sfixed64 _ h = absurd (false≢true h)
alike-Ty ty_variant.Bool ty_variant.Bool h = refl
alike-Ty ty_variant.Bool _ h = absurd (false≢true h)
alike-Ty ty_variant.String ty_variant.String h = refl
alike-Ty ty_variant.String _ h = absurd (false≢true h)
alike-Ty ty_variant.Bytes ty_variant.Bytes h = refl
alike-Ty ty_variant.Bytes _ h = absurd (false≢true h)
alike-Ty (ty_variant.Named name) (ty_variant.Named name') h = ap ty_variant.Named (same (same-TypeName name) name' h)
alike-Ty (ty_variant.Named name) _ h = absurd (false≢true h)

itself-Ty : (x : Ty) → ty.ghosts.eq x x ≡ true
itself-Ty ty_variant.Double = refl
itself-Ty ty_variant.Float = refl
itself-Ty ty_variant.Int32 = refl
itself-Ty ty_variant.Int64 = refl
itself-Ty ty_variant.Uint32 = refl
itself-Ty ty_variant.Uint64 = refl
itself-Ty ty_variant.Sint32 = refl
itself-Ty ty_variant.Sint64 = refl
itself-Ty ty_variant.Fixed32 = refl
itself-Ty ty_variant.Fixed64 = refl
itself-Ty ty_variant.Sfixed32 = refl
itself-Ty ty_variant.Sfixed64 = refl
itself-Ty ty_variant.Bool = refl
itself-Ty ty_variant.String = refl
itself-Ty ty_variant.Bytes = refl
itself-Ty (ty_variant.Named name) = itself (same-TypeName name)

pub same-Ty : (x : Ty) → Tells ty.ghosts.eq x
same-Ty x = tells-if (alike-Ty x) (itself-Ty x)

alike-ReservedRangeEnd : (x y : ReservedRangeEnd) → reserved_range_end.ghosts.eq x y ≡ true → x ≡ y
alike-ReservedRangeEnd reserved_range_end_variant.None reserved_range_end_variant.None h = refl
alike-ReservedRangeEnd reserved_range_end_variant.None _ h = absurd (false≢true h)
alike-ReservedRangeEnd (reserved_range_end_variant.Int int) (reserved_range_end_variant.Int int') h = ap reserved_range_end_variant.Int (same (same-Int int) int' h)
alike-ReservedRangeEnd (reserved_range_end_variant.Int int) _ h = absurd (false≢true h)
alike-ReservedRangeEnd (reserved_range_end_variant.Max span) (reserved_range_end_variant.Max span') h = ap reserved_range_end_variant.Max (same (tells-span span) span' h)
alike-ReservedRangeEnd (reserved_range_end_variant.Max span) _ h = absurd (false≢true h)

itself-ReservedRangeEnd : (x : ReservedRangeEnd) → reserved_range_end.ghosts.eq x x ≡ true
itself-ReservedRangeEnd reserved_range_end_variant.None = refl
itself-ReservedRangeEnd (reserved_range_end_variant.Int int) = itself (same-Int int)
itself-ReservedRangeEnd (reserved_range_end_variant.Max span) = itself (tells-span span)

pub same-ReservedRangeEnd : (x : ReservedRangeEnd) → Tells reserved_range_end.ghosts.eq x
same-ReservedRangeEnd x = tells-if (alike-ReservedRangeEnd x) (itself-ReservedRangeEnd x)

pub same-ReservedRange : (x : ReservedRange) → Tells reserved_range.ghosts.eq x
same-ReservedRange x =
    tells-parts (λ (z : ReservedRange). (z.start, z.end))
    (λ p. record { start = p.0; end = p.1 }) (λ z. refl) x
    (tells-both (same-Int x.start) (same-ReservedRangeEnd x.end))

alike-ReservedKind : (x y : ReservedKind) → reserved_kind.ghosts.eq x y ≡ true → x ≡ y
alike-ReservedKind (reserved_kind_variant.Ranges ranges) (reserved_kind_variant.Ranges ranges') h = ap reserved_kind_variant.Ranges (same (tells-list same-ReservedRange ranges) ranges' h)
alike-ReservedKind (reserved_kind_variant.Ranges ranges) _ h = absurd (false≢true h)
alike-ReservedKind (reserved_kind_variant.Names names) (reserved_kind_variant.Names names') h = ap reserved_kind_variant.Names (same (tells-list same-Ident names) names' h)
alike-ReservedKind (reserved_kind_variant.Names names) _ h = absurd (false≢true h)

itself-ReservedKind : (x : ReservedKind) → reserved_kind.ghosts.eq x x ≡ true
itself-ReservedKind (reserved_kind_variant.Ranges ranges) = itself (tells-list same-ReservedRange ranges)
itself-ReservedKind (reserved_kind_variant.Names names) = itself (tells-list same-Ident names)

pub same-ReservedKind : (x : ReservedKind) → Tells reserved_kind.ghosts.eq x
same-ReservedKind x = tells-if (alike-ReservedKind x) (itself-ReservedKind x)

pub same-Reserved : (x : Reserved) → Tells reserved.ghosts.eq x
same-Reserved x =
    tells-parts (λ (z : Reserved). (z.kind, (z.comments, z.span)))
    (λ p. record { kind = p.0; comments = p.1.0; span = p.1.1 }) (λ z. refl) x
    (tells-both (same-ReservedKind x.kind) (tells-both (same-Comments x.comments) (tells-span x.span)))

pub same-Extensions : (x : Extensions) → Tells extensions.ghosts.eq x
same-Extensions x =
    tells-parts (λ (z : Extensions). (z.ranges, (z.options, (z.comments, z.span))))
    (λ p. record { ranges = p.0; options = p.1.0; comments = p.1.1.0; span = p.1.1.1 }) (λ z. refl) x
    (tells-both (tells-list same-ReservedRange x.ranges) (tells-both (tells-option same-OptionList x.options)
    (tells-both (same-Comments x.comments) (tells-span x.span))))

pub same-EnumValue : (x : EnumValue) → Tells enum_value.ghosts.eq x
same-EnumValue x =
    tells-parts (λ (z : EnumValue). (z.name, (z.number, (z.options, (z.comments, z.span)))))
    (λ p. record { name = p.0; number = p.1.0; options = p.1.1.0; comments = p.1.1.1.0; span = p.1.1.1.1 }) (λ z. refl) x
    (tells-both (same-Ident x.name) (tells-both (same-Int x.number) (tells-both (tells-option same-OptionList x.options)
    (tells-both (same-Comments x.comments) (tells-span x.span)))))

pub same-Enum : (x : Enum) → Tells enumeration.ghosts.eq x
same-Enum x =
    tells-parts (λ (z : Enum). (z.name, (z.options, (z.values, (z.reserved, (z.comments, z.span))))))
    (λ p. record { name = p.0; options = p.1.0; values = p.1.1.0; reserved = p.1.1.1.0; comments = p.1.1.1.1.0; span = p.1.1.1.1.1 })
    (λ z. refl) x
    (tells-both (same-Ident x.name) (tells-both (tells-list same-Option x.options) (tells-both (tells-list same-EnumValue x.values)
    (tells-both (tells-list same-Reserved x.reserved) (tells-both (same-Comments x.comments) (tells-span x.span))))))

pub same-Method : (x : Method) → Tells method.ghosts.eq x
same-Method x =
    tells-parts (λ (z : Method). (
      z.name,
      (
        z.input_ty,
        (
          z.output_ty,
          (
            z.options,
            (
              z.client_streaming,
              (
                z.server_streaming,
                (
                  z.comments,
                  z.span,
                ),
              ),
            ),
          ),
        ),
      ),
    ))
    (λ p. record {
      name = p.0;
      input_ty = p.1.0;
      output_ty = p.1.1.0;
      options = p.1.1.1.0;
      client_streaming = p.1.1.1.1.0;
      server_streaming = p.1.1.1.1.1.0;
      comments = p.1.1.1.1.1.1.0;
      span = p.1.1.1.1.1.1.1;
    }) (λ z. refl) x
    (tells-both (same-Ident x.name) (tells-both (same-TypeName x.input_ty) (tells-both (same-TypeName x.output_ty)
    (tells-both (tells-list same-Option x.options) (tells-both (tells-option tells-span x.client_streaming)
    (tells-both (tells-option tells-span x.server_streaming) (tells-both (same-Comments x.comments) (tells-span x.span))))))))

pub same-Service : (x : Service) → Tells service.ghosts.eq x
same-Service x =
    tells-parts (λ (z : Service). (z.name, (z.options, (z.methods, (z.comments, z.span)))))
    (λ p. record { name = p.0; options = p.1.0; methods = p.1.1.0; comments = p.1.1.1.0; span = p.1.1.1.1 }) (λ z. refl) x
    (tells-both (same-Ident x.name) (tells-both (tells-list same-Option x.options) (tells-both (tells-list same-Method x.methods)
    (tells-both (same-Comments x.comments) (tells-span x.span)))))

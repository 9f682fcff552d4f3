-- Two trees are equal exactly when they are the same.
use Rattle.std.proofs.Common.{◌≡◌, Bool, true, false, ◌&&◌, ◌==◌, ◌⊎◌, refl, sym, ap, subst, ◌∙◌}
use mathlib.Core.Logic.{inl, inr}
use Rattle.std.proofs.lemmas.Bool.{false≢true}
use Rattle.std.specs.Cmp.Lexicographic.{pointwise}
use Rattle.protox_descriptor.proofs.Lemmas.{Tells, itself, same, tells-alike, tells-both, tells-held}
use Rattle.protox_descriptor.proofs.Lemmas.{tells-if, tells-list, tells-option, tells-parts}
use Rattle.protox_fault.specs.Faults.{Span}
use Rattle.protox_ast.proofs.Equal.{tells-pair, tells-span, same-Comments, same-Enum, same-Extensions, same-FieldLabel, same-Ident, same-Import, same-Int, same-Option, same-OptionList, same-Package, same-Reserved, same-Service, same-Syntax, same-Ty, same-TypeName}
use Rattle.protox_ast.specs.contracts.ast.EnumPartialEq.TheImpl as enumeration
use Rattle.protox_ast.specs.contracts.ast.ExtendPartialEq.TheImpl as extend
use Rattle.protox_ast.specs.contracts.ast.ExtendPartialEq.TheImpl.Laws as extend_laws
use Rattle.protox_ast.specs.contracts.ast.FieldKind as field_kind_row
use Rattle.protox_ast.specs.contracts.ast.FieldKindPartialEq.TheImpl as field_kind
use Rattle.protox_ast.specs.contracts.ast.FieldKindPartialEq.TheImpl.Laws as field_kind_laws
use Rattle.protox_ast.specs.contracts.ast.FieldPartialEq.TheImpl as field
use Rattle.protox_ast.specs.contracts.ast.FieldPartialEq.TheImpl.Laws as field_laws
use Rattle.protox_ast.specs.contracts.ast.FileItemPartialEq.TheImpl as file_item
use Rattle.protox_ast.specs.contracts.ast.FilePartialEq.TheImpl as file
use Rattle.protox_ast.specs.contracts.ast.MessageBodyPartialEq.TheImpl as message_body
use Rattle.protox_ast.specs.contracts.ast.MessageBodyPartialEq.TheImpl.Laws as message_body_laws
use Rattle.protox_ast.specs.contracts.ast.MessageItem as message_item_row
use Rattle.protox_ast.specs.contracts.ast.MessageItemPartialEq.TheImpl as message_item
use Rattle.protox_ast.specs.contracts.ast.MessageItemPartialEq.TheImpl.Laws as message_item_laws
use Rattle.protox_ast.specs.contracts.ast.MessagePartialEq.TheImpl as message
use Rattle.protox_ast.specs.contracts.ast.MessagePartialEq.TheImpl.Laws as message_laws
use Rattle.protox_ast.specs.contracts.ast.OneofPartialEq.TheImpl as oneof
use Rattle.protox_ast.specs.contracts.ast.OneofPartialEq.TheImpl.Laws as oneof_laws
use Rattle.protox_ast.specs.contracts.ast.TyPartialEq.TheImpl as ty
use Rattle.protox_ast.specs.declared.ast.Enum.{Enum}
use Rattle.protox_ast.specs.declared.ast.Extend.{Extend, out-Extend, roll-Extend, roll-out-Extend, out-roll-Extend, ind-Extend, Extend-F, map-Extend}
use Rattle.protox_ast.specs.declared.ast.Field.{Field, out-Field, roll-Field, roll-out-Field, out-roll-Field, Field-F, map-Field}
use Rattle.protox_ast.specs.declared.ast.FieldKind.TheVariants as field_kind_variant
use Rattle.protox_ast.specs.declared.ast.FieldKind.{FieldKind, FieldKind-F, roll-FieldKind, map-FieldKind}
use Rattle.protox_ast.specs.declared.ast.File.{File}
use Rattle.protox_ast.specs.declared.ast.FileItem.TheVariants as file_item_variant
use Rattle.protox_ast.specs.declared.ast.FileItem.{FileItem}
use Rattle.protox_ast.specs.declared.ast.Message.{Message, out-Message, roll-Message, roll-out-Message, out-roll-Message, ind-Message, Message-F, map-Message}
use Rattle.protox_ast.specs.declared.ast.MessageBody.{MessageBody, out-MessageBody, roll-MessageBody, roll-out-MessageBody, out-roll-MessageBody, MessageBody-F, map-MessageBody}
use Rattle.protox_ast.specs.declared.ast.MessageItem.TheVariants as message_item_variant
use Rattle.protox_ast.specs.declared.ast.MessageItem.{MessageItem, MessageItem-F, roll-MessageItem, map-MessageItem}
use Rattle.protox_ast.specs.declared.ast.Oneof.{Oneof, out-Oneof, roll-Oneof, roll-out-Oneof, out-roll-Oneof, Oneof-F, map-Oneof}
use denote.Enum.Compared.{by}
use denote.Enum.Declared.{Choice}

-- A value, with the proof that E holds only for equal values.
abbrev Told : {K : Type 0} → (K → K → Bool) → Type 0
Told {K} E = (x : K) × Tells E x

abbrev value_of : {K : Type 0} {E : K → K → Bool} → Told E → K
value_of e = e.0

abbrev span_eq : Span → Span → Bool
span_eq x y = (x.start == y.start) && (x.end == y.end)

-- One layer of a tree: as it is, and with such a proof for each part that may hold messages.
abbrev Plain : (Type 0 → Type 0 → Type 0 → Type 0 → Type 0 → Type 0 → Type 0 → Type 0) → Type 0
Plain F = F FieldKind MessageItem Extend Field Message MessageBody Oneof

abbrev Held : (Type 0 → Type 0 → Type 0 → Type 0 → Type 0 → Type 0 → Type 0 → Type 0) → Type 0
Held F = F (Told field_kind.ghosts.eq) (Told message_item.ghosts.eq) (Told extend.ghosts.eq) (Told field.ghosts.eq) (Told message.ghosts.eq) (Told message_body.ghosts.eq) (Told oneof.ghosts.eq)

of_extend : (x : Extend) → Tells (pointwise field.ghosts.eq) (out-Extend x).fields → Tells extend.ghosts.eq x
of_extend x held = tells-alike (extend_laws.is x)
    (tells-parts (λ (z : Extend). ((out-Extend z).extendee, ((out-Extend z).fields, ((out-Extend z).comments, (out-Extend z).span))))
    (λ p. roll-Extend (record { extendee = p.0; fields = p.1.0; comments = p.1.1.0; span = p.1.1.1 })) roll-out-Extend x
    (tells-both (same-TypeName (out-Extend x).extendee) (tells-both held (tells-both (same-Comments (out-Extend x).comments)
    (tells-span (out-Extend x).span)))))

of_field : (x : Field) → Tells field_kind.ghosts.eq (out-Field x).kind → Tells field.ghosts.eq x
of_field x held = tells-alike (field_laws.is x)
    (tells-parts (λ (z : Field). (
      (out-Field z).label,
      (
        (out-Field z).name,
        (
          (out-Field z).kind,
          (
            (out-Field z).number,
            ((out-Field z).options, ((out-Field z).comments, (out-Field z).span)),
          ),
        ),
      ),
    ))
    (λ p. roll-Field (record {
      label = p.0;
      name = p.1.0;
      kind = p.1.1.0;
      number = p.1.1.1.0;
      options = p.1.1.1.1.0;
      comments = p.1.1.1.1.1.0;
      span = p.1.1.1.1.1.1;
    })) roll-out-Field x
    (tells-both (tells-option (tells-pair same-FieldLabel tells-span) (out-Field x).label) (tells-both (same-Ident (out-Field x).name)
    (tells-both held (tells-both (same-Int (out-Field x).number) (tells-both (tells-option same-OptionList (out-Field x).options)
    (tells-both (same-Comments (out-Field x).comments) (tells-span (out-Field x).span))))))))

of_message : (x : Message) → Tells message_body.ghosts.eq (out-Message x).body → Tells message.ghosts.eq x
of_message x held = tells-alike (message_laws.is x)
    (tells-parts (λ (z : Message). ((out-Message z).name, ((out-Message z).body, ((out-Message z).comments, (out-Message z).span))))
    (λ p. roll-Message (record { name = p.0; body = p.1.0; comments = p.1.1.0; span = p.1.1.1 })) roll-out-Message x
    (tells-both (same-Ident (out-Message x).name) (tells-both held (tells-both (same-Comments (out-Message x).comments)
    (tells-span (out-Message x).span)))))

of_message_body : (x : MessageBody) → Tells (pointwise message_item.ghosts.eq) (out-MessageBody x).items → Tells message_body.ghosts.eq x
of_message_body x held = tells-alike (message_body_laws.is x)
    (tells-parts (λ (z : MessageBody). (
      (out-MessageBody z).items,
      (
        (out-MessageBody z).extensions,
        (
          (out-MessageBody z).options,
          (out-MessageBody z).reserved,
        ),
      ),
    ))
    (λ p. roll-MessageBody (record { items = p.0; extensions = p.1.0; options = p.1.1.0; reserved = p.1.1.1 })) roll-out-MessageBody x
    (tells-both held (tells-both (tells-list same-Extensions (out-MessageBody x).extensions)
    (tells-both (tells-list same-Option (out-MessageBody x).options) (tells-list same-Reserved (out-MessageBody x).reserved)))))

of_oneof : (x : Oneof) → Tells (pointwise field.ghosts.eq) (out-Oneof x).fields → Tells oneof.ghosts.eq x
of_oneof x held = tells-alike (oneof_laws.is x)
    (tells-parts (λ (z : Oneof). (
      (out-Oneof z).name,
      (
        (out-Oneof z).options,
        (
          (out-Oneof z).fields,
          (
            (out-Oneof z).comments,
            (out-Oneof z).span,
          ),
        ),
      ),
    ))
    (λ p. roll-Oneof (record { name = p.0; options = p.1.0; fields = p.1.1.0; comments = p.1.1.1.0; span = p.1.1.1.1 }))
    roll-out-Oneof x
    (tells-both (same-Ident (out-Oneof x).name) (tells-both (tells-list same-Option (out-Oneof x).options)
    (tells-both held (tells-both (same-Comments (out-Oneof x).comments) (tells-span (out-Oneof x).span))))))

-- of the last part of a variant
tells-last : {A : Type 0} {E : A → A → Bool} {x : A} → Tells E x → Tells (λ (p q : A × Unit {0}). E p.0 q.0) (x, tt)
tells-last e = tells-if (λ q h i. (same e q.0 h i, tt)) (itself e)

-- of a sum
tells-inl : {A B : Type 0} (E : A ⊎ B → A ⊎ B → Bool) (x : A) → Tells (λ (y z : A). E (inl y) (inl z)) x → ((b : B) → E (inl x) (inr b) ≡ false) → Tells E (inl x)
tells-inl {A} {B} E x t apart = tells-if alike (itself t)
  where
    alike : (y : A ⊎ B) → E (inl x) y ≡ true → inl x ≡ y
    alike (inl y) h = ap inl (same t y h)
    alike (inr y) h = absurd (false≢true (sym (apart y) ∙ h))

tells-inr : {A B : Type 0} (E : A ⊎ B → A ⊎ B → Bool) (x : B) → Tells (λ (y z : B). E (inr y) (inr z)) x → ((a : A) → E (inr x) (inl a) ≡ false) → Tells E (inr x)
tells-inr {A} {B} E x t apart = tells-if alike (itself t)
  where
    alike : (y : A ⊎ B) → E (inr x) y ≡ true → inr x ≡ y
    alike (inl y) h = absurd (false≢true (sym (apart y) ∙ h))
    alike (inr y) h = ap inr (same t y h)

abbrev field_kind_choice : Choice field_kind_row.the_parts → Choice field_kind_row.the_parts → Bool
field_kind_choice = by false false field_kind_row.the_parts (λ a b. ty.ghosts.eq a.0 b.0 && (span_eq a.1.0 b.1.0), (λ a b. span_eq a.0 b.0 && (message_body.ghosts.eq a.1.0 b.1.0), (λ a b. span_eq a.0 b.0 && (ty.ghosts.eq a.1.0 b.1.0 && (span_eq a.1.1.0 b.1.1.0 && (ty.ghosts.eq a.1.1.1.0 b.1.1.1.0 && (span_eq a.1.1.1.1.0 b.1.1.1.1.0)))), tt)))

of_field_kind_choice : (c : Choice field_kind_row.the_parts) → Tells field_kind_choice c → Tells field_kind.ghosts.eq (field_kind_row.the_make c)
of_field_kind_choice c t = tells-alike (field_kind_laws.is (field_kind_row.the_make c))
    (tells-parts {E = field_kind_choice} field_kind_row.as_values field_kind_row.the_make field_kind_row.the_eta (field_kind_row.the_make c) (subst (Tells field_kind_choice) (sym (field_kind_row.the_beta c)) t))

of_held-field_kind : (held : Held FieldKind-F) → Tells field_kind.ghosts.eq (roll-FieldKind (map-FieldKind _ _ _ _ _ _ _ _ _ _ _ _ _ _ value_of value_of value_of value_of value_of value_of value_of held))
of_held-field_kind (FieldKind-F.Normal ty ty_span) = subst (Tells field_kind.ghosts.eq) (sym (field_kind_variant.rolls-Normal ty ty_span))
    (of_field_kind_choice (inl (ty, (ty_span, tt))) (tells-inl _ _ (tells-both (same-Ty ty) (tells-last (tells-span ty_span))) (λ b. refl)))
of_held-field_kind (FieldKind-F.Group ty_span body) = subst (Tells field_kind.ghosts.eq) (sym (field_kind_variant.rolls-Group ty_span body.0))
    (of_field_kind_choice (inr (inl (ty_span, (body.0, tt)))) (tells-inr _ _ (tells-inl _ _ (tells-both (tells-span ty_span) (tells-last body.1)) (λ b. refl)) (λ b. refl)))
of_held-field_kind (FieldKind-F.Map ty_span key_ty key_ty_span value_ty value_ty_span) = subst (Tells field_kind.ghosts.eq) (sym (field_kind_variant.rolls-Map ty_span key_ty key_ty_span value_ty value_ty_span))
    (of_field_kind_choice (inr (inr (inl (ty_span, (key_ty, (key_ty_span, (value_ty, (value_ty_span, tt)))))))) (tells-inr _ _ (tells-inr _ _ (tells-inl _ _ (tells-both (tells-span ty_span) (tells-both (same-Ty key_ty) (tells-both (tells-span key_ty_span) (tells-both (same-Ty value_ty) (tells-last (tells-span value_ty_span)))))) (λ b. refl)) (λ b. refl)) (λ b. refl)))

abbrev message_item_choice : Choice message_item_row.the_parts → Choice message_item_row.the_parts → Bool
message_item_choice = by false false message_item_row.the_parts (λ a b. field.ghosts.eq a.0 b.0, (λ a b. enumeration.ghosts.eq a.0 b.0, (λ a b. message.ghosts.eq a.0 b.0, (λ a b. extend.ghosts.eq a.0 b.0, (λ a b. oneof.ghosts.eq a.0 b.0, tt)))))

of_message_item_choice : (c : Choice message_item_row.the_parts) → Tells message_item_choice c → Tells message_item.ghosts.eq (message_item_row.the_make c)
of_message_item_choice c t = tells-alike (message_item_laws.is (message_item_row.the_make c))
    (tells-parts {E = message_item_choice} message_item_row.as_values message_item_row.the_make message_item_row.the_eta (message_item_row.the_make c) (subst (Tells message_item_choice) (sym (message_item_row.the_beta c)) t))

of_held-message_item : (held : Held MessageItem-F) → Tells message_item.ghosts.eq (roll-MessageItem (map-MessageItem _ _ _ _ _ _ _ _ _ _ _ _ _ _ value_of value_of value_of value_of value_of value_of value_of held))
of_held-message_item (MessageItem-F.Field field) = subst (Tells message_item.ghosts.eq) (sym (message_item_variant.rolls-Field field.0))
    (of_message_item_choice (inl (field.0, tt)) (tells-inl _ _ (tells-last field.1) (λ b. refl)))
of_held-message_item (MessageItem-F.Enum enumeration) = subst (Tells message_item.ghosts.eq) (sym (message_item_variant.rolls-Enum enumeration))
    (of_message_item_choice (inr (inl (enumeration, tt))) (tells-inr _ _ (tells-inl _ _ (tells-last (same-Enum enumeration)) (λ b. refl)) (λ b. refl)))
of_held-message_item (MessageItem-F.Message message) = subst (Tells message_item.ghosts.eq) (sym (message_item_variant.rolls-Message message.0))
    (of_message_item_choice (inr (inr (inl (message.0, tt)))) (tells-inr _ _ (tells-inr _ _ (tells-inl _ _ (tells-last message.1) (λ b. refl)) (λ b. refl)) (λ b. refl)))
of_held-message_item (MessageItem-F.Extend extend) = subst (Tells message_item.ghosts.eq) (sym (message_item_variant.rolls-Extend extend.0))
    (of_message_item_choice (inr (inr (inr (inl (extend.0, tt))))) (tells-inr _ _ (tells-inr _ _ (tells-inr _ _ (tells-inl _ _ (tells-last extend.1) (λ b. refl)) (λ b. refl)) (λ b. refl)) (λ b. refl)))
of_held-message_item (MessageItem-F.Oneof oneof) = subst (Tells message_item.ghosts.eq) (sym (message_item_variant.rolls-Oneof oneof.0))
    (of_message_item_choice (inr (inr (inr (inr (inl (oneof.0, tt)))))) (tells-inr _ _ (tells-inr _ _ (tells-inr _ _ (tells-inr _ _ (tells-inl _ _ (tells-last oneof.1) (λ b. refl)) (λ b. refl)) (λ b. refl)) (λ b. refl)) (λ b. refl)))

step-FieldKind : (x : Plain FieldKind-F) (held : Held FieldKind-F) → map-FieldKind _ _ _ _ _ _ _ _ _ _ _ _ _ _ value_of value_of value_of value_of value_of value_of value_of held ≡ x → Tells field_kind.ghosts.eq (roll-FieldKind x)
step-FieldKind x held e = subst (λ (z : Plain FieldKind-F). Tells field_kind.ghosts.eq (roll-FieldKind z)) e (of_held-field_kind held)

step-MessageItem : (x : Plain MessageItem-F) (held : Held MessageItem-F) → map-MessageItem _ _ _ _ _ _ _ _ _ _ _ _ _ _ value_of value_of value_of value_of value_of value_of value_of held ≡ x → Tells message_item.ghosts.eq (roll-MessageItem x)
step-MessageItem x held e = subst (λ (z : Plain MessageItem-F). Tells message_item.ghosts.eq (roll-MessageItem z)) e (of_held-message_item held)

step-Extend : (x : Plain Extend-F) (held : Held Extend-F) → map-Extend _ _ _ _ _ _ _ _ _ _ _ _ _ _ value_of value_of value_of value_of value_of value_of value_of held ≡ x → Tells extend.ghosts.eq (roll-Extend x)
step-Extend x held e = of_extend (roll-Extend x) (subst (λ (z : Plain Extend-F). Tells (pointwise field.ghosts.eq) z.fields) (e ∙ sym (out-roll-Extend x)) (tells-held held.fields))

step-Field : (x : Plain Field-F) (held : Held Field-F) → map-Field _ _ _ _ _ _ _ _ _ _ _ _ _ _ value_of value_of value_of value_of value_of value_of value_of held ≡ x → Tells field.ghosts.eq (roll-Field x)
step-Field x held e = of_field (roll-Field x) (subst (λ (z : Plain Field-F). Tells field_kind.ghosts.eq z.kind) (e ∙ sym (out-roll-Field x)) held.kind.1)

step-Message : (x : Plain Message-F) (held : Held Message-F) → map-Message _ _ _ _ _ _ _ _ _ _ _ _ _ _ value_of value_of value_of value_of value_of value_of value_of held ≡ x → Tells message.ghosts.eq (roll-Message x)
step-Message x held e = of_message (roll-Message x) (subst (λ (z : Plain Message-F). Tells message_body.ghosts.eq z.body) (e ∙ sym (out-roll-Message x)) held.body.1)

step-MessageBody : (x : Plain MessageBody-F) (held : Held MessageBody-F) → map-MessageBody _ _ _ _ _ _ _ _ _ _ _ _ _ _ value_of value_of value_of value_of value_of value_of value_of held ≡ x → Tells message_body.ghosts.eq (roll-MessageBody x)
step-MessageBody x held e = of_message_body (roll-MessageBody x) (subst (λ (z : Plain MessageBody-F). Tells (pointwise message_item.ghosts.eq) z.items) (e ∙ sym (out-roll-MessageBody x)) (tells-held held.items))

step-Oneof : (x : Plain Oneof-F) (held : Held Oneof-F) → map-Oneof _ _ _ _ _ _ _ _ _ _ _ _ _ _ value_of value_of value_of value_of value_of value_of value_of held ≡ x → Tells oneof.ghosts.eq (roll-Oneof x)
step-Oneof x held e = of_oneof (roll-Oneof x) (subst (λ (z : Plain Oneof-F). Tells (pointwise field.ghosts.eq) z.fields) (e ∙ sym (out-roll-Oneof x)) (tells-held held.fields))

pub same-Message : (x : Message) → Tells message.ghosts.eq x
same-Message = ind-Message (Tells field_kind.ghosts.eq) (Tells message_item.ghosts.eq) (Tells extend.ghosts.eq) (Tells field.ghosts.eq) (Tells message.ghosts.eq) (Tells message_body.ghosts.eq) (Tells oneof.ghosts.eq)
    step-FieldKind step-MessageItem step-Extend step-Field step-Message step-MessageBody step-Oneof

pub same-Extend : (x : Extend) → Tells extend.ghosts.eq x
same-Extend = ind-Extend (Tells field_kind.ghosts.eq) (Tells message_item.ghosts.eq) (Tells extend.ghosts.eq) (Tells field.ghosts.eq) (Tells message.ghosts.eq) (Tells message_body.ghosts.eq) (Tells oneof.ghosts.eq)
    step-FieldKind step-MessageItem step-Extend step-Field step-Message step-MessageBody step-Oneof

alike-FileItem : (x y : FileItem) → file_item.ghosts.eq x y ≡ true → x ≡ y
alike-FileItem (file_item_variant.Enum enumeration) (file_item_variant.Enum enumeration') h = ap file_item_variant.Enum (same (same-Enum enumeration) enumeration' h)
alike-FileItem (file_item_variant.Enum enumeration) _ h = absurd (false≢true h)
alike-FileItem (file_item_variant.Message message) (file_item_variant.Message message') h = ap file_item_variant.Message (same (same-Message message) message' h)
alike-FileItem (file_item_variant.Message message) _ h = absurd (false≢true h)
alike-FileItem (file_item_variant.Extend extend) (file_item_variant.Extend extend') h = ap file_item_variant.Extend (same (same-Extend extend) extend' h)
alike-FileItem (file_item_variant.Extend extend) _ h = absurd (false≢true h)
alike-FileItem (file_item_variant.Service service) (file_item_variant.Service service') h = ap file_item_variant.Service (same (same-Service service) service' h)
alike-FileItem (file_item_variant.Service service) _ h = absurd (false≢true h)

itself-FileItem : (x : FileItem) → file_item.ghosts.eq x x ≡ true
itself-FileItem (file_item_variant.Enum enumeration) = itself (same-Enum enumeration)
itself-FileItem (file_item_variant.Message message) = itself (same-Message message)
itself-FileItem (file_item_variant.Extend extend) = itself (same-Extend extend)
itself-FileItem (file_item_variant.Service service) = itself (same-Service service)

pub same-FileItem : (x : FileItem) → Tells file_item.ghosts.eq x
same-FileItem x = tells-if (alike-FileItem x) (itself-FileItem x)

pub same-File : (x : File) → Tells file.ghosts.eq x
same-File x =
    tells-parts (λ (z : File). (z.span, (z.syntax, (z.syntax_span, (z.«package», (z.imports, (z.options, z.items)))))))
    (λ p. record {
      span = p.0;
      syntax = p.1.0;
      syntax_span = p.1.1.0;
      «package» = p.1.1.1.0;
      imports = p.1.1.1.1.0;
      options = p.1.1.1.1.1.0;
      items = p.1.1.1.1.1.1;
    }) (λ z. refl) x
    (tells-both (tells-span x.span) (tells-both (same-Syntax x.syntax) (tells-both (tells-option (tells-pair tells-span same-Comments)
    x.syntax_span) (tells-both (tells-option same-Package x.«package») (tells-both (tells-list same-Import x.imports)
    (tells-both (tells-list same-Option x.options) (tells-list same-FileItem x.items)))))))

use Rattle.std.proofs.Common.{[], List, ℕ, Option, All, None, refl, subst, ◌≡◌, ◌∙◌}
use Rattle.protox_descriptor.specs.FieldDescriptorProto.{FieldDescriptorProto}
use Rattle.protox_link_checks.proofs.Without.{file_extends_nothing}
use Rattle.protox_link_checks.specs.inner.Bare.{ExtendsNothing}
use Rattle.protox_symbols.specs.Scopes.{IsFoundScope}
use Rattle.protox_walk.specs.Declarations.{text_of}
use Rattle.protox_link_checks.proofs.InExtensions.{file_extensions}
use Rattle.protox_link_checks.proofs.extensions.extensions_of.Goals as goal

pub returns : goal.returns
returns c =
    let view = c.args.view.now in
    let file = c.args.file.now in
    let scope = subst (λ (read : Option (List ℕ)). IsFoundScope view.symbols.now (text_of read) c.inside-scope.result) c.as_ref.ensures.value (c.inside-scope.ensures [] (record { known = tt; named = refl })) in
    file_extensions view.symbols.now view.sees.now view.packages file c.new-made.result.items c.add_messages.new.made.items c.add_fields.new.made.items c.new-made.ensures.items
    (rw (← c.as_slice-messages.ensures) (c.in_ok-add_messages.ensures (text_of file.«package») scope))
    (rw (← c.as_slice-extensions.ensures) (c.in_ok-add_fields.ensures (text_of file.«package») scope))

pub returns-then-not-may_hold_extensions : goal.returns-then-not-may_hold_extensions
returns-then-not-may_hold_extensions c =
    let view = c.args.view.now in
    c.new-made.ensures.items
    ∙ file_extends_nothing view.symbols.now view.sees.now view.packages c.args.file.now
    (subst (All (λ (field : FieldDescriptorProto). field.extendee ≡ None)) c.as_slice-extensions.ensures (c.may_extend.ensures c.if-not-may_extend.true))
    (subst (All ExtendsNothing) c.as_slice-messages.ensures (c.may_hold_extensions.ensures c.if-not-may_hold_extensions.true))

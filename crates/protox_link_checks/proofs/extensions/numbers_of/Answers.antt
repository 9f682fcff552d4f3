use Rattle.std.proofs.Common.{◌≡◌, ◌∙◌, [], ℕ, List, Some, IfNone, ap, subst, sym}
use Rattle.std.specs.Option.{option_copied}
use Rattle.protox_descriptor.specs.FieldDescriptorProto.{FieldDescriptorProto}
use Rattle.protox_link_checks.specs.Extensions.{extension_in}
use Rattle.protox_link_checks.proofs.Extending.{in_no_scope, named_in, numbered_in, with_both, without_message, without_number}
use Rattle.protox_name_tree.specs.Tree.{name_in, number_of}
use Rattle.protox_names.proofs.Lemmas.{identifiers_are_one_part}
use Rattle.protox_names.specs.Names.{is_identifier}
use Rattle.protox_symbols.specs.Scopes.{IsFoundScope}
use Rattle.protox_walk.specs.Declarations.{Path, full_name, text_of}
use Rattle.protox_link_checks.proofs.extensions.numbers_of.Goals as goal

pub returns-in_err-scope-clause-none : goal.returns-in_err-scope-clause-none
returns-in_err-scope-clause-none c =
    let view = c.args.view.now in
    let field = c.args.field.now in
    subst (λ r. IfNone r ((full : List ℕ) (path : Path) → IsFoundScope view.symbols.now full c.args.scope → extension_in view.symbols.now view.sees.now view.packages path (full_name full field.name) field ≡ [])) (sym c.from_residual-in_err-scope.ensures)
    (λ full path h. in_no_scope view.symbols.now view.sees.now view.packages path full field c.args.scope c.in_err-scope.was h)

pub word-requires : goal.word-requires
word-requires c = identifiers_are_one_part c.text_of-name.result.now (sym c.if-not-is_identifier.ensures)

pub returns-in_err-own-clause-none : goal.returns-in_err-own-clause-none
returns-in_err-own-clause-none c =
    let view = c.args.view.now in
    let t = view.symbols.now in
    let field = c.args.field.now in
    let named = c.text_of-name.ensures ∙ ap text_of (c.as_ref.ensures.value ∙ ap (λ (f : FieldDescriptorProto). f.name) c.field.view_is) in
    let at = c.find.ensures
    ∙ ap (λ tree. number_of tree (name_in tree c.in_ok-scope.scope c.word.result.name)) c.word.ensures.tree
    ∙ ap (λ name. number_of t.names (name_in t.names c.in_ok-scope.scope name)) c.word.ensures.name in
    subst (λ r. IfNone r ((full : List ℕ) (path : Path) → IsFoundScope t full c.args.scope → extension_in t view.sees.now view.packages path (full_name full field.name) field ≡ [])) (sym c.from_residual-in_err-own.ensures)
    (λ full path h. without_number t view.sees.now view.packages path full field
    (numbered_in t c.in_ok-scope.scope c.args.scope full c.text_of-name.result.now field.name c.find.result c.in_ok-scope.was named at h ∙ c.in_err-own.was))

pub returns-in_err-message-clause-none : goal.returns-in_err-message-clause-none
returns-in_err-message-clause-none c =
    let view = c.args.view.now in
    let t = view.symbols.now in
    let field = c.args.field.now in
    let named = c.text_of-name.ensures ∙ ap text_of (c.as_ref.ensures.value ∙ ap (λ (f : FieldDescriptorProto). f.name) c.field.view_is) in
    let one = identifiers_are_one_part c.text_of-name.result.now (sym c.if-not-is_identifier.ensures) in
    subst (λ r. IfNone r ((full : List ℕ) (path : Path) → IsFoundScope t full c.args.scope → extension_in t view.sees.now view.packages path (full_name full field.name) field ≡ [])) (sym c.from_residual-in_err-message.ensures)
    (λ full path h. without_message t view.sees.now view.packages path full field (Some c.as_str.result.now) (sym c.extendee.ensures ∙ ap option_copied c.in_ok-extendee.was ∙ ap Some (sym c.as_str.ensures))
    (named_in t view.sees.now view.packages c.in_ok-scope.scope c.args.scope full c.text_of-name.result.now c.as_str.result.now field.name c.message_named.result c.in_ok-scope.was named (c.message_named.ensures c.text_of-name.result.now one) h ∙ c.in_err-message.was))

pub returns-clause-some : goal.returns-clause-some
returns-clause-some c full path h =
    let view = c.args.view.now in
    let t = view.symbols.now in
    let field = c.args.field.now in
    let named = c.text_of-name.ensures ∙ ap text_of (c.as_ref.ensures.value ∙ ap (λ (f : FieldDescriptorProto). f.name) c.field.view_is) in
    let good = sym c.if-not-is_identifier.ensures in
    let one = identifiers_are_one_part c.text_of-name.result.now good in
    let at = c.find.ensures
    ∙ ap (λ tree. number_of tree (name_in tree c.in_ok-scope.scope c.word.result.name)) c.word.ensures.tree
    ∙ ap (λ name. number_of t.names (name_in t.names c.in_ok-scope.scope name)) c.word.ensures.name in
    with_both t view.sees.now view.packages path full field c.as_str.result.now c.in_ok-own.own c.in_ok-message.message
    (ap is_identifier (sym named) ∙ good) (sym c.extendee.ensures ∙ ap option_copied c.in_ok-extendee.was ∙ ap Some (sym c.as_str.ensures))
    (numbered_in t c.in_ok-scope.scope c.args.scope full c.text_of-name.result.now field.name c.find.result c.in_ok-scope.was named at h ∙ c.in_ok-own.was)
    (named_in t view.sees.now view.packages c.in_ok-scope.scope c.args.scope full c.text_of-name.result.now c.as_str.result.now field.name c.message_named.result c.in_ok-scope.was named (c.message_named.ensures c.text_of-name.result.now one) h ∙ c.in_ok-message.was)

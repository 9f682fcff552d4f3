-- Extensions, from what was looked up.
use Rattle.std.proofs.Common.{◌≡◌, ℕ, Bool, true, false, cond, List, OnOk, Result, [], ◌∷◌, ◌++◌, append-nil, append_assoc, Option, Some, None, refl, sym, ap, subst, ◌∙◌}
use Rattle.std.specs.Option.{option_and_then}
use Rattle.std.proofs.lemmas.Result.{on_ok_weaker}
use Rattle.std.specs.Prelude.{ℤ}
use Rattle.protox_descriptor.specs.FieldDescriptorProto.{FieldDescriptorProto}
use Rattle.protox_link_checks.proofs.Named.{in_scope}
use Rattle.protox_link_checks.specs.Extensions.{extension_in, message_named, numbered_extension}
use Rattle.protox_link_checks.specs.declared.extensions.Extension.{Extension}
use Rattle.protox_name_tree.specs.Tree.{name_in, number_of}
use Rattle.protox_names.specs.Names.{is_identifier}
use Rattle.protox_symbols.proofs.Lemmas.{no_inner_scope}
use Rattle.protox_symbols.specs.Scopes.{IsFoundScope, IsMissing}
use Rattle.protox_symbols.specs.Symbols.{Table}
use Rattle.protox_walk.specs.Declarations.{Path, full_name, text_of}

nothing : {A : Type 0} (b : Bool) → cond {A = List A} b [] [] ≡ []
nothing true = refl
nothing false = refl

extends_nothing : (path : Path) (number : Option ℤ) (own : Option ℕ) → numbered_extension path number own None ≡ []
extends_nothing path number (Some own) = refl
extends_nothing path number None = refl

module _ (t : Table) (sees packages : List Bool) (path : Path) (full : List ℕ) (field : FieldDescriptorProto) where
  abbrev made : Option ℕ → Option ℕ → List Extension
  made own message = cond (is_identifier (text_of field.name)) (numbered_extension path field.number own message) []

  abbrev extended : Option (List ℕ) → Option ℕ
  extended extendee = option_and_then (message_named t sees packages (full_name full field.name)) extendee

  abbrev is : Type 0
  is = extension_in t sees packages path (full_name full field.name) field ≡ []

  -- The table has no number for it.
  pub without_number : number_of t.names (full_name full field.name) ≡ None → is
  without_number none = ap (λ own. made own (extended field.extendee)) none ∙ nothing (is_identifier (text_of field.name))

  pub in_no_scope : (scope : Option (Option ℕ)) → scope ≡ None → IsFoundScope t full scope → is
  in_no_scope scope none h =
      let missing : IsMissing t full = subst (IsFoundScope t full) none h in
      without_number (no_inner_scope t full field.name missing).none

  -- It extends no message.
  pub without_message : (extendee : Option (List ℕ)) → field.extendee ≡ extendee → extended extendee ≡ None → is
  without_message extendee same none =
      ap (λ message. made (number_of t.names (full_name full field.name)) message) (ap extended same ∙ none)
      ∙ ap (λ es. cond (is_identifier (text_of field.name)) es []) (extends_nothing path field.number (number_of t.names (full_name full field.name)))
      ∙ nothing (is_identifier (text_of field.name))

  pub with_both : (extendee : List ℕ) (own message : ℕ) → is_identifier (text_of field.name) ≡ true → field.extendee ≡ Some extendee
      → number_of t.names (full_name full field.name) ≡ Some own → message_named t sees packages (full_name full field.name) extendee ≡ Some message
      → extension_in t sees packages path (full_name full field.name) field ≡ record { message = message; own = own; number = field.number; path = path } ∷ []
  with_both extendee own message good same numbered named =
      ap (λ b. cond b (numbered_extension path field.number (number_of t.names (full_name full field.name)) (extended field.extendee)) []) good
      ∙ ap (λ n. numbered_extension path field.number n (extended field.extendee)) numbered
      ∙ ap (λ m. numbered_extension path field.number (Some own) m) (ap extended same ∙ named)

-- the number of a name in a scope, by its full name
pub numbered_in : (t : Table) (scope : Option ℕ) (found : Option (Option ℕ)) (full text : List ℕ) (name : Option (List ℕ)) (number : Option ℕ)
    → found ≡ Some scope → text ≡ text_of name → number ≡ number_of t.names (name_in t.names scope text) → IsFoundScope t full found
    → number_of t.names (full_name full name) ≡ number
numbered_in t scope found full text name number some is at h =
    sym (at ∙ ap (number_of t.names) (in_scope t scope full text name (subst (IsFoundScope t full) some h) is))

-- the message that a name stands for, used by what has a name in a scope
pub named_in : (t : Table) (sees packages : List Bool) (scope : Option ℕ) (found : Option (Option ℕ)) (full text extendee : List ℕ) (name : Option (List ℕ)) (message : Option ℕ)
    → found ≡ Some scope → text ≡ text_of name → message ≡ message_named t sees packages (name_in t.names scope text) extendee → IsFoundScope t full found
    → message_named t sees packages (full_name full name) extendee ≡ message
named_in t sees packages scope found full text extendee name message some is at h =
    sym (at ∙ ap (λ user. message_named t sees packages user extendee) (in_scope t scope full text name (subst (IsFoundScope t full) some h) is))

-- ---- what is told in steps

module _ {F : Type 0} (start one two : List F) where
  pub two_told : (between after : List F) → between ≡ start ++ one → after ≡ between ++ two → after ≡ start ++ (one ++ (two ++ []))
  two_told between after first second =
      second ∙ ap (λ fs. fs ++ two) first ∙ append_assoc start one two ∙ ap (λ fs. start ++ (one ++ fs)) (sym (append-nil two))

  pub three_told : {T E : Type 0} (r : Result T E) (between last after three : List F) → between ≡ start ++ one → last ≡ between ++ two → OnOk r (after ≡ last ++ three) → OnOk r (after ≡ start ++ (one ++ (two ++ three)))
  three_told r between last after three first second =
      on_ok_weaker r (λ is. is ∙ ap (λ fs. fs ++ three) (second ∙ ap (λ fs. fs ++ two) first ∙ append_assoc start one two) ∙ append_assoc start (one ++ two) three ∙ ap (λ fs. start ++ fs) (append_assoc one two three))

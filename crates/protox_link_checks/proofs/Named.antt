-- Names of declarations, and the scopes that they are.
use Rattle.std.proofs.Common.{◌≡◌, ◌==◌, ℕ, Bool, true, false, cond, List, [], ◌∷◌, ◌++◌, length, Option, Some, None, OnOk, Result, is_some, refl, sym, ap, subst, ◌∙◌, append-nil, append_assoc}
use Rattle.std.proofs.lemmas.Result.{on_ok_weaker}
use Rattle.protox_link_fault.specs.declared.LinkFault.{LinkFault}
use Rattle.protox_link_fault.specs.declared.LinkFaultKind.TheVariants.{AlreadyDefined}
use Rattle.protox_descriptor.specs.declared.tag.message.TheConstants.{NAME}
use Rattle.protox_link_checks.specs.Checked.{MayUse}
use Rattle.protox_link_checks.specs.Faults.{bad_name, clash_faults, faults_named, is_declared_at}
use Rattle.protox_link_checks.specs.Uses.{fault_at}
use Rattle.protox_name_tree.proofs.Lemmas.{known_name, known_some}
use Rattle.protox_name_tree.specs.Tree.{IsNameTree, has_innermost, name_at, name_in, number_of}
use Rattle.protox_names.proofs.Lemmas.{identifiers_are_one_part, scopes_of_one_part, scopes_within}
use Rattle.protox_names.specs.Names.{is_identifier, scopes, within}
use Rattle.protox_symbols.proofs.Lemmas.{IsKept, full_is_within, no_inner_scope, no_scope_in}
use Rattle.protox_symbols.proofs.Lemmas.{no_scope_of, with_number}
use Rattle.protox_symbols.specs.Scopes.{IsFoundScope, IsMissing, IsScopeOf, scope_name}
use Rattle.protox_symbols.specs.Symbols.{Table}
use Rattle.protox_walk.specs.Declarations.{Path, full_name, text_of}

-- ---- scopes

pub inner_missing : (t : Table) (found found' : Option (Option ℕ)) (full : List ℕ) (name : Option (List ℕ)) → found ≡ None → found' ≡ None → IsFoundScope t full found → IsFoundScope t (full_name full name) found'
inner_missing t found found' full name none none' h =
    subst (IsFoundScope t (full_name full name)) (sym none') (no_inner_scope t full name (subst (IsFoundScope t full) none h))

-- a name in a scope, by what the scope is called
pub in_scope : (t : Table) (scope : Option ℕ) (full text : List ℕ) (name : Option (List ℕ)) → IsScopeOf t full scope → text ≡ text_of name → name_in t.names scope text ≡ full_name full name
in_scope t scope full text name h is = ap (λ s. within s text) h.named ∙ ap (within full) is ∙ full_is_within full name

pub inner_found : (t : Table) (tree : IsNameTree t.names) (scope : Option ℕ) (found : Option (Option ℕ)) (full text : List ℕ) (name : Option (List ℕ)) (n : ℕ) (number : Option ℕ)
    → found ≡ Some scope → text ≡ text_of name → number ≡ number_of t.names (name_in t.names scope text) → number ≡ Some n → IsFoundScope t full found → IsScopeOf t (full_name full name) (Some n)
inner_found t tree scope found full text name n number some is find at h =
    let here : IsScopeOf t full scope = subst (IsFoundScope t full) some h in
    with_number t (full_name full name) n tree.names (ap (number_of t.names) (sym (in_scope t scope full text name here is)) ∙ sym find ∙ at)

none_there : (t : Table) (scope : Option ℕ) (full text : List ℕ) (name : Option (List ℕ)) (number : Option ℕ) → IsScopeOf t full scope → text ≡ text_of name → number ≡ number_of t.names (name_in t.names scope text) → number ≡ None → number_of t.names (full_name (scope_name t scope) name) ≡ None
none_there t scope full text name number here is find none =
    ap (λ s. number_of t.names (full_name s name)) here.named ∙ ap (number_of t.names) (sym (in_scope t scope full text name here is)) ∙ sym find ∙ none

kept : (t : Table) (scope : Option ℕ) (full : List ℕ) → IsScopeOf t full scope → IsKept t t scope
kept t scope full here = record { known = here.known; named = refl }

pub none_in_scope : (t : Table) (tree : IsNameTree t.names) (scope : Option ℕ) (found : Option (Option ℕ)) (full text : List ℕ) (name : Option (List ℕ)) (number : Option ℕ)
    → found ≡ Some scope → text ≡ text_of name → number ≡ number_of t.names (name_in t.names scope text) → number ≡ None → is_some scope ≡ true → IsFoundScope t full found → IsMissing t (full_name full name)
none_in_scope t tree scope found full text name number some is find none inner h =
    let here : IsScopeOf t full scope = subst (IsFoundScope t full) some h in
    subst (λ s. IsMissing t (full_name s name)) here.named
    (no_scope_in t t scope name inner (kept t scope full here) tree.names (none_there t scope full text name number here is find none))

pub none_at_top : (t : Table) (tree : IsNameTree t.names) (scope : Option ℕ) (found : Option (Option ℕ)) (full text : List ℕ) (name : Option (List ℕ)) (number : Option ℕ)
    → found ≡ Some scope → text ≡ text_of name → number ≡ number_of t.names (name_in t.names scope text) → number ≡ None → is_some scope ≡ false → (length text == 0) ≡ false → IsFoundScope t full found → IsMissing t (full_name full name)
none_at_top t tree scope found full text name number some is find none top inner h =
    let here : IsScopeOf t full scope = subst (IsFoundScope t full) some h in
    subst (λ s. IsMissing t (full_name s name)) here.named
    (no_scope_of t t scope name top (ap (λ s. length s == 0) (sym is) ∙ inner) tree.names (none_there t scope full text name number here is find none))

-- ---- faults

module _ (t : Table) (sees packages : List Bool) (file : ℕ) (path : Path) where
  pub no_clash : (faults : List LinkFault) (number : Option ℕ) (n : ℕ) → number ≡ Some n → is_declared_at t sees packages file path n ≡ true → faults ≡ faults ++ clash_faults t sees packages file path number
  no_clash faults number n some own =
      sym (append-nil faults)
      ∙ ap (λ b. faults ++ cond b [] (fault_at file path NAME (AlreadyDefined n) ∷ [])) (sym own)
      ∙ ap (λ m. faults ++ clash_faults t sees packages file path m) (sym some)

  pub one_clash : {T E : Type 0} (r : Result T E) (faults faults' : List LinkFault) (number : Option ℕ) (n : ℕ) → number ≡ Some n → is_declared_at t sees packages file path n ≡ false
      → OnOk r (faults' ≡ faults ++ fault_at file path NAME (AlreadyDefined n) ∷ []) → OnOk r (faults' ≡ faults ++ clash_faults t sees packages file path number)
  one_clash r faults faults' number n some other =
      on_ok_weaker r (λ is. is ∙ ap (λ b. faults ++ cond b [] (fault_at file path NAME (AlreadyDefined n) ∷ [])) (sym other) ∙ ap (λ m. faults ++ clash_faults t sees packages file path m) (sym some))

  -- in a scope that the table doesn't have, nothing is looked at but names
  pub not_looked_at : (found : Option (Option ℕ)) (full text : List ℕ) (name : Option (List ℕ)) (faults uses : List LinkFault) → found ≡ None → text ≡ text_of name → is_identifier text ≡ true → IsFoundScope t full found
      → faults ≡ faults ++ faults_named t sees packages file path (full_name full name) (text_of name) uses
  not_looked_at found full text name faults uses none is good h =
      let missing : IsMissing t full = subst (IsFoundScope t full) none h in
      let own : is_identifier (text_of name) ≡ true = ap is_identifier (sym is) ∙ good in
      let around : scopes (full_name full name) ≡ full ∷ scopes full = ap scopes (sym (full_is_within full name)) ∙ scopes_within full (text_of name) missing.some (identifiers_are_one_part (text_of name) own) in
      let rest = clash_faults t sees packages file path (number_of t.names (full_name full name)) ++ uses in
      sym (append-nil faults)
      ∙ ap (λ b. faults ++ cond b rest []) (sym (ap (has_innermost t.names) around ∙ ap is_some missing.none))
      ∙ ap (λ b. faults ++ cond b (cond (has_innermost t.names (scopes (full_name full name))) rest []) (fault_at file path NAME (bad_name (text_of name)) ∷ [])) (sym own)

  has_scope : (tree : IsNameTree t.names) (scope : Option ℕ) (full own : List ℕ) → IsScopeOf t full scope → is_identifier own ≡ true → has_innermost t.names (scopes (within full own)) ≡ true
  has_scope tree None full own here good =
      ap (λ s. has_innermost t.names (scopes (within s own))) (sym here.named)
      ∙ ap (has_innermost t.names) (scopes_of_one_part own (identifiers_are_one_part own good))
  has_scope tree (Some n) full own here good =
      ap (λ s. has_innermost t.names (scopes (within s own))) (sym here.named)
      ∙ ap (has_innermost t.names) (scopes_within (name_at t.names n) own (known_some t.names.full_names n tree.names here.known) (identifiers_are_one_part own good))
      ∙ ap is_some (tree.names.numbered.number_of (name_at t.names n) n (known_name t.names.full_names n here.known))

  -- a good name in a scope of the table
  pub looked_at : (tree : IsNameTree t.names) (scope : Option ℕ) (found : Option (Option ℕ)) (full text : List ℕ) (name : Option (List ℕ)) (number : Option ℕ) (faults faults' : List LinkFault)
      → found ≡ Some scope → text ≡ text_of name → is_identifier text ≡ true → number ≡ number_of t.names (name_in t.names scope text) → faults' ≡ faults ++ clash_faults t sees packages file path number → IsFoundScope t full found
      → MayUse t sees packages file path full name faults faults' scope
  looked_at tree scope found full text name number faults faults' some is good find added h =
      let here : IsScopeOf t full scope = subst (IsFoundScope t full) some h in
      let own : is_identifier (text_of name) ≡ true = ap is_identifier (sym is) ∙ good in
      let innermost : has_innermost t.names (scopes (full_name full name)) ≡ true = ap (λ f. has_innermost t.names (scopes f)) (sym (full_is_within full name)) ∙ has_scope tree scope full (text_of name) here own in
      let same : number ≡ number_of t.names (full_name full name) = find ∙ ap (number_of t.names) (in_scope t scope full text name here is) in
      record {
        named = here.named;
        one = identifiers_are_one_part (text_of name) own;
        behind = λ uses.
            let rest = clash_faults t sees packages file path (number_of t.names (full_name full name)) ++ uses in
            ap (λ b. faults ++ cond b (cond (has_innermost t.names (scopes (full_name full name))) rest []) (fault_at file path NAME (bad_name (text_of name)) ∷ [])) own
            ∙ ap (λ b. faults ++ cond b rest []) innermost
            ∙ sym (append_assoc faults (clash_faults t sees packages file path (number_of t.names (full_name full name))) uses)
            ∙ ap (λ m. (faults ++ clash_faults t sees packages file path m) ++ uses) (sym same)
            ∙ ap (λ f. f ++ uses) (sym added);
      }

use Rattle.std.proofs.Common.{List, ℕ, Some, None, ap, sym, ◌∙◌}
use Rattle.protox_link_text.specs.Told.{defined_in}
use Rattle.protox_link_text.specs.declared.error.LinkError.TheVariants.{AlreadyDefined, AlreadyDefinedIn}
use Rattle.protox_link_text.proofs.Naming.{defined_alone, defined_at}
use Rattle.protox_name_tree.proofs.Lemmas.{cut_last}
use Rattle.protox_names.specs.Names.{scopes}
use Rattle.protox_link_text.proofs.defined.defined_in.Goals as goal

pub returns-in_default : goal.returns-in_default
returns-in_default c =
    let name = c.as_str.result.now in
    ap (λ (n : List ℕ). AlreadyDefined n) (sym c.as_str.ensures)
    ∙ defined_alone name (cut_last name None c.in_default.ensures.cases)
    ∙ ap (λ (n : List ℕ). defined_in n (scopes n)) c.as_str.ensures

pub returns : goal.returns
returns c =
    let name = c.as_str.result.now in
    ap (λ (n : List ℕ). AlreadyDefinedIn n c.in_ok-copy-2.field-0) c.in_ok-copy.ensures.value
    ∙ ap (λ (n : List ℕ). AlreadyDefinedIn c.in-Some.own.now n) c.in_ok-copy-2.ensures.value
    ∙ defined_at name c.in-Some.scope.now c.in-Some.own.now (cut_last name (Some (c.in-Some.scope, c.in-Some.own)) c.in-Some.ensures.cases)
    ∙ ap (λ (n : List ℕ). defined_in n (scopes n)) c.as_str.ensures

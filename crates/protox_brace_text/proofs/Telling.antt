-- What is told of a text in braces.
use Rattle.std.proofs.Common.{◌≡◌, ◌≢◌, ℕ, IfOk, List, Option, Result, [], ap, refl, subst, sym, ◌∙◌}
use Rattle.protox_aggregate.specs.declared.fault.AggregateFault.{AggregateFault}
use Rattle.protox_aggregate.specs.declared.fault.AggregateFaultKind.{AggregateFaultKind}
use Rattle.protox_brace_text.specs.Steps.{found_at, own_pieces}
use Rattle.protox_brace_text.specs.Texts.{IsTold, OfForm, OfMessage, fault_text, form_text, kind_text, step_text}
use Rattle.protox_interpret.specs.Braces.{IsCut}
use Rattle.protox_interpret.specs.declared.fault.StatementFaultKind.{StatementFaultKind}
use Rattle.protox_interpret.specs.declared.fault.StatementFaultKind.TheVariants as kind
use Rattle.protox_interpret.specs.declared.site.Site.{Site}
use Rattle.protox_text_format.specs.Failure.{IsFirst}
use Rattle.protox_text_format.specs.Spelling.{AMessage, Spells, Step}
use Rattle.protox_text_format.specs.declared.fault.TextFault.{TextFault}
use Rattle.protox_text_format.specs.declared.item.Piece.{Piece}

module _ (here : Site) where
  -- the same of a step, of what is found, and of a field that are equal
  pub step_told : {T E : Type 0} (bytes : T → List ℕ) (r : Result T E) (wrong : AggregateFaultKind) (item other : Option Step) (found seen field name : List ℕ)
      → item ≡ other → found ≡ seen → field ≡ name
      → IfOk r (λ text. bytes text ≡ step_text here wrong (own_pieces item) found field)
      → IfOk r (λ text. bytes text ≡ step_text here wrong (own_pieces other) seen name)
  step_told bytes r wrong item other found seen field name same_item same_found same_field told =
      subst (λ (x : Option Step). IfOk r (λ text. bytes text ≡ step_text here wrong (own_pieces x) seen name)) same_item
      (subst (λ (x : List ℕ). IfOk r (λ text. bytes text ≡ step_text here wrong (own_pieces item) x name)) same_found
      (subst (λ (x : List ℕ). IfOk r (λ text. bytes text ≡ step_text here wrong (own_pieces item) found x)) same_field told))

  module _ (text : List ℕ) (fault : StatementFaultKind) (words : List ℕ) (pieces : List Piece) (cut : IsCut text pieces) where
    pub told_fault : (steps : List Step) (found : AggregateFault) → fault ≡ kind.Aggregate found → Spells AMessage 100 pieces steps
        → words ≡ fault_text here pieces steps found → IsTold here text fault words
    told_fault steps found is spelled told =
        subst (IsTold here text fault) (sym (told ∙ ap (kind_text here pieces steps) (sym is))) (OfMessage pieces steps cut spelled)

    -- Of another fault nothing is told.
    no_words : (steps : List Step) (other : StatementFaultKind) → ((found : AggregateFault) → other ≢ kind.Aggregate found) → kind_text here pieces steps other ≡ []
    no_words steps (kind.Name f) h = refl
    no_words steps kind.AlreadySet h = refl
    no_words steps (kind.Value f) h = refl
    no_words steps (kind.Token s) h = refl
    no_words steps (kind.Text f) h = refl
    no_words steps (kind.Aggregate f) h = absurd (h f refl)

    pub told_nothing : (steps : List Step) → ((found : AggregateFault) → fault ≢ kind.Aggregate found) → Spells AMessage 100 pieces steps
        → words ≡ [] → IsTold here text fault words
    told_nothing steps other spelled told =
        subst (IsTold here text fault) (sym (told ∙ sym (no_words steps fault other))) (OfMessage pieces steps cut spelled)

    pub told_form : (found : TextFault) → IsFirst pieces found → words ≡ form_text found.kind (found_at pieces found.piece) → IsTold here text fault words
    told_form found first told = subst (IsTold here text fault) (sym told) (OfForm pieces found cut first)

-- The record of a fault is that of what is wrong at its place.
use Rattle.std.proofs.Common.{◌≡◌, ◌∙◌, ℕ, List, Option, Some, None, ap, refl, subst, sym}
use Rattle.std.specs.Prelude.{slice_get}
use Rattle.protox_descriptor.specs.declared.descriptor.options.UninterpretedOption.{UninterpretedOption}
use Rattle.protox_file_options.specs.Outcomes.{AllSet, HasNoType, IsOutcome, IsSite, OneWrong, Outcome, Wrong, names_of}
use Rattle.protox_file_options.specs.Places.{Place}
use Rattle.protox_file_options.specs.declared.answer.OptionsFault.{OptionsFault}
use Rattle.protox_file_options.specs.declared.answer.PlaceFault.{PlaceFault}
use Rattle.protox_file_options.specs.declared.answer.PlaceFault.TheVariants as fault
use Rattle.protox_interpret.specs.Statements.{IsFirstFault}
use Rattle.protox_interpret.specs.declared.fault.StatementFault.{StatementFault}
use Rattle.protox_interpret.specs.declared.site.Site.{Site}
use Rattle.protox_name_tree.specs.Tree.{number_of}
use Rattle.protox_option_records.specs.OptionRecords.{AStatement, FileAt, IsRecordAt, NoType, statement_record}
use Rattle.protox_option_records.specs.inner.Telling.{IsRecordOf, OfNoType, OfNothing, OfStatement}

module _ (at : FileAt) (place : Place) where
  -- the fault that is told of what is wrong at the place
  abbrev pub told_of : PlaceFault → OptionsFault
  told_of wrong = record {
    path = place.path;
    scope = number_of (names_of at.view) place.scope;
    message = number_of (names_of at.view) place.options;
    fault = wrong;
  }

  same_statement : (a b : StatementFault) → fault.Statement a ≡ fault.Statement b → a ≡ b
  same_statement a b e = cc

  same_wrong : (a b : PlaceFault) → Wrong a ≡ Wrong b → a ≡ b
  same_wrong a b e = cc

  no_none : (x : Option UninterpretedOption) (statement : UninterpretedOption) → x ≡ Some statement → x ≡ None → ⊥
  no_none x statement some none = absurd cc

  -- A statement is wrong, and this is the fault that is told.
  of_statement : (wrong first : StatementFault) (bytes : List ℕ) (here : Site) → IsSite at.view at.files place here
      → IsFirstFault here place.statements first → first ≡ wrong
      → IsRecordOf at place.path place.statements (told_of (fault.Statement wrong)) bytes → IsRecordAt at place (fault.Statement wrong) bytes
  of_statement wrong first _ here site is same (OfNoType e) = absurd cc
  of_statement wrong first _ here site is same (OfNothing other e none) =
      let index : first.index ≡ other.index = ap (λ (w : StatementFault). w.index) (same ∙ same_statement wrong other e) in
      absurd (no_none (slice_get place.statements other.index) is.statement (subst (λ n. slice_get place.statements n ≡ Some is.statement) index is.there) none)
  of_statement wrong first _ here site is same (OfStatement other told statement text e seen there words) =
      let site_told : IsSite at.view at.files place told = record {
        view = seen.view;
        files = seen.files;
        scope = seen.scope;
        message = ap (λ m. Some m) (seen.message here.message (sym site.message)) ∙ site.message;
      } in
      subst (λ (w : StatementFault). IsRecordAt at place (fault.Statement w) (statement_record at place.path other text)) (sym (same_statement wrong other e))
      (AStatement other told statement text site_told there words)

  of_no_type : (bytes : List ℕ) → IsRecordOf at place.path place.statements (told_of fault.NoType) bytes → IsRecordAt at place fault.NoType bytes
  of_no_type _ (OfNoType e) = NoType
  of_no_type _ (OfNothing other e none) = absurd cc
  of_no_type _ (OfStatement other told statement text e seen there words) = absurd cc

  of_outcome : (outcome : Outcome) (wrong : PlaceFault) (bytes : List ℕ) → IsOutcome at.view at.files place outcome → outcome ≡ Wrong wrong
      → IsRecordOf at place.path place.statements (told_of wrong) bytes → IsRecordAt at place wrong bytes
  of_outcome _ wrong bytes (HasNoType none) e told =
      let same : fault.NoType ≡ wrong = same_wrong fault.NoType wrong e in
      subst (λ (w : PlaceFault). IsRecordAt at place w bytes) same
      (of_no_type bytes (subst (λ (w : PlaceFault). IsRecordOf at place.path place.statements (told_of w) bytes) (sym same) told))
  of_outcome _ wrong bytes (AllSet here answer site is) e told = absurd cc
  of_outcome _ wrong bytes (OneWrong here first site is) e told =
      let same : fault.Statement first ≡ wrong = same_wrong (fault.Statement first) wrong e in
      subst (λ (w : PlaceFault). IsRecordAt at place w bytes) same
      (of_statement first first bytes here site is refl (subst (λ (w : PlaceFault). IsRecordOf at place.path place.statements (told_of w) bytes) (sym same) told))

  pub record_at : (wrong : PlaceFault) (bytes : List ℕ) → IsOutcome at.view at.files place (Wrong wrong)
      → IsRecordOf at place.path place.statements (told_of wrong) bytes → IsRecordAt at place wrong bytes
  record_at wrong bytes is told = of_outcome (Wrong wrong) wrong bytes is refl told

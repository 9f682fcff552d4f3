-- A file has no fault that is found while it is read exactly when each of its checked nodes is
-- fine.
use Rattle.std.proofs.Common.{◌≡◌, ◌↔◌, inl, inr, true, false, Bool, List, [], ◌∷◌, refl, sym, ◌∙◌, true≢false}
use Rattle.protox_fault.specs.Faults.{Span}
use Rattle.protox_fault.specs.declared.error.ParseErrorKind.{ParseErrorKind}
use Rattle.protox_fault.specs.declared.error.ParseErrorKind.TheVariants as fault
use Rattle.protox_ast.specs.AstParts.{run_span, strings_value, text_of}
use Rattle.protox_ast.specs.CheckedNodes.{CheckedNode, ASyntax, AnImport, AReservedName, AGroupName, APackageAgain, ATooDeep, checked_nodes}
use Rattle.protox_ast.specs.Checks.{is_group_name, is_ident, is_known_syntax, is_text, is_import_path, package_span, WrongCheckedNode, NothingWrong}
use Rattle.protox_ast.specs.inner.Fine.{IsFine}
use Rattle.protox_ast.specs.Keywords.{Each}
use Rattle.protox_ast.specs.Places.{Place}
use Rattle.protox_ast.specs.Tree as t
use Rattle.protox_ast.proofs.Membership.{Somewhere, somewhere-from, any-from}

true-or : (b : Bool) → (b ≡ false → ⊥) → b ≡ true
true-or true h = refl
true-or false h = absurd (h refl)

never-both : (b : Bool) → b ≡ true → b ≡ false → ⊥
never-both b e f = true≢false (sym e ∙ f)

module _ {M : Type 0} (span : M → Span) where
  -- a node that is fine has no fault
  pub fine-faultless : (node : CheckedNode M) → IsFine node → (wrong : ParseErrorKind) → WrongCheckedNode span node wrong → ⊥
  fine-faultless (ASyntax x) h wrong w = never-both (is_known_syntax (strings_value x)) h w.0
  fine-faultless (AnImport x) h wrong (inl a) = never-both (is_text (strings_value x)) h.0 a.0
  fine-faultless (AnImport x) h wrong (inr b) = never-both (is_import_path (text_of (strings_value x))) h.1 b.0
  fine-faultless (AReservedName x) h wrong (inl a) = never-both (is_text (strings_value x)) h.0 a.0
  fine-faultless (AReservedName x) h wrong (inr b) = never-both (is_ident (text_of (strings_value x))) h.1 b.0
  fine-faultless (AGroupName x) h wrong w = never-both (is_group_name x.0) h w.0
  fine-faultless (APackageAgain first again) h wrong w = h
  fine-faultless (ATooDeep keyword open_at) h wrong w = h

  -- a node without a fault is fine
  pub faultless-fine : (node : CheckedNode M) → ((wrong : ParseErrorKind) → WrongCheckedNode span node wrong → ⊥) → IsFine node
  faultless-fine (ASyntax x) none = true-or (is_known_syntax (strings_value x)) (λ e. none (fault.UnknownSyntax (run_span span x) (text_of (strings_value x))) (e, refl))
  faultless-fine (AnImport x) none = (
    true-or (is_text (strings_value x)) (λ e. none (fault.InvalidUtf8String (run_span span x)) (inl (e, refl))),
    true-or (is_import_path (text_of (strings_value x))) (λ e. none (fault.InvalidImport (run_span span x)) (inr (e, refl))),
  )
  faultless-fine (AReservedName x) none = (
    true-or (is_text (strings_value x)) (λ e. none (fault.InvalidUtf8String (run_span span x)) (inl (e, refl))),
    true-or (is_ident (text_of (strings_value x))) (λ e. none (fault.InvalidIdentifier (run_span span x)) (inr (e, refl))),
  )
  faultless-fine (AGroupName x) none = true-or (is_group_name x.0) (λ e. none (fault.InvalidGroupName (span x.1)) (e, refl))
  faultless-fine (APackageAgain first again) none = none (fault.DuplicatePackage (package_span span first) (package_span span again)) refl
  faultless-fine (ATooDeep keyword open_at) none = none (fault.MessageNestingTooDeep (span keyword)) refl

  abbrev Wrong : ParseErrorKind → CheckedNode M → Type 0
  Wrong wrong node = WrongCheckedNode span node wrong

  all-fine : (nodes : List (CheckedNode M)) → ((wrong : ParseErrorKind) → Somewhere (Wrong wrong) nodes → ⊥) → Each IsFine nodes
  all-fine [] none = tt
  all-fine (node ∷ nodes) none = (faultless-fine node (λ wrong w. none wrong (inl w)), all-fine nodes (λ wrong w. none wrong (inr w)))

  none-wrong : (nodes : List (CheckedNode M)) → Each IsFine nodes → (wrong : ParseErrorKind) → Somewhere (Wrong wrong) nodes → ⊥
  none-wrong [] h wrong w = w
  none-wrong (node ∷ nodes) h wrong (inl w) = fine-faultless node h.0 wrong w
  none-wrong (node ∷ nodes) h wrong (inr w) = none-wrong nodes h.1 wrong w

abbrev span_of : Place → Span
span_of place = place.span

pub nothing-wrong : (f : t.File Place) → NothingWrong f ↔ Each IsFine (checked_nodes f)
nothing-wrong f = (
  λ h. all-fine span_of (checked_nodes f) (λ wrong w. h wrong (any-from (Wrong span_of wrong) (checked_nodes f) w)),
  λ h wrong a. none-wrong span_of (checked_nodes f) h wrong (somewhere-from (Wrong span_of wrong) (checked_nodes f) a),
)

-- A field is read as its kind, behind its label if it has one.
use Rattle.std.proofs.Common.{◌≡◌, ℕ, true, false, cond, [], ◌∷◌, Option, Some, None, Result, Ok, Err, refl, sym, ap, ◌∙◌}
use Rattle.protox_fault.specs.Faults.{Span}
use Rattle.protox_lexeme.specs.Shapes.{Rows}
use Rattle.protox_ast.specs.Places.{Place}
use Rattle.protox_ast.specs.declared.ast.FieldLabel.{FieldLabel}
use Rattle.protox_grammar.specs.Class.{Set, among, in_set}
use Rattle.protox_grammar.specs.Reader.{Refusal, head_in, mapped, seq, ◌>>=◌}
use Rattle.protox_grammar.specs.Token as token
use Rattle.protox_grammar.proofs.Lemmas.{paired, seen_as, then}
use Rattle.protox_rows.specs.inner.Names.{label}
use Rattle.protox_declarations.specs.inner.Bodies.{field, field_at, field_kind_at, labelled_kind}
use Rattle.protox_declarations.specs.inner.Fields.{Kind, field_of}

abbrev labels : Set
labels = among (token.optional ∷ token.required ∷ token.repeated ∷ [])

-- the label with what comes behind it
abbrev given : (FieldLabel × Span) × Kind → Option (FieldLabel × Span) × Kind
given x = (Some x.0, x.1)

-- no label
abbrev bare : Kind → Option (FieldLabel × Span) × Kind
bare x = (None, x)

with_label : (xs : Rows Place) (l : FieldLabel × Span) (r : Result (Kind × Rows Place) Refusal) → (r >>= seen_as (λ k. field_of xs (Some l, k))) ≡ (((r >>= paired l) >>= seen_as given) >>= seen_as (field_of xs))
with_label xs l (Ok k) = refl
with_label xs l (Err e) = refl

without : (xs : Rows Place) (r : Result (Kind × Rows Place) Refusal) → (r >>= seen_as (λ k. field_of xs (None, k))) ≡ ((r >>= seen_as bare) >>= seen_as (field_of xs))
without xs (Ok k) = refl
without xs (Err e) = refl

module _ (n : ℕ) (xs begun : Rows Place) (same : begun ≡ xs) where
  pub labelled-field : (l : FieldLabel × Span) (ys : Rows Place) → head_in (in_set labels) xs ≡ true → (label).code xs ≡ Ok (l, ys) → mapped (λ k. field_of begun (Some l, k)) (field_kind_at n) ys ≡ field_at n xs
  unfolding field labelled_kind
  labelled-field l ys test read =
      ap (λ v. mapped (λ k. field_of v (Some l, k)) (field_kind_at n) ys) same
      ∙ with_label xs l (field_kind_at n ys)
      ∙ ap (λ r. ((r >>= then (field_kind_at n)) >>= seen_as given) >>= seen_as (field_of xs)) (sym read)
      ∙ ap (λ b. cond b (mapped given (seq (label).code (field_kind_at n)) xs) (mapped bare (field_kind_at n) xs) >>= seen_as (field_of xs)) (sym test)

  pub plain-field : head_in (in_set labels) xs ≡ false → mapped (λ k. field_of begun (None, k)) (field_kind_at n) xs ≡ field_at n xs
  unfolding field labelled_kind
  plain-field test =
      ap (λ v. mapped (λ k. field_of v (None, k)) (field_kind_at n) xs) same
      ∙ without xs (field_kind_at n xs)
      ∙ ap (λ b. cond b (mapped given (seq (label).code (field_kind_at n)) xs) (mapped bare (field_kind_at n) xs) >>= seen_as (field_of xs)) (sym test)

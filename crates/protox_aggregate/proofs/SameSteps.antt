-- Steps that are alike say the same.
use Rattle.std.proofs.Common.{◌≡◌, ℕ, suc, ◌+◌, Bool, not, ◌||◌, List, length, Result, Ok, Err, is_some, if◌then◌else◌, refl, ◌∙◌, ap}
use Rattle.protox_aggregate.specs.Aggregates.{Reading, at_step, ends, entries_of, named_field, named_in, nothing_read, said_of, step, steps_from}
use Rattle.protox_aggregate.specs.Anys.{fields_for}
use Rattle.protox_aggregate.specs.Fields.{is_in_proto3}
use Rattle.protox_aggregate.specs.Values.{value_said}
use Rattle.protox_aggregate.specs.declared.fault.AggregateFault.{AggregateFault}
use Rattle.protox_aggregate.specs.declared.fault.AggregateFaultKind.{AggregateFaultKind}
use Rattle.protox_aggregate.specs.declared.fault.AggregateFaultKind.TheVariants as kind
use Rattle.protox_descriptor.specs.declared.descriptor.FileDescriptorProto.{FileDescriptorProto}
use Rattle.protox_lexeme.specs.Shapes.{Shape}
use Rattle.protox_settings.specs.Fields.{message_of_type}
use Rattle.protox_settings.specs.Names.{goes_on}
use Rattle.protox_symbols.specs.Symbols.{Table}
use Rattle.protox_text_format.specs.Alike.{Alike, AreAlike}
use Rattle.protox_text_format.specs.Alike.Alike.{Closes, ListsClose, ListsOpen, Names, Opens, Scalars}
use Rattle.protox_text_format.specs.Alike.AreAlike.{MoreSteps, NoStep}
use Rattle.protox_text_format.specs.Spelling.{Step}

goes_on_same : {A B E : Type 0} (r : Result A E) (f g : A → Result B E) → ((x : A) → f x ≡ g x) → goes_on r f ≡ goes_on r g
goes_on_same (Ok x) f g same = same x
goes_on_same (Err e) f g same = refl

alike_length : (ss us : List Step) → AreAlike ss us → length ss ≡ length us
alike_length ss us NoStep = refl
alike_length ss us (MoreSteps s u more others one alike) = ap suc (alike_length more others alike)

module _ (files : List FileDescriptorProto) (table : Table) (sees packages : List Bool) where
  -- what a value with these shapes says
  says_shapes : Reading → List Shape → Result Reading AggregateFaultKind
  says_shapes reading shapes = goes_on (named_field files table reading.level) (λ f. goes_on
      (if is_some f.0.typed || is_some (message_of_type table f.1) then Err kind.NotMessage
      else if not f.0.colon then Err kind.NoColon
      else value_said files table f.1 (is_in_proto3 files table reading.level.message) shapes)
      (λ value. Ok (said_of reading f.0 (is_in_proto3 files table f.0.number) f.1 value)))

  step_alike : (reading : Reading) (s u : Step) → Alike s u
      → step files table sees packages reading s ≡ step files table sees packages reading u
  unfolding says_shapes
  step_alike reading s u (Names name other colon e) =
      ap (λ (x : List Shape). named_in files table sees packages reading x colon (fields_for files table reading.level.message x)) e
  step_alike reading s u (Scalars value other e) = ap (says_shapes reading) e
  step_alike reading s u Opens = refl
  step_alike reading s u Closes = refl
  step_alike reading s u ListsOpen = refl
  step_alike reading s u ListsClose = refl

  steps_alike : (index : ℕ) (reading : Reading) (ss us : List Step) → AreAlike ss us
      → steps_from files table sees packages index reading ss ≡ steps_from files table sees packages index reading us
  steps_alike index reading ss us NoStep = refl
  steps_alike index reading ss us (MoreSteps s u more others one alike) =
      ap (λ (r : Result Reading AggregateFaultKind). goes_on (at_step index r) (λ next. steps_from files table sees packages (index + 1) next more))
      (step_alike reading s u one)
      ∙ goes_on_same (at_step index (step files table sees packages reading u))
      (λ next. steps_from files table sees packages (index + 1) next more)
      (λ next. steps_from files table sees packages (index + 1) next others)
      (λ next. steps_alike (index + 1) next more others alike)

  pub entries_alike : (message : ℕ) (ss us : List Step) → AreAlike ss us
      → entries_of files table sees packages message ss ≡ entries_of files table sees packages message us
  entries_alike message ss us alike =
      ap (λ (r : Result Reading AggregateFault). goes_on r (λ reading. at_step (length ss) (ends files table reading)))
      (steps_alike 0 (nothing_read files table sees packages message) ss us alike)
      ∙ ap (λ (n : ℕ). goes_on (steps_from files table sees packages 0 (nothing_read files table sees packages message) us) (λ reading. at_step n (ends files table reading)))
      (alike_length ss us alike)

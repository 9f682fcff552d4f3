use Rattle.std.proofs.Common.{rules, ◌≡◌, refl}
use Rattle.std.specs.Prelude.{not}
use Rattle.protox_descriptor.specs.declared.descriptor.source_code_info.Location.{Location}
use Rattle.protox_moved.specs.Moved.{is_part}
use Rattle.protox_moved.proofs.Counts.{kept_by_test}
use Rattle.protox_moved.proofs.steps.drop_parts.Goals as goal

pub returns : goal.returns
returns c =
    kept_by_test _ (λ s. s.0.now ≡ c.args.moves.now)
    (λ (l : Location). not (is_part c.args.moves.now l))
    (λ s x b t same called. search rules) _ _ _ refl c.retain.ensures.filtered

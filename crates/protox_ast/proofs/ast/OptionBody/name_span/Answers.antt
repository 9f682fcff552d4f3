use Rattle.std.proofs.Common.{◌∙◌, ap}
use Rattle.protox_ast.specs.Basics.{join}
use Rattle.protox_ast.specs.Spans.{part_span, parts_span}
use Rattle.protox_ast.proofs.NamePlaces.{between_parts}
use Rattle.protox_ast.proofs.ast.OptionBody.name_span.Goals as goal

pub returns-in-len2-up : goal.returns-in-len2-up
returns-in-len2-up c =
    ap (λ s. join s c.span-in-len2-up-2.result) c.span-in-len2-up.ensures
    ∙ (ap (λ s. join (part_span c.first-item.result) s) c.span-in-len2-up-2.ensures
    ∙ (between_parts c.as_slice.result.now _ _ c.in-len2-up.len_at_least c.first-item.is c.last-item.is ∙ ap parts_span c.as_slice.ensures))

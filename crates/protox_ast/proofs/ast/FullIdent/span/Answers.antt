use Rattle.std.proofs.Common.{◌∙◌, ap}
use Rattle.protox_ast.specs.Names.{name_span}
use Rattle.protox_ast.proofs.NamePlaces.{between_ends}
use Rattle.protox_ast.proofs.ast.FullIdent.span.Goals as goal

pub returns-in-len2-up : goal.returns-in-len2-up
returns-in-len2-up c =
    between_ends c.as_slice.result.now _ _ c.in-len2-up.len_at_least c.first-item.is c.last-item.is ∙ ap name_span (c.as_slice.ensures ∙ c.self.view_is)

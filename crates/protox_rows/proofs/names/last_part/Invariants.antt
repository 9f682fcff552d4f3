use Rattle.std.proofs.Common.{◌≡◌, drop}
use Rattle.protox_ast.specs.Ast.{last_place}
use Rattle.protox_ast.specs.declared.ast.Ident.{Ident}
use Rattle.protox_rows.proofs.names.last_part.Given as goal

abbrev pub invariant-loop-part : goal.invariant-loop-part
invariant-loop-part l = last_place (λ (x : Ident). x.span) l.last (drop l.part-index l.parts) ≡ last_place (λ (x : Ident). x.span) l.fn.first l.parts

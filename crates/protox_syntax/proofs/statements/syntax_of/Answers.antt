use Rattle.std.proofs.Common.{◌≡◌, true, false, codes, ap, ◌∙◌, if◌then◌else◌}
use Rattle.std.specs.Prelude.{bytes_eq}
use Rattle.protox_ast.specs.declared.ast.Syntax.TheVariants.{Proto2, Proto3}
use Rattle.protox_syntax.proofs.statements.syntax_of.Goals as goal

pub returns-then-eq : goal.returns-then-eq
returns-then-eq c =
    let same : true ≡ bytes_eq c.args.value.now (codes "proto3") = c.if-eq.ensures ∙ ap (bytes_eq c.args.value.now) c.as_slice.ensures in
    ap (λ b. if b then Proto3 else Proto2) same

pub returns-else-eq : goal.returns-else-eq
returns-else-eq c =
    let other : false ≡ bytes_eq c.args.value.now (codes "proto3") = c.if-eq.ensures ∙ ap (bytes_eq c.args.value.now) c.as_slice.ensures in
    ap (λ b. if b then Proto3 else Proto2) other

use Rattle.std.proofs.Common.{◌≡◌, ◌||◌, true, false, codes, ap, ◌∙◌}
use Rattle.std.specs.Prelude.{bytes_eq}
use Rattle.protox_syntax.proofs.checks.is_known_syntax.Goals as goal

pub returns-then-eq : goal.returns-then-eq
returns-then-eq c =
    let value = c.args.value.now in
    let first : true ≡ bytes_eq value (codes "proto2") = c.if-eq.ensures ∙ ap (bytes_eq value) c.as_slice.ensures in
    c.if-eq.true ∙ ap (λ b. b || bytes_eq value (codes "proto3")) first

pub returns-else-eq : goal.returns-else-eq
returns-else-eq c =
    let value = c.args.value.now in
    let other : false ≡ bytes_eq value (codes "proto2") = c.if-eq.ensures ∙ ap (bytes_eq value) c.as_slice.ensures in
    let second : c.eq-else-eq.result ≡ bytes_eq value (codes "proto3") = c.eq-else-eq.ensures ∙ ap (bytes_eq value) c.as_slice-else-eq.ensures in
    second ∙ ap (λ b. b || bytes_eq value (codes "proto3")) other

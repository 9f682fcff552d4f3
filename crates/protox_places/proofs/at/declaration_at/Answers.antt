use Rattle.std.proofs.Common.{◌≡◌, None, IfSome, IfNone, ◌∙◌, rules, subst, to_z, of_z}
use Rattle.std.specs.Prelude.{ℤ}
use Rattle.std.specs.Int.{w32}
use Rattle.std.specs.Option.{option_copied}
use Rattle.protox_ast.specs.Basics.{Each}
use Rattle.protox_places.specs.Innermost.{Holds, IsInnermost}
use Rattle.protox_places.specs.inner.Nearer.{best_of}
use Rattle.protox_places.proofs.Nearest.{innermost_of, none_of}
use Rattle.protox_places.proofs.at.declaration_at.Goals as goal

pub returns-clause-innermost : goal.returns-clause-innermost
returns-clause-innermost c =
    let line : to_z w32 (of_z w32 c.args.line) ≡ c.args.line = search rules in
    let column : to_z w32 (of_z w32 c.args.column) ≡ c.args.column = search rules in
    let place : ℤ × ℤ = (c.args.line, c.args.column) in
    let found : option_copied c.nearest.result ≡ best_of place None c.as_slice.result.now =
    c.nearest.ensures ∙ (λ i. best_of (line i, column i) None c.as_slice.result.now) in
    subst (λ xs. IfSome c.nearest.result (λ l. IsInnermost place xs l.now)) c.as_slice.ensures
    (innermost_of place c.as_slice.result.now c.nearest.result found)

pub returns-clause-none : goal.returns-clause-none
returns-clause-none c =
    let line : to_z w32 (of_z w32 c.args.line) ≡ c.args.line = search rules in
    let column : to_z w32 (of_z w32 c.args.column) ≡ c.args.column = search rules in
    let place : ℤ × ℤ = (c.args.line, c.args.column) in
    let found : option_copied c.nearest.result ≡ best_of place None c.as_slice.result.now =
    c.nearest.ensures ∙ (λ i. best_of (line i, column i) None c.as_slice.result.now) in
    subst (λ xs. IfNone c.nearest.result (Each (λ l. Holds place l → ⊥) xs)) c.as_slice.ensures
    (none_of place c.as_slice.result.now c.nearest.result found)

use Rattle.std.proofs.Common.{◌≡◌, List, map, subst, rules, to_z, of_z}
use Rattle.std.specs.Prelude.{IfOk, Some, ℤ}
use Rattle.std.specs.Int.{w32}
use Rattle.protox_ast.proofs.Lemmas.{extend-gives}
use Rattle.protox_ast.specs.Steps.{of_field}
use Rattle.protox_ast.specs.declared.ast.Extend.{out-Extend}
use Rattle.protox_ast.specs.declared.ast.Field.{Field}
use Rattle.protox_locate.specs.FieldLocations.{OfField}
use Rattle.protox_places.specs.Lines.{numbers_at}
use Rattle.protox_locate.specs.Locations.{location_steps}
use Rattle.protox_locate.specs.inner.Walk.{Numbers}
use Rattle.protox_locate.proofs.fields.extensions_in.Goals as goal

pub returns : goal.returns
returns c =
    let steps = location_steps (numbers_at c.args.lines.now) in
    let named = λ (tag : ℤ) (fields : List Field). IfOk c.number_extensions.result (λ next.
    Numbers c.args.context.now c.number_extensions.new.context tag c.args.first next (map (λ (f : OfField). f.own (Some (out-Extend c.args.ast.now).extendee)) (map (of_field steps) fields))) in
    let same : to_z w32 (of_z w32 c.args.tag) ≡ c.args.tag = search rules in
    record {
      siblings = rw (extend-gives steps c.args.ast.now)
          (subst (λ (fields : List Field). named c.args.tag fields) c.as_slice-fields.ensures
          (subst (λ (tag : ℤ). named tag c.as_slice-fields.result.now) same c.number_extensions.ensures.siblings));
    }

use Rattle.std.proofs.Common.{fold, Some, None, lit<, refl, sym, ap, subst, ◌∙◌, rules}
use Rattle.std.proofs.lemmas.Str.Pattern.{split_parts}
use Rattle.protox_names.specs.Names.{within}
use Rattle.protox_names.proofs.Lemmas.{one_part}
use Rattle.protox_name_tree.specs.Tree.{name_at, number_of}
use Rattle.protox_name_tree.proofs.Lemmas.{known_some, some_scope}
use Rattle.protox_symbols.specs.Scopes.{IsMissing, scope_name}
use Rattle.protox_symbols.specs.Things.{with_entry}
use Rattle.protox_symbols.proofs.Found.{with_number}
use Rattle.protox_symbols.proofs.Packages.{all_left, last_added, left, missing_behind, none_left, part_added, part_made, whole_behind, whole_within}
use Rattle.protox_symbols.proofs.symbols.Symbols.declare_package.Goals as goal

pub loop-part-init : goal.loop-part-init
loop-part-init c = record {
  text = search rules;
  whole = refl;
  completes = ap (fold with_entry c.args.self.now) (all_left c.args.file c.args.name.now (some_scope c.args.name.now (sym c.is_empty.ensures ∙ c.if-is_empty.false)));
}

pub loop-part-preserved : goal.loop-part-preserved
loop-part-preserved c =
    let before = c.loop-part.self in
    let after = c.declare_in.new.self in
    let scope = scope_name before c.loop-part.scope in
    let part = c.in-Some.part.now in
    let more = c.in-Some.more.now in
    let rest = c.loop-part.rest.now in
    let at = split_parts 46 rest (Some (c.in-Some.part, c.in-Some.more)) c.in-Some.ensures.cases (lit< tt) in
    let here = with_number after (within scope part) c.in-Some-2.number c.in_ok-number.ensures.tree.names (sym c.in_ok-number.ensures.number ∙ c.in-Some-2.is) in
    let name = name_at after.names c.in-Some-2.number in
    let some = known_some after.names.full_names c.in-Some-2.number c.in_ok-number.ensures.tree.names here.known in
    let made = part_made c.args.file before after (within scope part) c.new-path.result c.new-path.ensures c.in_ok-number.ensures.declared in
    record {
      text = search rules;
      whole = whole_within scope part more rest c.args.name.now name at.0 c.loop-part.invariant.whole here.named some;
      completes =
          part_added c.args.file before after scope part more name (one_part part at.1) made here.named some
          ∙ ap (λ r. fold with_entry before (left c.args.file scope r)) (sym at.0) ∙ c.loop-part.invariant.completes;
    }

pub returns-in_default-2-clause-declared : goal.returns-in_default-2-clause-declared
returns-in_default-2-clause-declared c =
    let before = c.loop-part.self in
    let after = c.declare_in.new.self in
    let scope = scope_name before c.loop-part.scope in
    let part = c.in-Some.part.now in
    let at = split_parts 46 c.loop-part.rest.now (Some (c.in-Some.part, c.in-Some.more)) c.in-Some.ensures.cases (lit< tt) in
    none_left c.args.file before after scope part c.in-Some.more.now (one_part part at.1)
    (part_made c.args.file before after (within scope part) c.new-path.result c.new-path.ensures c.in_ok-number.ensures.declared)
    c.in_ok-number.ensures.tree.names (sym c.in_ok-number.ensures.number ∙ c.in_default-2.is)
    ∙ ap (λ r. fold with_entry before (left c.args.file scope r)) (sym at.0) ∙ c.loop-part.invariant.completes

pub returns-in_default-2-clause-scope : goal.returns-in_default-2-clause-scope
returns-in_default-2-clause-scope c =
    let after = c.declare_in.new.self in
    let scope = scope_name c.loop-part.self c.loop-part.scope in
    let part = c.in-Some.part.now in
    let at = split_parts 46 c.loop-part.rest.now (Some (c.in-Some.part, c.in-Some.more)) c.in-Some.ensures.cases (lit< tt) in
    subst (IsMissing after) (whole_behind scope part c.in-Some.more.now c.loop-part.rest.now c.args.name.now at.0 c.loop-part.invariant.whole)
    (missing_behind after (within scope part) c.in-Some.more.now c.in_ok-number.ensures.tree.names (sym c.in_ok-number.ensures.number ∙ c.in_default-2.is))

pub returns-in-Some-3-clause-declared : goal.returns-in-Some-3-clause-declared
returns-in-Some-3-clause-declared c =
    let before = c.loop-part.self in
    let after = c.declare_in-2.new.self in
    let scope = scope_name before c.loop-part.scope in
    let rest = c.loop-part.rest.now in
    last_added c.args.file before after scope rest (one_part rest (split_parts 46 rest None c.in_default.ensures.cases (lit< tt)))
    (part_made c.args.file before after (within scope rest) c.new-path-2.result c.new-path-2.ensures c.in_ok-number-2.ensures.declared)
    ∙ c.loop-part.invariant.completes

pub returns-in-Some-3-clause-scope : goal.returns-in-Some-3-clause-scope
returns-in-Some-3-clause-scope c =
    with_number c.declare_in-2.new.self c.args.name.now c.in-Some-3.number c.in_ok-number-2.ensures.tree.names
    (ap (number_of c.declare_in-2.new.self.names) (sym c.loop-part.invariant.whole) ∙ sym c.in_ok-number-2.ensures.number ∙ c.in-Some-3.is)

pub returns-in-None-clause-declared : goal.returns-in-None-clause-declared
returns-in-None-clause-declared c =
    let before = c.loop-part.self in
    let after = c.declare_in-2.new.self in
    let scope = scope_name before c.loop-part.scope in
    let rest = c.loop-part.rest.now in
    last_added c.args.file before after scope rest (one_part rest (split_parts 46 rest None c.in_default.ensures.cases (lit< tt)))
    (part_made c.args.file before after (within scope rest) c.new-path-2.result c.new-path-2.ensures c.in_ok-number-2.ensures.declared)
    ∙ c.loop-part.invariant.completes

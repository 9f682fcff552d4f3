use Rattle.std.proofs.Common.{Some, sym, ap, ◌∙◌, rules}
use Rattle.std.specs.Option.{option_and_then}
use Rattle.protox_names.specs.Names.{parts, within}
use Rattle.protox_names.specs.Tree.{walk}
use Rattle.protox_name_tree.specs.Tree.{number_of}
use Rattle.protox_name_tree.proofs.FullNames.{found_known}
use Rattle.protox_name_tree.proofs.Walked.{child, cut, walk_finds, walk_step}
use Rattle.protox_name_tree.proofs.tree.NameTree.find.Goals as goal

pub loop-part-init : goal.loop-part-init
loop-part-init c = record {
  text = search rules;
  known = c.known-place.ensures.known;
  walked =
      walk_finds c.args.self.now.full_names c.known-place.result c.args.name.now c.known-place.ensures.tree.names c.known-place.ensures.known
      ∙ ap (λ scope. number_of c.args.self.now (within scope c.args.name.now)) c.known-place.ensures.name;
}

pub child-requires-clause-one_part : goal.child-requires-clause-one_part
child-requires-clause-one_part c = c.in-Some.ensures.one_part

pub returns-in_err-child : goal.returns-in_err-child
returns-in_err-child c =
    let at = cut c.loop-part.rest.now c.in-Some.part.now c.in-Some.more.now c.in-Some.ensures.one_part c.in-Some.ensures.whole in
    let names = c.args.self.now.full_names in
    c.from_residual.ensures
    ∙ ap (option_and_then (λ n. walk (child names) (Some n) (parts c.in-Some.more.now))) (sym c.in_err-child.was)
    ∙ sym (walk_step names c.loop-part.place c.loop-part.rest.now c.in-Some.part.now c.in-Some.more.now c.child.result at c.child.ensures)
    ∙ c.loop-part.invariant.walked

pub loop-part-smaller : goal.loop-part-smaller
loop-part-smaller c = (cut c.loop-part.rest.now c.in-Some.part.now c.in-Some.more.now c.in-Some.ensures.one_part c.in-Some.ensures.whole).shorter

pub loop-part-preserved : goal.loop-part-preserved
loop-part-preserved c =
    let at = cut c.loop-part.rest.now c.in-Some.part.now c.in-Some.more.now c.in-Some.ensures.one_part c.in-Some.ensures.whole in
    let names = c.args.self.now.full_names in
    record {
      text = search rules;
      known = found_known names _ c.in_ok-child.field-0 (sym c.child.ensures ∙ c.in_ok-child.was);
      walked =
          ap (option_and_then (λ n. walk (child names) (Some n) (parts c.in-Some.more.now))) (sym c.in_ok-child.was)
          ∙ sym (walk_step names c.loop-part.place c.loop-part.rest.now c.in-Some.part.now c.in-Some.more.now c.child.result at c.child.ensures)
          ∙ c.loop-part.invariant.walked;
    }

pub child-requires-2-clause-one_part : goal.child-requires-2-clause-one_part
child-requires-2-clause-one_part c = c.in_default.ensures.none

pub returns : goal.returns
returns c =
    c.child-2.ensures
    ∙ sym (walk_finds c.args.self.now.full_names c.loop-part.place c.loop-part.rest.now c.known-place.ensures.tree.names c.loop-part.invariant.known)
    ∙ c.loop-part.invariant.walked

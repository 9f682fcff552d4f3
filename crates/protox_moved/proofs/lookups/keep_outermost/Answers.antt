use Rattle.std.proofs.Common.{◌≡◌, ap, rules, subst, sym, ◌∙◌}
use Rattle.std.specs.List.{dedup, list_any}
use Rattle.std.proofs.lemmas.Fn.{dedup_same}
use Rattle.protox_moved.specs.declared.Move.{Move}
use Rattle.protox_moved.specs.Moved.{is_below, new_path}
use Rattle.protox_moved.specs.inner.Sorting.{AreApart, AreByStart}
use Rattle.protox_moved.proofs.Outermost.{covered, kept-apart, kept-parts, kept-paths, kept-sorted}
use Rattle.protox_moved.proofs.lookups.keep_outermost.Goals as goal

pub returns : goal.returns
returns c =
    let old = c.args.moves.now.items in
    let is : c.dedup_by.new.self.items ≡ dedup covered old =
    dedup_same _ covered _ (λ x y b f' x' y' k. search rules) _ _ c.dedup_by.ensures.filtered in
    record {
      sorted = subst AreByStart (sym is) (kept-sorted old c.requires);
      apart = subst AreApart (sym is) (kept-apart old c.requires);
      parts = λ path. ap (list_any (λ (m : Move). is_below m.from path)) is ∙ kept-parts old path;
      paths = λ path none. ap (λ ms. new_path ms path) is ∙ kept-paths old path none;
    }

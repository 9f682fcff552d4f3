use Rattle.std.proofs.Common.{List, ℕ, subst}
use Rattle.std.proofs.lemmas.Result.{on_ok_weaker}
use Rattle.std.specs.List.{FoldsTo}
use Rattle.protox_descriptor.specs.declared.descriptor.descriptor_proto.ExtensionRange.{ExtensionRange}
use Rattle.protox_file_options.specs.Places.{place_of_part, ranges_from, ranges_of, scope_around}
use Rattle.protox_walk.proofs.Lemmas.{folds-append}
use Rattle.protox_walk.specs.Parts.{part_of}
use Rattle.protox_file_options.proofs.walking.WalkerVisit.visit.Goals as goal

pub returns : goal.returns
returns g c =
    let takes = g.P.TakePlaces.takes in
    let path = c.args.path.now in
    let part = part_of c.args.part in
    let a = c.args.self.now.to in
    let b = c.take_part.new.self.to in
    let scope_is = c.scope_around-scope.ensures in
    let front : FoldsTo takes a (place_of_part path (scope_around c.args.full_name.now) part) b =
    subst (λ (s : List ℕ). FoldsTo takes a (place_of_part path s part) b) scope_is c.in_ok-take_part.ensures in
    on_ok_weaker c.take_ranges.result
    (λ back. folds-append takes a (place_of_part path (scope_around c.args.full_name.now) part) b
    (ranges_from path (scope_around c.args.full_name.now) 0 (ranges_of part)) c.take_ranges.new.self.to front
    (subst (λ (s : List ℕ). FoldsTo takes b (ranges_from path s 0 (ranges_of part)) c.take_ranges.new.self.to) scope_is
    (subst (λ (rs : List ExtensionRange). FoldsTo takes b (ranges_from path c.scope_around-scope.result.now 0 rs) c.take_ranges.new.self.to) c.ranges_of.ensures back)))
    c.take_ranges.ensures

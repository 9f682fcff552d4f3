use Rattle.std.proofs.Common.{List, ℕ, [], ◌∷◌, subst}
use Rattle.std.specs.Prelude.{codes}
use Rattle.std.specs.List.{FoldsTo, flat_map}
use Rattle.std.proofs.lemmas.Result.{on_ok_weaker}
use Rattle.protox_descriptor.specs.declared.descriptor.options.UninterpretedOption.{UninterpretedOption}
use Rattle.protox_descriptor.specs.declared.tag.file.TheConstants as file_tag
use Rattle.protox_file_options.specs.Places.{place_if_any, place_of_file, places_at, statements_of_file}
use Rattle.protox_file_options.proofs.Taking.{all_taken}
use Rattle.protox_walk.proofs.Lemmas.{folds-append}
use Rattle.protox_walk.specs.Declarations.{file_declarations}
use Rattle.protox_file_options.proofs.walking.take_all.Goals as goal

pub returns : goal.returns
returns g c =
    let takes = g.P.TakePlaces.takes in
    let file = c.args.file.now in
    let a = c.args.walker.now.to in
    let b = c.walk.new.visitor.to in
    let end = c.take_place.new.self.to in
    let front : FoldsTo takes a (flat_map places_at (file_declarations file)) b =
    all_taken takes (λ w. w.to) places_at c.args.walker.now c.walk.new.visitor (file_declarations file) c.in_ok-walk.ensures in
    on_ok_weaker c.take_place.result
    (λ back. folds-append takes a (flat_map places_at (file_declarations file)) b (place_of_file file) end front
    (subst (λ (name : List ℕ). FoldsTo takes b (place_if_any (file_tag.OPTIONS ∷ []) name (codes "google.protobuf.FileOptions") (statements_of_file file)) end) c.package_of.ensures
    (subst (λ (rest : List UninterpretedOption). FoldsTo takes b (place_if_any (file_tag.OPTIONS ∷ []) c.package_of.result.now (codes "google.protobuf.FileOptions") rest) end) c.statements_of_file-statements.ensures back)))
    c.take_place.ensures

use Rattle.std.proofs.Common.{◌≡◌, ap, ◌∙◌, Some}
use Rattle.std.specs.List.{find}
use Rattle.protox_descriptor.specs.declared.descriptor.source_code_info.Location.{Location}
use Rattle.protox_moved.proofs.Finding.{begins, moved_found, moved_none}
use Rattle.protox_moved.proofs.steps.give_path.Goals as goal
use Rattle.protox_moved.proofs.steps.give_path.Goals.{in-InVector-1, in-InPlace-1}

pub returns-in_ok-location-inside : goal.returns-in_ok-location-inside
returns-in_ok-location-inside c =
    let moves = c.args.moves.now in
    let old = c.args.location.now in
    let found = c.in-Some.found.now in
    let to = c.in_ok-location-inside.ensures.value ∙ c.as_slice-in-Some.ensures in
    let is : Some found ≡ find (begins old.path) moves =
    c.in-Some.ensures
    ∙ ap (λ p. find (begins p) moves) (c.as_slice.ensures ∙ ap (λ (l : Location). l.path) c.location.view_is) in
    let whole = ap (λ (l : Location). record l { path = c.in_ok-location-inside.field-0 }) c.location.view_is
    ∙ ap (λ p. record old { path = p }) to ∙ moved_found moves old found is in
    elim c.match-location-branch.branch [
      | in-InVector-1 w ↦ w.location-is ∙ whole
      | in-InPlace-1 w ↦ w.location-is ∙ whole
    ]

pub returns-in_default : goal.returns-in_default
returns-in_default c =
    moved_none c.args.moves.now c.args.location.now
    (c.in_default.ensures
    ∙ ap (λ p. find (begins p) c.args.moves.now)
    (c.as_slice.ensures ∙ ap (λ (l : Location). l.path) c.location.view_is))

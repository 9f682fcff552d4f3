use Rattle.std.proofs.Common.{◌≡◌, get_or, pos, rules, to_z, of_z, w32}
use Rattle.protox_locate.proofs.Joined.{tag_behind_four}
use Rattle.protox_locate.proofs.location_list.tagged.Goals as goal

pub returns-in-len4 : goal.returns-in-len4
returns-in-len4 c =
    let path = c.args.path.now in
    let first : to_z w32 (of_z w32 (get_or path 0 (pos 0))) ≡ get_or path 0 (pos 0) = search rules in
    let second : to_z w32 (of_z w32 (get_or path 1 (pos 0))) ≡ get_or path 1 (pos 0) = search rules in
    let third : to_z w32 (of_z w32 (get_or path 2 (pos 0))) ≡ get_or path 2 (pos 0) = search rules in
    let fourth : to_z w32 (of_z w32 (get_or path 3 (pos 0))) ≡ get_or path 3 (pos 0) = search rules in
    let last : to_z w32 (of_z w32 c.args.tag) ≡ c.args.tag = search rules in
    tag_behind_four path _ c.args.tag _ _ _ _ _ c.in-len4.len_at_least c.in-len4.len_below first second third fourth last c.few-in-len4.ensures

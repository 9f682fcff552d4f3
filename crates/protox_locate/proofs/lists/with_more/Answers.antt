use Rattle.std.proofs.Common.{◌≡◌, ◌+◌, ◌-◌, ◌++◌, length, take, drop, ap, arith, ◌∙◌}
use Rattle.protox_locate.proofs.Draft.{more_in_front}
use Rattle.protox_locate.proofs.lists.with_more.Goals as goal

pub returns : goal.returns
returns c =
    let front = c.args.front in
    let at = c.len.result - c.args.reserved in
    let split = c.in_ok-last.ensures in
    let more = c.requires.more in
    let count = c.len.ensures in
    let same = ap length c.into_vec-first.ensures in
    let held = c.into_vec-first.result.ok in
    let sum : at + c.args.reserved ≡ length front = omega (arith, more, count, same, held) in
    c.from_vec-2.ensures
    ∙ c.in_ok-put_in_front.ensures
    ∙ ap (λ l. c.split_off.new.self.items ++ l) (c.into_vec.ensures ∙ c.replaced-all.ensures ∙ ap (λ l. l ++ drop (length l) c.args.locations) c.from_vec.ensures)
    ∙ more_in_front front _ _ c.args.locations at c.args.reserved (split.items ∙ ap (take at) c.into_vec-first.ensures) (split.tail ∙ ap (drop at) c.into_vec-first.ensures) sum

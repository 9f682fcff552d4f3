use Rattle.std.proofs.Common.{◌≡◌, ◌≤◌, ◌<◌, ◌-◌, ◌∙◌, ℕ, length, get_or, leb, nat_lt, true, sym, arith}
use Rattle.std.proofs.lemmas.Bool.Decides.{nat_tests}
use Rattle.protox_places.proofs.LineFacts.{found-here, below_all}
use Rattle.protox_places.proofs.lines.is_count.Goals as goal
use Rattle.protox_places.proofs.lines.is_count.Goals.{then-count-eq0, else-count-eq0, then-count-starts, else-count-starts}

low : (a o : ℕ) → leb a o ≡ true → a ≤ o
low a o e = grind (arith, nat_tests)

high : (a o : ℕ) → nat_lt o a ≡ true → o < a
high a o e = grind (arith, nat_tests)

pub returns-then-begun-clause-found : goal.returns-then-begun-clause-found
returns-then-begun-clause-found c all_begun =
    let xs = c.args.starts.now in
    let begun : 0 < c.args.count → get_or xs (c.args.count - 1) 0 ≤ c.args.offset = (elim c.if-count-eq0.branch [
      | then-count-eq0 w ↦ λ h. absurd (omega (arith, w.if-count-eq0.true))
      | else-count-eq0 w ↦ λ h. low (get_or xs (c.args.count - 1) 0) c.args.offset (sym w.begun-is ∙ c.if-begun.true)
    ]) in
    let ended : c.args.count < length xs → c.args.offset < get_or xs c.args.count 0 = (elim c.if-count-starts.branch [
      | then-count-starts w ↦ λ h. absurd (omega (arith, w.if-count-starts.true))
      | else-count-starts w ↦ λ h. high (get_or xs c.args.count 0) c.args.offset (sym w.ended-is ∙ all_begun)
    ]) in
    found-here xs c.args.offset c.args.count c.requires (omega arith) begun ended

pub returns-then-begun-clause-small : goal.returns-then-begun-clause-small
returns-then-begun-clause-small c e =
    let f = returns-then-begun-clause-found c e in
    below_all 0 c.args.starts.now c.args.offset c.args.count c.requires f.within f.below

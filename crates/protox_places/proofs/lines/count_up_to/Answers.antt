use Rattle.std.proofs.Common.{◌≡◌, ◌≤◌, ◌<◌, ℕ, get_or, leb, true, false, arith, rules}
use Rattle.std.proofs.lemmas.List.Sorted.{IsPartitionPoint-from_clause}
use Rattle.std.specs.List.Sorted.{IsPartitionedBy}
use Rattle.std.proofs.lemmas.Bool.Decides.{nat_tests}
use Rattle.protox_places.proofs.LineFacts.{rises-up, below_all}
use Rattle.protox_places.proofs.lines.count_up_to.Goals as goal

test : (a b o : ℕ) → a ≤ b → leb b o ≡ true → leb a o ≡ true
test a b o h e = grind (arith, nat_tests)

low : (a o : ℕ) → leb a o ≡ true → a ≤ o
low a o e = grind (arith, nat_tests)

high : (a o : ℕ) → leb a o ≡ false → o < a
high a o e = grind (arith, nat_tests)

pub returns-clause-found : goal.returns-clause-found
returns-clause-found c =
    let xs = c.args.starts.now in
    let o = c.args.offset in
    let parted : IsPartitionedBy (λ x. leb x o) xs = (λ i j d h l e. test (get_or xs i d) (get_or xs j d) o (rises-up 0 xs i j d c.requires h l) e) in
    let point = IsPartitionPoint-from_clause (λ x. leb x o) _ _ c.partition_point.ensures.partitioned parted (λ a r q k. search rules) in
    record {
      within = c.partition_point.ensures.bound;
      below = λ j h. low (get_or xs j 0) o (point.0 j 0 (omega arith) h);
      above = λ j h l. high (get_or xs j 0) o (point.1 j 0 h l);
    }

pub returns-clause-small : goal.returns-clause-small
returns-clause-small c =
    let f = returns-clause-found c in
    below_all 0 c.args.starts.now c.args.offset c.partition_point.result c.requires f.within f.below

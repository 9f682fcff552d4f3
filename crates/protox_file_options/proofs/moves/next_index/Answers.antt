use Rattle.std.proofs.Common.{Some, ap, arith, ◌≡◌, ◌+◌, ◌∙◌}
use Rattle.std.specs.BTreeMap.{get_by}
use Rattle.std.specs.Cmp.Lexicographic.{slice_cmp}
use Rattle.std.specs.Option.{unwrap_or}
use Rattle.std.specs.Ordering.{nat_cmp}
use Rattle.std.proofs.lemmas.Map.Text.{btree_map_updates_str}
use Rattle.protox_file_options.specs.inner.Counts.{count_in}
use Rattle.protox_file_options.proofs.Counting.{counted}
use Rattle.protox_file_options.proofs.moves.next_index.Goals as goal

pub returns-clause-counts : goal.returns-clause-counts
returns-clause-counts c q =
    let counts = c.args.counts.now in
    let next : c.in-Some.next ≡ count_in counts c.args.path.now + 1 = grind arith in
    ap (λ found. unwrap_or found 0)
    (btree_map_updates_str c.args.path.now counts c.insert.new.self (Some c.in-Some.next) c.in_ok-insert.ensures.updates q)
    ∙ counted (λ path. get_by (λ key. slice_cmp nat_cmp path key.now) counts) c.args.path.now q c.in-Some.next next

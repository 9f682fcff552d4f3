use Rattle.std.proofs.Common.{[], ◌++◌}
use Rattle.protox_link_records.specs.LinkRecords.{place_bytes}
use Rattle.protox_records.specs.Records.{counted, number}
use Rattle.protox_link_records.proofs.Chains.{front4}
use Rattle.protox_link_records.proofs.record.push_record.Goals as goal

pub returns : goal.returns
returns c =
    front4 c.args.out.now.items (number c.args.file) (number c.args.kind) (place_bytes c.args.place.now)
    (counted c.args.text.now) (counted [] ++ (counted [] ++ number 0))
    c.in_ok-push_both.ensures c.in_ok-push_place.ensures c.in_ok-push_text.ensures c.in_ok-push_end.ensures

use Rattle.std.proofs.Common.{◌≡◌, ◌++◌, take}
use Rattle.std.specs.List.{flat_map}
use Rattle.protox_link_records.specs.LinkRecords.{error_record}
use Rattle.protox_link_records.proofs.told.push_errors.Given as goal

abbrev pub invariant-loop-error : goal.invariant-loop-error
invariant-loop-error l = l.out.items ≡ l.initial.out.items ++ flat_map (error_record l.file l.place) (take l.error-index l.errors)

use Rattle.std.proofs.Common.{length, subst}
use Rattle.std.specs.List.{AllWithin}
use Rattle.protox_descriptor.specs.declared.descriptor.source_code_info.Location.{Location}
use Rattle.protox_places.specs.Order.{ComesBefore}
use Rattle.protox_places.proofs.First.{first_there}
use Rattle.protox_places.proofs.find.location.Goals as goal

pub returns : goal.returns
returns c =
    let path = c.args.path.now in
    let i = c.count_before-start.result in
    first_there path c.args.info.now.location i _ c.requires
    (subst (λ xs. AllWithin (λ (l : Location). ComesBefore l.path path) xs 0 i) c.as_slice.ensures c.count_before-start.ensures.before)
    (subst (λ xs. AllWithin (λ (l : Location). ComesBefore l.path path → ⊥) xs i (length xs)) c.as_slice.ensures c.count_before-start.ensures.from)
    c.with_path.ensures.some c.with_path.ensures.none

use Rattle.std.proofs.Common.{◌∙◌, length, refl, sym}
use Rattle.std.proofs.lemmas.Bool.{ltb-false, ltb-true}
use Rattle.std.proofs.lemmas.Option.{slice_get_past, slice_get_read}
use Rattle.protox_link_options.proofs.Entries.{entry_there, no_entry}
use Rattle.protox_link_options.proofs.spelling.entry_at.Goals as goal

pub returns-in-Some : goal.returns-in-Some
returns-in-Some c =
    let entries = c.args.entries.now in
    let n = c.args.number in
    let entry = c.in-Some.entry.now in
    c.as_slice.ensures.value
    ∙ sym (entry_there (λ entry. entry.items) entries n entry
    (slice_get_read entries (length entries) n entry refl (ltb-true n (length entries) (sym c.in-Some.ensures.lookup.0)) c.in-Some.ensures.lookup.1))

pub returns-in-None : goal.returns-in-None
returns-in-None c =
    let entries = c.args.entries.now in
    let n = c.args.number in
    sym (no_entry (λ entry. entry.items) entries n (slice_get_past entries n (ltb-false n (length entries) (sym c.in-None.ensures.lookup.0))))

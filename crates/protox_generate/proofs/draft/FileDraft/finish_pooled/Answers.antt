use Rattle.std.proofs.Common.{ℕ, List, [], Some, ap, sym, subst, ◌∙◌}
use Rattle.protox_generate.specs.File.{file_descriptor}
use Rattle.protox_generate.specs.inner.Taken.{ArePlaced}
use Rattle.protox_locate.specs.Locations.{file_at}
use Rattle.protox_places.proofs.Lemmas.{numbers-are}
use Rattle.protox_places.specs.Lines.{numbers_at, starts}
use Rattle.protox_generate.proofs.draft.FileDraft.finish_pooled.Goals as goal

pub returns-clause-whole : goal.returns-clause-whole
unfolding file_descriptor
returns-clause-whole c = λ source items t.
    let whole = record c.args.head.now { items = items } in
    let placed = c.in_ok-lines.ensures items (subst (λ (text : List ℕ). ArePlaced text items c.args.self.places) (sym t.of_source) t.located) in
    let lines = c.in_ok-lines.field-0.lines in
    let are = placed.0 ∙ ap (starts 0) t.of_source in
    let located = c.in_ok-locations.ensures (numbers_at lines) whole placed.1 c.in_ok-front.ensures c.in_ok-end.ensures ∙ ap (λ n. file_at n whole []) (numbers-are source lines are) in
    (λ i. record (c.put_into.ensures i) { source_code_info = Some (record { location = c.in_ok-locations.locations }) })
    ∙ (λ i. record (c.in_ok-file.ensures i) { message_type = t.messages i; enum_type = t.enums i; service = t.services i; extension = t.extensions i; source_code_info = Some (record { location = located i }) })

use Rattle.std.proofs.Common.{◌≡◌, ◌∙◌, ℕ, List, Option, Some, Bool, false, true, Contains, ap, length, length-set, replicate, set, subst, sym, arith}
use Rattle.std.specs.Prelude.{slice_get, ◌↔◌}
use Rattle.std.proofs.lemmas.List.{length-replicate}
use Rattle.protox_imports.specs.Passing.{AreRows}
use Rattle.protox_imports.specs.Rows.{ImportsIn, PassesOnIn}
use Rattle.protox_imports.specs.Sees.{Sees}
use Rattle.protox_imports.proofs.Passing.{seen_made}
use Rattle.protox_imports.proofs.Seeing.{sees_closed, sees_least}
use Rattle.protox_imports.proofs.passes.Passes.seen.Goals as goal

pub add_named-requires-clause-below : goal.add_named-requires-clause-below
add_named-requires-clause-below c = λ g there.
    let files = c.args.imports.now.files in
    let on : ImportsIn files c.args.file g = subst (λ (xs : List (Option ℕ)). Contains xs (Some g)) c.named.ensures there in
    let below = c.args.imports.now.within c.args.file g on in
    omega (arith, below, ap length (c.mark.ensures), length-set c.in_ok-seen.seen c.args.file true, ap length c.in_ok-seen.ensures, length-replicate c.len.result false, c.len.ensures)

pub returns-clause-value : goal.returns-clause-value
returns-clause-value c =
    let files = c.args.imports.now.files in
    let rows = c.deref.result.now in
    let known : AreRows files rows = subst (AreRows files) (sym (c.deref.ensures.value ∙ c.self.view_is)) c.requires.rows in
    seen_made files rows c.args.file c.requires.within c.named.result.now c.mark.new.self c.add_named.new.marks c.named.ensures
    (λ g on. known.row g (c.args.imports.now.within c.args.file g on))
    (c.mark.ensures ∙ ap (λ (marks : List Bool). set marks c.args.file true) (c.in_ok-seen.ensures ∙ ap (λ n. replicate n false) c.len.ensures)) c.add_named.ensures

pub returns-clause-least : goal.returns-clause-least
returns-clause-least c =
    let files = c.args.imports.now.files in
    let rows = c.deref.result.now in
    let known : AreRows files rows = subst (AreRows files) (sym (c.deref.ensures.value ∙ c.self.view_is)) c.requires.rows in
    let all : (h : ℕ) → (slice_get c.add_named.new.marks h ≡ Some true) ↔ Sees (ImportsIn files) (PassesOnIn files) c.args.file h =
    seen_made files rows c.args.file c.requires.within c.named.result.now c.mark.new.self c.add_named.new.marks c.named.ensures
    (λ g on. known.row g (c.args.imports.now.within c.args.file g on))
    (c.mark.ensures ∙ ap (λ (marks : List Bool). set marks c.args.file true) (c.in_ok-seen.ensures ∙ ap (λ n. replicate n false) c.len.ensures)) c.add_named.ensures in
    record {
      closed = sees_closed files c.args.file c.add_named.new.marks c.args.imports.now.among all;
      least = λ holds closed h k. sees_least (ImportsIn files) (PassesOnIn files) c.args.file h holds closed ((all h).0 k);
    }

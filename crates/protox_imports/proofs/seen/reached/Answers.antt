use Rattle.std.proofs.Common.{◌≡◌, ◌∙◌, ap, ℕ, List, Option, Some, false, Contains, length, replicate, subst, sym, arith}
use Rattle.std.proofs.lemmas.Grind.{common_steps}
use Rattle.std.proofs.lemmas.List.{nil_from_length}
use Rattle.protox_imports.specs.Rows.{ImportsIn, PassesOnIn}
use Rattle.protox_imports.specs.inner.Marks.{Marks, IsSeeing}
use Rattle.protox_imports.proofs.Marking.{written_back}
use Rattle.protox_imports.proofs.Seeing.{seeing_starts, seeing_goes_on, next_within, passed_within}
use Rattle.protox_imports.proofs.seen.reached.Goals as goal

pub mark_named-requires : goal.mark_named-requires
mark_named-requires c = λ g h.
    let i : ImportsIn c.args.imports.now.files c.args.file g =
    subst (λ (xs : List (Option ℕ)). Contains xs (Some g)) c.named.ensures h in
    let below = c.args.imports.now.within c.args.file g i in
    omega (arith, below, c.deref_mut.ensures.len, c.in_ok-marks.ensures.len, c.len.ensures)

pub loop-next-init : goal.loop-next-init
loop-next-init c =
    let rows = c.args.imports.now.files in
    let none : c.deref_mut.result.now ≡ replicate (length rows) false =
    c.deref_mut.ensures.value ∙ (c.in_ok-marks.ensures.items_if_clones_equal (λ y h. h)
    ∙ ap (λ n. replicate n false) c.len.ensures) in
    let m : Marks c.deref_mut.result.now c.new-list.result.items (λ g. ImportsIn rows c.args.file g)
    c.mark_named.new.marks c.mark_named.new.list.items =
    subst (λ (xs : List (Option ℕ)). Marks c.deref_mut.result.now c.new-list.result.items (λ g. Contains xs (Some g)) c.mark_named.new.marks c.mark_named.new.list.items)
    c.named.ensures c.in_ok-mark_named.ensures in
    subst (λ ms. IsSeeing rows c.args.file ms c.mark_named.new.list.items)
    (sym (written_back c.in_ok-marks.marks.items c.mark_named.new.marks c.in_ok-marks.marks.len
    (c.in_ok-marks.marks.ok.0) (m.count ∙ ap length c.deref_mut.ensures.value)))
    (seeing_starts rows c.args.file c.deref_mut.result.now c.mark_named.new.marks
    c.new-list.result.items c.mark_named.new.list.items none c.new-list.ensures.items m)

pub public-requires : goal.public-requires
public-requires c =
    next_within c.args.imports.now.files c.args.file c.in-Some.next c.loop-next.marks.items
    c.loop-next.list.items c.pop.new.self.items c.in-Some.ensures.items c.loop-next.invariant

pub mark_all-requires : goal.mark_all-requires
mark_all-requires c = λ g h.
    let rows = c.args.imports.now.files in
    let on : PassesOnIn rows c.in-Some.next g =
    subst (λ (xs : List ℕ). Contains xs g) c.public.ensures h in
    let below = passed_within rows c.in-Some.next g c.args.imports.now.within c.args.imports.now.among on in
    let count = c.loop-next.invariant.count in
    let same = ap length c.deref_mut-in-Some.ensures.value in
    omega (arith, below, count, same)

pub loop-next-preserved : goal.loop-next-preserved
loop-next-preserved c =
    let rows = c.args.imports.now.files in
    let old = c.loop-next.marks.items in
    let m : Marks old c.pop.new.self.items (λ h. PassesOnIn rows c.in-Some.next h)
    c.mark_all.new.marks c.mark_all.new.list.items =
    subst (λ (xs : List ℕ). Marks old c.pop.new.self.items (Contains xs) c.mark_all.new.marks c.mark_all.new.list.items)
    c.public.ensures
    (subst (λ ms. Marks ms c.pop.new.self.items (Contains c.public.result.now) c.mark_all.new.marks c.mark_all.new.list.items)
    c.deref_mut-in-Some.ensures.value c.in_ok-mark_all.ensures) in
    subst (λ ms. IsSeeing rows c.args.file ms c.mark_all.new.list.items)
    (sym (written_back old c.mark_all.new.marks c.loop-next.marks.len (c.loop-next.marks.ok.0) m.count))
    (seeing_goes_on rows c.args.file c.in-Some.next old c.mark_all.new.marks c.loop-next.list.items
    c.pop.new.self.items c.mark_all.new.list.items c.in-Some.ensures.items c.loop-next.invariant m)

pub returns : goal.returns
returns c =
    let none : length c.loop-next.list.items ≡ 0 = grind (arith, common_steps) in
    subst (λ xs. IsSeeing c.args.imports.now.files c.args.file c.loop-next.marks.items xs)
    (nil_from_length c.loop-next.list.items none) c.loop-next.invariant

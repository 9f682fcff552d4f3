use Rattle.std.proofs.Common.{◌≡◌, ◌<◌, ◌++◌, ◌==◌, ◌+◌, ℕ, None, option_to_list, false, get_or, length, arith, ◌∙◌}
use Rattle.std.specs.List.{list_any}
use Rattle.protox_link_checks.proofs.Imported.{import_below, import_checked}
use Rattle.protox_link_checks.proofs.imports.check_imports.Goals as goal

pub wrong_import-kind-requires : goal.wrong_import-kind-requires
wrong_import-kind-requires c =
    import_below c.args.named.now c.args.count (length c.loop-index.marks) c.loop-index.index c.loop-index.invariant.0 c.requires c.loop-index-test.true

pub loop-index-preserved : goal.loop-index-preserved
loop-index-preserved c =
    let i = c.loop-index.index in
    let named = get_or c.args.named.now i None in
    let marks = c.wrong_import-kind.new.marks in
    let earlier = c.loop-index.invariant.1.0 in
    let as_many : length marks ≡ c.args.count = c.wrong_import-kind.ensures.as_many ∙ c.loop-index.invariant.0 in
    let before : (n : ℕ) → n < length c.loop-index.marks → get_or c.loop-index.marks n false ≡ list_any (λ e. e == n) earlier = λ n below.
    c.loop-index.invariant.1.1 n (omega (arith, below, c.loop-index.invariant.0)) in (
      as_many,
      (
        option_to_list named ++ earlier,
        λ n below. c.wrong_import-kind.ensures.marked earlier before n (omega (arith, below, c.loop-index.invariant.0)),
        import_checked c.args.file i c.args.named.now earlier (option_to_list c.wrong_import-kind.result) c.loop-index.faults.items c.add_at_import.new.faults.items c.loop-index-test.true
            (c.wrong_import-kind.ensures.wrong earlier before) c.in_ok-add_at_import.ensures
            ∙ c.loop-index.invariant.1.2,
      ),
    )

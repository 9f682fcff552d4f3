use Rattle.std.proofs.Common.{◌≡◌, ◌∙◌, ◌++◌, Bool, List, OnOk, ap, subst}
use Rattle.std.specs.List.{flat_map}
use Rattle.protox_link_checks.specs.Extensions.{all_extension_faults, options_faults, range_faults, ranges_numbered, reused_faults}
use Rattle.protox_link_checks.specs.declared.extensions.Extension.{Extension}
use Rattle.protox_link_checks.specs.Proto3.{is_proto3}
use Rattle.protox_link_checks.proofs.Extending.{three_told, two_told}
use Rattle.protox_link_checks.proofs.extended.check_extensions.Goals as goal

pub returns-then-not-is_proto3 : goal.returns-then-not-is_proto3
returns-then-not-is_proto3 c files h =
    let t = c.args.view.now.symbols.now in
    let n = c.args.number in
    let start = c.args.faults.now.items in
    let es = c.in_ok-extensions.extensions.items in
    let one = c.in_ok-check_ranges.ensures files t h ∙ ap (λ (es : List Extension). start ++ flat_map (λ e. range_faults n (ranges_numbered files t e.message) e) es) c.as_slice.ensures.value in
    let two = c.in_ok-check_reused.ensures ∙ ap (λ (es : List Extension). c.check_ranges.new.faults.items ++ reused_faults n es) c.as_slice-2.ensures.value in
    subst (λ (b : Bool). c.check_reused.new.faults.items ≡ start ++ all_extension_faults files t n b es) c.if-not-is_proto3.ensures
    (two_told start (flat_map (λ e. range_faults n (ranges_numbered files t e.message) e) es) (reused_faults n es) c.check_ranges.new.faults.items c.check_reused.new.faults.items one two)
    ∙ ap (λ (es : List Extension). start ++ all_extension_faults files t n (is_proto3 c.args.file.now) es) c.in_ok-extensions.ensures

pub returns : goal.returns
returns c files h =
    let view = c.args.view.now in
    let t = view.symbols.now in
    let n = c.args.number in
    let start = c.args.faults.now.items in
    let es = c.in_ok-extensions.extensions.items in
    let after = c.check_all_options.new.faults.items in
    let one = c.in_ok-check_ranges.ensures files t h ∙ ap (λ (es : List Extension). start ++ flat_map (λ e. range_faults n (ranges_numbered files t e.message) e) es) c.as_slice.ensures.value in
    let two = c.in_ok-check_reused.ensures ∙ ap (λ (es : List Extension). c.check_ranges.new.faults.items ++ reused_faults n es) c.as_slice-2.ensures.value in
    let three = subst (λ (es : List Extension). OnOk c.check_all_options.result (after ≡ c.check_reused.new.faults.items ++ flat_map (options_faults n t) es)) c.as_slice-3.ensures.value c.check_all_options.ensures in
    subst (λ (es : List Extension). OnOk c.check_all_options.result (after ≡ start ++ all_extension_faults files t n (is_proto3 c.args.file.now) es)) c.in_ok-extensions.ensures
    (subst (λ (b : Bool). OnOk c.check_all_options.result (after ≡ start ++ all_extension_faults files t n b es)) c.if-not-is_proto3.ensures
    (three_told start (flat_map (λ e. range_faults n (ranges_numbered files t e.message) e) es) (reused_faults n es) c.check_all_options.result c.check_ranges.new.faults.items c.check_reused.new.faults.items after (flat_map (options_faults n t) es) one two three))

use Rattle.std.proofs.Common.{◌≡◌, ◌∙◌, ◌<◌, ◌≤◌, ◌==◌, ◌||◌, ◌&&◌, ℕ, Option, Some, ap, length, arith, set, sym, subst}
use Rattle.protox_marks.specs.Few.{among}
use Rattle.protox_name_tree.specs.Tree.{name_at}
use Rattle.protox_names.specs.Tree.{name_of_place}
use Rattle.protox_views.proofs.Files.{noted_outwards, nothing_left, one_noted}
use Rattle.protox_views.proofs.Ways.{no_way, shorter_outwards, way_step}
use Rattle.protox_views.specs.FilesOf.{is_file_of}
use Rattle.protox_views.specs.Packages.{is_on_the_way}
use Rattle.protox_views.proofs.packages.note.Goals as goal

pub loop-place-smaller : goal.loop-place-smaller
loop-place-smaller c =
    let names = c.args.symbols.now.names in
    let known : c.in-Some.number < length names.full_names = omega arith in
    subst (λ (place : Option ℕ). length (name_of_place (name_at names) c.outer-place.result) < length (name_of_place (name_at names) place)) (sym c.in-Some.is)
    (shorter_outwards names c.in-Some.number c.outer-place.result c.len-count.ensures.tree known c.outer-place.ensures)

pub loop-place-preserved : goal.loop-place-preserved
loop-place-preserved c n f below =
    let names = c.args.symbols.now.names in
    let file = c.args.file in
    let files = c.loop-place.files in
    let number = c.in-Some.number in
    let old = c.index-files-number.result in
    let new = c.mark.new.self in
    let all = is_file_of c.args.files.now n f || ((f == file) && is_on_the_way names n c.args.whole) in
    let here : n < length names.full_names = omega arith in
    noted_outwards (is_file_of files n f) (is_file_of (set files number new) n f) (f == file) (n == number) (is_on_the_way names n c.outer-place.result) (is_on_the_way names n (Some number)) all
    (one_noted files old new file n number f (omega arith) (sym c.index-files-number.is) (λ g. c.in_ok-mark.ensures g ∙ ap (λ few. among few g || (g == file)) (sym c.index-files-number.is)))
    (way_step names n number c.outer-place.result c.len-count.ensures.tree here c.outer-place.ensures)
    (subst (λ (place : Option ℕ). (is_file_of files n f || ((f == file) && is_on_the_way names n place)) ≡ all) c.in-Some.is (c.loop-place.invariant n f below))

pub returns-then-number-files : goal.returns-then-number-files
returns-then-number-files c n f below =
    let names = c.args.symbols.now.names in
    let file = c.args.file in
    let number = c.in-Some.number in
    let all = is_file_of c.args.files.now n f || ((f == file) && is_on_the_way names n c.args.whole) in
    let here : n < length names.full_names = omega arith in
    let past : length names.full_names ≤ number = omega arith in
    nothing_left (is_file_of c.loop-place.files n f) (f == file) (is_on_the_way names n (Some number)) all (no_way names n number c.len-count.ensures.tree here past)
    (subst (λ (place : Option ℕ). (is_file_of c.loop-place.files n f || ((f == file) && is_on_the_way names n place)) ≡ all) c.in-Some.is (c.loop-place.invariant n f below))

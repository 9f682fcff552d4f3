use Rattle.std.proofs.Common.{◌≡◌, ◌<◌, ◌==◌, ◌||◌, ◌&&◌, ℕ, None, get_or, length, arith}
use Rattle.protox_views.proofs.Files.{all_noted, file_noted}
use Rattle.protox_views.proofs.Ways.{written_whole}
use Rattle.protox_views.specs.FilesOf.{is_file_of}
use Rattle.protox_views.specs.Packages.{is_on_the_way}
use Rattle.protox_views.proofs.packages.PackageFiles.of.Goals as goal

pub loop-file-preserved : goal.loop-file-preserved
loop-file-preserved c =
    let names = c.args.symbols.now.names in
    let packages = c.args.packages.now in
    let i = c.loop-file.file in
    let files = c.loop-file.files.items in
    let noted = c.note.new.files in
    let as_many : length noted ≡ length files = omega (arith, c.note.auto.files, c.deref_mut.ensures.len, c.loop-file.files.ok) in
    let each : (n f : ℕ) → n < length files → is_file_of noted n f ≡ (is_file_of files n f || ((f == i) && is_on_the_way names n (get_or packages i None))) = λ n f below.
    rw (← c.deref_mut.ensures.value) (c.in_ok-note.ensures n f (omega (arith, below, c.note.auto.files, as_many))) in
    rw (written_whole noted files c.loop-file.files.len as_many (omega (arith, c.loop-file.files.ok)))
    (file_noted names packages i files noted as_many each c.loop-file.invariant)

pub returns : goal.returns
returns c =
    all_noted c.args.symbols.now.names c.args.packages.now c.loop-file.file (record { files = c.loop-file.files }) (omega (arith, c.loop-file-test.false)) c.loop-file.invariant

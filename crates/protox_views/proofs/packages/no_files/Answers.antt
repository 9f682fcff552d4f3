use Rattle.std.proofs.Common.{◌∙◌, ap, arith, length, length-append}
use Rattle.protox_views.proofs.Files.{told_pushed}
use Rattle.protox_views.specs.FilesOf.{is_file_of}
use Rattle.protox_views.proofs.packages.no_files.Goals as goal

pub loop-preserved : goal.loop-preserved
loop-preserved c = record {
  as_many = omega (arith, simp length-append at (ap length c.in_ok-push.ensures.items));
  none = λ n f. ap (λ items. is_file_of items n f) c.in_ok-push.ensures.items
      ∙ told_pushed c.loop.files.items c.new.result n f (λ m. c.loop.invariant.none m f) (c.new.ensures f);
}

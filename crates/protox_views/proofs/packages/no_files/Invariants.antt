use Rattle.std.proofs.Common.{◌≡◌, ℕ, false, length}
use Rattle.protox_views.specs.FilesOf.{is_file_of}
use Rattle.protox_views.proofs.packages.no_files.Given as goal

abbrev pub invariant-loop : goal.invariant-loop
invariant-loop l = record {
  as_many : length l.files.items ≡ l.counter;
  none : (n f : ℕ) → is_file_of l.files.items n f ≡ false;
}

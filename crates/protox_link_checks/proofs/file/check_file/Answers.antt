use Rattle.std.proofs.Common.{arith}
use Rattle.protox_link_checks.proofs.file.check_file.Goals as goal

pub check_imports-requires : goal.check_imports-requires
check_imports-requires c n has =
    let below = c.requires n has in
    omega (arith, below, c.len.ensures)

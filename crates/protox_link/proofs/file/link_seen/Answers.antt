use Rattle.protox_link.proofs.Standing.{package_named}
use Rattle.protox_link.proofs.file.link_seen.Goals as goal

pub link_file-requires-clause-package : goal.link_file-requires-clause-package
link_file-requires-clause-package c =
    package_named c.args.view.now.symbols.now c.args.file.now.«package» c.text_of.result.now c.find-package.result (rw c.as_ref.ensures.value at c.text_of.ensures) c.find-package.ensures c.requires.of_package

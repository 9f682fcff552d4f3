use Rattle.protox_ffi.proofs.Linking.{no_texts_with_options}
use Rattle.protox_ffi.specs.Linked.{given}
use Rattle.protox_ffi.proofs.linked_options.linked_with_options.Goals as goal

pub returns-in-Err-clause-found : goal.returns-in-Err-clause-found
returns-in-Err-clause-found c = no_texts_with_options (given c.args.files.now) c.in-Err.reason c.in-Err.ensures

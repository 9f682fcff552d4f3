use Rattle.protox_ffi.proofs.Linking.{not_all_texts}
use Rattle.protox_ffi.proofs.linked.texts_of.Goals as goal

pub returns-in_default : goal.returns-in_default
returns-in_default c = not_all_texts c.args.files.now c.loop-file.file-index _ c.loop-file-test.true c.in_default.ensures

use Rattle.protox_bytes.proofs.Spelled.{without}
use Rattle.protox_bytes.proofs.encoded_file.Goals as goal

pub returns-in-Err-clause-whole : goal.returns-in-Err-clause-whole
returns-in-Err-clause-whole c = without c.args.file.now c.in-Err.error c.in-Err.ensures.too_large c.in-Err.ensures.not_a_float

use Rattle.protox_bytes.proofs.Spelled.{found, none, only}
use Rattle.protox_parse.specs.Failures.{IsRefusalOf}
use Rattle.protox_parse.proofs.Lemmas.{one_translation}
use Rattle.protox_parse.specs.FirstFault.{BeginsWithFirst}
use Rattle.protox_bytes.proofs.parse_to_bytes.Goals as goal

pub returns-in-Ok-clause-found : goal.returns-in-Ok-clause-found
returns-in-Ok-clause-found c = found c.args.name.now c.args.source.now c.in-Ok.file c.encoded_file.result (λ v. v.items) c.in-Ok.ensures.found c.encoded_file.ensures.exact

pub returns-in-Ok-clause-only : goal.returns-in-Ok-clause-only
returns-in-Ok-clause-only c d is =
    only c.in-Ok.file d c.encoded_file.result (λ v. v.items) (one_translation c.args.name.now c.args.source.now c.in-Ok.file d c.in-Ok.ensures.found is) c.encoded_file.ensures.whole

pub returns-in-Err-clause-only : goal.returns-in-Err-clause-only
returns-in-Err-clause-only c d is = c.in-Err.ensures.only (is.0, is.1, is.2)

pub returns-in-Ok-clause-refused : goal.returns-in-Ok-clause-refused
returns-in-Ok-clause-refused c = none c.encoded_file.result (IsRefusalOf c.args.name.now c.args.source.now) c.encoded_file.ensures.parsed

pub returns-in-Ok-clause-first : goal.returns-in-Ok-clause-first
returns-in-Ok-clause-first c = none c.encoded_file.result (BeginsWithFirst c.args.source.now) c.encoded_file.ensures.parsed

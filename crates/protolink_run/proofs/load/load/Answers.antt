use Rattle.std.proofs.Common.{subst}
use Rattle.std.specs.Prelude.{IfSome, string_bytes}
use Rattle.protox_parse.specs.Files.{IsTranslation}
use Rattle.protolink_run.proofs.Reading.{one_more}
use Rattle.protolink_run.proofs.load.load.Goals as goal

pub returns-clause-read : goal.returns-clause-read
returns-clause-read g c = λ read.
    one_more g.H.Host.holds c.args.reading.now.host.now c.args.loaded.now.files.items c.push-2.new.self.items c.in-Some-3.file
    c.args.name.now c.as_str.result.now (string_bytes c.in-Some-2.text) read c.in_ok-push-2.ensures.items
    (subst (λ text. IfSome text (λ text. g.H.Host.holds c.args.reading.now.host.now c.as_str.result.now (string_bytes text))) c.in-Some-2.is c.in_ok-text.ensures)
    (subst (λ text. IsTranslation c.args.name.now text c.in-Some-3.file) c.as_str-source.ensures.value
    (subst (λ file. IfSome file (IsTranslation c.args.name.now c.as_str-source.result.now)) c.in-Some-3.is c.in_ok-file.ensures))

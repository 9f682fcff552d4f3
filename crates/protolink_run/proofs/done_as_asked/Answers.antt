use Rattle.std.proofs.Common.{map, subst}
use Rattle.std.specs.Prelude.{string_bytes}
use Rattle.protolink_words.specs.Asking.{IsPlainWork}
use Rattle.protolink_run.proofs.Plain.{some_files}
use Rattle.protolink_run.proofs.done_as_asked.Goals as goal

pub returns-in-Help : goal.returns-in-Help
returns-in-Help g c = λ some names. absurd (subst (IsPlainWork (map string_bytes c.args.words.now)) c.in-Help.is (c.in_ok-asked_by.ensures.names names))

pub returns-in-Version : goal.returns-in-Version
returns-in-Version g c = λ some names. absurd (subst (IsPlainWork (map string_bytes c.args.words.now)) c.in-Version.is (c.in_ok-asked_by.ensures.names names))

pub returns-in-Work : goal.returns-in-Work
returns-in-Work g c = λ some names.
    c.done.ensures (some_files c.args.words.now c.in-Work.work (subst (IsPlainWork (map string_bytes c.args.words.now)) c.in-Work.is (c.in_ok-asked_by.ensures.names names)) some)

use Rattle.std.proofs.Common.{ap}
use Rattle.std.proofs.lemmas.Result.{on_ok_weaker}
use Rattle.protox_encode.specs.Messages.{source_code_info}
use Rattle.protox_encode.specs.Payloads.{nested}
use Rattle.protox_encode.proofs.messages.FileDescriptorProtoMessage.prepend_to.Goals as goal

pub returns : goal.returns
returns c = on_ok_weaker c.prepend_file.result (λ says. says c.args.self.now.source_code_info (ap (nested source_code_info) c.as_ref.ensures.value)) c.prepend_file.ensures

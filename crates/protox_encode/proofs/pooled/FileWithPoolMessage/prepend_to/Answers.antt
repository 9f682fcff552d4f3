use Rattle.std.proofs.Common.{Some, refl}
use Rattle.std.proofs.lemmas.Result.{on_ok_weaker}
use Rattle.protox_encode.proofs.pooled.FileWithPoolMessage.prepend_to.Goals as goal

pub returns : goal.returns
returns c = on_ok_weaker c.prepend_file.result (λ says. says (Some (record { location = c.args.self.now.locations.now })) refl) c.prepend_file.ensures

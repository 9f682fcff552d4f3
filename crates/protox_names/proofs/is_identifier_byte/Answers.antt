use Rattle.std.proofs.Common.{not, eqb, get_or, refl, arith}
use Rattle.std.proofs.lemmas.Bool.{agree_below_at}
use Rattle.protox_names.specs.Names.{is_identifier_byte}
use Rattle.protox_names.specs.declared.TheConstants.{IDENTIFIER_BYTES}
use Rattle.protox_names.proofs.is_identifier_byte.Goals as goal

pub returns : goal.returns
returns c = agree_below_at (λ k. not (eqb (get_or IDENTIFIER_BYTES k 0) 46)) (λ k. is_identifier_byte k) 256 c.args.byte refl (omega arith)

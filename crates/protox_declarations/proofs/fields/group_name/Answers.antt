use Rattle.std.proofs.Common.{◌∙◌}
use Rattle.protox_declarations.proofs.BodyTurns.{ident-one}
use Rattle.protox_declarations.proofs.fields.group_name.Goals as goal

pub check_group_name-requires : goal.check_group_name-requires
check_group_name-requires c = c.len-left.ensures ∙ ident-one c.args.rows.now c.ident.new.rows c.in_ok-name.name c.in_ok-name.ensures.read

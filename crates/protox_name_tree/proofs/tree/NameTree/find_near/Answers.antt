use Rattle.protox_name_tree.proofs.Parts.{part_number}
use Rattle.protox_name_tree.proofs.tree.NameTree.find_near.Goals as goal

pub returns-then-is_part : goal.returns-then-is_part
returns-then-is_part c =
    part_number c.args.self.now c.args.near c.args.place c.args.name.now c.len-count.ensures.tree.names (c.is_part.ensures.0 c.if-is_part.true)

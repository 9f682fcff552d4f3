use Rattle.std.proofs.Common.{◌∙◌, ap, length, sym}
use Rattle.protox_marks.proofs.Bits.{count_of}
use Rattle.protox_marks.proofs.marks.Marks.len.Goals as goal

pub returns : goal.returns
returns c = sym (count_of c.self.inside.words.items c.self.inside.count) ∙ ap length c.self.view_is

use Rattle.std.proofs.Common.{◌∙◌, ◌/◌, ◌+◌, ap}
use Rattle.protox_marks.specs.Marks.{marks_of}
use Rattle.protox_marks.proofs.Bits.{none_marked}
use Rattle.protox_marks.proofs.marks.Marks.new.Goals as goal

pub returns : goal.returns
returns c =
    ap (λ words. marks_of words c.args.count) (c.in_ok-words.ensures.items_if_clones_equal (λ y h. h))
    ∙ none_marked (c.args.count / 64 + 1) c.args.count

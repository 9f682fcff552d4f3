use Rattle.std.proofs.Common.{rules, [], sym, ◌∙◌}
use Rattle.std.proofs.lemmas.Grind.{put_two}
use Rattle.std.proofs.lemmas.Iterator.{YieldsList-from_chars}
use Rattle.std.proofs.lemmas.Iterator.Consumers.{YieldsList-end}
use Rattle.std.proofs.lemmas.List.{flat_map_more, map-id}
use Rattle.protox_shown.specs.Shown.{shown_char}
use Rattle.protox_shown.proofs.shown.write_text.Goals as goal

pub loop-c-preserved : goal.loop-c-preserved
loop-c-preserved g c plain =
    let w = c.loop-c.invariant plain in
    put_two g.W.Write.write_str_gives _ _ _ _ _ _ w (c.write_shown.ensures w.plain (search rules)) (flat_map_more shown_char [] c.loop-c.yielded c.in-Some.c)

pub returns : goal.returns
returns g c plain ok =
    let t = YieldsList-end (YieldsList-from_chars c.args.text.now c.utf8.text (search rules)) c.loop-c.yielded _ c.loop-c.yielded_by _ _ c.in-None.is c.next.ensures.steps in
    rw (sym (sym (map-id c.loop-c.yielded) ∙ t.0)) (c.loop-c.invariant plain)

use Rattle.std.proofs.Common.{rules, arith, ◌≡◌, length, take, [], sym, ap, ◌∙◌}
use Rattle.std.proofs.lemmas.Grind.{put_two}
use Rattle.std.proofs.lemmas.Iterator.{YieldsList-from_chars}
use Rattle.std.proofs.lemmas.Iterator.Consumers.{YieldsList-end, YieldsList-so_far, YieldsList-turn}
use Rattle.std.proofs.lemmas.List.{flat_map_more, length_push, map-id}
use Rattle.std.specs.Str.{chars}
use Rattle.protox_shown.specs.Shown.{shown_char}
use Rattle.protox_shown.proofs.Cut.{cut_short, cut_written}
use Rattle.protox_shown.proofs.shown.write_brief.Goals as goal

pub returns-then-left-eq0 : goal.returns-then-left-eq0
returns-then-left-eq0 g c plain ok =
    let road = YieldsList-from_chars c.args.text.now c.utf8.text (search rules) in
    let t = YieldsList-turn road c.loop-c.yielded _ c.loop-c.yielded_by _ _ c.in-Some.c c.in-Some.is c.next.ensures.steps in
    let done : length c.loop-c.yielded ≡ 200 = omega (arith, c.loop-c.invariant.counted, c.if-left-eq0.true) in
    let w = c.loop-c.invariant.written plain in
    put_two g.W.Write.write_str_gives _ _ _ _ _ _ w (c.write_char.ensures.writes w.plain ok)
    (cut_written (chars c.args.text.now) c.loop-c.yielded (sym (map-id c.loop-c.yielded) ∙ (YieldsList-so_far road c.loop-c.yielded _ c.loop-c.yielded_by ∙ ap (λ n. take n (chars c.args.text.now)) done)) (omega (arith, t.0, done)))

pub loop-c-preserved : goal.loop-c-preserved
loop-c-preserved g c = record {
  written = λ plain. let w = c.loop-c.invariant.written plain in
      put_two g.W.Write.write_str_gives _ _ _ _ _ _ w (c.write_shown.ensures w.plain (search rules)) (flat_map_more shown_char [] c.loop-c.yielded c.in-Some.c);
  counted = omega (arith, c.loop-c.invariant.counted, length_push c.loop-c.yielded c.in-Some.c, c.if-left-eq0.false);
}

pub returns : goal.returns
returns g c plain ok =
    let t = YieldsList-end (YieldsList-from_chars c.args.text.now c.utf8.text (search rules)) c.loop-c.yielded _ c.loop-c.yielded_by _ _ c.in-None.is c.next.ensures.steps in
    let all = sym (map-id c.loop-c.yielded) ∙ t.0 in
    rw (cut_short (chars c.args.text.now) (omega (arith, t.1, c.loop-c.invariant.counted))) (rw (sym all) (c.loop-c.invariant.written plain))

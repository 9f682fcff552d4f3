use Rattle.protox_report.proofs.Floors.{floor_is}
use Rattle.protox_report.proofs.excerpt.excerpt_of.Goals as goal

pub returns : goal.returns
returns c =
    record {
      from = c.shown_from-from.result;
      start = c.floor_char_boundary-start.result;
      last = c.floor_char_boundary-last.result;
      reach = c.max-reach.result;
      end = c.shown_to-end.result;
      limit = c.limit_behind-limit.result;
      to = c.shown_to-to.result;
      starts = floor_is _ _ _ c.floor_char_boundary-start.ensures.bound c.floor_char_boundary-start.ensures.boundary c.floor_char_boundary-start.ensures.nearest;
      lasts = floor_is _ _ _ c.floor_char_boundary-last.ensures.bound c.floor_char_boundary-last.ensures.boundary c.floor_char_boundary-last.ensures.nearest;
      reaches = c.max-reach.ensures;
      from_first = c.shown_from-from.ensures;
      end_last = c.shown_to-end.ensures;
      limits = cc;
      to_last = c.shown_to-to.ensures;
      before = c.range.ensures.value;
      marked = c.range-2.ensures.value;
      behind = c.range-3.ensures.value;
      cut_before = cc;
      cut_behind = cc;
    }

use Rattle.std.proofs.Common.{ap, codes, ◌∙◌}
use Rattle.protox_text.specs.TextLines.{bytes_line, number_line}
use Rattle.protox_text.specs.TextFormat.{location_fields}
use Rattle.protox_text.proofs.Written.{message, then, lent, listed}
use Rattle.protox_text.proofs.source_info.LocationInText.write_to.Goals as goal

pub returns : goal.returns
returns g c =
    message _ (location_fields c.args.self.now) _ _ _ _ _ _ _ (ap (λ l. l.depth) c.inner-inner.ensures) c.in_ok-write_open.ensures
    (then _ _ _ _ _ (listed number_line c.inner-inner.result.depth (codes "path") _ _ _ _ (c.as_slice.ensures ∙ (ap (λ f. f.path) c.self.view_is)) c.in_ok-write_each.ensures)
    (then _ _ _ _ _ (listed number_line c.inner-inner.result.depth (codes "span") _ _ _ _ (c.as_slice-2.ensures ∙ (ap (λ f. f.span) c.self.view_is)) c.in_ok-write_each-2.ensures)
    (then _ _ _ _ _ (lent _ _ _ _ _ _ _ c.leading_comments.ensures c.in_ok-write_lent.ensures)
    (then _ _ _ _ _ (lent _ _ _ _ _ _ _ c.trailing_comments.ensures c.in_ok-write_lent-2.ensures)
    (listed bytes_line c.inner-inner.result.depth (codes "leading_detached_comments") _ _ _ _ c.leading_detached_comments.ensures c.in_ok-write_each-3.ensures)))))
    c.write_close.ensures

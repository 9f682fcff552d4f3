use Rattle.std.proofs.Common.{map, ap, ◌∙◌}
use Rattle.std.specs.Prelude.{cond}
use Rattle.protox_encode_linked.specs.Setting.{OptionsSet, same_path, set_at}
use Rattle.protox_encode_linked.proofs.Lookup.{set_at-insert}
use Rattle.protox_encode_linked.proofs.option_bytes.OptionBytes.insert.Goals as goal

pub returns-clause-ok : goal.returns-clause-ok
returns-clause-ok c q =
    ap (λ entries. set_at (map (λ entry. (entry.0.items, entry.1.items)) entries) q) c.in_ok-insert.ensures.entries
    ∙ set_at-insert (λ path. path.items) (λ bytes. bytes.items) c.self.inside.bytes.entries c.args.path c.args.bytes q
    ∙ ap (λ (set : OptionsSet). cond (same_path q c.args.path.items) c.args.bytes.items (set_at set q)) c.self.view_is

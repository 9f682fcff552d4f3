use Rattle.std.proofs.Common.{[], ap, ◌∙◌}
use Rattle.std.specs.Option.{unwrap_or, option_map}
use Rattle.protox_encode_linked.specs.Setting.{OptionsSet, set_at}
use Rattle.protox_encode_linked.proofs.Lookup.{set_at-lookup}
use Rattle.protox_encode_linked.proofs.option_bytes.OptionBytes.get.Goals as goal

pub returns-in-Some : goal.returns-in-Some
returns-in-Some c =
    c.as_slice.ensures.value
    ∙ ap (λ found. unwrap_or (option_map (λ bytes. bytes.items) found) []) c.in-Some.ensures.value
    ∙ set_at-lookup (λ path. path.items) (λ bytes. bytes.items) c.args.path.now c.self.inside.bytes.entries
    ∙ ap (λ (set : OptionsSet). set_at set c.args.path.now) c.self.view_is

pub returns-in-None : goal.returns-in-None
returns-in-None c =
    ap (λ found. unwrap_or (option_map (λ bytes. bytes.items) found) []) c.in-None.ensures.value
    ∙ set_at-lookup (λ path. path.items) (λ bytes. bytes.items) c.args.path.now c.self.inside.bytes.entries
    ∙ ap (λ (set : OptionsSet). set_at set c.args.path.now) c.self.view_is

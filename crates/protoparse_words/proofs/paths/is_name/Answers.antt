use Rattle.std.proofs.Common.{◌&&◌, not, List, ℕ, Bor, Bool, bytes_eq, codes, sym, ap, ◌∙◌, rules, tests}
use Rattle.std.specs.List.{list_all}
use Rattle.std.proofs.lemmas.Iterator.{YieldsList-from_slice}
use Rattle.std.proofs.lemmas.Iterator.Search.{all_from_yields_List}
use Rattle.protoparse_words.proofs.Lists.{name_of_texts}
use Rattle.protoparse_words.proofs.paths.is_name.Goals as goal

abbrev leads_down : Bor (List ℕ) → Bool
leads_down part = not (bytes_eq part.now (codes ".."))

pub returns-then-not-is_empty : goal.returns-then-not-is_empty
returns-then-not-is_empty c =
    let parts = c.args.parts.now in
    all_from_yields_List leads_down _ _ _ c.all.ensures.ran (YieldsList-from_slice parts (cc)) (λ x b q k. search (rules, tests))
    ∙ sym (name_of_texts parts ∙ ap (λ b. not b && list_all leads_down parts) (sym c.is_empty.ensures ∙ c.if-not-is_empty.true))

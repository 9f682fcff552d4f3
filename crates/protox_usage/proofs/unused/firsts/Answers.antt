use Rattle.std.proofs.Common.{ap, subst, ◌∙◌}
use Rattle.std.specs.Prelude.{ℕ, List}
use Rattle.std.proofs.lemmas.Result.{IfOk-weaker}
use Rattle.protox_imports.specs.declared.imports.Imports.{Imports}
use Rattle.protox_imports.specs.declared.row.FileImports.{FileImports}
use Rattle.protox_usage.specs.First.{AreFirst, IsOrderOf}
use Rattle.protox_usage.specs.Known.{IsUsageOf}
use Rattle.protox_usage.proofs.unused.firsts.Goals as goal

pub returns : goal.returns
returns c =
    let files = c.args.files.now in
    let order = c.in_ok-order.order.items in
    IfOk-weaker c.first_files.result
    (λ first. AreFirst files c.as_slice.result.now first.items)
    (λ first. IsUsageOf files c.args.resolver.now first.items)
    (λ first are. record {
      known_of = c.requires;
      order = order;
      in_order = subst (λ (rows : List FileImports). IsOrderOf rows order) (ap (λ (i : Imports). i.files) c.imports.ensures ∙ c.requires.rows) c.in_ok-order.ensures;
      are_first = subst (λ (o : List ℕ). AreFirst files o first.items) c.as_slice.ensures.value are;
    })
    c.first_files.ensures

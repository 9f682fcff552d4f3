use Rattle.std.proofs.Common.{◌≡◌, ap, refl, subst, ◌∙◌, IsUtf8}
use Rattle.std.specs.String.{string_bytes}
use Rattle.std.proofs.lemmas.Str.{IsUtf8-string_bytes}
use Rattle.protox_ast.proofs.ast.String.into_utf8.Goals as goal

pub returns-in-Ok-clause-exact : goal.returns-in-Ok-clause-exact
returns-in-Ok-clause-exact c =
    let same : string_bytes c.in-Ok.text ≡ c.args.self.value = ap (λ v. v.items) c.in-Ok.ensures.ok ∙ c.into_vec.ensures in
    (λ _. subst IsUtf8 same (IsUtf8-string_bytes c.in-Ok.text), λ _. refl)

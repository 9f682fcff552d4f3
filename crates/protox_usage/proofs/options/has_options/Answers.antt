use Rattle.std.proofs.Common.{◌≡◌, ◌||◌, ◌∙◌, Bool, false, ap, sym}
use Rattle.std.specs.List.{flat_map}
use Rattle.protox_usage.proofs.Setting.{some_append, some_visited}
use Rattle.protox_usage.specs.Options.{are_some, options_of_declared, options_of_file}
use Rattle.protox_usage.specs.declared.options.Found.{Found}
use Rattle.protox_walk.specs.Declarations.{file_declarations}
use Rattle.protox_usage.proofs.options.has_options.Goals as goal

pub returns : goal.returns
returns c =
    let file = c.args.file.now in
    let declared = flat_map options_of_declared (file_declarations file) in
    let none : are_some (options_of_file file) ≡ false = ap are_some (sym c.options_of_file.ensures) ∙ sym c.are_some.ensures ∙ c.if-are_some.false in
    some_visited (λ (found : Found). found.any) options_of_declared _ _ c.walk.new.visitor c.in_ok-walk.ensures
    ∙ ap (λ (b : Bool). b || are_some declared) (sym none)
    ∙ sym (some_append (options_of_file file) declared)

use Rattle.std.proofs.Common.{◌∙◌, ◌++◌, ap, map, replicate}
use Rattle.std.proofs.lemmas.Result.{on_ok_weaker}
use Rattle.protox_lexeme.specs.Shapes.{Newline}
use Rattle.protox_lexeme.specs.Tokens.{shape_of}
use Rattle.protox_lex.proofs.Sharing.{newlines_grouped}
use Rattle.protox_lex.proofs.groups.Groups+Token.push_newlines.Goals as goal

pub returns-clause-begun : goal.returns-clause-begun
returns-clause-begun c =
    let items = c.self.inside.items.items in
    let all = c.add_newlines.new.items.items in
    on_ok_weaker c.add_newlines.result
    (λ added. (newlines_grouped items all c.self.inside.ends.items c.args.count c.self.invariant added).1
    ∙ ap (λ g. map shape_of g.begun ++ replicate c.args.count Newline) c.self.view_is)
    c.add_newlines.ensures.ok

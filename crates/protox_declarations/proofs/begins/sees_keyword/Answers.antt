use Rattle.std.proofs.Common.{[], ◌∷◌, ap, ◌∙◌}
use Rattle.protox_grammar.specs.Class.{Set, among}
use Rattle.protox_grammar.specs.Token as token
use Rattle.protox_rows.proofs.Lemmas.{first-in}
use Rattle.protox_declarations.proofs.begins.sees_keyword.Goals as goal

abbrev words : Set
words = among (token.oneof ∷ token.enum ∷ token.message ∷ token.extend ∷ token.option ∷ token.reserved ∷ token.extensions ∷ [])

pub returns-in-Some : goal.returns-in-Some
returns-in-Some c = c.is_keyword.ensures ∙ ap words c.class.ensures ∙ first-in words c.args.rows.now c.in-Some.first c.in-Some.ensures

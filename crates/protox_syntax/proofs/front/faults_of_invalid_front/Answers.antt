use Rattle.std.proofs.Common.{◌∷◌, ◌++◌, [], ap, sym, ◌∙◌}
use Rattle.protox_fault.specs.declared.error.ParseErrorKind.TheVariants.{InvalidToken}
use Rattle.protox_fault.specs.Faults.{span_from}
use Rattle.protox_lexeme.specs.Lexemes.{Lexeme}
use Rattle.protox_syntax.proofs.Fronts.{refused-first}
use Rattle.protox_syntax.proofs.front.faults_of_invalid_front.Goals as goal

pub returns : goal.returns
returns c =
    let source = c.args.source.now in
    let stop = ap (λ (x : Lexeme). x.stop) c.invalid.ensures.value in
    let errors = c.in_ok-push.ensures.items ∙ ap (λ l. l ++ InvalidToken (span_from 0 c.invalid.result.stop) ∷ []) c.new-errors.ensures.items ∙ ap (λ k. InvalidToken (span_from 0 k) ∷ []) stop in
    refused-first source c.push.new.self.items (sym c.starts_invalid.ensures ∙ c.if-not-starts_invalid.false) errors

use Rattle.std.proofs.Common.{◌≡◌, ◌<◌, ◌≤◌, ◌-◌, ◌++◌, List, length, take}
use Rattle.std.specs.List.{All}
use Rattle.std.specs.Str.{IsCharBoundary}
use Rattle.protox_lexeme.specs.Lexemes.{Lexeme}
use Rattle.protox_lex.specs.Parts.{EndsAt, end_of}
use Rattle.protox_lex.specs.TableView.{finished}
use Rattle.protox_lex.proofs.table_draft.draft.Given as goal

abbrev pub invariant-lexemes : goal.invariant-lexemes
invariant-lexemes l = record {
  boundary : IsCharBoundary l.source l.at;
  lexemes : List Lexeme;
  whole : (rest : List Lexeme) → finished l.draft rest ≡ finished l.fn.begun (lexemes ++ rest);
  ends : EndsAt l.source l.from lexemes l.at;
  stopped : All (λ x. x.stop ≤ l.at) lexemes;
  before : All (λ x. x.stop < l.until) (take (length lexemes - 1) lexemes);
  stops : l.at ≡ end_of l.from lexemes;
}

abbrev pub decreases-lexemes : goal.decreases-lexemes
decreases-lexemes l = length l.source - l.at

use Rattle.std.proofs.Common.{◌≡◌, ◌+◌, ◌≤◌, ◌++◌, List, map, replicate}
use Rattle.std.specs.Vec.{vec_capacity, vec_len}
use Rattle.protox_lexeme.specs.declared.token.Token.{Token}
use Rattle.protox_lexeme.specs.Shapes.{Newline}
use Rattle.protox_lexeme.specs.Tokens.{shape_of}
use Rattle.protox_lex.proofs.groups.add_newlines.Given as goal

abbrev pub invariant-newlines : goal.invariant-newlines
invariant-newlines l = record {
  more : List Token;
  appended : l.items.items ≡ l.fn.items.items ++ more;
  so_far : map shape_of more ++ replicate l.left Newline ≡ replicate l.count Newline;
  room : vec_len l.items + l.left ≤ vec_capacity l.items;
}

abbrev pub decreases-newlines : goal.decreases-newlines
decreases-newlines l = l.left

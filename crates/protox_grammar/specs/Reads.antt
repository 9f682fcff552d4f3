-- The reader of files.
use Rattle.std.specs.Prelude.{ℕ, Result, Ok}
use Rattle.protox_lexeme.specs.Shapes.{Rows}
use Rattle.protox_grammar.specs.Reader.{Refusal, ◌>>=◌}
use Rattle.protox_ast.specs.Tree as t
use Rattle.protox_grammar.specs.Bodies as r

-- Reads rows as a file. Messages and groups may be nested at most n deep.
unfoldable pub read : {M : Type 0} → ℕ → Rows M → Result (t.File M) Refusal
read n rows = (r.file (r.mbody_at n)).read rows >>= λ x. Ok x.0

use Rattle.std.proofs.Common.{sym, ◌∙◌}
use Rattle.protoparse_words.specs.Names.{texts}
use Rattle.protoparse_words.proofs.Under.{unnamed_behind}
use Rattle.protoparse_words.proofs.paths.name_behind.Goals as goal
use Rattle.protoparse_words.proofs.paths.name_behind.Goals.{in_default-via-in-Some+else-is_name, in_default-via-in_default}

pub returns-in_default-clause-none : goal.returns-in_default-clause-none
returns-in_default-clause-none c = λ name named.
    elim c.in_default.branch [
      | in_default-via-in-Some+else-is_name w ↦ unnamed_behind (texts c.args.parts.now) (texts c.args.above.now) (texts w.in-Some.rest.now) name w.in-Some.ensures.found (sym w.is_name.ensures ∙ w.if-is_name.false) named
      | in_default-via-in_default w ↦ w.in_default.ensures.none named.rest named.follows
    ]

-- Files of each kind, and the rows that spell them.
use Rattle.std.proofs.Common.{◌≡◌, [], ◌∷◌, Some, None, codes, refl}
use Rattle.protox_lexeme.specs.Shapes.{Mark}
use Rattle.protox_ast.specs.Tree as t
use Rattle.protox_ast.specs.Spelling as s
use Rattle.protox_ast.specs.KeywordWalk as k
use Rattle.protox_ast.specs.DepthWalk as d
use Rattle.protox_ast.specs.Spells.{Spells}
use Rattle.protox_ast.proofs.Lemmas.{nodes-keep}
use Rattle.protox_grammar.proofs.Balance.{counted}
use Rattle.protox_grammar.proofs.Begin.{among-none}
use Rattle.protox_grammar.proofs.samples.Build as b
use Rattle.protox_grammar.proofs.samples.Build.{rows, word, number, float, text}

-- A tree keeps the rules if its parts do.
kept : (f : t.File b.NoMark) → k.KeepsFile f → k.KeepsKeywords f
kept f h = (nodes-keep f).1 h

-- syntax = "proto" "3"; package a.b; import public "x"; import 'y'; ;
abbrev head : t.File b.NoMark
head = record {
  syntax = Some (record { keyword = tt; equals_sign = tt; value = b.strings "proto" ("3" ∷ []); end = tt });
  statements =
      t.a_package (record { keyword = tt; name = b.dotted "a" ("b" ∷ []); end = tt })
      ∷ t.an_import (record { keyword = tt; kind = Some (t.«public» tt); value = b.strings "x" []; end = tt })
      ∷ t.an_import (record { keyword = tt; kind = None; value = b.strings "y" []; end = tt })
      ∷ t.an_empty tt ∷ [];
}

head-spelled : Spells (rows (
    word "syntax" ∷ Mark s.equals ∷ text "proto" ∷ text "3" ∷ Mark s.semicolon
    ∷ word "package" ∷ word "a" ∷ Mark s.dot ∷ word "b" ∷ Mark s.semicolon
    ∷ word "import" ∷ word "public" ∷ text "x" ∷ Mark s.semicolon
    ∷ word "import" ∷ text "y" ∷ Mark s.semicolon ∷ Mark s.semicolon ∷ [])) head
head-spelled = (refl, kept head (tt, (tt, (tt, (tt, tt)))))

-- message M { .int32 f = 1; int32 f = 1 [yes = yes]; ; optional message.f f = 1; map<int32, group> f = 1; }
abbrev fields : t.File b.NoMark
fields = b.of_message (
    t.field (b.unlabelled (t.named (b.rooted "int32" [])))
    ∷ t.field (t.field_of None (t.normal (b.normal b.int32 (b.list "yes" b.yes_value))))
    ∷ t.empty tt
    ∷ t.field (b.labelled (t.named (b.name "message" ("f" ∷ []))))
    ∷ t.field (b.map_of b.int32 (t.named (b.name "group" [])))
    ∷ [])

fields-spelled : Spells (rows (
    word "message" ∷ word "M" ∷ Mark s.open_brace
    ∷ Mark s.dot ∷ word "int32" ∷ word "f" ∷ Mark s.equals ∷ number 1 ∷ Mark s.semicolon
    ∷ word "int32" ∷ word "f" ∷ Mark s.equals ∷ number 1 ∷ Mark s.open_bracket ∷ word "yes" ∷ Mark s.equals ∷ word "yes" ∷ Mark s.close_bracket ∷ Mark s.semicolon
    ∷ Mark s.semicolon
    ∷ word "optional" ∷ word "message" ∷ Mark s.dot ∷ word "f" ∷ word "f" ∷ Mark s.equals ∷ number 1 ∷ Mark s.semicolon
    ∷ word "map" ∷ Mark s.open_angle ∷ word "int32" ∷ Mark s.comma ∷ word "group" ∷ Mark s.close_angle ∷ word "f" ∷ Mark s.equals ∷ number 1 ∷ Mark s.semicolon
    ∷ Mark s.close_brace ∷ [])) fields
fields-spelled = (
  refl,
  kept fields (
    (
      (tt, (tt, (tt, tt))),
      (
        (tt, (tt, (tt, (tt, tt)))),
        (
          tt,
          (
            (tt, (tt, (among-none (codes "map" ∷ codes "group" ∷ k.scalars) (codes "message") refl, tt))),
            ((tt, (tt, ((tt, among-none k.scalars (codes "group") refl), tt))), tt),
          ),
        ),
      ),
    ),
    tt,
  ),
)

-- option (a.b).c = -inf; option d = { x { y: 1.5 } z < > / + }; option e = 'u' 'v'; option f = -7;
abbrev options : t.File b.NoMark
options = b.file (
    t.an_option (record { keyword = tt; body = record { first = t.extension_part tt (b.name "a" ("b" ∷ [])) tt; others = (tt, t.plain_part (b.ident "c")) ∷ []; equals_sign = tt; value = t.constant (Some tt) (t.ident (b.ident "inf")) }; end = tt })
    ∷ t.an_option (b.option "d" (t.aggregate tt (rows (
    word "x" ∷ Mark s.open_brace ∷ word "y" ∷ Mark 58 ∷ float "1.5" ∷ Mark s.close_brace ∷ word "z" ∷ Mark s.open_angle ∷ Mark s.close_angle ∷ Mark 47 ∷ Mark 43 ∷ [])) tt))
    ∷ t.an_option (b.option "e" (t.strings (b.strings "u" ("v" ∷ []))))
    ∷ t.an_option (b.option "f" (t.constant (Some tt) (t.integer (7, tt))))
    ∷ [])

options-spelled : Spells (rows (
    word "option" ∷ Mark s.open_paren ∷ word "a" ∷ Mark s.dot ∷ word "b" ∷ Mark s.close_paren ∷ Mark s.dot ∷ word "c" ∷ Mark s.equals ∷ Mark s.minus ∷ word "inf" ∷ Mark s.semicolon
    ∷ word "option" ∷ word "d" ∷ Mark s.equals ∷ Mark s.open_brace
    ∷ word "x" ∷ Mark s.open_brace ∷ word "y" ∷ Mark 58 ∷ float "1.5" ∷ Mark s.close_brace ∷ word "z" ∷ Mark s.open_angle ∷ Mark s.close_angle ∷ Mark 47 ∷ Mark 43
    ∷ Mark s.close_brace ∷ Mark s.semicolon
    ∷ word "option" ∷ word "e" ∷ Mark s.equals ∷ text "u" ∷ text "v" ∷ Mark s.semicolon
    ∷ word "option" ∷ word "f" ∷ Mark s.equals ∷ Mark s.minus ∷ number 7 ∷ Mark s.semicolon ∷ [])) options
options-spelled = (refl, kept options (tt, (((counted _).1 refl, (refl, (refl, (refl, (refl, (refl, (refl, (refl, (refl, (refl, (refl, (refl, tt)))))))))))), (tt, (tt, tt)))))

-- message M { oneof o { option yes = yes; message f = 1; group G = 2 { } ; } extend .A { option f = 1; } message M { message M { } } option yes = yes; }
abbrev bodies : t.File b.NoMark
bodies = b.of_message (
    b.oneof_of (
    t.oneof_option (b.option "yes" b.yes_value)
    ∷ t.oneof_field (b.unlabelled (t.named (b.name "message" [])))
    ∷ t.oneof_field (t.field_of None (t.group (t.group_of tt (b.ident "G") tt (b.plus 2) None (b.inside []))))
    ∷ t.oneof_empty tt ∷ [])
    ∷ t.extend (b.extend_of (b.rooted "A" []) (t.extend_field (b.unlabelled (t.named (b.name "option" []))) ∷ []))
    ∷ t.message (b.message (t.message (b.message []) ∷ []))
    ∷ t.option (b.option "yes" b.yes_value)
    ∷ [])

bodies-spelled : Spells (rows (
    word "message" ∷ word "M" ∷ Mark s.open_brace
    ∷ word "oneof" ∷ word "o" ∷ Mark s.open_brace
    ∷ word "option" ∷ word "yes" ∷ Mark s.equals ∷ word "yes" ∷ Mark s.semicolon
    ∷ word "message" ∷ word "f" ∷ Mark s.equals ∷ number 1 ∷ Mark s.semicolon
    ∷ word "group" ∷ word "G" ∷ Mark s.equals ∷ number 2 ∷ Mark s.open_brace ∷ Mark s.close_brace
    ∷ Mark s.semicolon ∷ Mark s.close_brace
    ∷ word "extend" ∷ Mark s.dot ∷ word "A" ∷ Mark s.open_brace ∷ word "option" ∷ word "f" ∷ Mark s.equals ∷ number 1 ∷ Mark s.semicolon ∷ Mark s.close_brace
    ∷ word "message" ∷ word "M" ∷ Mark s.open_brace ∷ word "message" ∷ word "M" ∷ Mark s.open_brace ∷ Mark s.close_brace ∷ Mark s.close_brace
    ∷ word "option" ∷ word "yes" ∷ Mark s.equals ∷ word "yes" ∷ Mark s.semicolon
    ∷ Mark s.close_brace ∷ [])) bodies
bodies-spelled = (
  refl,
  kept bodies (
    (
      (
        tt,
        (
          (among-none (codes "option" ∷ []) (codes "message") refl, (among-none k.labels (codes "message") refl, (among-none (codes "map" ∷ codes "group" ∷ k.scalars) (codes "message") refl, tt))),
          ((tt, (tt, (tt, tt))), (tt, tt)),
        ),
      ),
      (
        ((among-none k.labels (codes "option") refl, (among-none (codes "map" ∷ codes "group" ∷ k.scalars) (codes "option") refl, tt)), tt),
        ((tt, tt), (tt, tt)),
      ),
    ),
    tt,
  ),
)

-- A group in a oneof adds a level, and so does a message in a message. Extends and oneofs don't.
bodies-deep : d.depth bodies ≡ 3
bodies-deep = refl

-- enum E { option yes = yes; ; reserved 1, 2 to 3, -4 to max; reserved "A", "B" "C"; optional = 0; f = -1 [yes = yes]; }
abbrev an_enum : t.File b.NoMark
an_enum = b.file (t.an_enum (b.enum_of (
    t.enum_option (b.option "yes" b.yes_value)
    ∷ t.enum_empty tt
    ∷ t.enum_reserved (record { keyword = tt; kind = t.ranges (b.ranges (b.one 1) (b.up_to 2 3 ∷ record { start = b.minus 4; stop = Some (t.up_to_max tt tt) } ∷ [])); end = tt })
    ∷ t.enum_reserved (record { keyword = tt; kind = t.names (record { first = b.strings "A" []; others = (tt, b.strings "B" ("C" ∷ [])) ∷ [] }); end = tt })
    ∷ b.value "optional"
    ∷ t.enum_value (record { name = b.ident "f"; equals_sign = tt; number = b.minus 1; options = b.list "yes" b.yes_value; end = tt })
    ∷ [])) ∷ [])

enum-spelled : Spells (rows (
    word "enum" ∷ word "E" ∷ Mark s.open_brace
    ∷ word "option" ∷ word "yes" ∷ Mark s.equals ∷ word "yes" ∷ Mark s.semicolon ∷ Mark s.semicolon
    ∷ word "reserved" ∷ number 1 ∷ Mark s.comma ∷ number 2 ∷ word "to" ∷ number 3 ∷ Mark s.comma ∷ Mark s.minus ∷ number 4 ∷ word "to" ∷ word "max" ∷ Mark s.semicolon
    ∷ word "reserved" ∷ text "A" ∷ Mark s.comma ∷ text "B" ∷ text "C" ∷ Mark s.semicolon
    ∷ word "optional" ∷ Mark s.equals ∷ number 0 ∷ Mark s.semicolon
    ∷ word "f" ∷ Mark s.equals ∷ Mark s.minus ∷ number 1 ∷ Mark s.open_bracket ∷ word "yes" ∷ Mark s.equals ∷ word "yes" ∷ Mark s.close_bracket ∷ Mark s.semicolon
    ∷ Mark s.close_brace ∷ [])) an_enum
enum-spelled = (
  refl,
  kept an_enum (
    (
      tt,
      (
        tt,
        (
          tt,
          (
            tt,
            (
              (among-none (codes "option" ∷ codes "reserved" ∷ []) (codes "optional") refl, tt),
              ((among-none (codes "option" ∷ codes "reserved" ∷ []) (codes "f") refl, (tt, tt)), tt),
            ),
          ),
        ),
      ),
    ),
    tt,
  ),
)

-- message M { extensions 5, 6 to max [yes = yes]; reserved 7; extensions 8; extensions 9 to 10, 11 [yes = yes]; }
abbrev ranges : t.File b.NoMark
ranges = b.of_message (
    b.extensions (b.ranges (b.one 5) (b.up_to_max 6 ∷ [])) (b.list "yes" b.yes_value)
    ∷ t.reserved (record { keyword = tt; kind = t.ranges (b.ranges (b.one 7) []); end = tt })
    ∷ b.extensions (b.ranges (b.one 8) []) None
    ∷ b.extensions (b.ranges (b.up_to 9 10) (b.one 11 ∷ [])) (b.list "yes" b.yes_value) ∷ [])

ranges-spelled : Spells (rows (
    word "message" ∷ word "M" ∷ Mark s.open_brace
    ∷ word "extensions" ∷ number 5 ∷ Mark s.comma ∷ number 6 ∷ word "to" ∷ word "max" ∷ Mark s.open_bracket ∷ word "yes" ∷ Mark s.equals ∷ word "yes" ∷ Mark s.close_bracket ∷ Mark s.semicolon
    ∷ word "reserved" ∷ number 7 ∷ Mark s.semicolon
    ∷ word "extensions" ∷ number 8 ∷ Mark s.semicolon
    ∷ word "extensions" ∷ number 9 ∷ word "to" ∷ number 10 ∷ Mark s.comma ∷ number 11 ∷ Mark s.open_bracket ∷ word "yes" ∷ Mark s.equals ∷ word "yes" ∷ Mark s.close_bracket ∷ Mark s.semicolon
    ∷ Mark s.close_brace ∷ [])) ranges
ranges-spelled = (refl, kept ranges (((tt, tt), (tt, (tt, ((tt, tt), tt)))), tt))

-- service S { option yes = yes; ; rpc R(stream stream) returns(.stream); rpc R(A) returns(A) { option yes = yes; ; } }
abbrev a_service : t.File b.NoMark
a_service = b.file (b.service (
    t.service_option (b.option "yes" b.yes_value)
    ∷ t.service_empty tt
    ∷ t.service_rpc (b.rpc (b.stream_type (b.name "stream" [])) (b.plain_type (b.rooted "stream" [])) (t.rpc_semicolon tt))
    ∷ t.service_rpc (b.rpc (b.plain_type (b.name "A" [])) (b.plain_type (b.name "A" [])) (t.rpc_braces tt (t.rpc_option (b.option "yes" b.yes_value) ∷ t.rpc_empty tt ∷ []) tt))
    ∷ []) ∷ [])

service-spelled : Spells (rows (
    word "service" ∷ word "S" ∷ Mark s.open_brace
    ∷ word "option" ∷ word "yes" ∷ Mark s.equals ∷ word "yes" ∷ Mark s.semicolon ∷ Mark s.semicolon
    ∷ word "rpc" ∷ word "R" ∷ Mark s.open_paren ∷ word "stream" ∷ word "stream" ∷ Mark s.close_paren ∷ word "returns" ∷ Mark s.open_paren ∷ Mark s.dot ∷ word "stream" ∷ Mark s.close_paren ∷ Mark s.semicolon
    ∷ word "rpc" ∷ word "R" ∷ Mark s.open_paren ∷ word "A" ∷ Mark s.close_paren ∷ word "returns" ∷ Mark s.open_paren ∷ word "A" ∷ Mark s.close_paren
    ∷ Mark s.open_brace ∷ word "option" ∷ word "yes" ∷ Mark s.equals ∷ word "yes" ∷ Mark s.semicolon ∷ Mark s.semicolon ∷ Mark s.close_brace
    ∷ Mark s.close_brace ∷ [])) a_service
service-spelled = (
  refl,
  kept a_service (
    (
      tt,
      (
        tt,
        (
          (tt, tt, tt),
          ((among-none (codes "stream" ∷ []) (codes "A") refl, among-none (codes "stream" ∷ []) (codes "A") refl, (tt, (tt, tt))), tt),
        ),
      ),
    ),
    tt,
  ),
)

-- extend A { int32 f = 1; ; }
abbrev an_extend : t.File b.NoMark
an_extend = b.file (t.an_extend (b.extend_of (b.name "A" []) (t.extend_field (b.unlabelled b.int32) ∷ t.extend_empty tt ∷ [])) ∷ [])

extend-spelled : Spells (rows (
    word "extend" ∷ word "A" ∷ Mark s.open_brace ∷ word "int32" ∷ word "f" ∷ Mark s.equals ∷ number 1 ∷ Mark s.semicolon ∷ Mark s.semicolon ∷ Mark s.close_brace ∷ [])) an_extend
extend-spelled = (refl, kept an_extend (((tt, (tt, tt)), (tt, tt)), tt))

extend-flat : d.depth an_extend ≡ 0
extend-flat = refl

-- The syntax trees of two files, by computing. Token n, counted from 0, has the span from n to n +
-- 1. The comments before and after it have its number as their text.
use Rattle.std.proofs.Common.{◌≡◌, ℕ, suc, List, [], ◌∷◌, Some, None, false, true, codes, refl}
use Rattle.protox_fault.specs.Faults.{Span}
use Rattle.protox_lexeme.specs.Shapes.{Shape, Ident, Str, Mark, Row}
use Rattle.protox_ast.specs.declared.ast.Comments.{Comments}
use Rattle.protox_ast.specs.declared.ast.Ident as name_type
use Rattle.protox_ast.specs.declared.ast.Syntax.TheVariants.{Proto2, Proto3}
use Rattle.protox_ast.specs.declared.ast.ImportKind.TheVariants.{Weak}
use Rattle.protox_ast.specs.declared.ast.OptionNamePart.TheVariants as part
use Rattle.protox_ast.specs.declared.ast.OptionValue.TheVariants as value
use Rattle.protox_ast.specs.declared.ast.Ty.TheVariants as ty
use Rattle.protox_ast.specs.declared.ast.FieldLabel.TheVariants as label
use Rattle.protox_ast.specs.declared.ast.Field.{roll-Field}
use Rattle.protox_ast.specs.declared.ast.FieldKind.TheVariants as kind
use Rattle.protox_ast.specs.declared.ast.ReservedKind.TheVariants as reserved
use Rattle.protox_ast.specs.declared.ast.ReservedRangeEnd.TheVariants as range_end
use Rattle.protox_ast.specs.declared.ast.Oneof.{roll-Oneof}
use Rattle.protox_ast.specs.declared.ast.Extend.{roll-Extend}
use Rattle.protox_ast.specs.declared.ast.MessageItem.TheVariants as item
use Rattle.protox_ast.specs.declared.ast.MessageBody.{roll-MessageBody}
use Rattle.protox_ast.specs.declared.ast.Message.{roll-Message}
use Rattle.protox_ast.specs.declared.ast.FileItem.TheVariants as declaration
use Rattle.protox_ast.specs.Tree as t
use Rattle.protox_ast.specs.Ast as ast
use Rattle.protox_ast.specs.Places.{Place}

-- from the token i to the token j
abbrev span : ℕ → ℕ → Span
span i j = record { start = i; end = suc j }

-- the span of the token n
abbrev spot : ℕ → Span
spot n = span n n

-- its place
abbrev at : ℕ → Place
at n = record { span = spot n; detached = []; leading = Some (n ∷ []); trailing = Some (n ∷ []) }

abbrev on : ℕ → ℕ → Comments
on i j = record { leading_detached_comments = []; leading_comment = Some (i ∷ []); trailing_comment = Some (j ∷ []) }

abbrev named : List ℕ → ℕ → name_type.Ident
named x n = record { value = x; span = spot n }

abbrev row : Shape → ℕ → Row Place
row s n = record { shape = s; at = at n }

-- syntax = "proto" "3"; package a.b; import weak "x"; ; option (x).y = -1.5; option k = { u: 'v' };
-- enum E { V = -1; reserved 1, 2 to max; option k = yes; } service S { rpc R(stream A) returns (.B) { ; } }
abbrev declarations : t.File Place
declarations = record {
  syntax = Some (record { keyword = at 0; equals_sign = at 1; value = record { first = (codes "proto", at 2); others = (codes "3", at 3) ∷ [] }; end = at 4 });
  statements =
      t.a_package (record { keyword = at 5; name = record { first = (codes "a", at 6); others = (at 7, (codes "b", at 8)) ∷ [] }; end = at 9 })
      ∷ t.an_import (record { keyword = at 10; kind = Some (t.weak (at 11)); value = record { first = (codes "x", at 12); others = [] }; end = at 13 })
      ∷ t.an_empty (at 14)
      ∷ t.an_option (record {
        keyword = at 15;
        body = record {
          first = t.extension_part (at 16) (record { leading_dot = None; name = record { first = (codes "x", at 17); others = [] } }) (at 18);
          others = (at 19, t.plain_part (codes "y", at 20)) ∷ [];
          equals_sign = at 21;
          value = t.constant (Some (at 22)) (t.float (codes "1.5", at 23));
        };
        end = at 24;
      })
      ∷ t.an_option (record {
        keyword = at 25;
        body = record {
          first = t.plain_part (codes "k", at 26);
          others = [];
          equals_sign = at 27;
          value = t.aggregate (at 28) (row (Ident (codes "u")) 29 ∷ row (Mark 58) 30 ∷ row (Str (codes "v")) 31 ∷ []) (at 32);
        };
        end = at 33;
      })
      ∷ t.an_enum (record {
        keyword = at 34;
        name = (codes "E", at 35);
        open_at = at 36;
        elements =
            t.enum_value (record { name = (codes "V", at 37); equals_sign = at 38; number = record { sign = Some (at 39); number = (1, at 40) }; options = None; end = at 41 })
            ∷ t.enum_reserved (record {
              keyword = at 42;
              kind = t.ranges (record {
                first = record { start = record { sign = None; number = (1, at 43) }; stop = None };
                others = (at 44, record { start = record { sign = None; number = (2, at 45) }; stop = Some (t.up_to_max (at 46) (at 47)) }) ∷ [];
              });
              end = at 48;
            })
            ∷ t.enum_option (record { keyword = at 49; body = record { first = t.plain_part (codes "k", at 50); others = []; equals_sign = at 51; value = t.constant None (t.ident (codes "yes", at 52)) }; end = at 53 })
            ∷ [];
        close_at = at 54;
      })
      ∷ t.a_service (record {
        keyword = at 55;
        name = (codes "S", at 56);
        open_at = at 57;
        elements =
            t.service_rpc (record {
              keyword = at 58;
              name = (codes "R", at 59);
              input_open = at 60;
              input = record { stream = Some (at 61); name = record { leading_dot = None; name = record { first = (codes "A", at 62); others = [] } } };
              input_close = at 63;
              returns_at = at 64;
              output_open = at 65;
              output = record { stream = None; name = record { leading_dot = Some (at 66); name = record { first = (codes "B", at 67); others = [] } } };
              output_close = at 68;
              end = t.rpc_braces (at 69) (t.rpc_empty (at 70) ∷ []) (at 71);
            }) ∷ [];
        close_at = at 72;
      })
      ∷ [];
}

declarations-seen : ast.file 73 declarations ≡ record {
  span = span 0 72;
  syntax = Proto3;
  syntax_span = Some (span 0 4, on 0 4);
  «package» = Some (record { name = named (codes "a") 6 ∷ named (codes "b") 8 ∷ []; comments = on 5 9; span = span 5 9 });
  imports = record { kind = Some (Weak, spot 11); value = ast.text_of (codes "x"); value_span = spot 12; comments = on 10 13; span = span 10 13 } ∷ [];
  options =
      record {
        body = record {
          name = part.Extension (record { leading_dot = None; name = named (codes "x") 17 ∷ [] }) (span 16 18) ∷ part.Ident (named (codes "y") 20) ∷ [];
          value = value.Float (record { value = codes "-1.5"; span = span 22 23 });
        };
        comments = on 15 24;
        span = span 15 24;
      }
      ∷ record { body = record { name = part.Ident (named (codes "k") 26) ∷ []; value = value.Aggregate (codes "u : \"v\"") (span 28 32) }; comments = on 25 33; span = span 25 33 }
      ∷ [];
  items =
      declaration.Enum (record {
        name = named (codes "E") 35;
        options = record { body = record { name = part.Ident (named (codes "k") 50) ∷ []; value = value.Ident false (named (codes "yes") 52) (spot 52) }; comments = on 49 53; span = span 49 53 } ∷ [];
        values = record { name = named (codes "V") 37; number = record { negative = true; value = 1; span = span 39 40 }; options = None; comments = on 37 41; span = span 37 41 } ∷ [];
        reserved = record {
          kind = reserved.Ranges (
              record { start = record { negative = false; value = 1; span = spot 43 }; end = range_end.None }
              ∷ record { start = record { negative = false; value = 2; span = spot 45 }; end = range_end.Max (spot 47) } ∷ []);
          comments = on 42 48;
          span = span 42 48;
        } ∷ [];
        comments = on 34 36;
        span = span 34 54;
      })
      ∷ declaration.Service (record {
        name = named (codes "S") 56;
        options = [];
        methods = record {
          name = named (codes "R") 59;
          input_ty = record { leading_dot = None; name = named (codes "A") 62 ∷ [] };
          output_ty = record { leading_dot = Some (spot 66); name = named (codes "B") 67 ∷ [] };
          options = [];
          client_streaming = Some (spot 61);
          server_streaming = None;
          comments = on 58 71;
          span = span 58 71;
        } ∷ [];
        comments = on 55 57;
        span = span 55 72;
      })
      ∷ [];
}
declarations-seen = refl

-- message M { optional .A f = 1 [k = "u" "v"]; map<int32, B> m = 2; group G = 3 { } oneof o { ; int32 x = 4; } extend C { int32 x = 5; }
-- message N { } ; extensions 6 to 7; reserved "r" "s"; }
abbrev a_message : t.File Place
a_message = record {
  syntax = None;
  statements = t.a_message (t.message_of (at 0) (codes "M", at 1) (t.mbody_of (at 2) (
      t.elements (t.field (t.field_of (Some (t.optional (at 3))) (t.normal (record {
        type = t.named (record { leading_dot = Some (at 4); name = record { first = (codes "A", at 5); others = [] } });
        name = (codes "f", at 6);
        equals_sign = at 7;
        number = record { sign = None; number = (1, at 8) };
        options = Some (record {
          open_at = at 9;
          first = record { first = t.plain_part (codes "k", at 10); others = []; equals_sign = at 11; value = t.strings (record { first = (codes "u", at 12); others = (codes "v", at 13) ∷ [] }) };
          others = [];
          close_at = at 14;
        });
        end = at 15;
      })))) (
      t.elements (t.field (t.field_of None (t.map (record {
        keyword = at 16;
        open_at = at 17;
        key = t.scalar t.int32 (at 18);
        comma_at = at 19;
        value = t.named (record { leading_dot = None; name = record { first = (codes "B", at 20); others = [] } });
        close_at = at 21;
        name = (codes "m", at 22);
        equals_sign = at 23;
        number = record { sign = None; number = (2, at 24) };
        options = None;
        end = at 25;
      })))) (
      t.elements (t.field (t.field_of None (t.group (t.group_of (at 26) (codes "G", at 27) (at 28) (record { sign = None; number = (3, at 29) }) None (t.mbody_of (at 30) t.no_elements (at 31)))))) (
      t.elements (t.oneof (t.oneof_of (at 32) (codes "o", at 33) (at 34) (t.oneof_elements (t.oneof_empty (at 35)) (t.oneof_elements (t.oneof_field (t.field_of None (t.normal (record {
        type = t.scalar t.int32 (at 36);
        name = (codes "x", at 37);
        equals_sign = at 38;
        number = record { sign = None; number = (4, at 39) };
        options = None;
        end = at 40;
      })))) t.no_oneof_elements)) (at 41))) (
      t.elements (t.extend (t.extend_of (at 42) (record { leading_dot = None; name = record { first = (codes "C", at 43); others = [] } }) (at 44) (t.extend_elements (t.extend_field (t.field_of None (t.normal (record {
        type = t.scalar t.int32 (at 45);
        name = (codes "x", at 46);
        equals_sign = at 47;
        number = record { sign = None; number = (5, at 48) };
        options = None;
        end = at 49;
      })))) t.no_extend_elements) (at 50))) (
      t.elements (t.message (t.message_of (at 51) (codes "N", at 52) (t.mbody_of (at 53) t.no_elements (at 54)))) (
      t.elements (t.empty (at 55)) (
      t.elements (t.extensions (record {
        keyword = at 56;
        ranges = record { first = record { start = record { sign = None; number = (6, at 57) }; stop = Some (t.up_to (at 58) (record { sign = None; number = (7, at 59) })) }; others = [] };
        options = None;
        end = at 60;
      })) (
      t.elements (t.reserved (record { keyword = at 61; kind = t.names (record { first = record { first = (codes "r", at 62); others = (codes "s", at 63) ∷ [] }; others = [] }); end = at 64 }))
      t.no_elements))))))))) (at 65))) ∷ [];
}

message-seen : ast.file 66 a_message ≡ record {
  span = span 0 65;
  syntax = Proto2;
  syntax_span = None;
  «package» = None;
  imports = [];
  options = [];
  items = declaration.Message (roll-Message (record {
    name = named (codes "M") 1;
    body = roll-MessageBody (record {
      items =
          item.Field (roll-Field (record {
            label = Some (label.Optional, spot 3);
            name = named (codes "f") 6;
            kind = kind.Normal (ty.Named (record { leading_dot = Some (spot 4); name = named (codes "A") 5 ∷ [] })) (span 4 5);
            number = record { negative = false; value = 1; span = spot 8 };
            options = Some (record {
              options = record { name = part.Ident (named (codes "k") 10) ∷ []; value = value.String (record { value = codes "uv"; span = span 12 13 }) } ∷ [];
              span = span 9 14;
            });
            comments = on 3 15;
            span = span 3 15;
          }))
          ∷ item.Field (roll-Field (record {
            label = None;
            name = named (codes "m") 22;
            kind = kind.Map (span 16 21) ty.Int32 (spot 18) (ty.Named (record { leading_dot = None; name = named (codes "B") 20 ∷ [] })) (spot 20);
            number = record { negative = false; value = 2; span = spot 24 };
            options = None;
            comments = on 16 25;
            span = span 16 25;
          }))
          ∷ item.Field (roll-Field (record {
            label = None;
            name = named (codes "G") 27;
            kind = kind.Group (spot 26) (roll-MessageBody (record { items = []; extensions = []; options = []; reserved = [] }));
            number = record { negative = false; value = 3; span = spot 29 };
            options = None;
            comments = on 26 30;
            span = span 26 31;
          }))
          ∷ item.Oneof (roll-Oneof (record {
            name = named (codes "o") 33;
            options = [];
            fields = roll-Field (record {
              label = None;
              name = named (codes "x") 37;
              kind = kind.Normal ty.Int32 (spot 36);
              number = record { negative = false; value = 4; span = spot 39 };
              options = None;
              comments = on 36 40;
              span = span 36 40;
            }) ∷ [];
            comments = on 32 34;
            span = span 32 41;
          }))
          ∷ item.Extend (roll-Extend (record {
            extendee = record { leading_dot = None; name = named (codes "C") 43 ∷ [] };
            fields = roll-Field (record {
              label = None;
              name = named (codes "x") 46;
              kind = kind.Normal ty.Int32 (spot 45);
              number = record { negative = false; value = 5; span = spot 48 };
              options = None;
              comments = on 45 49;
              span = span 45 49;
            }) ∷ [];
            comments = on 42 44;
            span = span 42 50;
          }))
          ∷ item.Message (roll-Message (record {
            name = named (codes "N") 52;
            body = roll-MessageBody (record { items = []; extensions = []; options = []; reserved = [] });
            comments = on 51 53;
            span = span 51 54;
          }))
          ∷ [];
      extensions = record {
        ranges = record { start = record { negative = false; value = 6; span = spot 57 }; end = range_end.Int (record { negative = false; value = 7; span = spot 59 }) } ∷ [];
        options = None;
        comments = on 56 60;
        span = span 56 60;
      } ∷ [];
      options = [];
      reserved = record { kind = reserved.Names (record { value = ast.text_of (codes "rs"); span = span 62 63 } ∷ []); comments = on 61 64; span = span 61 64 } ∷ [];
    });
    comments = on 0 2;
    span = span 0 65;
  })) ∷ [];
}
message-seen = refl

-- For each keyword rule a file that breaks only this rule. Then words that no rule bars.
use Rattle.std.proofs.Common.{◌≡◌, ℕ, false, List, [], ◌∷◌, ◌++◌, None, codes, refl, arith}
use Rattle.protox_lexeme.specs.Shapes.{Mark, Newline, Invalid}
use Rattle.protox_ast.specs.Tree as t
use Rattle.protox_ast.specs.Spelling as s
use Rattle.protox_ast.specs.Keywords as k
use Rattle.protox_grammar.specs.Class.{place, keywords, among}
use Rattle.protox_grammar.proofs.Begin.{among-none, places}
use Rattle.protox_grammar.proofs.samples.Build as b
use Rattle.protox_grammar.proofs.samples.Build.{rows}

abbrev Breaks : t.File b.NoMark → Type 0
Breaks f = k.KeepsKeywords f → ⊥

-- message M { repeated f = 1; } with a type named `repeated`
label-first : Breaks (b.of_message (t.field (b.unlabelled (t.named (b.name "repeated" []))) ∷ []))
label-first h = h.1.0.0.1.1.0 refl

-- message M { optional map f = 1; } with a type named `map`, and so with `group`
map-first : Breaks (b.of_message (t.field (b.labelled (t.named (b.name "map" []))) ∷ []))
map-first h = h.1.1.0.0 refl

group-first : Breaks (b.of_message (t.field (b.labelled (t.named (b.name "group" ("A" ∷ [])))) ∷ []))
group-first h = h.1.1.0.1.0 refl

-- message M { optional double.A f = 1; }
scalar-first : Breaks (b.of_message (t.field (b.labelled (t.named (b.name "double" ("A" ∷ [])))) ∷ []))
scalar-first h = h.1.1.0.1.1.0 refl

-- message M { enum f = 1; } with a type named `enum`
element-first : Breaks (b.of_message (t.field (b.unlabelled (t.named (b.name "enum" []))) ∷ []))
element-first h = h.1.0.1.1.0 refl

-- message M { oneof o { option f = 1; } } with a type named `option`
option-first : Breaks (b.of_message (b.oneof_of (t.oneof_field (b.unlabelled (t.named (b.name "option" []))) ∷ []) ∷ []))
option-first h = h.1.0.1.0 refl

-- message M { map<double.A, int32> f = 1; } and so with the value
key-scalar : Breaks (b.of_message (t.field (b.map_of (t.named (b.name "double" ("A" ∷ []))) b.int32) ∷ []))
key-scalar h = h.1.1.0.0.0 refl

value-scalar : Breaks (b.of_message (t.field (b.map_of b.int32 (t.named (b.name "double" ("A" ∷ [])))) ∷ []))
value-scalar h = h.1.1.0.1.0 refl

-- enum E { reserved = 0; }
value-reserved : Breaks (b.file (t.an_enum (b.enum_of (b.value "reserved" ∷ [])) ∷ []))
value-reserved h = h.0.1.0 refl

-- service S { rpc R(stream.A) returns (A); } without `stream` before the type
stream-first : Breaks (b.file (b.service (t.service_rpc (b.rpc (b.plain_type (b.name "stream" ("A" ∷ []))) (b.plain_type (b.name "A" [])) (t.rpc_semicolon tt)) ∷ []) ∷ []))
stream-first h = h.0.0 refl

-- option yes = { } { };
braces-closed : Breaks (b.file (t.an_option (b.option "yes" (t.aggregate tt (rows (Mark s.close_brace ∷ Mark s.open_brace ∷ [])) tt)) ∷ []))
braces-closed h = omega (arith, h.0.0.0 1)

-- option yes = { { };
braces-open : Breaks (b.file (t.an_option (b.option "yes" (t.aggregate tt (rows (Mark s.open_brace ∷ [])) tt)) ∷ []))
braces-open h = omega (arith, h.0.0.1)

-- What is no token may not stand in an aggregate.
invalid-inside : Breaks (b.file (t.an_option (b.option "yes" (t.aggregate tt (rows (Invalid ∷ [])) tt)) ∷ []))
invalid-inside h = let e = h.0.1.0 in absurd cc

newline-inside : Breaks (b.file (t.an_option (b.option "yes" (t.aggregate tt (rows (Newline ∷ [])) tt)) ∷ []))
newline-inside h = let e = h.0.1.0 in absurd cc

-- ---- words that no rule bars

abbrev of_word : List ℕ → t.FieldType b.NoMark
of_word w = t.named (record { leading_dot = None; name = record { first = (w, tt); others = [] } })

abbrev named : List ℕ → t.Field b.NoMark
named w = b.unlabelled (of_word w)

-- what a type of any field may begin with
abbrev others : List (List ℕ)
others = codes "syntax" ∷ codes "package" ∷ codes "import" ∷ codes "weak" ∷ codes "public" ∷ codes "service" ∷ codes "rpc" ∷ codes "stream" ∷ codes "returns" ∷ codes "to" ∷ codes "max" ∷ []

abbrev kinds : List (List ℕ)
kinds = codes "map" ∷ codes "group" ∷ k.scalars

-- The word is none of these, by the table of keywords.
abbrev IsOutside : List (List ℕ) → List ℕ → Type 0
IsOutside ks w = among (places ks) (place keywords w) ≡ false

abbrev KeptInMessage : t.Field b.NoMark → Type 0
KeptInMessage x = k.KeepsKeywords (b.of_message (t.field x ∷ []))

abbrev KeptInOneof : t.Field b.NoMark → Type 0
KeptInOneof x = k.KeepsKeywords (b.of_message (b.oneof_of (t.oneof_field x ∷ []) ∷ []))

message-kept : (w : List ℕ) → IsOutside k.labels w → IsOutside kinds w → IsOutside k.in_message w → KeptInMessage (named w)
message-kept w p q e = (tt, ((among-none k.labels w p, among-none k.in_message w e), (among-none kinds w q, tt)))

oneof-kept : (w : List ℕ) → IsOutside k.labels w → IsOutside kinds w → IsOutside (codes "option" ∷ []) w → KeptInOneof (named w)
oneof-kept w p q e = (tt, ((among-none k.labels w p, among-none (codes "option" ∷ []) w e), (among-none kinds w q, tt)))

in-message : k.Each (λ w. KeptInMessage (named w)) others
in-message = (
  message-kept _ refl refl refl,
  (
    message-kept _ refl refl refl,
    (
      message-kept _ refl refl refl,
      (
        message-kept _ refl refl refl,
        (
          message-kept _ refl refl refl,
          (
            message-kept _ refl refl refl,
            (message-kept _ refl refl refl, (message-kept _ refl refl refl, (message-kept _ refl refl refl, (message-kept _ refl refl refl, (message-kept _ refl refl refl, tt))))),
          ),
        ),
      ),
    ),
  ),
)

-- In a oneof also the words that begin other elements of a message.
in-oneof : k.Each (λ w. KeptInOneof (named w)) (codes "oneof" ∷ codes "enum" ∷ codes "message" ∷ codes "extend" ∷ codes "reserved" ∷ codes "extensions" ∷ [])
in-oneof = (oneof-kept _ refl refl refl, (oneof-kept _ refl refl refl, (oneof-kept _ refl refl refl, (oneof-kept _ refl refl refl, (oneof-kept _ refl refl refl, (oneof-kept _ refl refl refl, tt))))))

-- in an extend `option` too
in-extend : k.KeepsKeywords (b.file (t.an_extend (b.extend_of (b.name "A" []) (t.extend_field (named (codes "option")) ∷ [])) ∷ []))
in-extend = (among-none k.labels (codes "option") refl, (among-none kinds (codes "option") refl, tt))

-- the parts of a map may begin with `map` and `group`, and with the words of labels and elements
map-kept : (w : List ℕ) → IsOutside k.scalars w → KeptInMessage (b.map_of (of_word w) (of_word w))
map-kept w p = (tt, ((tt, tt), ((among-none k.scalars w p, among-none k.scalars w p), tt)))

in-map : k.Each (λ w. KeptInMessage (b.map_of (of_word w) (of_word w))) (codes "map" ∷ codes "group" ∷ (k.labels ++ k.in_message))
in-map = (
  map-kept _ refl,
  (
    map-kept _ refl,
    (
      map-kept _ refl,
      (
        map-kept _ refl,
        (
          map-kept _ refl,
          (
            map-kept _ refl,
            (
              map-kept _ refl,
              (
                map-kept _ refl,
                (
                  map-kept _ refl,
                  (map-kept _ refl, (map-kept _ refl, (map-kept _ refl, tt))),
                ),
              ),
            ),
          ),
        ),
      ),
    ),
  ),
)

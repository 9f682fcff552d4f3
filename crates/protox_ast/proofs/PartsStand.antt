-- Where names, numbers, strings and options stand, given the rows that spell them.
use Rattle.std.proofs.Common.{◌≡◌, List, [], ◌∷◌, ◌++◌, map, flat_map, Option, Some, None, refl, sym, subst, append_assoc}
use Rattle.std.specs.Prelude.{option_map}
use Rattle.std.proofs.lemmas.List.{append-nil}
use Rattle.protox_fault.specs.Faults.{Span}
use Rattle.protox_lexeme.specs.Shapes.{Mark, Row, Rows}
use Rattle.protox_ast.specs.declared.ast.Ident.{Ident}
use Rattle.protox_ast.specs.declared.ast.Reserved.{Reserved}
use Rattle.protox_ast.specs.Tree as t
use Rattle.protox_ast.specs.Spelling as s
use Rattle.protox_ast.specs.Places.{Place}
use Rattle.protox_ast.specs.Ast as ast
use Rattle.protox_ast.specs.Names.{name_span}
use Rattle.protox_ast.specs.Siblings.{Siblings, siblings, span_if_any, ident_spans, type_name_spans, type_siblings, part_siblings, value_siblings, body_siblings, list_span, list_siblings, range_siblings, end_if_any, option_siblings, reserved_siblings, extensions_siblings, extension_ranges, range_statement, reserved_ranges, name_statement, reserved_names}
use Rattle.protox_ast.specs.Spans.{part_span, value_span, body_span, range_span, end_place}
use Rattle.protox_ast.proofs.NamePlaces.{last-mapped}
use Rattle.protox_ast.proofs.SpansStand.{Hold, Begin, End, IsNode, begin-first, begin-front, end-last, end-back, end-many, none, nothing, one, past, token, both, after, leaf, whole, token-node, Lists, last-list, more-lists, spans-only}

-- ---- lists

-- Nodes with a mark before each, as in `("," x)*`.
module _ {A B : Type 0} (spell : A → Rows Place) (f : A → B) (span : B → Span) (inside : B → List Siblings) (h : (x : A) → IsNode (spell x) (span (f x)) (inside (f x))) where
  pub listed : (separator : Place → Row Place) (xs : List (Place × A)) → Hold (s.many (λ (y : Place × A). separator y.0 ∷ spell y.1) xs) (map span (map (λ (y : Place × A). f y.1) xs)) (flat_map inside (map (λ (y : Place × A). f y.1) xs))
  listed separator [] = none
  listed separator (x ∷ xs) = past (separator x.0) (both (spell x.1) (s.many (λ (y : Place × A). separator y.0 ∷ spell y.1) xs) (h x.1).hold (listed separator xs))

abbrev pub dot_row : Place → Row Place
dot_row m = record { shape = Mark s.dot; at = m }

abbrev pub comma_row : Place → Row Place
comma_row m = record { shape = Mark s.comma; at = m }

-- ---- names

idents : (xs : List (Place × t.Word Place)) → Hold (s.many (s.behind s.dot s.ident) xs) (ident_spans (map (λ y. ast.ident y.1) xs)) []
idents [] = none
idents (x ∷ xs) = past _ (token _ (idents xs))

pub fullident-hold : (x : t.FullIdent Place) → Hold (s.fullident x) (ident_spans (ast.fullident x)) []
fullident-hold x = token _ (idents x.others)

pub fullident-end : (x : t.FullIdent Place) → End (s.fullident x) (name_span (ast.fullident x)).end
fullident-end x =
    subst (λ (last : Span). End (s.fullident x) last.end) (sym (last-mapped (λ (y : Place × t.Word Place). ast.ident y.1) (λ (part : Ident). part.span) x.first.1.span x.others))
    (end-many (λ (y : Place × t.Word Place). y.1.1.span) (s.behind s.dot s.ident) (λ y. end-back (_ ∷ []) _ (end-last _)) (s.ident x.first) x.first.1.span (end-last _) x.others)

pub typename-hold : (x : t.TypeName Place) → Hold (s.typename x) (type_name_spans (ast.typename x)) []
typename-hold x = dotted x.leading_dot
  where
    dotted : (dot : Option Place) → Hold (s.maybe (s.sign s.dot) dot ++ s.fullident x.name) (span_if_any (ast.span_if_any dot) ++ ident_spans (ast.fullident x.name)) []
    dotted None = fullident-hold x.name
    dotted (Some m) = token _ (fullident-hold x.name)

typename-begin : (x : t.TypeName Place) → Begin (s.typename x) (ast.typename_span x).start
typename-begin x = dotted x.leading_dot
  where
    dotted : (dot : Option Place) → Begin (s.maybe (s.sign s.dot) dot ++ s.fullident x.name) (ast.join_if_any (ast.span_if_any dot) (name_span (ast.fullident x.name))).start
    dotted None = begin-first _ _
    dotted (Some m) = begin-first _ _

typename-end : (x : t.TypeName Place) → End (s.typename x) (ast.typename_span x).end
typename-end x = dotted x.leading_dot
  where
    dotted : (dot : Option Place) → End (s.maybe (s.sign s.dot) dot ++ s.fullident x.name) (ast.join_if_any (ast.span_if_any dot) (name_span (ast.fullident x.name))).end
    dotted None = fullident-end x.name
    dotted (Some m) = end-back (_ ∷ []) (s.fullident x.name) (fullident-end x.name)

pub typename-node : (x : t.TypeName Place) → IsNode (s.typename x) (ast.typename_span x) (siblings (ast.typename_span x) (type_name_spans (ast.typename x)) ∷ [])
typename-node x = whole (ast.typename_span x) (typename-begin x) (typename-end x) (typename-hold x)

-- ---- numbers and strings

pub signed-node : (sign : Option Place) (r : Row Place) → IsNode (s.maybe (s.sign s.minus) sign ++ (r ∷ [])) (ast.join_if_any (ast.span_if_any sign) r.at.span) []
signed-node None r = token-node r
signed-node (Some m) r = leaf (ast.join m.span r.at.span) (begin-first _ _) (end-back (_ ∷ []) _ (end-last r))

pub int-node : (x : t.Int Place) → IsNode (s.int x) (ast.int x).span []
int-node x = signed-node x.sign _

pub strings-node : (x : t.Strings Place) → IsNode (s.strings x) (ast.strings_span x) []
strings-node x = leaf (ast.strings_span x) (begin-first _ _) (end-many (λ (y : t.Text Place). y.1.span) s.string (λ y. end-last _) (s.string x.first) x.first.1.span (end-last _) x.others)

-- ---- options

pub value-node : (x : t.Value Place) → IsNode (s.value x) (value_span (ast.value x)) (value_siblings (ast.value x))
value-node (t.constant sign (t.ident x)) = whole (ast.join_if_any (ast.span_if_any sign) x.1.span) (signed-node sign (_)).begin (signed-node sign (_)).end (signed sign)
  where
    signed : (sign : Option Place) → Hold (s.maybe (s.sign s.minus) sign ++ s.ident x) (x.1.span ∷ []) []
    signed None = one _
    signed (Some m) = past _ (one _)
value-node (t.constant sign (t.integer x)) = signed-node sign _
value-node (t.constant sign (t.float x)) = signed-node sign _
value-node (t.strings x) = strings-node x
value-node (t.aggregate o inside c) = leaf (ast.join o.span c.span) (begin-first _ _) (end-back (_ ∷ []) _ (end-back inside _ (end-last _)))

pub part-node : (x : t.Part Place) → IsNode (s.part x) (part_span (ast.part x)) (part_siblings (ast.part x))
part-node (t.plain_part x) = token-node _
part-node (t.extension_part o x c) = whole (ast.join o.span c.span) (begin-first _ _) (end-back (_ ∷ []) _ (end-back (s.typename x) _ (end-last _))) (past _ (after (s.typename x) _ (typename-hold x)))

pub body-node : (x : t.Body Place) → IsNode (s.body x) (body_span (ast.body x)) (body_siblings (ast.body x))
body-node x =
    let first = part-node x.first in
    let value = value-node x.value in
    let parts = flat_map part_siblings (map (λ (y : Place × t.Part Place). ast.part y.1) x.others) in
    let rest : Hold (s.many (s.behind s.dot s.part) x.others ++ (s.sign s.equals x.equals_sign ++ s.value x.value)) (map part_span (map (λ (y : Place × t.Part Place). ast.part y.1) x.others) ++ value_span (ast.value x.value) ∷ []) (parts ++ value_siblings (ast.value x.value)) =
    both (s.many (s.behind s.dot s.part) x.others) _ (listed s.part ast.part part_span part_siblings part-node dot_row x.others) (past _ value.hold) in
    whole (body_span (ast.body x)) (begin-front (s.part x.first) _ first.begin)
    (end-back (s.part x.first) _ (end-back (s.many (s.behind s.dot s.part) x.others) _ (end-back (_ ∷ []) _ value.end)))
    (subst (λ i. Hold (s.body x) (map part_span (ast.body x).name ++ value_span (ast.value x.value) ∷ []) i) (sym (append_assoc (part_siblings (ast.part x.first)) parts (value_siblings (ast.value x.value))))
    (both (s.part x.first) _ first.hold rest))

list-node : (x : t.OptionList Place) → IsNode (s.list x) (ast.list x).span (list_siblings (Some (ast.list x)))
list-node x = whole (ast.list x).span (begin-first _ _) (end-back (_ ∷ []) _ (end-back (s.body x.first) _ (end-back (s.many (s.behind s.comma s.body) x.others) _ (end-last _))))
    (past _ (both (s.body x.first) _ (body-node x.first).hold (after (s.many (s.behind s.comma s.body) x.others) _ (listed s.body ast.body body_span body_siblings body-node comma_row x.others))))

-- a list of options, if there is one
pub list-hold : (x : Option (t.OptionList Place)) → Hold (s.maybe s.list x) (list_span (option_map ast.list x)) (list_siblings (option_map ast.list x))
list-hold None = none
list-hold (Some x) = (list-node x).hold

pub option-node : (x : t.OptionStatement Place) → IsNode (s.option x) (ast.option x).span (option_siblings (ast.option x))
option-node x = whole (ast.option x).span (begin-first _ _) (end-back (_ ∷ []) _ (end-back (s.body x.body) _ (end-last _))) (past _ (after (s.body x.body) _ (body-node x.body).hold))

-- ---- types

scalar-none : (x : t.Scalar) (span : Span) → type_siblings (ast.scalar x) span ≡ []
scalar-none t.double span = refl
scalar-none _ span = refl

pub type-node : (x : t.FieldType Place) → IsNode (s.type x) (ast.type_span x) (type_siblings (ast.type x) (ast.type_span x))
type-node (t.scalar x m) = subst (λ i. IsNode (s.type (t.scalar x m)) m.span i) (sym (scalar-none x m.span)) (token-node _)
type-node (t.named x) = typename-node x

-- ---- ranges, reserved and extensions statements

range-of : (a : t.Int Place) (b : Option (t.RangeEnd Place)) → IsNode (s.int a ++ s.maybe s.range_end b) (ast.join (ast.int a).span (end_place (ast.int a).span (ast.range_end b)))
    (siblings (ast.join (ast.int a).span (end_place (ast.int a).span (ast.range_end b))) ((ast.int a).span ∷ end_if_any (ast.range_end b)) ∷ [])
range-of a None = whole (ast.int a).span (begin-front (s.int a) [] (int-node a).begin) (subst (λ rows. End rows (ast.int a).span.end) (sym (append-nil (s.int a))) (int-node a).end) (after (s.int a) [] (int-node a).hold)
range-of a (Some (t.up_to k b)) = whole (ast.join (ast.int a).span (ast.int b).span) (begin-front (s.int a) _ (int-node a).begin) (end-back (s.int a) _ (end-back (_ ∷ []) _ (int-node b).end)) (both (s.int a) _ (int-node a).hold (past _ (int-node b).hold))
range-of a (Some (t.up_to_max k m)) = whole (ast.join (ast.int a).span m.span) (begin-front (s.int a) _ (int-node a).begin) (end-back (s.int a) _ (end-back (_ ∷ []) _ (end-last _))) (both (s.int a) _ (int-node a).hold (past _ (one _)))

range-node : (x : t.Range Place) → IsNode (s.range x) (range_span (ast.range x)) (range_siblings (ast.range x))
range-node x = range-of x.start x.stop

ranges-hold : (x : t.Ranges Place) → Hold (s.ranges x) (map range_span (ast.ranges x)) (flat_map range_siblings (ast.ranges x))
ranges-hold x = both (s.range x.first) _ (range-node x.first).hold (listed s.range ast.range range_span range_siblings range-node comma_row x.others)

names-hold : (xs : List (Place × t.Strings Place)) → Hold (s.many (s.behind s.comma s.strings) xs) (ident_spans (map (λ (y : Place × t.Strings Place). ast.reserved_name y.1) xs)) []
names-hold [] = none
names-hold (x ∷ xs) = past _ (both (s.strings x.1) _ (strings-node x.1).hold (names-hold xs))

reserved-of : (k : Place) (x : t.ReservedKind Place) (e : Place) → IsNode (s.reserved (record { keyword = k; kind = x; end = e })) (ast.join k.span e.span) (reserved_siblings (ast.reserved (record { keyword = k; kind = x; end = e })))
reserved-of k (t.ranges x) e = whole (ast.join k.span e.span) (begin-first _ _) (end-back (_ ∷ []) _ (end-back (s.ranges x) _ (end-last _))) (past _ (after (s.ranges x) _ (ranges-hold x)))
reserved-of k (t.names x) e = whole (ast.join k.span e.span) (begin-first _ _) (end-back (_ ∷ []) _ (end-back (s.names x) _ (end-last _)))
    (past _ (after (s.names x) _ (both (s.strings x.first) _ (strings-node x.first).hold (names-hold x.others))))

pub reserved-node : (x : t.Reserved Place) → IsNode (s.reserved x) (ast.reserved x).span (reserved_siblings (ast.reserved x))
reserved-node x = reserved-of x.keyword x.kind x.end

pub extensions-node : (x : t.Extensions Place) → IsNode (s.extensions x) (ast.extensions x).span (extensions_siblings (ast.extensions x))
extensions-node x = whole (ast.extensions x).span (begin-first _ _) (end-back (_ ∷ []) _ (end-back (s.ranges x.ranges) _ (end-back (s.maybe s.list x.options) _ (end-last _))))
    (past _ (both (s.ranges x.ranges) _ (ranges-hold x.ranges) (after (s.maybe s.list x.options) _ (list-hold x.options))))

-- The ranges of an extensions statement, and what a reserved statement holds.
pub extension_ranges-hold : (x : t.Extensions Place) → Hold (s.extensions x) (extension_ranges (ast.extensions x)) []
extension_ranges-hold x = past _ (after (s.ranges x.ranges) _ (spans-only (ranges-hold x.ranges)))

range_statement-hold : (x : t.Reserved Place) → Hold (s.reserved x) (range_statement (ast.reserved x)) []
range_statement-hold x = of x.keyword x.kind x.end
  where
    of : (k : Place) (kind : t.ReservedKind Place) (e : Place) → Hold (s.reserved (record { keyword = k; kind = kind; end = e })) (range_statement (ast.reserved (record { keyword = k; kind = kind; end = e }))) []
    of k (t.ranges y) e = spans-only (reserved-of k (t.ranges y) e).hold
    of k (t.names y) e = nothing _

reserved_ranges-hold : (x : t.Reserved Place) → Hold (s.reserved x) (reserved_ranges (ast.reserved x)) []
reserved_ranges-hold x = of x.keyword x.kind x.end
  where
    of : (k : Place) (kind : t.ReservedKind Place) (e : Place) → Hold (s.reserved (record { keyword = k; kind = kind; end = e })) (reserved_ranges (ast.reserved (record { keyword = k; kind = kind; end = e }))) []
    of k (t.ranges y) e = past _ (after (s.ranges y) _ (spans-only (ranges-hold y)))
    of k (t.names y) e = nothing _

name_statement-hold : (x : t.Reserved Place) → Hold (s.reserved x) (name_statement (ast.reserved x)) []
name_statement-hold x = of x.keyword x.kind x.end
  where
    of : (k : Place) (kind : t.ReservedKind Place) (e : Place) → Hold (s.reserved (record { keyword = k; kind = kind; end = e })) (name_statement (ast.reserved (record { keyword = k; kind = kind; end = e }))) []
    of k (t.ranges y) e = nothing _
    of k (t.names y) e = spans-only (reserved-of k (t.names y) e).hold

reserved_names-hold : (x : t.Reserved Place) → Hold (s.reserved x) (reserved_names (ast.reserved x)) []
reserved_names-hold x = of x.keyword x.kind x.end
  where
    of : (k : Place) (kind : t.ReservedKind Place) (e : Place) → Hold (s.reserved (record { keyword = k; kind = kind; end = e })) (reserved_names (ast.reserved (record { keyword = k; kind = kind; end = e }))) []
    of k (t.ranges y) e = nothing _
    of k (t.names y) e = past _ (after (s.names y) _ (both (s.strings y.first) _ (strings-node y.first).hold (names-hold y.others)))

-- The lists of reserved statements, given rows that hold what each statement does.
pub reserved-lists : (rows : Rows Place) (xs : List Reserved) {i : List Siblings} → ((f : Reserved → List Span) → ((x : t.Reserved Place) → Hold (s.reserved x) (f (ast.reserved x)) []) → Hold rows (flat_map f xs) []) → Hold rows (map (λ (x : Reserved). x.span) xs) i
    → Lists rows (flat_map range_statement xs ∷ (flat_map reserved_ranges xs ∷ (flat_map name_statement xs ∷ (flat_map reserved_names xs ∷ (map (λ (x : Reserved). x.span) xs ∷ []))))) i
reserved-lists rows xs f g = more-lists (f range_statement range_statement-hold) (more-lists (f reserved_ranges reserved_ranges-hold) (more-lists (f name_statement name_statement-hold) (more-lists (f reserved_names reserved_names-hold) (last-list g))))

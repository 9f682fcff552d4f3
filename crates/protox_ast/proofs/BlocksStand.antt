-- Where enums, services and fields without a body stand, given the rows that spell them.
use Rattle.std.proofs.Common.{◌≡◌, List, [], ◌∷◌, ◌++◌, map, flat_map, codes, Option, Some, None, sym, ap, subst, append_assoc, ◌∙◌}
use Rattle.std.specs.Prelude.{option_map}
use Rattle.std.specs.List.{filter_map, cons_option}
use Rattle.std.proofs.lemmas.List.{append-nil}
use Rattle.std.specs.Option.{unwrap_or}
use Rattle.protox_fault.specs.Faults.{Span}
use Rattle.protox_lexeme.specs.Shapes.{Rows}
use Rattle.protox_ast.specs.declared.ast.Reserved.{Reserved}
use Rattle.protox_ast.specs.Tree as t
use Rattle.protox_ast.specs.Spelling as s
use Rattle.protox_ast.specs.Places.{Place}
use Rattle.protox_ast.specs.Ast as ast
use Rattle.protox_ast.specs.Siblings.{Siblings, siblings, span_if_any, place_if_any, type_name_spans, type_siblings, list_span, list_siblings, option_spans, option_siblings, reserved_siblings, enum_value_siblings, enum_siblings, method_siblings, service_siblings}
use Rattle.protox_ast.proofs.SpansStand.{Hold, Begin, End, IsNode, begin-first, end-last, end-back, none, nothing, one, past, token, both, before, after, whole, last-list, more-lists, lists-node}
use Rattle.protox_ast.proofs.PartsStand.{typename-hold, int-node, list-hold, option-node, reserved-node, reserved-lists, type-node}

-- ---- declarations of one kind

abbrev pub span_of_some : {B : Type 0} → (B → Span) → Option B → List Span
span_of_some span None = []
span_of_some span (Some y) = span y ∷ []

abbrev pub inside_some : {B : Type 0} → (B → List Siblings) → Option B → List Siblings
inside_some inside None = []
inside_some inside (Some y) = inside y

module _ {A B : Type 0} (spell : A → Rows Place) (f : A → Option B) (span : B → Span) (inside : B → List Siblings) (h : (x : A) → Hold (spell x) (span_of_some span (f x)) (inside_some inside (f x))) where
  chosen-step : (a b : Rows Place) (x : Option B) (ys : List B) → Hold a (span_of_some span x) (inside_some inside x) → Hold b (map span ys) (flat_map inside ys) → Hold (a ++ b) (map span (cons_option x ys)) (flat_map inside (cons_option x ys))
  chosen-step a b None ys f g = both a b f g
  chosen-step a b (Some y) ys f g = both a b f g

  pub chosen : (xs : List A) → Hold (s.many spell xs) (map span (filter_map f xs)) (flat_map inside (filter_map f xs))
  chosen [] = none
  chosen (x ∷ xs) = chosen-step (spell x) (s.many spell xs) (f x) (filter_map f xs) (h x) (chosen xs)

-- The parts of those that are chosen.
module _ {A B : Type 0} (spell : A → Rows Place) (f : A → Option B) (parts : B → List Span) (h : (x : A) → Hold (spell x) (flat_map parts (cons_option (f x) [])) []) where
  chosen_parts-step : (a b : Rows Place) (x : Option B) (ys : List B) → Hold a (flat_map parts (cons_option x [])) [] → Hold b (flat_map parts ys) [] → Hold (a ++ b) (flat_map parts (cons_option x ys)) []
  chosen_parts-step a b None ys f g = both a b f g
  chosen_parts-step a b (Some y) ys f g = both a b (subst (λ xs. Hold a xs []) (append-nil (parts y)) f) g

  pub chosen_parts : (xs : List A) → Hold (s.many spell xs) (flat_map parts (filter_map f xs)) []
  chosen_parts [] = none
  chosen_parts (x ∷ xs) = chosen_parts-step (spell x) (s.many spell xs) (f x) (filter_map f xs) (h x) (chosen_parts xs)

-- ---- enums

pub tail-hold : (name : t.Word Place) (e : Place) (n : t.Int Place) (l : Option (t.OptionList Place)) (rest : Rows Place)
    → Hold (s.ident name ++ (s.sign s.equals e ++ (s.int n ++ (s.maybe s.list l ++ rest)))) (name.1.span ∷ ((ast.int n).span ∷ list_span (option_map ast.list l))) (list_siblings (option_map ast.list l))
tail-hold name e n l rest = token _ (past _ (both (s.int n) _ (int-node n).hold (after (s.maybe s.list l) rest (list-hold l))))

evalue-node : (x : t.Evalue Place) → IsNode (s.evalue x) (ast.evalue x).span (enum_value_siblings (ast.evalue x))
evalue-node x = whole (ast.evalue x).span (begin-first _ _) (end-back (_ ∷ _ ∷ []) _ (end-back (s.int x.number) _ (end-back (s.maybe s.list x.options) _ (end-last _))))
    (tail-hold x.name x.equals_sign x.number x.options _)

enum-option : (x : t.EnumElement Place) → Hold (s.enum_element x) (span_of_some (λ y. y.span) (ast.enum_option x)) (inside_some option_siblings (ast.enum_option x))
enum-option (t.enum_empty m) = nothing _
enum-option (t.enum_option x) = (option-node x).hold
enum-option (t.enum_reserved x) = nothing _
enum-option (t.enum_value x) = nothing _

enum-value : (x : t.EnumElement Place) → Hold (s.enum_element x) (span_of_some (λ y. y.span) (ast.enum_value x)) (inside_some enum_value_siblings (ast.enum_value x))
enum-value (t.enum_empty m) = nothing _
enum-value (t.enum_option x) = nothing _
enum-value (t.enum_reserved x) = nothing _
enum-value (t.enum_value x) = (evalue-node x).hold

enum-reserved : (x : t.EnumElement Place) → Hold (s.enum_element x) (span_of_some (λ y. y.span) (ast.enum_reserved x)) (inside_some reserved_siblings (ast.enum_reserved x))
enum-reserved (t.enum_empty m) = nothing _
enum-reserved (t.enum_option x) = nothing _
enum-reserved (t.enum_reserved x) = (reserved-node x).hold
enum-reserved (t.enum_value x) = nothing _

enum_reserved-parts : (f : Reserved → List Span) → ((x : t.Reserved Place) → Hold (s.reserved x) (f (ast.reserved x)) []) → (x : t.EnumElement Place) → Hold (s.enum_element x) (flat_map f (cons_option (ast.enum_reserved x) [])) []
enum_reserved-parts f h (t.enum_empty m) = nothing _
enum_reserved-parts f h (t.enum_option x) = nothing _
enum_reserved-parts f h (t.enum_reserved x) = subst (λ xs. Hold (s.reserved x) xs []) (sym (append-nil (f (ast.reserved x)))) (h x)
enum_reserved-parts f h (t.enum_value x) = nothing _

pub enum-node : (x : t.Enum Place) → IsNode (s.enum x) (ast.enum x).span (enum_siblings (ast.enum x))
enum-node x =
    let elements = s.many s.enum_element x.elements in
    lists-node (ast.enum x).span (begin-first _ _) (end-back (_ ∷ _ ∷ _ ∷ []) _ (end-back elements _ (end-last _)))
    (more-lists (past _ (token _ (nothing _)))
    (more-lists (past _ (past _ (past _ (after elements _ (chosen s.enum_element ast.enum_option (λ y. y.span) option_siblings enum-option x.elements)))))
    (more-lists (past _ (past _ (past _ (after elements _ (chosen s.enum_element ast.enum_value (λ y. y.span) enum_value_siblings enum-value x.elements)))))
    (reserved-lists (s.enum x) (ast.enum x).reserved (λ f h. past _ (past _ (past _ (after elements _ (chosen_parts s.enum_element ast.enum_reserved f (enum_reserved-parts f h) x.elements)))))
    (past _ (past _ (past _ (after elements _ (chosen s.enum_element ast.enum_reserved (λ y. y.span) reserved_siblings enum-reserved x.elements)))))))))

-- ---- services

rpc_type-hold : (x : t.RpcType Place) → Hold (s.rpc_type x) (span_if_any (ast.span_if_any x.stream) ++ type_name_spans (ast.typename x.name)) []
rpc_type-hold x = streamed x.stream
  where
    streamed : (stream : Option Place) → Hold (s.rpc_type (record { stream = stream; name = x.name })) (span_if_any (ast.span_if_any stream) ++ type_name_spans (ast.typename x.name)) []
    streamed None = typename-hold x.name
    streamed (Some m) = token _ (typename-hold x.name)

rpc-option : (x : t.RpcElement Place) → Hold (s.rpc_element x) (span_of_some (λ y. y.span) (ast.rpc_option x)) (inside_some option_siblings (ast.rpc_option x))
rpc-option (t.rpc_empty m) = nothing _
rpc-option (t.rpc_option x) = (option-node x).hold

rpc_end-hold : (x : t.RpcEnd Place) → Hold (s.rpc_end x) (option_spans (ast.rpc_options x)) (flat_map option_siblings (ast.rpc_options x))
rpc_end-hold (t.rpc_semicolon m) = nothing _
rpc_end-hold (t.rpc_braces o xs c) = past _ (after (s.many s.rpc_element xs) _ (chosen s.rpc_element ast.rpc_option (λ y. y.span) option_siblings rpc-option xs))

rpc_end-end : (x : t.RpcEnd Place) → End (s.rpc_end x) (ast.rpc_last x).span.end
rpc_end-end (t.rpc_semicolon m) = end-last _
rpc_end-end (t.rpc_braces o xs c) = end-back (_ ∷ []) _ (end-back (s.many s.rpc_element xs) _ (end-last _))

rpc-node : (x : t.Rpc Place) → IsNode (s.rpc x) (ast.rpc x).span (method_siblings (ast.rpc x))
rpc-node x = lists-node (ast.rpc x).span (begin-first _ _)
    (end-back (_ ∷ _ ∷ _ ∷ []) _ (end-back (s.rpc_type x.input) _ (end-back (_ ∷ _ ∷ _ ∷ []) _ (end-back (s.rpc_type x.output) _ (end-back (_ ∷ []) _ (rpc_end-end x.end))))))
    (more-lists (past _ (token _ (past _ (both (s.rpc_type x.input) _ (rpc_type-hold x.input) (past _ (past _ (past _ (after (s.rpc_type x.output) _ (rpc_type-hold x.output)))))))))
    (last-list (past _ (past _ (past _ (before (s.rpc_type x.input) _ (past _ (past _ (past _ (before (s.rpc_type x.output) _ (past _ (rpc_end-hold x.end))))))))))))

service-option : (x : t.ServiceElement Place) → Hold (s.service_element x) (span_of_some (λ y. y.span) (ast.service_option x)) (inside_some option_siblings (ast.service_option x))
service-option (t.service_empty m) = nothing _
service-option (t.service_option x) = (option-node x).hold
service-option (t.service_rpc x) = nothing _

service-rpc : (x : t.ServiceElement Place) → Hold (s.service_element x) (span_of_some (λ y. y.span) (ast.service_rpc x)) (inside_some method_siblings (ast.service_rpc x))
service-rpc (t.service_empty m) = nothing _
service-rpc (t.service_option x) = nothing _
service-rpc (t.service_rpc x) = (rpc-node x).hold

pub service-node : (x : t.Service Place) → IsNode (s.service x) (ast.service x).span (service_siblings (ast.service x))
service-node x =
    let elements = s.many s.service_element x.elements in
    lists-node (ast.service x).span (begin-first _ _) (end-back (_ ∷ _ ∷ _ ∷ []) _ (end-back elements _ (end-last _)))
    (more-lists (past _ (token _ (nothing _)))
    (more-lists (past _ (past _ (past _ (after elements _ (chosen s.service_element ast.service_option (λ y. y.span) option_siblings service-option x.elements)))))
    (last-list (past _ (past _ (past _ (after elements _ (chosen s.service_element ast.service_rpc (λ y. y.span) method_siblings service-rpc x.elements))))))))

-- ---- fields

pub label-hold : (x : Option (t.Label Place)) → Hold (s.maybe s.label x) (place_if_any (option_map ast.label x)) []
label-hold None = none
label-hold (Some (t.optional m)) = one _
label-hold (Some (t.required m)) = one _
label-hold (Some (t.repeated m)) = one _

-- a field begins with its label, or with the first token of its kind
pub field-begin : (l : Option (t.Label Place)) (first : Place) (rows : Rows Place) → Begin rows first.span.start → Begin (s.maybe s.label l ++ rows) (ast.field_first l first).span.start
field-begin None first rows f = f
field-begin (Some (t.optional m)) first rows f = begin-first _ _
field-begin (Some (t.required m)) first rows f = begin-first _ _
field-begin (Some (t.repeated m)) first rows f = begin-first _ _

pub type-begin : (x : t.FieldType Place) → Begin (s.type x) (ast.type_first x).span.start
type-begin (t.scalar x m) = begin-first _ _
type-begin (t.named x) = dotted x.leading_dot
  where
    dotted : (dot : Option Place) → Begin (s.typename (record { leading_dot = dot; name = x.name })) (unwrap_or dot x.name.first.1).span.start
    dotted None = begin-first _ _
    dotted (Some m) = begin-first _ _

-- a map's type, from `map` to `>`
abbrev pub map_rows : t.Map Place → Rows Place
map_rows x = s.keyword (codes "map") x.keyword ++ (s.sign s.open_angle x.open_at ++ (s.type x.key ++ (s.sign s.comma x.comma_at ++ (s.type x.value ++ s.sign s.close_angle x.close_at))))

abbrev pub map_tail : t.Map Place → Rows Place
map_tail x = s.ident x.name ++ (s.sign s.equals x.equals_sign ++ (s.int x.number ++ (s.maybe s.list x.options ++ s.sign s.semicolon x.end)))

pub map-parts : (x : t.Map Place) → map_rows x ++ map_tail x ≡ s.map x
map-parts x =
    let behind = s.sign s.close_angle x.close_at in
    ap (λ (rows : Rows Place). s.keyword (codes "map") x.keyword ++ (s.sign s.open_angle x.open_at ++ rows))
    (append_assoc (s.type x.key) (s.sign s.comma x.comma_at ++ (s.type x.value ++ behind)) (map_tail x)
    ∙ ap (λ (rows : Rows Place). s.type x.key ++ (s.sign s.comma x.comma_at ++ rows)) (append_assoc (s.type x.value) behind (map_tail x)))

pub map_type-node : (x : t.Map Place) → IsNode (map_rows x) (ast.join x.keyword.span x.close_at.span)
    (siblings (ast.join x.keyword.span x.close_at.span) (ast.type_span x.key ∷ (ast.type_span x.value ∷ [])) ∷ (type_siblings (ast.type x.key) (ast.type_span x.key) ++ type_siblings (ast.type x.value) (ast.type_span x.value)))
map_type-node x = whole (ast.join x.keyword.span x.close_at.span) (begin-first _ _) (end-back (_ ∷ _ ∷ []) _ (end-back (s.type x.key) _ (end-back (_ ∷ []) _ (end-back (s.type x.value) _ (end-last _)))))
    (past _ (past _ (both (s.type x.key) _ (type-node x.key).hold (past _ (after (s.type x.value) _ (type-node x.value).hold)))))

-- The rows of a field after its type.
pub tail-end : (name : t.Word Place) (e : Place) (n : t.Int Place) (l : Option (t.OptionList Place)) (end : Place) → End (s.ident name ++ (s.sign s.equals e ++ (s.int n ++ (s.maybe s.list l ++ s.sign s.semicolon end)))) end.span.end
tail-end name e n l end = end-back (_ ∷ _ ∷ []) _ (end-back (s.int n) _ (end-back (s.maybe s.list l) _ (end-last _)))

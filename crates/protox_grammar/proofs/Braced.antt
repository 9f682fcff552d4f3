-- The steps of trees without checked nodes and without bodies. Only the braces of their aggregates
-- are noted.
use Rattle.std.proofs.Common.{◌≡◌, List, [], ◌∷◌, ◌++◌, Option, Some, None, refl, sym, ap, ◌∙◌}
use Rattle.std.proofs.lemmas.List.{append-nil}
use Rattle.std.specs.List.{flat_map}
use Rattle.protox_lexeme.specs.Shapes.{Mark, Rows}
use Rattle.protox_ast.specs.Tree as t
use Rattle.protox_ast.specs.Spelling as s
use Rattle.protox_ast.specs.inner.AggregateWalk as a
use Rattle.protox_ast.specs.inner.AggregateWalk.{Braces}
use Rattle.protox_grammar.specs.Class.{just_mark}
use Rattle.protox_grammar.specs.Rule.{row, seq, times}
use Rattle.protox_grammar.specs.Rules as r
use Rattle.protox_grammar.specs.Steps.{AnOpenBrace, ACloseBrace, Note, Steps, plainly, steps_of_many, steps_of_option}
use Rattle.protox_grammar.proofs.Notes.{notes, notes-append, brace_events, events-append}

abbrev pub Braced : {M : Type 0} → Steps M → Braces M → Type 0
Braced l bs = notes l ≡ brace_events bs

pub both : {M : Type 0} (l k : Steps M) (xs ys : Braces M) → Braced l xs → Braced k ys → Braced (l ++ k) (xs ++ ys)
both l k xs ys f g = notes-append l k ∙ (λ i. f i ++ g i) ∙ sym (events-append xs ys)

pub first : {M : Type 0} (l k : Steps M) (xs : Braces M) → Braced l xs → Braced k [] → Braced (l ++ k) xs
first l k xs f g = notes-append l k ∙ (λ i. f i ++ g i) ∙ append-nil (brace_events xs)

pub second : {M : Type 0} (l k : Steps M) (ys : Braces M) → Braced l [] → Braced k ys → Braced (l ++ k) ys
second l k ys f g = both l k [] ys f g

pub many : {M A : Type 0} (f : A → Steps M) (g : A → Braces M) → ((x : A) → Braced (f x) (g x)) → (xs : List A) → Braced (steps_of_many f xs) (flat_map g xs)
many f g h [] = refl
many f g h (x ∷ xs) = both (f x) (steps_of_many f xs) (g x) (flat_map g xs) (h x) (many f g h xs)

pub none-of : {M A : Type 0} (f : A → Steps M) → ((x : A) → Braced (f x) []) → (xs : List A) → Braced (steps_of_many f xs) []
none-of f h [] = refl
none-of f h (x ∷ xs) = both (f x) (steps_of_many f xs) [] [] (h x) (none-of f h xs)

pub maybe-none : {M A : Type 0} (f : A → Steps M) → ((x : A) → Braced (f x) []) → (o : Option A) → Braced (steps_of_option f o) []
maybe-none f h None = refl
maybe-none f h (Some x) = h x

plainly-none : {M : Type 0} (rs : Rows M) → Braced (plainly rs) []
plainly-none [] = refl
plainly-none (x ∷ xs) = plainly-none xs

module _ {M : Type 0} where
  pub strings-braced : (x : t.Strings M) → Braced (r.strings.steps x) []
  unfolding r.strings
  strings-braced x = none-of r.string.steps (λ y. refl) x.others

  pub import_kind-braced : (x : t.ImportKind M) → Braced (r.import_kind.steps x) []
  unfolding r.import_kind
  import_kind-braced (t.weak a) = refl
  import_kind-braced (t.«public» a) = refl

  pub fullident-braced : (x : t.FullIdent M) → Braced (r.fullident.steps x) []
  unfolding r.fullident
  fullident-braced x = none-of (seq (r.sign s.dot) r.ident).steps (λ y. refl) x.others

  pub package-braced : (x : t.Package M) → Braced (r.«package».steps x) []
  unfolding r.«package»
  package-braced x = both (r.fullident.steps x.name) ((r.sign s.semicolon).steps x.end) [] [] (fullident-braced x.name) refl

  pub typename-braced : (x : t.TypeName M) → Braced (r.typename.steps x) []
  unfolding r.typename
  typename-braced x = both (steps_of_option (r.sign s.dot).steps x.leading_dot) (r.fullident.steps x.name) [] [] (maybe-none (r.sign s.dot).steps (λ y. refl) x.leading_dot) (fullident-braced x.name)

  pub part-braced : (x : t.Part M) → Braced (r.part.steps x) []
  unfolding r.part
  part-braced (t.plain_part x) = refl
  part-braced (t.extension_part o x c) = both (r.typename.steps x) ((r.sign s.close_paren).steps c) [] [] (typename-braced x) refl

  pub constant-braced : (x : t.Constant M) → Braced (r.constant.steps x) []
  unfolding r.constant
  constant-braced (t.ident x) = refl
  constant-braced (t.integer x) = refl
  constant-braced (t.float x) = refl

  pub value-braced : (x : t.Value M) → Braced (r.value.steps x) (a.of_value x)
  unfolding r.value
  value-braced (t.constant o x) = both (steps_of_option (r.sign s.minus).steps o) (r.constant.steps x) [] [] (maybe-none (r.sign s.minus).steps (λ y. refl) o) (constant-braced x)
  value-braced (t.strings x) = strings-braced x
  value-braced (t.aggregate o inside c) =
      ap (λ u. AnOpenBrace o ∷ u) (notes-append (plainly (inside ++ (row (Mark s.close_brace) c ∷ []))) (Note (ACloseBrace c) ∷ []) ∙ ap (λ u. u ++ (ACloseBrace c ∷ [])) (plainly-none (inside ++ (row (Mark s.close_brace) c ∷ []))))

  pub body-braced : (x : t.Body M) → Braced (r.body.steps x) (a.of_body x)
  unfolding r.body
  body-braced x =
      second (r.part.steps x.first) ((seq (times (just_mark s.dot) (seq (r.sign s.dot) r.part)) (seq (r.sign s.equals) r.value)).steps (x.others, (x.equals_sign, x.value))) (a.of_body x) (part-braced x.first)
      (second (steps_of_many (seq (r.sign s.dot) r.part).steps x.others) ((seq (r.sign s.equals) r.value).steps (x.equals_sign, x.value)) (a.of_body x) (none-of (seq (r.sign s.dot) r.part).steps (λ y. part-braced y.1) x.others) (value-braced x.value))

  pub option-braced : (x : t.OptionStatement M) → Braced (r.option.steps x) (a.of_option x)
  unfolding r.option
  option-braced x = first (r.body.steps x.body) ((r.sign s.semicolon).steps x.end) (a.of_option x) (body-braced x.body) refl

  pub list-braced : (x : t.OptionList M) → Braced (r.list.steps x) (a.of_list (Some x))
  unfolding r.list
  list-braced x =
      both (r.body.steps x.first) (steps_of_many (seq (r.sign s.comma) r.body).steps x.others ++ ((r.sign s.close_bracket).steps x.close_at)) (a.of_body x.first) (flat_map (λ y. a.of_body y.1) x.others) (body-braced x.first)
      (first (steps_of_many (seq (r.sign s.comma) r.body).steps x.others) ((r.sign s.close_bracket).steps x.close_at) (flat_map (λ y. a.of_body y.1) x.others) (many (seq (r.sign s.comma) r.body).steps (λ y. a.of_body y.1) (λ y. body-braced y.1) x.others) refl)

  pub options-braced : (o : Option (t.OptionList M)) → Braced (steps_of_option r.list.steps o) (a.of_list o)
  options-braced None = refl
  options-braced (Some x) = list-braced x

  pub int-braced : (x : t.Int M) → Braced (r.int.steps x) []
  unfolding r.int
  int-braced x = both (steps_of_option (r.sign s.minus).steps x.sign) (r.integer.steps x.number) [] [] (maybe-none (r.sign s.minus).steps (λ y. refl) x.sign) refl

  pub type-braced : (x : t.FieldType M) → Braced (r.type.steps x) []
  unfolding r.type
  type-braced (t.scalar n m) = refl
  type-braced (t.named x) = typename-braced x

  pub label-braced : (x : t.Label M) → Braced (r.label.steps x) []
  unfolding r.label
  label-braced (t.optional m) = refl
  label-braced (t.required m) = refl
  label-braced (t.repeated m) = refl

  pub ended-braced : (i : t.Int M) (o : Option (t.OptionList M)) (m : M) → Braced (r.int.steps i ++ (steps_of_option r.list.steps o ++ (r.sign s.semicolon).steps m)) (a.of_list o)
  ended-braced i o m = second (r.int.steps i) (steps_of_option r.list.steps o ++ (r.sign s.semicolon).steps m) (a.of_list o) (int-braced i) (first (steps_of_option r.list.steps o) ((r.sign s.semicolon).steps m) (a.of_list o) (options-braced o) refl)

  pub normal-braced : (x : t.Normal M) → Braced (r.normal.steps x) (a.of_list x.options)
  unfolding r.normal
  normal-braced x = second (r.type.steps x.type) (r.ident.steps x.name ++ ((r.sign s.equals).steps x.equals_sign ++ (r.int.steps x.number ++ (steps_of_option r.list.steps x.options ++ (r.sign s.semicolon).steps x.end)))) (a.of_list x.options) (type-braced x.type) (ended-braced x.number x.options x.end)

  pub map-braced : (x : t.Map M) → Braced (r.map.steps x) (a.of_list x.options)
  unfolding r.map
  map-braced x =
      second (r.type.steps x.key) _ (a.of_list x.options) (type-braced x.key)
      (second (r.type.steps x.value) ((r.sign s.close_angle).steps x.close_at ++ (r.ident.steps x.name ++ ((r.sign s.equals).steps x.equals_sign ++ (r.int.steps x.number ++ (steps_of_option r.list.steps x.options ++ (r.sign s.semicolon).steps x.end))))) (a.of_list x.options) (type-braced x.value) (ended-braced x.number x.options x.end))

  pub range_end-braced : (x : t.RangeEnd M) → Braced (r.range_end.steps x) []
  unfolding r.range_end
  range_end-braced (t.up_to m x) = int-braced x
  range_end-braced (t.up_to_max m x) = refl

  pub stop-braced : (o : Option (t.RangeEnd M)) → Braced (steps_of_option r.range_end.steps o) []
  stop-braced None = refl
  stop-braced (Some x) = range_end-braced x

  pub range-braced : (x : t.Range M) → Braced (r.range.steps x) []
  unfolding r.range
  range-braced x = both (r.int.steps x.start) (steps_of_option r.range_end.steps x.stop) [] [] (int-braced x.start) (stop-braced x.stop)

  pub ranges-braced : (x : t.Ranges M) → Braced (r.ranges.steps x) []
  unfolding r.ranges
  ranges-braced x = both (r.range.steps x.first) (steps_of_many (seq (r.sign s.comma) r.range).steps x.others) [] [] (range-braced x.first) (none-of (seq (r.sign s.comma) r.range).steps (λ y. range-braced y.1) x.others)

  pub extensions-braced : (x : t.Extensions M) → Braced (r.extensions.steps x) (a.of_extensions x)
  unfolding r.extensions
  extensions-braced x =
      second (r.ranges.steps x.ranges) (steps_of_option r.list.steps x.options ++ (r.sign s.semicolon).steps x.end) (a.of_extensions x) (ranges-braced x.ranges)
      (first (steps_of_option r.list.steps x.options) ((r.sign s.semicolon).steps x.end) (a.of_list x.options) (options-braced x.options) refl)

  pub evalue-braced : (x : t.Evalue M) → Braced (r.evalue.steps x) (a.of_list x.options)
  unfolding r.evalue
  evalue-braced x = ended-braced x.number x.options x.end

  pub streamed-braced : (o : Option M) (y : t.TypeName M) → Braced (r.rpc_type.steps (record { stream = o; name = y })) []
  unfolding r.rpc_type
  streamed-braced (Some m) y = typename-braced y
  streamed-braced None y = typename-braced y

  pub rpc_element-braced : (x : t.RpcElement M) → Braced (r.rpc_element.steps x) (a.of_rpc_element x)
  unfolding r.rpc_element
  rpc_element-braced (t.rpc_empty m) = refl
  rpc_element-braced (t.rpc_option x) = option-braced x

  pub rpc_end-braced : (x : t.RpcEnd M) → Braced (r.rpc_end.steps x) (a.of_rpc_end x)
  unfolding r.rpc_end
  rpc_end-braced (t.rpc_semicolon m) = refl
  rpc_end-braced (t.rpc_braces o xs c) = first (steps_of_many r.rpc_element.steps xs) ((r.sign s.close_brace).steps c) (flat_map a.of_rpc_element xs) (many r.rpc_element.steps a.of_rpc_element rpc_element-braced xs) refl

  pub rpc-braced : (x : t.Rpc M) → Braced (r.rpc.steps x) (a.of_rpc_end x.end)
  unfolding r.rpc
  rpc-braced x =
      second (r.rpc_type.steps x.input) _ (a.of_rpc_end x.end) (streamed-braced x.input.stream x.input.name)
      (second (r.rpc_type.steps x.output) ((r.sign s.close_paren).steps x.output_close ++ r.rpc_end.steps x.end) (a.of_rpc_end x.end) (streamed-braced x.output.stream x.output.name) (rpc_end-braced x.end))

  pub service_element-braced : (x : t.ServiceElement M) → Braced (r.service_element.steps x) (a.of_service_element x)
  unfolding r.service_element
  service_element-braced (t.service_empty m) = refl
  service_element-braced (t.service_option x) = option-braced x
  service_element-braced (t.service_rpc x) = rpc-braced x

  pub service-braced : (x : t.Service M) → Braced (r.service.steps x) (a.of_service x)
  unfolding r.service
  service-braced x = first (steps_of_many r.service_element.steps x.elements) ((r.sign s.close_brace).steps x.close_at) (a.of_service x) (many r.service_element.steps a.of_service_element service_element-braced x.elements) refl

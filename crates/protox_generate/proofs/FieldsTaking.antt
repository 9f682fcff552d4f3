-- What fields take: a field takes its own comments; if it is a group, its message takes them.
use Rattle.std.proofs.Common.{ℕ, ◌+◌, ◌≤◌, List, [], ◌∷◌, ◌++◌, map, Option, Some, None, ℤ, refl, ap, sym, subst, ◌∙◌, arith}
use Rattle.std.specs.Option.{unwrap_or}
use Rattle.protox_fault.specs.Faults.{Span}
use Rattle.protox_lexeme.specs.Shapes.{Rows}
use Rattle.protox_ast.proofs.Lemmas.{field-gives, kind-group, kind-map, kind-normal}
use Rattle.protox_ast.specs.Ast as ast
use Rattle.protox_ast.specs.Places.{Place}
use Rattle.protox_ast.specs.Spelling as s
use Rattle.protox_ast.specs.Steps.{of_field, of_body}
use Rattle.protox_ast.specs.Tree as t
use Rattle.protox_ast.specs.declared.ast.Field.{Field, out-Field}
use Rattle.protox_ast.specs.declared.ast.TypeName.{TypeName}
use Rattle.protox_locate.specs.FieldLocations.{OfField, OfKind, Normal, Group, Map}
use Rattle.protox_locate.specs.LocationWords.{Path}
use Rattle.protox_locate.specs.Locations.{location_steps, messages_of}
use Rattle.protox_generate.proofs.Taking.{Weights, Cost, free, open_brace, behind, behind-append, weigh, weigh-append, Take, take-none, take-bare, take-ending, take-opening, Parts, parts-none, parts-first, parts-one, parts-append}
use Rattle.protox_generate.proofs.PartsTaking.{behind-free}

-- ---- the rows of a field

-- behind its label or without one
first-within : (w : Weights) (l : Option (t.Label Place)) (first last : Place) (rows : Rows Place) (more : ℕ) → w.first first + w.both first last + more ≤ weigh w rows → ((p : Place) → w.both p last ≤ behind w p rows)
    → w.first (ast.field_first l first) + w.both (ast.field_first l first) last + more ≤ weigh w (s.maybe s.label l ++ rows)
first-within w None first last rows more h k = h
first-within w (Some (t.optional m)) first last rows more h k = omega (arith, h, k m)
first-within w (Some (t.required m)) first last rows more h k = omega (arith, h, k m)
first-within w (Some (t.repeated m)) first last rows more h k = omega (arith, h, k m)

dotted-first : (w : Weights) (dot : Option Place) (x : t.FullIdent Place) (rest : Rows Place)
    → let p = unwrap_or dot x.first.1 in w.first p + behind w p rest + weigh w rest ≤ weigh w ((s.maybe (s.sign s.dot) dot ++ s.fullident x) ++ rest)
dotted-first w None x rest = omega (arith, behind-append w x.first.1 (s.many (s.behind s.dot s.ident) x.others) rest, weigh-append w (s.many (s.behind s.dot s.ident) x.others) rest)
dotted-first w (Some m) x rest = omega (arith, behind-append w m (s.many (s.behind s.dot s.ident) x.others) rest, weigh-append w (s.many (s.behind s.dot s.ident) x.others) rest)

type-first : (w : Weights) (x : t.FieldType Place) (rest : Rows Place) → let p = ast.type_first x in w.first p + behind w p rest + weigh w rest ≤ weigh w (s.type x ++ rest)
type-first w (t.scalar x m) rest = omega arith
type-first w (t.named x) rest = dotted-first w x.leading_dot x.name rest

abbrev tail : t.Word Place → Place → t.Int Place → Option (t.OptionList Place) → Place → Rows Place
tail name e n l end = s.ident name ++ (s.sign s.equals e ++ (s.int n ++ (s.maybe s.list l ++ s.sign s.semicolon end)))

tail-last : (w : Weights) (name : t.Word Place) (e : Place) (n : t.Int Place) (l : Option (t.OptionList Place)) (end : Place) → w.last end ≤ weigh w (tail name e n l end)
tail-last w name e n l end = omega (arith, weigh-append w (s.int n) (s.maybe s.list l ++ s.sign s.semicolon end), weigh-append w (s.maybe s.list l) (s.sign s.semicolon end))

tail-behind : (w : Weights) (p : Place) (name : t.Word Place) (e : Place) (n : t.Int Place) (l : Option (t.OptionList Place)) (end : Place) → w.both p end ≤ behind w p (tail name e n l end)
tail-behind w p name e n l end = omega (arith, behind-append w p (s.int n) (s.maybe s.list l ++ s.sign s.semicolon end), behind-append w p (s.maybe s.list l) (s.sign s.semicolon end))

normal-behind : (w : Weights) (p : Place) (x : t.Normal Place) → w.both p x.end ≤ behind w p (s.normal x)
normal-behind w p x = omega (arith, behind-append w p (s.type x.type) (tail x.name x.equals_sign x.number x.options x.end), tail-behind w p x.name x.equals_sign x.number x.options x.end)

normal-ends : (w : Weights) (x : t.Normal Place) → w.first (ast.type_first x.type) + w.both (ast.type_first x.type) x.end + w.last x.end ≤ weigh w (s.normal x)
normal-ends w x = omega (
  arith,
  type-first w x.type (tail x.name x.equals_sign x.number x.options x.end),
  tail-last w x.name x.equals_sign x.number x.options x.end,
  tail-behind w (ast.type_first x.type) x.name x.equals_sign x.number x.options x.end,
)

-- the rows of a map behind `map <`
abbrev map_types : t.Map Place → Rows Place
map_types x = s.type x.key ++ (s.sign s.comma x.comma_at ++ (s.type x.value ++ (s.sign s.close_angle x.close_at ++ tail x.name x.equals_sign x.number x.options x.end)))

types-behind : (w : Weights) (p : Place) (x : t.Map Place) → w.both p x.end ≤ behind w p (map_types x)
types-behind w p x = omega (
  arith,
  tail-behind w p x.name x.equals_sign x.number x.options x.end,
  behind-append w p (s.type x.key) (s.sign s.comma x.comma_at ++ (s.type x.value ++ (s.sign s.close_angle x.close_at ++ tail x.name x.equals_sign x.number x.options x.end))),
  behind-append w p (s.type x.value) (s.sign s.close_angle x.close_at ++ tail x.name x.equals_sign x.number x.options x.end),
)

map-behind : (w : Weights) (p : Place) (x : t.Map Place) → w.both p x.end ≤ behind w p (s.map x)
map-behind w p x = omega (arith, types-behind w p x)

map-ends : (w : Weights) (x : t.Map Place) → w.first x.keyword + w.both x.keyword x.end + w.last x.end ≤ weigh w (s.map x)
map-ends w x = omega (
  arith,
  types-behind w x.keyword x,
  tail-last w x.name x.equals_sign x.number x.options x.end,
  weigh-append w (s.type x.key) (s.sign s.comma x.comma_at ++ (s.type x.value ++ (s.sign s.close_angle x.close_at ++ tail x.name x.equals_sign x.number x.options x.end))),
  weigh-append w (s.type x.value) (s.sign s.close_angle x.close_at ++ tail x.name x.equals_sign x.number x.options x.end),
)

module _ (numbers : Span → List ℤ) where
  -- ---- fields

  -- the field and the message made for it take comments of these rows
  pub record FieldTakes (rows : Rows Place) (f : OfField) : Type 0 where
    pub own : Cost
    pub messages : Cost
    pub own_takes : (extendee : Option TypeName) (path : Path) → Take numbers (f.own extendee path) own
    pub message_parts : Parts numbers f.messages messages
    pub within : (w : Weights) → own w + messages w ≤ weigh w rows

  -- a body takes comments of its rows, but not the one that trails its `{`; that row is before its
  -- end
  pub record BodyTakes (b : t.Mbody Place) : Type 0 where
    pub inside : Cost
    pub takes : (path : Path) → Take numbers (of_body (location_steps numbers) (ast.mbody b) path) inside
    pub within : (w : Weights) → w.last (ast.body_open b) + w.mark open_brace (ast.body_open b) + w.both (ast.body_open b) (ast.body_close b) + inside w ≤ weigh w (s.mbody b)
    pub opens : (w : Weights) (p : Place) → w.both p (ast.body_open b) ≤ behind w p (s.mbody b)

  -- a field of this kind
  abbrev made : Field → OfKind → OfField
  made x kind = let y = out-Field x in (location_steps numbers).field (record { label = y.label; name = y.name; kind = kind; number = y.number; options = y.options; comments = y.comments; span = y.span })

  pub normal-takes : (l : Option (t.Label Place)) (x : t.Normal Place) → FieldTakes (s.maybe s.label l ++ s.normal x) (of_field (location_steps numbers) (ast.normal l x))
  normal-takes l x =
      let y = out-Field (ast.normal l x) in
      subst (FieldTakes (s.maybe s.label l ++ s.normal x))
      (sym (field-gives (location_steps numbers) (ast.normal l x) ∙ ap (made (ast.normal l x)) (kind-normal (location_steps numbers) (ast.type x.type) (ast.type_span x.type))))
      (record {
        own = λ w. w.first (ast.field_first l (ast.type_first x.type)) + w.both (ast.field_first l (ast.type_first x.type)) x.end + w.last x.end;
        messages = free;
        own_takes = λ extendee path.
            take-ending (ast.field_first l (ast.type_first x.type)) x.end (refl, refl, refl, refl) (take-bare (refl, refl, refl) (behind-free numbers path extendee y.number y.label y.name (Normal (ast.type x.type) (ast.type_span x.type)) y.options)) (λ w. omega arith);
        message_parts = parts-none free;
        within = λ w. omega (arith, first-within w l (ast.type_first x.type) x.end (s.normal x) (w.last x.end) (normal-ends w x) (λ p. normal-behind w p x));
      })

  pub map-takes : (l : Option (t.Label Place)) (x : t.Map Place) → FieldTakes (s.maybe s.label l ++ s.map x) (of_field (location_steps numbers) (ast.map_field l x))
  map-takes l x =
      let y = out-Field (ast.map_field l x) in
      let span = ast.join x.keyword.span x.close_at.span in
      subst (FieldTakes (s.maybe s.label l ++ s.map x))
      (sym (field-gives (location_steps numbers) (ast.map_field l x)
      ∙ ap (made (ast.map_field l x)) (kind-map (location_steps numbers) span (ast.type x.key) (ast.type_span x.key) (ast.type x.value) (ast.type_span x.value))))
      (record {
        own = λ w. w.first (ast.field_first l x.keyword) + w.both (ast.field_first l x.keyword) x.end + w.last x.end;
        messages = free;
        own_takes = λ extendee path. take-ending (ast.field_first l x.keyword) x.end (refl, refl, refl, refl) (take-bare (refl, refl, refl) (behind-free numbers path extendee y.number y.label y.name (Map span) y.options)) (λ w. omega arith);
        message_parts = parts-one (λ path. take-none free);
        within = λ w. omega (arith, first-within w l x.keyword x.end (s.map x) (w.last x.end) (map-ends w x) (λ p. map-behind w p x));
      })

  -- A group itself takes nothing. Its message takes the declaration's comments.
  pub group-takes : (l : Option (t.Label Place)) (k : Place) (n : t.Word Place) (e : Place) (i : t.Int Place) (o : Option (t.OptionList Place)) (b : t.Mbody Place)
      → BodyTakes b → FieldTakes (s.maybe s.label l ++ s.group (t.group_of k n e i o b)) (of_field (location_steps numbers) (ast.group l (t.group_of k n e i o b)))
  group-takes l k n e i o b body =
      let x = ast.group l (t.group_of k n e i o b) in
      let y = out-Field x in
      let rows = s.group (t.group_of k n e i o b) in
      let part = of_body (location_steps numbers) (ast.mbody b) in
      let first = ast.field_first l k in
      let brace = ast.body_open b in
      let last = ast.body_close b in
      let opened : (w : Weights) (p : Place) → w.both p brace ≤ behind w p rows =
      λ w p. omega (arith, body.opens w p, behind-append w p (s.int i) (s.maybe s.list o ++ s.mbody b), behind-append w p (s.maybe s.list o) (s.mbody b))
      in
      let inner : (w : Weights) → w.both k brace ≤ behind w k (s.int i ++ (s.maybe s.list o ++ s.mbody b)) =
      λ w. omega (arith, body.opens w k, behind-append w k (s.int i) (s.maybe s.list o ++ s.mbody b), behind-append w k (s.maybe s.list o) (s.mbody b))
      in
      subst (FieldTakes (s.maybe s.label l ++ rows)) (sym (field-gives (location_steps numbers) x ∙ ap (made x) (kind-group (location_steps numbers) k.span (ast.mbody b))))
      (record {
        own = free;
        messages = λ w. w.first first + w.both first brace + (w.last brace + w.mark open_brace brace + w.both brace last + body.inside w);
        own_takes = λ extendee path. take-bare (refl, refl, refl) (take-bare (refl, refl, refl) (behind-free numbers path extendee y.number y.label y.name (Group k.span part) y.options));
        message_parts = parts-one (λ path. take-opening first brace last (refl, refl, refl, refl) (take-bare (refl, refl, refl) (body.takes path)) (λ w. omega arith));
        within = λ w.
            omega (
              arith,
              first-within w l k brace rows (w.last brace + w.mark open_brace brace + w.both brace last + body.inside w)
                  (omega (arith, body.within w, inner w, weigh-append w (s.int i) (s.maybe s.list o ++ s.mbody b), weigh-append w (s.maybe s.list o) (s.mbody b))) (opened w),
            );
      })

  -- ---- several fields

  pub record FieldsTake (rows : Rows Place) (fs : List OfField) : Type 0 where
    pub own : Cost
    pub messages : Cost
    pub own_parts : (extendee : Option TypeName) → Parts numbers (map (λ (f : OfField). f.own extendee) fs) own
    pub message_parts : Parts numbers (messages_of fs) messages
    pub within : (w : Weights) → own w + messages w ≤ weigh w rows

  pub fields-none : FieldsTake [] []
  fields-none = record { own = free; messages = free; own_parts = λ extendee. parts-none free; message_parts = parts-none free; within = λ w. omega arith }

  pub fields-more : (a rows : Rows Place) {fs : List OfField} → FieldsTake a fs → ((w : Weights) → weigh w a ≤ weigh w rows) → FieldsTake rows fs
  fields-more a rows f more = record { own = f.own; messages = f.messages; own_parts = f.own_parts; message_parts = f.message_parts; within = λ w. omega (arith, f.within w, more w) }

  pub fields-first : (a b : Rows Place) {f : OfField} {fs : List OfField} → FieldTakes a f → FieldsTake b fs → FieldsTake (a ++ b) (f ∷ fs)
  fields-first a b f g = record {
    own = λ w. f.own w + g.own w;
    messages = λ w. f.messages w + g.messages w;
    own_parts = λ extendee. parts-first (f.own_takes extendee) (g.own_parts extendee);
    message_parts = parts-append f.message_parts g.message_parts;
    within = λ w. omega (arith, f.within w, g.within w, weigh-append w a b);
  }

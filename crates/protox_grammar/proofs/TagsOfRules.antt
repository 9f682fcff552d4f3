-- The rules of the grammar don't depend on the tags of rows.
use Rattle.std.proofs.Common.{codes, ◌≡◌, ℕ, zero, suc, ◌-◌, ◌==◌, [], ◌∷◌, Result, Ok, refl, sym, ap, ◌∙◌}
use Rattle.protox_lexeme.specs.Shapes.{Mark, Row, Rows}
use Rattle.protox_ast.specs.CheckedNodes.{CheckedNode, ASyntax, AnImport, AReservedName, AGroupName}
use Rattle.protox_ast.specs.KeywordWalk as k
use Rattle.protox_ast.specs.Spelling as s
use Rattle.protox_ast.specs.Tree as t
use Rattle.protox_grammar.specs.Bodies as b
use Rattle.protox_grammar.specs.Class.{all, among, only, union, words, just_word, just_mark, but_mark, among_words, an_integer, a_float, a_string, mark}
use Rattle.protox_grammar.specs.TagLaws.{map_fullident, map_tags, map_node, map_package, map_strings, map_text, map_event, map_steps}
use Rattle.protox_grammar.specs.Reader as reader
use Rattle.protox_grammar.specs.Reader.{Refusal, Deep, ◌>>=◌, see_word, see_integer, see_float, see_text}
use Rattle.protox_grammar.specs.Rule.{Rule}
use Rattle.protox_grammar.specs.Rules as r
use Rattle.protox_grammar.specs.Steps.{Event, Note, Token, AKeyword, ADeepBody, ANode, APackage, AnOpenBrace, ACloseBrace}
use Rattle.protox_grammar.proofs.Tags.{same-length, Goes, IsAlike, Unnoted, pairwise-map, goes-if, goes-on, refused, plain-alike, fixed-reads, steps-if, fixed-alike, leaf-alike, seq-alike, unless-alike, choice-alike, optional-alike, times-alike, named_as-alike, named-alike, named_fits-alike, noting-alike}

module _ {M N : Type 0} (f : M → N) where
  -- ---- up to the brace that closes

  keeps-alike : (q : Row M) (x : Result (Rows M × Rows M) Refusal) (y : Result (Rows N × Rows N) Refusal) → Goes f Unnoted x y
      → Goes f Unnoted (x >>= λ u. Ok (q ∷ u.0, u.1)) (y >>= λ v. Ok (record { shape = q.shape; at = f q.at } ∷ v.0, v.1))
  keeps-alike q x y h = goes-on f Unnoted Unnoted x y _ _ h (λ u v w e. (tt, e))

  balanced-reads : (n : ℕ) (xs : Rows M) → Goes f Unnoted (r.balanced_at n xs) (r.balanced_at n (map_tags f xs))
  unfolding r.balanced_at
  balanced-reads n [] = refl
  balanced-reads n (q ∷ qs) =
      goes-if f Unnoted (k.is_open_brace q.shape) (k.is_open_brace q.shape) _ _ _ _ refl (keeps-alike q (r.balanced_at (suc n) qs) _ (balanced-reads (suc n) qs))
      (goes-if f Unnoted (k.is_close_brace q.shape) (k.is_close_brace q.shape) _ _ _ _ refl
      (goes-if f Unnoted (n == 0) (n == 0) (Ok ([], q ∷ qs)) _ (Ok ([], map_tags f (q ∷ qs))) _ refl (tt, refl) (keeps-alike q (r.balanced_at (n - 1) qs) _ (balanced-reads (n - 1) qs)))
      (goes-if f Unnoted (k.is_significant q.shape) (k.is_significant q.shape) _ _ _ _ refl (keeps-alike q (r.balanced_at n qs) _ (balanced-reads n qs)) (refused f (q ∷ qs))))

  -- the brace that closes is the last part
  abbrev Closed : Rows M × M → Rows N × N → Type 0
  Closed x y = y.1 ≡ f x.1

  closed-reads : (xs : Rows M) → Goes f Closed (r.closed.read xs) (r.closed.read (map_tags f xs))
  closed-reads xs = goes-on f Unnoted Closed (r.balanced_at 0 xs) (r.balanced_at 0 (map_tags f xs)) _ _ (balanced-reads 0 xs) (λ x y u e.
      goes-on f (λ m n. n ≡ f m) Closed (reader.fixed (Mark s.close_brace) x.1) (reader.fixed (Mark s.close_brace) y.1) _ _ (rw e (fixed-reads f (Mark s.close_brace) x.1)) (λ v w g h. (g, h)))

  closed-alike : IsAlike f r.closed r.closed Closed
  closed-alike = record { reads = closed-reads; traces = plain-alike f Closed r.closed.read r.closed.read closed-reads }

  -- ---- tokens, names and strings

  ident-alike : IsAlike f r.ident r.ident (λ x y. y ≡ map_text f x)
  ident-alike = leaf-alike f see_word _

  integer-alike : IsAlike f r.integer r.integer (λ x y. y ≡ (x.0, f x.1))
  integer-alike = leaf-alike f see_integer _

  float-alike : IsAlike f r.float r.float (λ x y. y ≡ map_text f x)
  float-alike = leaf-alike f see_float _

  string-alike : IsAlike f r.string r.string (λ x y. y ≡ map_text f x)
  string-alike = leaf-alike f see_text _

  scalar-alike : IsAlike f r.scalar r.scalar (λ x y. y ≡ (x.0, f x.1))
  scalar-alike = leaf-alike f r.see_scalar _

  strings-alike : IsAlike f r.strings r.strings (λ x y. y ≡ map_strings f x)
  unfolding r.strings
  strings-alike = named_as-alike f (seq-alike f string-alike (times-alike f string-alike (only a_string))) (λ x y. y ≡ map_strings f x)
      (λ x y h i. record { first = h.0 i; others = pairwise-map (λ x y. y ≡ map_text f x) (map_text f) (λ x y e. e) x.1 y.1 h.1 i })

  noted_strings-alike : (node : t.Strings M → CheckedNode M) (node' : t.Strings N → CheckedNode N) → ((x : t.Strings M) → node' (map_strings f x) ≡ map_node f (node x)) → IsAlike f (r.noted_strings node) (r.noted_strings node') (λ x y. y ≡ map_strings f x)
  noted_strings-alike node node' same = noting-alike f strings-alike _ _ (λ x y e. ap (λ u. ANode (node' u)) e ∙ ap ANode (same x))

  fullident-alike : IsAlike f r.fullident r.fullident (λ x y. y ≡ map_fullident f x)
  unfolding r.fullident
  fullident-alike = named_as-alike f (seq-alike f ident-alike (times-alike f (seq-alike f (fixed-alike f _) ident-alike) (just_mark s.dot))) (λ x y. y ≡ map_fullident f x)
      (λ x y h i. record { first = h.0 i; others = pairwise-map _ (λ u. (f u.0, map_text f u.1)) (λ u v e j. (e.0 j, e.1 j)) x.1 y.1 h.1 i })

  package-alike : IsAlike f r.«package» r.«package» (λ x y. y ≡ map_package f x)
  unfolding r.«package»
  package-alike = named_as-alike f (seq-alike f (fixed-alike f _) (seq-alike f fullident-alike (fixed-alike f _))) (λ x y. y ≡ map_package f x)
      (λ x y h i. record { keyword = h.0 i; name = h.1.0 i; end = h.1.1 i })

  typename-alike : IsAlike f r.typename r.typename Unnoted
  unfolding r.typename
  typename-alike = named-alike f (seq-alike f (optional-alike f (fixed-alike f _) (just_mark s.dot)) fullident-alike) _ _

  -- ---- the other rules without bodies

  pub syntax-alike : IsAlike f r.syntax r.syntax Unnoted
  unfolding r.syntax
  syntax-alike = named-alike f (seq-alike f (fixed-alike f _) (seq-alike f (fixed-alike f _) (seq-alike f (noted_strings-alike ASyntax ASyntax (λ x. refl)) (fixed-alike f _)))) _ _

  import_kind-alike : IsAlike f r.import_kind r.import_kind Unnoted
  unfolding r.import_kind
  import_kind-alike = named-alike f (choice-alike f (fixed-alike f _) (fixed-alike f _) (just_word (codes "weak"))) _ _

  import-alike : IsAlike f r.«import» r.«import» Unnoted
  unfolding r.«import»
  import-alike = named-alike f (seq-alike f (fixed-alike f _) (seq-alike f (optional-alike f import_kind-alike (among_words (codes "weak" ∷ codes "public" ∷ []))) (seq-alike f (noted_strings-alike AnImport AnImport (λ x. refl)) (fixed-alike f _)))) _ _

  part-alike : IsAlike f r.part r.part Unnoted
  unfolding r.part
  part-alike = named-alike f (choice-alike f ident-alike (seq-alike f (fixed-alike f _) (seq-alike f typename-alike (fixed-alike f _))) words) _ _

  constant-alike : IsAlike f r.constant r.constant Unnoted
  unfolding r.constant
  constant-alike = named-alike f (choice-alike f ident-alike (choice-alike f integer-alike float-alike (only an_integer)) words) _ _

  value-alike : IsAlike f r.value r.value Unnoted
  unfolding r.value
  value-alike = named-alike f (choice-alike f (seq-alike f (optional-alike f (fixed-alike f _) (just_mark s.minus)) constant-alike) (choice-alike f strings-alike (seq-alike f (noting-alike f (fixed-alike f _) _ _ (λ x y e. ap AnOpenBrace e)) (noting-alike f closed-alike _ _ (λ x y e. ap ACloseBrace e))) (only a_string)) (union words (among (an_integer ∷ a_float ∷ mark s.minus ∷ [])))) _ _

  body-alike : IsAlike f r.body r.body Unnoted
  unfolding r.body
  body-alike = named-alike f (seq-alike f part-alike (seq-alike f (times-alike f (seq-alike f (fixed-alike f _) part-alike) (just_mark s.dot)) (seq-alike f (fixed-alike f _) value-alike))) _ _

  option-alike : IsAlike f r.option r.option Unnoted
  unfolding r.option
  option-alike = named-alike f (seq-alike f (fixed-alike f _) (seq-alike f body-alike (fixed-alike f _))) _ _

  list-alike : IsAlike f r.list r.list Unnoted
  unfolding r.list
  list-alike = named-alike f (seq-alike f (fixed-alike f _) (seq-alike f body-alike (seq-alike f (times-alike f (seq-alike f (fixed-alike f _) body-alike) (just_mark s.comma)) (fixed-alike f _)))) _ _

  int-alike : IsAlike f r.int r.int Unnoted
  unfolding r.int
  int-alike = named-alike f (seq-alike f (optional-alike f (fixed-alike f _) (just_mark s.minus)) integer-alike) _ _

  type-alike : IsAlike f r.type r.type Unnoted
  unfolding r.type
  type-alike = named-alike f (unless-alike f scalar-alike typename-alike r.scalar_set) _ _

  label-alike : IsAlike f r.label r.label Unnoted
  unfolding r.label
  label-alike = named-alike f (choice-alike f (fixed-alike f _) (choice-alike f (fixed-alike f _) (fixed-alike f _) (just_word (codes "required"))) (just_word (codes "optional"))) _ _

  normal-alike : IsAlike f r.normal r.normal Unnoted
  unfolding r.normal
  normal-alike = named-alike f (seq-alike f type-alike (seq-alike f ident-alike (seq-alike f (fixed-alike f _) (seq-alike f int-alike (seq-alike f (optional-alike f list-alike (just_mark s.open_bracket)) (fixed-alike f _)))))) _ _

  map-alike : IsAlike f r.map r.map Unnoted
  unfolding r.map
  map-alike = named-alike f (seq-alike f (fixed-alike f _) (seq-alike f (fixed-alike f _) (seq-alike f type-alike (seq-alike f (fixed-alike f _) (seq-alike f type-alike (seq-alike f (fixed-alike f _) (seq-alike f ident-alike (seq-alike f (fixed-alike f _) (seq-alike f int-alike (seq-alike f (optional-alike f list-alike (just_mark s.open_bracket)) (fixed-alike f _))))))))))) _ _

  range_end-alike : IsAlike f r.range_end r.range_end Unnoted
  unfolding r.range_end
  range_end-alike = named-alike f (seq-alike f (fixed-alike f _) (choice-alike f int-alike (fixed-alike f _) (among (an_integer ∷ mark s.minus ∷ [])))) _ _

  range-alike : IsAlike f r.range r.range Unnoted
  unfolding r.range
  range-alike = named-alike f (seq-alike f int-alike (optional-alike f range_end-alike (just_word (codes "to")))) _ _

  ranges-alike : IsAlike f r.ranges r.ranges Unnoted
  unfolding r.ranges
  ranges-alike = named-alike f (seq-alike f range-alike (times-alike f (seq-alike f (fixed-alike f _) range-alike) (just_mark s.comma))) _ _

  names-alike : IsAlike f r.names r.names Unnoted
  unfolding r.names
  names-alike = named-alike f (seq-alike f (noted_strings-alike AReservedName AReservedName (λ x. refl)) (times-alike f (seq-alike f (fixed-alike f _) (noted_strings-alike AReservedName AReservedName (λ x. refl))) (just_mark s.comma))) _ _

  reserved_kind-alike : IsAlike f r.reserved_kind r.reserved_kind Unnoted
  unfolding r.reserved_kind
  reserved_kind-alike = named-alike f (choice-alike f ranges-alike names-alike (among (an_integer ∷ mark s.minus ∷ []))) _ _

  reserved-alike : IsAlike f r.reserved r.reserved Unnoted
  unfolding r.reserved
  reserved-alike = named-alike f (seq-alike f (fixed-alike f _) (seq-alike f reserved_kind-alike (fixed-alike f _))) _ _

  extensions-alike : IsAlike f r.extensions r.extensions Unnoted
  unfolding r.extensions
  extensions-alike = named-alike f (seq-alike f (fixed-alike f _) (seq-alike f ranges-alike (seq-alike f (optional-alike f list-alike (just_mark s.open_bracket)) (fixed-alike f _)))) _ _

  evalue-alike : IsAlike f r.evalue r.evalue Unnoted
  unfolding r.evalue
  evalue-alike = named-alike f (seq-alike f ident-alike (seq-alike f (fixed-alike f _) (seq-alike f int-alike (seq-alike f (optional-alike f list-alike (just_mark s.open_bracket)) (fixed-alike f _))))) _ _

  enum_element-alike : IsAlike f r.enum_element r.enum_element Unnoted
  unfolding r.enum_element
  enum_element-alike = named-alike f (choice-alike f (fixed-alike f _) (unless-alike f (choice-alike f option-alike reserved-alike (just_word (codes "option"))) evalue-alike (among_words (codes "option" ∷ codes "reserved" ∷ []))) (just_mark s.semicolon)) _ _

  enum-alike : IsAlike f r.enum r.enum Unnoted
  unfolding r.enum
  enum-alike = named-alike f (seq-alike f (fixed-alike f _) (seq-alike f ident-alike (seq-alike f (fixed-alike f _) (seq-alike f (times-alike f enum_element-alike (but_mark s.close_brace)) (fixed-alike f _))))) _ _

  rpc_type-alike : IsAlike f r.rpc_type r.rpc_type Unnoted
  unfolding r.rpc_type
  rpc_type-alike = named-alike f (unless-alike f (seq-alike f (fixed-alike f _) typename-alike) typename-alike (among_words (codes "stream" ∷ []))) _ _

  rpc_element-alike : IsAlike f r.rpc_element r.rpc_element Unnoted
  unfolding r.rpc_element
  rpc_element-alike = named-alike f (choice-alike f (fixed-alike f _) option-alike (just_mark s.semicolon)) _ _

  rpc_end-alike : IsAlike f r.rpc_end r.rpc_end Unnoted
  unfolding r.rpc_end
  rpc_end-alike = named-alike f (choice-alike f (fixed-alike f _) (seq-alike f (fixed-alike f _) (seq-alike f (times-alike f rpc_element-alike (but_mark s.close_brace)) (fixed-alike f _))) (just_mark s.semicolon)) _ _

  rpc-alike : IsAlike f r.rpc r.rpc Unnoted
  unfolding r.rpc
  rpc-alike = named-alike f (seq-alike f (fixed-alike f _) (seq-alike f ident-alike (seq-alike f (fixed-alike f _) (seq-alike f rpc_type-alike (seq-alike f (fixed-alike f _) (seq-alike f (fixed-alike f _) (seq-alike f (fixed-alike f _) (seq-alike f rpc_type-alike (seq-alike f (fixed-alike f _) rpc_end-alike))))))))) _ _

  service_element-alike : IsAlike f r.service_element r.service_element Unnoted
  unfolding r.service_element
  service_element-alike = named-alike f (choice-alike f (fixed-alike f _) (choice-alike f option-alike rpc-alike (just_word (codes "option"))) (just_mark s.semicolon)) _ _

  service-alike : IsAlike f r.service r.service Unnoted
  unfolding r.service
  service-alike = named-alike f (seq-alike f (fixed-alike f _) (seq-alike f ident-alike (seq-alike f (fixed-alike f _) (seq-alike f (times-alike f service_element-alike (but_mark s.close_brace)) (fixed-alike f _))))) _ _

  -- ---- rules, given the rule of a body

  module _ {p : Rule M (t.Mbody M)} {q : Rule N (t.Mbody N)} (g : IsAlike f p q Unnoted) where
    group-alike : IsAlike f (b.group p) (b.group q) Unnoted
    unfolding b.group
    group-alike = named_fits-alike f (seq-alike f (noting-alike f (fixed-alike f _) _ _ (λ x y e. ap AKeyword e)) (seq-alike f (noting-alike f ident-alike _ _ (λ x y e. ap (λ u. ANode (AGroupName u)) e)) (seq-alike f (fixed-alike f _) (seq-alike f int-alike (seq-alike f (optional-alike f list-alike (just_mark s.open_bracket)) g))))) _ _

    field_kind-alike : IsAlike f (b.field_kind p) (b.field_kind q) Unnoted
    unfolding b.field_kind
    field_kind-alike = named_fits-alike f (unless-alike f (choice-alike f map-alike group-alike (just_word (codes "map"))) normal-alike (among_words (codes "map" ∷ codes "group" ∷ []))) _ _

    field-alike : IsAlike f (b.field p) (b.field q) Unnoted
    unfolding b.field
    field-alike = named_fits-alike f (unless-alike f (seq-alike f label-alike field_kind-alike) field_kind-alike (among_words (codes "optional" ∷ codes "required" ∷ codes "repeated" ∷ []))) _ _

    oneof_element-alike : IsAlike f (b.oneof_element p) (b.oneof_element q) Unnoted
    unfolding b.oneof_element
    oneof_element-alike = named_fits-alike f (choice-alike f (fixed-alike f _) (unless-alike f option-alike field-alike (among_words (codes "option" ∷ []))) (just_mark s.semicolon)) _ _

    oneof_elements-alike : IsAlike f (b.oneof_elements p) (b.oneof_elements q) Unnoted
    unfolding b.oneof_elements
    oneof_elements-alike = named_fits-alike f (times-alike f oneof_element-alike (but_mark s.close_brace)) _ _

    oneof-alike : IsAlike f (b.oneof p) (b.oneof q) Unnoted
    unfolding b.oneof
    oneof-alike = named_fits-alike f (seq-alike f (fixed-alike f _) (seq-alike f ident-alike (seq-alike f (fixed-alike f _) (seq-alike f oneof_elements-alike (fixed-alike f _))))) _ _

    extend_element-alike : IsAlike f (b.extend_element p) (b.extend_element q) Unnoted
    unfolding b.extend_element
    extend_element-alike = named_fits-alike f (choice-alike f (fixed-alike f _) field-alike (just_mark s.semicolon)) _ _

    extend_elements-alike : IsAlike f (b.extend_elements p) (b.extend_elements q) Unnoted
    unfolding b.extend_elements
    extend_elements-alike = named_fits-alike f (times-alike f extend_element-alike (but_mark s.close_brace)) _ _

    extend-alike : IsAlike f (b.extend p) (b.extend q) Unnoted
    unfolding b.extend
    extend-alike = named_fits-alike f (seq-alike f (fixed-alike f _) (seq-alike f typename-alike (seq-alike f (fixed-alike f _) (seq-alike f extend_elements-alike (fixed-alike f _))))) _ _

    message-alike : IsAlike f (b.message p) (b.message q) Unnoted
    unfolding b.message
    message-alike = named_fits-alike f (seq-alike f (noting-alike f (fixed-alike f _) _ _ (λ x y e. ap AKeyword e)) (seq-alike f ident-alike g)) _ _

    special-alike : IsAlike f (b.special p) (b.special q) Unnoted
    special-alike = choice-alike f oneof-alike (choice-alike f enum-alike (choice-alike f message-alike (choice-alike f extend-alike (choice-alike f option-alike (choice-alike f reserved-alike extensions-alike (just_word (codes "reserved"))) (just_word (codes "option"))) (just_word (codes "extend"))) (just_word (codes "message"))) (just_word (codes "enum"))) (just_word (codes "oneof"))

    element-alike : IsAlike f (b.element p) (b.element q) Unnoted
    unfolding b.element
    element-alike = named_fits-alike f (choice-alike f (fixed-alike f _) (unless-alike f special-alike field-alike (among_words (codes "oneof" ∷ codes "enum" ∷ codes "message" ∷ codes "extend" ∷ codes "option" ∷ codes "reserved" ∷ codes "extensions" ∷ []))) (just_mark s.semicolon)) _ _

    elements-alike : IsAlike f (b.elements p) (b.elements q) Unnoted
    unfolding b.elements
    elements-alike = named_fits-alike f (times-alike f element-alike (but_mark s.close_brace)) _ _

    pub mbody-alike : IsAlike f (b.mbody p) (b.mbody q) Unnoted
    unfolding b.mbody
    mbody-alike = named_fits-alike f (seq-alike f (fixed-alike f _) (seq-alike f elements-alike (fixed-alike f _))) _ _

    statement-alike : IsAlike f (b.statement p) (b.statement q) Unnoted
    unfolding b.statement
    statement-alike = named_fits-alike f (choice-alike f (fixed-alike f _) (choice-alike f import-alike (choice-alike f (noting-alike f package-alike _ _ (λ x y e. ap APackage e)) (choice-alike f option-alike (choice-alike f extend-alike (choice-alike f message-alike (choice-alike f enum-alike service-alike (just_word (codes "enum"))) (just_word (codes "message"))) (just_word (codes "extend"))) (just_word (codes "option"))) (just_word (codes "package"))) (just_word (codes "import"))) (just_mark s.semicolon)) _ _

    pub file-alike : IsAlike f (b.file p) (b.file q) Unnoted
    unfolding b.file
    file-alike = named_fits-alike f (seq-alike f (optional-alike f syntax-alike (just_word (codes "syntax"))) (times-alike f statement-alike all)) _ _

  -- ---- levels

  deep-reads : (xs : Rows M) → Goes f Unnoted (b.deep_read xs) (b.deep_read (map_tags f xs))
  unfolding b.deep_read reader.too_deep
  deep-reads [] = refl
  deep-reads (r ∷ rs) =
      let is_open = reader.is_token (Mark s.open_brace) r.shape in
      goes-if f Unnoted is_open is_open _ _ _ _ refl (ap Deep (sym (same-length f (r ∷ rs)))) (refused f (r ∷ rs))

  deep-traces : (note : M → Event M) (note' : N → Event N) → ((m : M) → note' (f m) ≡ map_event f (note m)) → (xs : Rows M) → b.deep_trace note' (map_tags f xs) ≡ map_steps f (b.deep_trace note xs)
  unfolding b.deep_trace
  deep-traces note note' same [] = refl
  deep-traces note note' same (r ∷ rs) =
      let is_open = reader.is_token (Mark s.open_brace) r.shape in
      steps-if f is_open is_open (Token r ∷ (Note (note r.at) ∷ [])) [] _ _ refl (ap (λ e. Token (record { shape = r.shape; at = f r.at }) ∷ (Note e ∷ [])) (same r.at)) refl

  -- what is known of the rule of a body doesn't matter for how it is read
  sealed-alike : {p : Rule M (t.Mbody M)} {q : Rule N (t.Mbody N)} (P F : t.Mbody M → Type 0) (P' F' : t.Mbody N → Type 0) → IsAlike f p q Unnoted
      → IsAlike f (b.sealed P F p.read p.steps p.trace) (b.sealed P' F' q.read q.steps q.trace) Unnoted
  sealed-alike P F P' F' g = record { reads = g.reads; traces = g.traces }

  unsealed-alike : (n : ℕ) → IsAlike f (b.unsealed n) (b.unsealed n) Unnoted
  unfolding b.unsealed
  unsealed-alike zero = record { reads = deep-reads; traces = deep-traces ADeepBody ADeepBody (λ m. refl) }
  unsealed-alike (suc n) = mbody-alike (sealed-alike _ _ _ _ (unsealed-alike n))

  -- so files whose bodies are read at most n deep are read alike, and the same is noted
  pub file_at-alike : (n : ℕ) → IsAlike f (b.file (b.mbody_at n)) (b.file (b.mbody_at n)) Unnoted
  file_at-alike n = file-alike (sealed-alike _ _ _ _ (unsealed-alike n))

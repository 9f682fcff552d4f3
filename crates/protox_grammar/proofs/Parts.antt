-- The laws of tokens, strings, syntax, imports, packages, names, numbers, types and labels.
use Rattle.std.proofs.Common.{◌≡◌, ℕ, true, false, List, [], ◌∷◌, ◌++◌, map, Option, Some, None, codes, refl, sym, ap, subst, ◌∙◌, arith, inl, inr, ◌⊎◌}
use Rattle.std.proofs.lemmas.Slice.Eq.{bytes_eq-Decides}
use Rattle.std.proofs.lemmas.Bool.{lt-ltb}
use Rattle.std.specs.Str.{bytes_eq}
use Rattle.protox_lexeme.specs.Shapes as shape
use Rattle.protox_lexeme.specs.Shapes.{Shape, Ident, Str, Row, Rows}
use Rattle.protox_grammar.specs.Reader.{head_in, is_string, see_word, see_integer, see_float, see_text}
use Rattle.protox_grammar.specs.Class.{class, place, keywords, none, only, words, union, among, just_word, just_mark, among_words, an_integer, a_float, a_string, mark}
use Rattle.protox_grammar.specs.Rule.{Stops, Ends, row, unless, choice, noting}
use Rattle.protox_ast.specs.Tree as t
use Rattle.protox_ast.specs.Spelling as s
use Rattle.protox_ast.specs.KeywordWalk as k
use Rattle.protox_grammar.specs.Rules as r
use Rattle.protox_grammar.proofs.Sets.{place-le}
use Rattle.protox_grammar.proofs.Laws.{leaf-spelled}
use Rattle.protox_grammar.proofs.Reading.{chosen}
use Rattle.protox_grammar.proofs.ReadingTokens.{leaf-read, leaf-deep}
use Rattle.protox_grammar.proofs.TracingNotes.{plain-traced}
use Rattle.protox_grammar.proofs.Tracing.{Alike}
use Rattle.protox_grammar.specs.Steps.{ANode, APackage}
use Rattle.protox_ast.specs.Basics.{last}
use Rattle.protox_ast.specs.CheckedNodes.{CheckedNode, ASyntax, AnImport, run_end, node_end}
use Rattle.protox_ast.specs.Truth.{is_run}
use Rattle.std.proofs.lemmas.Bool.{ne_eqb}
use Rattle.protox_grammar.proofs.Begin.{name-stops, stops-name}
use Rattle.protox_grammar.proofs.Forms.{Lawful, word-laws, mark-laws, seq-laws, unless-laws, choice-laws, optional-laws, times-laws, named-laws, wide, noting-laws, stops-none}
use Rattle.protox_grammar.proofs.Placing.{last-past, IsPlaced, last_row, is_string_row}

pub each-all : {A : Type 0} (P : A → Type 0) → ((x : A) → P x) → (xs : List A) → k.Each P xs
each-all P f [] = tt
each-all P f (x ∷ xs) = (f x, each-all P f xs)

pub each-map : {A : Type 0} (P Q : A → Type 0) → ((x : A) → P x → Q x) → (xs : List A) → k.Each P xs → k.Each Q xs
each-map P Q f [] h = tt
each-map P Q f (x ∷ xs) h = (f x h.0, each-map P Q f xs h.1)

some-is : {A : Type 0} (x y : A) → Some x ≡ Some y → x ≡ y
some-is x y e = cc

find-exact : (xs : List t.Scalar) (w : List ℕ) (x : t.Scalar) → r.find_scalar xs w ≡ Some x → w ≡ s.scalar_word x
find-exact [] w x e = absurd cc
find-exact (y ∷ ys) w x e = elim (chosen (bytes_eq w (s.scalar_word y)) (Some y) (r.find_scalar ys w) (Some x) e) [
  | inl h ↦ (bytes_eq-Decides w (s.scalar_word y)).0 h.0 ∙ ap s.scalar_word (some-is y x h.1)
  | inr h ↦ find-exact ys w x h.1
]

pub given-all : {A : Type 0} (P : A → Type 0) → ((x : A) → P x) → (x : Option A) → k.Given P x
given-all P f None = tt
given-all P f (Some x) = f x

module _ {M : Type 0} (m : M) where
  words-at : (t : List ℕ) → words (place keywords t) ≡ true
  words-at t = lt-ltb _ 39 (omega (arith, place-le keywords t))

  pub ident-laws : Lawful {M = M} r.ident false words none
  ident-laws =
      let l = leaf-spelled see_word Ident words words-at (λ x. refl) in
      let rd = leaf-read ([], m) see_word Ident (λ x. refl) exact in
      record { spelled = l; read = rd; traced = plain-traced r.ident false words none l rd (leaf-deep ([], m) see_word Ident (λ x. refl) exact) (λ t. refl) (λ xs. refl) }
    where
      exact : (s : Shape) (x : List ℕ) → see_word s ≡ Some x → s ≡ Ident x
      exact (Ident t) x e = cc
      exact _ x e = absurd cc

  pub integer-laws : Lawful {M = M} r.integer false (only an_integer) none
  integer-laws =
      let l = leaf-spelled see_integer shape.Int (only an_integer) (λ x. refl) (λ x. refl) in
      let rd = leaf-read (0, m) see_integer shape.Int (λ x. refl) exact in
      record { spelled = l; read = rd; traced = plain-traced r.integer false (only an_integer) none l rd (leaf-deep (0, m) see_integer shape.Int (λ x. refl) exact) (λ t. refl) (λ xs. refl) }
    where
      exact : (s : Shape) (x : ℕ) → see_integer s ≡ Some x → s ≡ shape.Int x
      exact (shape.Int t) x e = cc
      exact _ x e = absurd cc

  pub float-laws : Lawful {M = M} r.float false (only a_float) none
  float-laws =
      let l = leaf-spelled see_float shape.Float (only a_float) (λ x. refl) (λ x. refl) in
      let rd = leaf-read ([], m) see_float shape.Float (λ x. refl) exact in
      record { spelled = l; read = rd; traced = plain-traced r.float false (only a_float) none l rd (leaf-deep ([], m) see_float shape.Float (λ x. refl) exact) (λ t. refl) (λ xs. refl) }
    where
      exact : (s : Shape) (x : List ℕ) → see_float s ≡ Some x → s ≡ shape.Float x
      exact (shape.Float t) x e = cc
      exact _ x e = absurd cc

  pub string-laws : Lawful {M = M} r.string false (only a_string) none
  string-laws =
      let l = leaf-spelled see_text Str (only a_string) (λ x. refl) (λ x. refl) in
      let rd = leaf-read ([], m) see_text Str (λ x. refl) exact in
      record { spelled = l; read = rd; traced = plain-traced r.string false (only a_string) none l rd (leaf-deep ([], m) see_text Str (λ x. refl) exact) (λ t. refl) (λ xs. refl) }
    where
      exact : (s : Shape) (x : List ℕ) → see_text s ≡ Some x → s ≡ Str x
      exact (Str t) x e = cc
      exact _ x e = absurd cc

  pub scalar-in : (x : t.Scalar) → r.scalar_set (class (r.scalar_shape x)) ≡ true
  scalar-in t.double = refl
  scalar-in t.float_type = refl
  scalar-in t.int32 = refl
  scalar-in t.int64 = refl
  scalar-in t.uint32 = refl
  scalar-in t.uint64 = refl
  scalar-in t.sint32 = refl
  scalar-in t.sint64 = refl
  scalar-in t.fixed32 = refl
  scalar-in t.fixed64 = refl
  scalar-in t.sfixed32 = refl
  scalar-in t.sfixed64 = refl
  scalar-in t.bool = refl
  scalar-in t.string = refl
  scalar-in t.bytes = refl

  scalar-back : (x : t.Scalar) → r.see_scalar (r.scalar_shape x) ≡ Some x
  scalar-back t.double = refl
  scalar-back t.float_type = refl
  scalar-back t.int32 = refl
  scalar-back t.int64 = refl
  scalar-back t.uint32 = refl
  scalar-back t.uint64 = refl
  scalar-back t.sint32 = refl
  scalar-back t.sint64 = refl
  scalar-back t.fixed32 = refl
  scalar-back t.fixed64 = refl
  scalar-back t.sfixed32 = refl
  scalar-back t.sfixed64 = refl
  scalar-back t.bool = refl
  scalar-back t.string = refl
  scalar-back t.bytes = refl

  pub scalar-laws : Lawful {M = M} r.scalar false r.scalar_set none
  scalar-laws =
      let l = leaf-spelled r.see_scalar r.scalar_shape r.scalar_set scalar-in scalar-back in
      let rd = leaf-read (t.double, m) r.see_scalar r.scalar_shape scalar-back exact in
      record { spelled = l; read = rd; traced = plain-traced r.scalar false r.scalar_set none l rd (leaf-deep (t.double, m) r.see_scalar r.scalar_shape scalar-back exact) (λ t. refl) (λ xs. refl) }
    where
      exact : (s : Shape) (x : t.Scalar) → r.see_scalar s ≡ Some x → s ≡ r.scalar_shape x
      exact (Ident w) x e = ap Ident (find-exact r.all_scalars w x e)
      exact _ x e = absurd cc

  pub strings-laws : Lawful {M = M} r.strings false (only a_string) (only a_string)
  unfolding r.strings
  strings-laws = wide _ _ (named-laws s.strings r.free _ _ (λ x. refl) (λ x. refl) (λ x. refl)
      (λ x h. (tt, each-all _ (λ y. tt) x.others)) (λ x h. tt) (λ x h. h)
      (seq-laws string-laws (times-laws (only a_string) string-laws refl refl) refl)) refl refl

  last-text : (o : Option (Row M)) (x : t.Text M) (xs : List (t.Text M)) → (w : List ℕ) × (last_row o (s.string x ++ s.many s.string xs) ≡ Some (row (Str w) (last x.1 (map (λ y. y.1) xs))))
  last-text o x [] = (x.0, refl)
  last-text o x (y ∷ ys) = last-text (Some (row (Str x.0) x.1)) y ys

  string-no : (z : Shape) → only a_string (class z) ≡ false → is_string z ≡ false
  string-no (Str t) h = absurd cc
  string-no _ h = refl

  no-string : (z : Shape) → is_string z ≡ false → only a_string (class z) ≡ false
  no-string (Str t) h = absurd cc
  no-string (Ident t) h = ne_eqb _ 41 (λ e. omega (arith, e, place-le keywords t))
  no-string (shape.Mark b) h = ne_eqb _ 41 (λ e. omega (arith, e))
  no-string (shape.Int n) h = refl
  no-string (shape.Float n) h = refl
  no-string (shape.LineComment n) h = refl
  no-string (shape.BlockComment n) h = refl
  no-string shape.Newline h = refl
  no-string shape.Invalid h = refl

  stop-head : (z : Rows M) → Stops (only a_string) z → head_in is_string z ≡ false
  stop-head [] h = refl
  stop-head (z ∷ zs) h = string-no z.shape h

  head-stop : (z : Rows M) → head_in is_string z ≡ false → Stops (only a_string) z
  head-stop [] h = tt
  head-stop (z ∷ zs) h = no-string z.shape h

  texts-stop : (xs : List (t.Text M)) (z : Rows M) → Ends {M = M} r.string.spell r.string.ends (only a_string) xs z → Stops (only a_string) z
  texts-stop [] z h = h
  texts-stop (x ∷ xs) z h = texts-stop xs z h.1

  stop-texts : (xs : List (t.Text M)) (z : Rows M) → Stops (only a_string) z → Ends {M = M} r.string.spell r.string.ends (only a_string) xs z
  stop-texts [] z h = h
  stop-texts (x ∷ xs) z h = (tt, stop-texts xs z h)

  run-prompt : (x : t.Strings M) (y z : Rows M) → r.strings.ends x y → Alike (s.strings x) y z → r.strings.ends x z
  unfolding r.strings
  run-prompt x y z h a =
      let l = last-text None x.first x.others in
      (tt, stop-texts x.others z (head-stop z (sym (a (ap is_string_row l.1)) ∙ stop-head y (texts-stop x.others y h.1))))

  run-placed : (node : t.Strings M → CheckedNode M) → ((x : t.Strings M) → run_end x ≡ node_end (node x)) → ((x : t.Strings M) → true ≡ is_run (node x)) → (x : t.Strings M) (z : Rows M) → r.strings.ends x z → IsPlaced (last_row None (s.strings x)) (ANode (node x)) z
  unfolding r.strings
  run-placed node e run x z h =
      let l = last-text None x.first x.others in
      subst (λ u. IsPlaced u (ANode (node x)) z) (sym l.1) (e x, run x, λ g. stop-head z (texts-stop x.others z h.1), λ g. refl)

  pub noted_strings-laws : (node : t.Strings M → CheckedNode M) → ((x : t.Strings M) → run_end x ≡ node_end (node x)) → ((x : t.Strings M) → true ≡ is_run (node x)) → Lawful {M = M} (r.noted_strings node) false (only a_string) (only a_string)
  unfolding r.strings
  noted_strings-laws node e run = noting-laws (λ x. ANode (node x)) strings-laws (λ x h. h) run-prompt (λ x. omega arith) (run-placed node e run) (λ x. refl)

  pub syntax-laws : Lawful {M = M} r.syntax false (just_word (codes "syntax")) none
  unfolding r.syntax r.strings
  syntax-laws = wide _ _ (named-laws s.syntax r.free _ _ (λ x. refl) (λ x. refl) (λ x. refl)
      (λ x h. (tt, (tt, (tt, tt)))) (λ x h. tt) (λ x h. h)
      (seq-laws (word-laws m (codes "syntax")) (seq-laws (mark-laws m s.equals) (seq-laws (noted_strings-laws ASyntax (λ x. refl) (λ x. refl)) (mark-laws m s.semicolon) refl) refl) refl)) refl refl

  import_kind-back : (x : t.ImportKind M) → r.to_import_kind (r.from_import_kind x) ≡ x
  import_kind-back (t.weak a) = refl
  import_kind-back (t.«public» a) = refl

  import_kind-there : (x : M ⊎ M) → r.from_import_kind (r.to_import_kind x) ≡ x
  import_kind-there (inl x) = refl
  import_kind-there (inr x) = refl

  import_kind-is : (x : t.ImportKind M) → s.import_kind x ≡ (choice (just_word (codes "weak")) (r.the (codes "weak")) (r.the (codes "public"))).spell (r.from_import_kind x)
  unfolding r.import_kind
  import_kind-is (t.weak a) = refl
  import_kind-is (t.«public» a) = refl

  import_kind-obeys : (x : t.ImportKind M) → Unit {0} → (choice (just_word (codes "weak")) (r.the (codes "weak")) (r.the (codes "public"))).may (r.from_import_kind x)
  unfolding r.import_kind
  import_kind-obeys (t.weak a) h = tt
  import_kind-obeys (t.«public» a) h = tt

  import_kind-allows : (x : t.ImportKind M) → (choice (just_word (codes "weak")) (r.the (codes "weak")) (r.the (codes "public"))).may (r.from_import_kind x) → Unit {0}
  unfolding r.import_kind
  import_kind-allows (t.weak a) h = tt
  import_kind-allows (t.«public» a) h = tt

  pub import_kind-laws : Lawful {M = M} r.import_kind false (among_words (codes "weak" ∷ codes "public" ∷ [])) none
  unfolding r.import_kind
  import_kind-laws = wide _ _ (named-laws s.import_kind r.free _ _ import_kind-back import_kind-there import_kind-is
      import_kind-obeys import_kind-allows (λ x h. h)
      (choice-laws (just_word (codes "weak")) (word-laws m (codes "weak")) refl (word-laws m (codes "public")) refl)) refl refl

  pub import-laws : Lawful {M = M} r.«import» false (just_word (codes "import")) none
  unfolding r.«import» r.strings r.import_kind
  import-laws = wide _ _ (named-laws s.«import» r.free _ _ (λ x. refl) (λ x. refl) (λ x. refl)
      (λ x h. (tt, (given-all _ (λ y. tt) x.kind, (tt, tt)))) (λ x h. tt) (λ x h. h)
      (seq-laws (word-laws m (codes "import")) (seq-laws (optional-laws (among_words (codes "weak" ∷ codes "public" ∷ [])) import_kind-laws refl) (seq-laws (noted_strings-laws AnImport (λ x. refl) (λ x. refl)) (mark-laws m s.semicolon) refl) refl) refl)) refl refl

  pub fullident-laws : Lawful {M = M} r.fullident false words (just_mark s.dot)
  unfolding r.fullident
  fullident-laws = wide _ _ (named-laws s.fullident r.free _ _ (λ x. refl) (λ x. refl) (λ x. refl)
      (λ x h. (tt, each-all _ (λ y. (tt, tt)) x.others)) (λ x h. tt) (λ x h. h)
      (seq-laws ident-laws (times-laws (just_mark s.dot) (seq-laws (mark-laws m s.dot) ident-laws refl) refl refl) refl)) refl refl

  pub package-laws : Lawful {M = M} r.«package» false (just_word (codes "package")) none
  unfolding r.«package» r.fullident
  package-laws = wide _ _ (named-laws s.«package» r.free _ _ (λ x. refl) (λ x. refl) (λ x. refl)
      (λ x h. (tt, (tt, tt))) (λ x h. tt) (λ x h. h)
      (seq-laws (word-laws m (codes "package")) (seq-laws fullident-laws (mark-laws m s.semicolon) refl) refl)) refl refl

  pub noted_package-laws : Lawful {M = M} (noting APackage r.«package») false (just_word (codes "package")) none
  unfolding r.«package» r.fullident
  noted_package-laws = noting-laws APackage package-laws (λ x h. tt) (λ x y z h a. package-laws.spelled.follow x z tt (stops-none z)) (λ x. omega arith)
      (λ x z h. subst (λ u. IsPlaced u (APackage x) z) (sym (last-past (Some (row (Ident (codes "package")) x.keyword)) (s.fullident x.name) (row (shape.Mark s.semicolon) x.end) [])) (refl, refl, λ g. absurd cc, λ g. refl)) (λ x. refl)

  pub typename-laws : Lawful {M = M} r.typename false (union (just_mark s.dot) words) (just_mark s.dot)
  unfolding r.typename r.fullident
  typename-laws = wide _ _ (named-laws s.typename r.free _ _ (λ x. refl) (λ x. refl) (λ x. refl)
      (λ x h. (given-all _ (λ y. tt) x.leading_dot, tt)) (λ x h. tt) (λ x h. h)
      (seq-laws (optional-laws (just_mark s.dot) (mark-laws m s.dot) refl) fullident-laws refl)) refl refl

  pub int-laws : Lawful {M = M} r.int false (among (an_integer ∷ mark s.minus ∷ [])) none
  unfolding r.int
  int-laws = wide _ _ (named-laws s.int r.free _ _ (λ x. refl) (λ x. refl) (λ x. refl)
      (λ x h. (given-all _ (λ y. tt) x.sign, tt)) (λ x h. tt) (λ x h. h)
      (seq-laws (optional-laws (just_mark s.minus) (mark-laws m s.minus) refl) integer-laws refl)) refl refl

  abbrev pub some_name : t.TypeName M
  some_name = record { leading_dot = Some m; name = record { first = ([], m); others = [] } }

  type-back : (x : t.FieldType M) → r.to_type (r.from_type x) ≡ x
  type-back (t.scalar a b) = refl
  type-back (t.named a) = refl

  type-there : (x : (t.Scalar × M) ⊎ t.TypeName M) → r.from_type (r.to_type x) ≡ x
  type-there (inl x) = refl
  type-there (inr x) = refl

  type-is : (x : t.FieldType M) → s.type x ≡ (unless r.scalar_set r.scalar r.typename).spell (r.from_type x)
  unfolding r.type r.typename
  type-is (t.scalar a b) = refl
  type-is (t.named a) = refl

  type-obeys : (x : t.FieldType M) → k.TypeBeginsWithNone k.scalars x → (unless r.scalar_set r.scalar r.typename).may (r.from_type x)
  unfolding r.type r.typename
  type-obeys (t.scalar a b) h = tt
  type-obeys (t.named a) h = (tt, name-stops k.scalars refl refl a h)

  type-allows : (x : t.FieldType M) → (unless r.scalar_set r.scalar r.typename).may (r.from_type x) → k.TypeBeginsWithNone k.scalars x
  unfolding r.type r.typename
  type-allows (t.scalar a b) h = tt
  type-allows (t.named a) h = stops-name k.scalars refl refl a h.1

  pub type-laws : Lawful {M = M} r.type false (union words (just_mark s.dot)) (just_mark s.dot)
  unfolding r.type r.typename
  type-laws = wide _ _ (named-laws s.type (k.TypeBeginsWithNone k.scalars) _ _ type-back type-there type-is
      type-obeys type-allows (λ x h. h)
      (unless-laws r.scalar_set scalar-laws refl typename-laws some_name tt refl)) refl refl

  label-back : (x : t.Label M) → r.to_label (r.from_label x) ≡ x
  label-back (t.optional a) = refl
  label-back (t.required a) = refl
  label-back (t.repeated a) = refl

  label-there : (x : M ⊎ (M ⊎ M)) → r.from_label (r.to_label x) ≡ x
  label-there (inl x) = refl
  label-there (inr (inl x)) = refl
  label-there (inr (inr x)) = refl

  label-is : (x : t.Label M) → s.label x ≡ (choice (just_word (codes "optional")) (r.the (codes "optional")) (choice (just_word (codes "required")) (r.the (codes "required")) (r.the (codes "repeated")))).spell (r.from_label x)
  unfolding r.label
  label-is (t.optional a) = refl
  label-is (t.required a) = refl
  label-is (t.repeated a) = refl

  label-obeys : (x : t.Label M) → Unit {0} → (choice (just_word (codes "optional")) (r.the (codes "optional")) (choice (just_word (codes "required")) (r.the (codes "required")) (r.the (codes "repeated")))).may (r.from_label x)
  unfolding r.label
  label-obeys (t.optional a) h = tt
  label-obeys (t.required a) h = tt
  label-obeys (t.repeated a) h = tt

  label-allows : (x : t.Label M) → (choice (just_word (codes "optional")) (r.the (codes "optional")) (choice (just_word (codes "required")) (r.the (codes "required")) (r.the (codes "repeated")))).may (r.from_label x) → Unit {0}
  unfolding r.label
  label-allows (t.optional a) h = tt
  label-allows (t.required a) h = tt
  label-allows (t.repeated a) h = tt

  pub label-laws : Lawful {M = M} r.label false (among_words (codes "optional" ∷ codes "required" ∷ codes "repeated" ∷ [])) none
  unfolding r.label
  label-laws = wide _ _ (named-laws s.label r.free _ _ label-back label-there label-is
      label-obeys label-allows (λ x h. h)
      (choice-laws (just_word (codes "optional")) (word-laws m (codes "optional")) refl (choice-laws (just_word (codes "required")) (word-laws m (codes "required")) refl (word-laws m (codes "repeated")) refl) refl)) refl refl

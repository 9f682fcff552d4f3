-- The comments that a file takes: those before and behind its rows, each at most once.
use Rattle.std.proofs.Common.{ℕ, List, [], ◌∷◌, ◌++◌, map, flat_map, Option, Some, None, ℤ, refl, arith}
use Rattle.std.specs.Prelude.{option_map}
use Rattle.std.specs.List.{filter_map}
use Rattle.protox_fault.specs.Faults.{Span}
use Rattle.protox_ast.specs.Ast as ast
use Rattle.protox_ast.specs.Places.{Place}
use Rattle.protox_ast.specs.Spelling as s
use Rattle.protox_ast.specs.Tree as t
use Rattle.protox_ast.specs.declared.ast.Import.{Import}
use Rattle.protox_ast.specs.declared.ast.ImportKind.{ImportKind}
use Rattle.protox_ast.specs.declared.ast.ImportKind.TheVariants as import_kind
use Rattle.protox_ast.specs.declared.ast.Package.{Package}
use Rattle.protox_locate.specs.EnumLocations.{enum_locations}
use Rattle.protox_locate.specs.ServiceLocations.{service_locations}
use Rattle.protox_locate.specs.LocationWords.{Path, Part, option_statement}
use Rattle.protox_locate.specs.Locations.{item_messages, item_enums, item_services, item_blocks, item_extensions, syntax_locations, package_locations, import_locations, public_words, weak_words, file_locations}
use Rattle.protox_generate.proofs.Taking.{Cost, free, behind-append, weigh, weigh-append, Take, take-none, take-more, take-bare, take-ending, take-append, bare-then, Parts, parts-none, parts-one, parts-flat}
use Rattle.protox_generate.proofs.PartsTaking.{options-take, option-takes}
use Rattle.protox_generate.proofs.BlocksTaking.{enum-takes, service-takes}
use Rattle.protox_generate.proofs.Bags.{Lists, Bag, no, bag-of, empty, bag-none, bag-more, bag-append}
use Rattle.protox_generate.proofs.MessagesTaking.{message-takes, extend-takes}

module _ (numbers : Span → List ℤ) where
  abbrev package_parts : Option Package → List Part
  package_parts None = []
  package_parts (Some x) = (λ path. package_locations numbers path (Some x)) ∷ []

  -- the parts that the statements of a file bring
  abbrev lists_in : List (t.Statement Place) → Lists
  lists_in xs = record {
    fields = map (import_locations numbers) (filter_map ast.imported xs);
    messages = flat_map (item_messages numbers) (filter_map ast.file_element xs);
    enums = flat_map (item_enums numbers) (filter_map ast.file_element xs);
    blocks = flat_map (item_blocks numbers) (filter_map ast.file_element xs);
    extensions = flat_map (item_extensions numbers) (filter_map ast.file_element xs);
    oneofs = flat_map (item_services numbers) (filter_map ast.file_element xs);
    options = map (option_statement numbers) (filter_map ast.file_option xs);
    statements = package_parts (ast.first_of (filter_map ast.packaged xs));
    ranges = [];
    names = [];
  }

  import-takes : (x : t.Import Place) (path : Path) → Take numbers (import_locations numbers (ast.«import» x) path) (λ w. weigh w (s.«import» x))
  import-takes x path = take-ending x.keyword x.end (refl, refl, refl, refl) (take-none free)
      (λ w. omega (
        arith,
        weigh-append w (s.maybe s.import_kind x.kind) (s.strings x.value ++ s.sign s.semicolon x.end),
        weigh-append w (s.strings x.value) (s.sign s.semicolon x.end),
        behind-append w x.keyword (s.maybe s.import_kind x.kind) (s.strings x.value ++ s.sign s.semicolon x.end),
        behind-append w x.keyword (s.strings x.value) (s.sign s.semicolon x.end),
      ))

  package-takes : (x : t.Package Place) (path : Path) → Take numbers (package_locations numbers path (Some (ast.«package» x))) (λ w. weigh w (s.«package» x))
  package-takes x path = take-ending x.keyword x.end (refl, refl, refl, refl) (take-none free)
      (λ w. omega (arith, weigh-append w (s.fullident x.name) (s.sign s.semicolon x.end), behind-append w x.keyword (s.fullident x.name) (s.sign s.semicolon x.end)))

  statements-take : (xs : List (t.Statement Place)) → Bag numbers (s.many s.statement xs) (lists_in xs)
  statements-take [] = bag-none []
  statements-take (t.an_empty m ∷ xs) = bag-more (s.many s.statement xs) (s.sign s.semicolon m ++ s.many s.statement xs) (statements-take xs) (λ w. omega arith)
  statements-take (t.an_import x ∷ xs) =
      bag-append (s.«import» x) (s.many s.statement xs) {l = record empty { fields = import_locations numbers (ast.«import» x) ∷ [] }}
      (bag-of (s.«import» x) (parts-one (import-takes x)) no no no no no no no no no (λ w. omega arith)) (statements-take xs)
  statements-take (t.a_package x ∷ xs) =
      let g = statements-take xs in
      bag-of (s.«package» x ++ s.many s.statement xs) g.field_parts g.message_parts g.enum_parts g.block_parts g.extension_parts g.oneof_parts g.option_parts (parts-one (package-takes x)) g.range_parts g.name_parts
      (λ w. omega (arith, g.within w, weigh-append w (s.«package» x) (s.many s.statement xs)))
  statements-take (t.an_option x ∷ xs) =
      bag-append (s.option x) (s.many s.statement xs) {l = record empty { options = option_statement numbers (ast.option x) ∷ [] }} (bag-of (s.option x) no no no no no no (option-takes numbers x) no no no (λ w. omega arith))
      (statements-take xs)
  statements-take (t.an_extend x ∷ xs) =
      let e = extend-takes numbers x in
      bag-append (s.extend x) (s.many s.statement xs) (bag-of (s.extend x) no e.message_parts no (parts-one e.block) e.extension_parts no no no no no (λ w. omega (arith, e.within w))) (statements-take xs)
  statements-take (t.a_message x ∷ xs) = bag-append (s.message x) (s.many s.statement xs) (bag-of (s.message x) no (parts-one (message-takes numbers x)) no no no no no no no no (λ w. omega arith)) (statements-take xs)
  statements-take (t.an_enum x ∷ xs) =
      bag-append (s.enum x) (s.many s.statement xs) {l = record empty { enums = enum_locations numbers (ast.enum x) ∷ [] }} (bag-of (s.enum x) no no (parts-one (enum-takes numbers x)) no no no no no no no (λ w. omega arith)) (statements-take xs)
  statements-take (t.a_service x ∷ xs) =
      bag-append (s.service x) (s.many s.statement xs) {l = record empty { oneofs = service_locations numbers (ast.service x) ∷ [] }} (bag-of (s.service x) no no no no no (parts-one (service-takes numbers x)) no no no no (λ w. omega arith))
      (statements-take xs)

  -- ---- the head

  public-free : (x : Option (ImportKind × Span)) → Parts numbers (public_words numbers x) free
  public-free None = parts-none free
  public-free (Some (import_kind.Public, span)) = parts-one (λ path. take-bare (refl, refl, refl) (take-none free))
  public-free (Some (import_kind.Weak, span)) = parts-none free

  weak-free : (x : Option (ImportKind × Span)) → Parts numbers (weak_words numbers x) free
  weak-free None = parts-none free
  weak-free (Some (import_kind.Public, span)) = parts-none free
  weak-free (Some (import_kind.Weak, span)) = parts-one (λ path. take-bare (refl, refl, refl) (take-none free))

  syntax-takes : (path : Path) (x : Option (t.Syntax Place)) → Take numbers (syntax_locations numbers path (option_map ast.syntax_place x)) (λ w. weigh w (s.maybe s.syntax x))
  syntax-takes path None = take-none (λ w. weigh w [])
  syntax-takes path (Some x) = take-ending x.keyword x.end (refl, refl, refl, refl) (take-none free)
      (λ w. omega (arith, weigh-append w (s.strings x.value) (s.sign s.semicolon x.end), behind-append w x.keyword (s.strings x.value) (s.sign s.semicolon x.end)))

  package-take : (path : Path) (x : Option Package) {c : Cost} → Parts numbers (package_parts x) c → Take numbers (package_locations numbers path x) c
  package-take path None p = take-none _
  package-take path (Some x) p = p.at path

  pub file-takes : (size : ℕ) (x : t.File Place) → Take numbers (file_locations numbers (ast.file size x)) (λ w. weigh w (s.spell x))
  file-takes size x =
      let g = statements-take x.statements in
      let f = ast.file size x in
      take-bare (refl, refl, refl)
      (take-more (take-append (package-take [] f.«package» g.statement_parts) (take-append (g.field_parts.numbered [] _ 0) (take-append (g.message_parts.numbered [] _ 0) (take-append (g.enum_parts.numbered [] _ 0)
      (take-append (g.oneof_parts.numbered [] _ 0) (take-append (g.block_parts.at _) (take-append (g.extension_parts.numbered [] _ 0) (take-append (options-take numbers _ f.options g.option_parts)
      (bare-then ((parts-flat (λ (i : Import). public_words numbers i.kind) (λ i. public-free i.kind) f.imports).numbered [] _ 0)
      (bare-then ((parts-flat (λ (i : Import). weak_words numbers i.kind) (λ i. weak-free i.kind) f.imports).numbered [] _ 0)
      (syntax-takes [] x.syntax)))))))))))
      (λ w. omega (arith, g.within w, weigh-append w (s.maybe s.syntax x.syntax) (s.many s.statement x.statements))))

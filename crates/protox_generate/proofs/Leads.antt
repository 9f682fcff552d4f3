-- Locations whose paths lead to names. The locations at a path are described by what the rest of a
-- path leads to there.
use Rattle.std.proofs.Common.{◌≡◌, ℕ, ◌+◌, suc, List, [], ◌∷◌, ◌++◌, map, flat_map, Option, Some, None, refl, sym, ap, ◌∙◌, subst, append_assoc, append-nil, arith}
use Rattle.std.specs.Prelude.{ℤ, pos, option_and_then, slice_get}
use Rattle.protox_ast.specs.Basics.{Each}
use Rattle.protox_describe.specs.Siblings.{Given}
use Rattle.protox_ast.specs.Options.{OptionStatement, listed}
use Rattle.protox_ast.specs.Ranges.{kind_names, kind_ranges}
use Rattle.protox_ast.specs.declared.ast.Comments.{Comments}
use Rattle.protox_ast.specs.declared.ast.Extensions.{Extensions}
use Rattle.protox_ast.specs.declared.ast.Ident.{Ident}
use Rattle.protox_ast.specs.declared.ast.OptionBody.{OptionBody}
use Rattle.protox_ast.specs.declared.ast.OptionList.{OptionList}
use Rattle.protox_ast.specs.declared.ast.Reserved.{Reserved}
use Rattle.protox_ast.specs.declared.ast.ReservedKind.{ReservedKind}
use Rattle.protox_ast.specs.declared.ast.ReservedKind.TheVariants as reserved
use Rattle.protox_ast.specs.declared.ast.ReservedRange.{ReservedRange}
use Rattle.protox_descriptor.specs.declared.descriptor.source_code_info.Location.{Location}
use Rattle.protox_fault.specs.Faults.{Span}
use Rattle.protox_generate.proofs.Spelled.{TextAt}
use Rattle.protox_generate.specs.Names.{IsNamed, Lookup, Name, Writes, at}
use Rattle.protox_ast.proofs.Lemmas.{Pairs}
use Rattle.protox_places.specs.Lines.{span_numbers}
use Rattle.protox_locate.specs.LocationWords.{Path, Part, part, nth, each_at, numbered, commented, bare, extension_range, extensions_statements, name_statement, option_body, option_list, option_place, option_statement, option_statements, range_locations, range_statement, range_statements, reserved_name, name_statements}
use Rattle.protox_ast.specs.Spans.{body_span, end_span, range_span, start_span}

pub each-both : {A : Type 0} (P : A → Type 0) (xs ys : List A) → Each P xs → Each P ys → Each P (xs ++ ys)
each-both P [] ys a b = b
each-both P (x ∷ xs) ys a b = (a.0, each-both P xs ys a.1 b)

pub each-so : {A : Type 0} (P Q : A → Type 0) (xs : List A) → ((x : A) → P x → Q x) → Each P xs → Each Q xs
each-so P Q [] so h = tt
each-so P Q (x ∷ xs) so h = (so x h.0, each-so P Q xs so h.1)

pub each-map : {A B : Type 0} (P : B → Type 0) (f : A → B) (xs : List A) → ((x : A) → P (f x)) → Each P (map f xs)
each-map P f [] h = tt
each-map P f (x ∷ xs) h = (h x, each-map P f xs h)

pub each-flat : {A B : Type 0} (P : B → Type 0) (f : A → List B) (xs : List A) → ((x : A) → Each P (f x)) → Each P (flat_map f xs)
each-flat P f [] h = tt
each-flat P f (x ∷ xs) h = each-both P (f x) (flat_map f xs) (h x) (each-flat P f xs h)

-- ---- locations from a path on

pub record From (path : Path) (l : Location) : Type 0 where
  pub rest : Path
  pub is : l.path ≡ path ++ rest

abbrev pub Starts : Part → Type 0
Starts at = (path : Path) → Each (From path) (at path)

pub deeper : (path : Path) (tag : ℤ) (l : Location) → From (part path tag) l → From path l
deeper path tag l f = record { rest = tag ∷ f.rest; is = f.is ∙ append_assoc path (tag ∷ []) f.rest }

pub here : (path : Path) (l : Location) → l.path ≡ path → From path l
here path l e = record { rest = []; is = e ∙ sym (append-nil path) }

pub numbered-starts : (path : Path) (tag : ℤ) (n : ℕ) (ats : List Part) → Each Starts ats → Each (From (part path tag)) (numbered path tag n ats)
numbered-starts path tag n [] h = tt
numbered-starts path tag n (at ∷ more) h =
    each-both (From (part path tag)) (at (nth path tag n)) (numbered path tag (n + 1) more)
    (each-so (From (nth path tag n)) (From (part path tag)) (at (nth path tag n))
    (λ l f. record { rest = pos n ∷ f.rest; is = f.is ∙ append_assoc path (tag ∷ pos n ∷ []) f.rest ∙ sym (append_assoc path (tag ∷ []) (pos n ∷ f.rest)) }) (h.0 (nth path tag n)))
    (numbered-starts path tag (n + 1) more h.1)

all-starts : (path : Path) (ats : List Part) → Each Starts ats → Each (From path) (each_at path ats)
all-starts path [] h = tt
all-starts path (at ∷ more) h = each-both (From path) (at path) (each_at path more) (h.0 path) (all-starts path more h.1)

module _ (numbers : Span → List ℤ) where
  pub commented-starts : (span : Span) (comments : Comments) → Starts (λ path. commented numbers path span comments ∷ [])
  commented-starts span comments path = (here path (commented numbers path span comments) refl, tt)

  pub bare-starts : (span : Span) → Starts (λ path. bare numbers path span ∷ [])
  bare-starts span path = (here path (bare numbers path span) refl, tt)

  pub options-start : (ss : List OptionStatement) → Starts (λ path. option_statements numbers path ss)
  options-start ss path =
      each-both (From path) _ _ (all-starts path (map (option_place numbers) ss) (each-map Starts (option_place numbers) ss (λ x. bare-starts x.span)))
      (each-so (From (part path (pos 999))) (From path) _ (deeper path (pos 999)) (numbered-starts path (pos 999) 0 _ (each-map Starts (option_statement numbers) ss (λ x. commented-starts x.span x.comments))))

  pub list-start : (options : Option OptionList) (bodies : List OptionBody) → Starts (λ path. option_list numbers path options bodies)
  list-start None bodies path = tt
  list-start (Some list) bodies path = (
    here path (bare numbers path list.span) refl,
    each-so (From (part path (pos 999))) (From path) _ (deeper path (pos 999)) (numbered-starts path (pos 999) 0 _ (each-map Starts (option_body numbers) bodies (λ x. bare-starts (body_span x)))),
  )

  range-start : (range : ReservedRange) → Starts (range_locations numbers range)
  range-start range path = (
    here path (bare numbers path (range_span range)) refl,
    (
      deeper path (pos 1) (bare numbers (part path (pos 1)) (start_span range)) (here _ _ refl),
      (deeper path (pos 2) (bare numbers (part path (pos 2)) (end_span range)) (here _ _ refl), tt),
    ),
  )

  range-statement-starts : (s : Reserved) (kind : ReservedKind) → Each Starts (range_statement numbers s kind)
  range-statement-starts s (reserved.Ranges ranges) = (commented-starts s.span s.comments, tt)
  range-statement-starts s (reserved.Names names) = tt

  name-statement-starts : (s : Reserved) (kind : ReservedKind) → Each Starts (name_statement numbers s kind)
  name-statement-starts s (reserved.Ranges ranges) = tt
  name-statement-starts s (reserved.Names names) = (commented-starts s.span s.comments, tt)

  pub ranges-start : (path : Path) (tag : ℤ) (ss : List Reserved) → Each (From (part path tag)) (range_statements numbers path tag ss)
  ranges-start path tag ss =
      each-both (From (part path tag)) _ _ (all-starts (part path tag) _ (each-flat Starts _ ss (λ s. range-statement-starts s s.kind)))
      (numbered-starts path tag 0 _ (each-flat Starts _ ss (λ s. each-map Starts (range_locations numbers) (kind_ranges s.kind) range-start)))

  pub names-start : (path : Path) (tag : ℤ) (ss : List Reserved) → Each (From (part path tag)) (name_statements numbers path tag ss)
  names-start path tag ss =
      each-both (From (part path tag)) _ _ (all-starts (part path tag) _ (each-flat Starts _ ss (λ s. name-statement-starts s s.kind)))
      (numbered-starts path tag 0 _ (each-flat Starts _ ss (λ s. each-map Starts (reserved_name numbers) (kind_names s.kind) (λ x. bare-starts x.span))))

  extension-start : (s : Extensions) (range : ReservedRange) → Starts (extension_range numbers s range)
  extension-start s range path =
      each-both (From path) (range_locations numbers range path) _ (range-start range path)
      (each-so (From (part path (pos 3))) (From path) _ (deeper path (pos 3)) (list-start s.options (listed s.options) (part path (pos 3))))

  pub extensions-start : (path : Path) (ss : List Extensions) → Each (From (part path (pos 5))) (extensions_statements numbers path ss)
  extensions-start path ss =
      each-both (From (part path (pos 5))) _ _ (all-starts (part path (pos 5)) _ (each-map Starts _ ss (λ s. commented-starts s.span s.comments)))
      (numbered-starts path (pos 5) 0 _ (each-flat Starts _ ss (λ s. each-map Starts (extension_range numbers s) s.ranges (extension-start s))))

-- ---- pairs

-- siblings, of which there may be more than have locations
abbrev pub Fronts : {A : Type 0} → (A → Part → Type 0) → List A → List Part → Type 0
Fronts P xs [] = Unit {0}
Fronts P [] (at ∷ ats) = ⊥
Fronts P (x ∷ xs) (at ∷ ats) = P x at × Fronts P xs ats

pub fronts : {A : Type 0} (P : A → Part → Type 0) (xs more : List A) (ats : List Part) → Pairs P xs ats → Fronts P (xs ++ more) ats
fronts P [] more [] h = tt
fronts P [] more (at ∷ ats) h = absurd h
fronts P (x ∷ xs) more [] h = absurd h
fronts P (x ∷ xs) more (at ∷ ats) h = (h.0, fronts P xs more ats h.1)

pub all-fronts : {A : Type 0} (P : A → Part → Type 0) (xs : List A) (ats : List Part) → Pairs P xs ats → Fronts P xs ats
all-fronts P [] [] h = tt
all-fronts P [] (at ∷ ats) h = absurd h
all-fronts P (x ∷ xs) [] h = absurd h
all-fronts P (x ∷ xs) (at ∷ ats) h = (h.0, all-fronts P xs ats h.1)

-- ---- locations that lead to names

module _ (source : List ℕ) where
  pub record Leads (look : Lookup) (path : Path) (l : Location) : Type 0 where
    pub rest : Path
    pub is : l.path ≡ path ++ rest
    pub named : Given (IsNamed source l.span) (look rest)

  abbrev pub Fits : Lookup → Part → Type 0
  Fits look at = (path : Path) → Each (Leads look path) (at path)

  -- parts that are no name
  pub apart : (look : Lookup) (path : Path) (tag : ℤ) (ls : List Location) → ((rest : Path) → look (tag ∷ rest) ≡ None) → Each (From (part path tag)) ls → Each (Leads look path) ls
  apart look path tag ls none h =
      each-so (From (part path tag)) (Leads look path) ls
      (λ l f. record { rest = tag ∷ f.rest; is = f.is ∙ append_assoc path (tag ∷ []) f.rest; named = subst (Given (IsNamed source l.span)) (sym (none f.rest)) tt }) h

  pub alone : (look : Lookup) (path : Path) (l : Location) → look [] ≡ None → l.path ≡ path → Leads look path l
  alone look path l none e = record { rest = []; is = e ∙ sym (append-nil path); named = subst (Given (IsNamed source l.span)) (sym none) tt }

  pub leaf : (look : Lookup) (path : Path) (tag : ℤ) (l : Location) → look (tag ∷ []) ≡ None → l.path ≡ part path tag → Leads look path l
  leaf look path tag l none e = record { rest = tag ∷ []; is = e; named = subst (Given (IsNamed source l.span)) (sym none) tt }

  -- a name
  pub a-name : (look : Lookup) (path : Path) (ident : Ident) (name : Name) → look (pos 1 ∷ []) ≡ Some name → TextAt source ident.span ident.value → ((text : List ℕ) → text ≡ ident.value → Writes text name)
      → Leads look path (bare (span_numbers source) (part path (pos 1)) ident.span)
  a-name look path ident name is at writes = record {
    rest = pos 1 ∷ [];
    is = refl;
    named = subst (Given (IsNamed source (span_numbers source ident.span))) (sym is)
        (record { start = ident.span.start; end = ident.span.end; in_order = at.in_order; within = at.within; is = refl; writes = writes _ at.is });
  }

  from-place : {A : Type 0} (inner : A → Lookup) (look : Lookup) (tag : ℤ) (all : List A) → ((place : ℤ) (rest : Path) → look (tag ∷ place ∷ rest) ≡ at inner all place rest)
      → (path : Path) (n : ℕ) (xs : List A) (ats : List Part) → ((k : ℕ) → slice_get all (n + k) ≡ slice_get xs k) → Fronts (λ x. Fits (inner x)) xs ats → Each (Leads look path) (numbered path tag n ats)
  from-place inner look tag all goes path n xs [] same h = tt
  from-place inner look tag all goes path n [] (a ∷ ats) same h = absurd h
  from-place inner look tag all goes path n (x ∷ xs) (a ∷ ats) same h =
      let found : slice_get all n ≡ Some x = ap (slice_get all) (omega arith) ∙ same 0 in
      each-both (Leads look path) (a (nth path tag n)) (numbered path tag (n + 1) ats)
      (each-so (Leads (inner x) (nth path tag n)) (Leads look path) (a (nth path tag n))
      (λ l f. record {
        rest = tag ∷ pos n ∷ f.rest;
        is = f.is ∙ append_assoc path (tag ∷ pos n ∷ []) f.rest;
        named = subst (Given (IsNamed source l.span)) (sym (goes (pos n) f.rest ∙ ap (option_and_then (λ x. inner x f.rest)) found)) f.named;
      }) (h.0 (nth path tag n)))
      (from-place inner look tag all goes path (n + 1) xs ats (λ k. ap (slice_get all) (omega arith) ∙ same (suc k)) h.1)

  -- siblings at a field number
  pub siblings : {A : Type 0} (inner : A → Lookup) (look : Lookup) (tag : ℤ) (all : List A) (ats : List Part) → ((place : ℤ) (rest : Path) → look (tag ∷ place ∷ rest) ≡ at inner all place rest)
      → Fronts (λ x. Fits (inner x)) all ats → (path : Path) → Each (Leads look path) (numbered path tag 0 ats)
  siblings inner look tag all ats goes h path = from-place inner look tag all goes path 0 all ats (λ k. ap (slice_get all) (omega arith)) h

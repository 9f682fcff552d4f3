-- A draft of a file's locations, before its first item, behind one more, and behind the last.
use Rattle.std.proofs.Common.{◌≡◌, ℕ, suc, ◌+◌, List, [], ◌∷◌, ◌++◌, length, take, drop, map, flat_map, refl, ap, sym, ◌∙◌, arith, append_assoc, append-nil, length-append, length-drop}
use Rattle.std.specs.Prelude.{ℤ}
use Rattle.std.proofs.Math.Seq.{drop-append_seam}
use Rattle.std.proofs.lemmas.Grind.{flat_map-append}
use Rattle.std.proofs.lemmas.List.{take-append-drop}
use Rattle.protox_ast.specs.declared.ast.File.{File}
use Rattle.protox_ast.specs.declared.ast.Import.{Import}
use Rattle.protox_descriptor.specs.declared.descriptor.source_code_info.Location.{Location}
use Rattle.protox_descriptor.specs.declared.tag.file.TheConstants as tag
use Rattle.protox_fault.specs.Faults.{Span}
use Rattle.protox_locate.specs.LocationWords.{Part, Path, part, each_at, numbered, siblings_at}
use Rattle.protox_locate.specs.Locations.{import_locations, package_locations}
use Rattle.protox_locate.specs.inner.Draft.{AreParts, AreSiblings, file_front}
use Rattle.protox_locate.specs.inner.Walk.{Emits, Numbers}
use Rattle.protox_locate.specs.declared.context.Context.{Context}
use Rattle.protox_locate.proofs.Numbered.{each_at_append, numbered_append}

-- what a list of items gives, and one more item
pub one_more : {A B : Type 0} (kind : A → List B) (items : List A) (item : A) → flat_map kind (items ++ item ∷ []) ≡ flat_map kind items ++ kind item
one_more kind items item = flat_map-append kind items (item ∷ []) ∙ ap (λ l. flat_map kind items ++ l) (append-nil (kind item))

module _ (old new : Context) (tag : ℤ) where
  pub more_siblings : (n m : ℕ) (front : List Location) (xs ys all : List Part) → AreSiblings old n tag front xs → Numbers old new tag n m ys → all ≡ xs ++ ys → AreSiblings new m tag front all
  more_siblings n m front xs ys all a s e = record {
    path = s.located.path ∙ a.path;
    locations =
        s.located.locations
        ∙ ap (λ l. l ++ numbered old.path tag n ys) a.locations
        ∙ ap (λ p. (front ++ siblings_at [] tag xs) ++ numbered p tag n ys) a.path
        ∙ ap (λ k. (front ++ siblings_at [] tag xs) ++ numbered [] tag k ys) a.counted
        ∙ append_assoc front (siblings_at [] tag xs) (numbered [] tag (length xs) ys)
        ∙ ap (λ k. front ++ (siblings_at [] tag xs ++ numbered [] tag k ys)) (let e : length xs ≡ 0 + length xs = omega arith in e)
        ∙ ap (λ l. front ++ l) (sym (numbered_append [] tag 0 xs ys))
        ∙ ap (λ l. front ++ siblings_at [] tag l) (sym e);
    counted = s.counted ∙ ap (λ k. k + length ys) a.counted ∙ sym (length-append xs ys) ∙ ap length (sym e);
  }

  pub more_parts : (xs ys all : List Part) → AreParts old tag xs → Emits old new (each_at (part old.path tag) ys) → all ≡ xs ++ ys → AreParts new tag all
  more_parts xs ys all a s e = record {
    path = s.path ∙ a.path;
    locations =
        s.locations
        ∙ ap (λ l. l ++ each_at (part old.path tag) ys) a.locations
        ∙ ap (λ p. each_at (part [] tag) xs ++ each_at (part p tag) ys) a.path
        ∙ sym (each_at_append (part [] tag) xs ys)
        ∙ ap (each_at (part [] tag)) (sym e);
  }

-- what stands behind the reserved places
pub behind_reserved : {A : Type 0} (front more all : List A) (reserved : ℕ) → length front ≡ reserved → all ≡ front ++ more → drop reserved all ≡ more
behind_reserved front more all reserved e is = ap (drop reserved) is ∙ ap (λ n. drop n (front ++ more)) (sym e) ∙ drop-append_seam front more

-- A part of the front stands before the other part, which has the reserved places.
pub more_in_front : {A : Type 0} (front first last all : List A) (at reserved : ℕ) → first ≡ take at front → last ≡ drop at front → at + reserved ≡ length front
    → first ++ (last ++ drop (length last) all) ≡ front ++ drop reserved all
more_in_front front first last all at reserved e f sum =
    let dropped = length-drop at front in
    let len : length (drop at front) ≡ reserved = omega (arith, dropped, sum) in
    sym (append_assoc first last (drop (length last) all))
    ∙ (λ i. (e i ++ f i) ++ drop ((ap length f ∙ len) i) all)
    ∙ ap (λ l. l ++ drop reserved all) (take-append-drop at front)

-- all lists of a file, one behind the other
pub in_a_row : (own : Location) (head imports messages enums services blocks extensions end : List Location)
    → ((((((own ∷ (head ++ imports)) ++ messages) ++ enums) ++ services) ++ blocks) ++ extensions) ++ end
    ≡ own ∷ (head ++ (imports ++ (messages ++ (enums ++ (services ++ (blocks ++ (extensions ++ end)))))))
in_a_row own head imports messages enums services blocks extensions end =
    let front = own ∷ (head ++ imports) in
    append_assoc ((((front ++ messages) ++ enums) ++ services) ++ blocks) extensions end
    ∙ append_assoc (((front ++ messages) ++ enums) ++ services) blocks (extensions ++ end)
    ∙ append_assoc ((front ++ messages) ++ enums) services (blocks ++ (extensions ++ end))
    ∙ append_assoc (front ++ messages) enums (services ++ (blocks ++ (extensions ++ end)))
    ∙ append_assoc front messages (enums ++ (services ++ (blocks ++ (extensions ++ end))))
    ∙ ap (λ l. own ∷ l) (append_assoc head imports (messages ++ (enums ++ (services ++ (blocks ++ (extensions ++ end))))))

-- ---- how many locations stand in front of the items

module _ (numbers : Span → List ℤ) where
  imports_counted : (path : Path) (list : ℤ) (n : ℕ) (xs : List Import) → length (numbered path list n (map (import_locations numbers) xs)) ≡ length xs
  imports_counted path list n [] = refl
  imports_counted path list n (x ∷ xs) = ap suc (imports_counted path list (n + 1) xs)

  pub front_counted : (file : File) (own : ℕ) → length (package_locations numbers [] file.«package») ≡ own → length (file_front numbers file []) ≡ length file.imports + (own + 1)
  front_counted file own e =
      let imports = imports_counted [] tag.DEPENDENCY 0 file.imports in
      let both = length-append (package_locations numbers [] file.«package») (siblings_at [] tag.DEPENDENCY (map (import_locations numbers) file.imports)) in
      omega (arith, e, imports, both)

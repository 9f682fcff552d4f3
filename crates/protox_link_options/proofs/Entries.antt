-- Entries of files, one behind another.
use Rattle.std.proofs.Common.{◌≡◌, ◌≤◌, ◌^◌, ◌+◌, ◌==◌, ℕ, Bool, true, false, List, [], ◌∷◌, ◌++◌, ap, append_assoc, arith, length, map, refl, subst, suc, sym, zero, ◌∙◌}
use Rattle.std.specs.Prelude.{None, Some, reverse, slice_get, slice_index_or}
use Rattle.std.proofs.lemmas.Option.{same_Some}
use Rattle.std.proofs.lemmas.List.{length-append, map-append, nil_from_length, reverse-append}
use Rattle.protox_descriptor.specs.declared.descriptor.FileDescriptorProto.{FileDescriptorProto}
use Rattle.protox_file_options.specs.declared.answer.InterpretedFile.{InterpretedFile}
use Rattle.protox_set_options.specs.Read.{AreFrom}
use Rattle.protox_link_options.specs.SpelledOptions.{IsLargeEntry, entries_of, entry_of}

-- the entry of one file more
pub entries_more : (files : List FileDescriptorProto) (answers : List InterpretedFile) (file : FileDescriptorProto) (answer : InterpretedFile) → length files ≡ length answers
    → entries_of (files ++ file ∷ []) (answers ++ answer ∷ []) ≡ entries_of files answers ++ entry_of file answer ∷ []
entries_more [] [] file answer same = refl
entries_more [] (a ∷ answers) file answer same = absurd cc
entries_more (f ∷ files) [] file answer same = absurd cc
entries_more (f ∷ files) (a ∷ answers) file answer same = ap (λ rest. entry_of f a ∷ rest) (entries_more files answers file answer (omega (arith, same)))

pub as_many : (files : List FileDescriptorProto) (answers : List InterpretedFile) → length files ≡ length answers → length (entries_of files answers) ≡ length files
as_many [] answers same = refl
as_many (f ∷ files) [] same = absurd cc
as_many (f ∷ files) (a ∷ answers) same = ap suc (as_many files answers (omega (arith, same)))

pub as_many_answers : (files : List FileDescriptorProto) (n : ℕ) (some : List FileDescriptorProto) (answers : List InterpretedFile) → AreFrom files n some answers → length some ≡ length answers
as_many_answers files n [] [] are = refl
as_many_answers files n [] (a ∷ answers) are = absurd are
as_many_answers files n (f ∷ some) [] are = absurd are
as_many_answers files n (f ∷ some) (a ∷ answers) are = ap suc (as_many_answers files (n + 1) some answers are.1)

reverse_onto : {X : Type 0} (xs : List X) (x : X) → reverse (x ∷ xs) ≡ reverse xs ++ x ∷ []
reverse_onto xs x = reverse-append (x ∷ []) xs

pub reverse-map : {X Y : Type 0} (f : X → Y) (xs : List X) → map f (reverse xs) ≡ reverse (map f xs)
reverse-map f [] = refl
reverse-map f (x ∷ xs) =
    ap (map f) (reverse_onto xs x) ∙ map-append f (reverse xs) (x ∷ []) ∙ ap (λ l. l ++ f x ∷ []) (reverse-map f xs) ∙ sym (reverse_onto (map f xs) (f x))

-- what stands behind other elements
pub there : {X : Type 0} (xs : List X) (x : X) (ys : List X) → slice_get (xs ++ (x ∷ ys)) (length xs) ≡ Some x
there [] x ys = refl
there (y ∷ xs) x ys = there xs x ys

pub entry_there : {X : Type 0} (f : X → List ℕ) (xs : List X) (n : ℕ) (x : X) → slice_get xs n ≡ Some x → slice_index_or (map f xs) n [] ≡ f x
entry_there f [] n x is = absurd cc
entry_there f (y ∷ ys) zero x is = ap f (same_Some y x is)
entry_there f (y ∷ ys) (suc n) x is = entry_there f ys n x is

pub no_entry : {X : Type 0} (f : X → List ℕ) (xs : List X) (n : ℕ) → slice_get xs n ≡ None → slice_index_or (map f xs) n [] ≡ []
no_entry f [] n is = refl
no_entry f (y ∷ ys) zero is = absurd cc
no_entry f (y ∷ ys) (suc n) is = no_entry f ys n is

module _ (all_files : List FileDescriptorProto) (all_answers : List InterpretedFile) where
  -- The entries that are made are the last ones, from the last to the first.
  pub record AreMade (files : List FileDescriptorProto) (answers : List InterpretedFile) (made : List (List ℕ)) : Type 0 where
    pub same : length files ≡ length answers
    pub behind : entries_of all_files all_answers ≡ entries_of files answers ++ reverse made

  split : (files : List FileDescriptorProto) (answers : List InterpretedFile) (file : FileDescriptorProto) (answer : InterpretedFile) (made : List (List ℕ))
      → length files ≡ length answers → entries_of all_files all_answers ≡ entries_of (files ++ file ∷ []) (answers ++ answer ∷ []) ++ reverse made
      → entries_of all_files all_answers ≡ entries_of files answers ++ (entry_of file answer ∷ reverse made)
  split files answers file answer made same behind =
      behind ∙ ap (λ l. l ++ reverse made) (entries_more files answers file answer same)
      ∙ append_assoc (entries_of files answers) (entry_of file answer ∷ []) (reverse made)

  last : {X : Type 0} (x : X) (xs : List X) → length (xs ++ x ∷ []) ≡ length xs + 1
  last x xs = length-append xs (x ∷ [])

  fewer : (files before : List FileDescriptorProto) (answers behind : List InterpretedFile) (file : FileDescriptorProto) (answer : InterpretedFile)
      → before ≡ files ++ file ∷ [] → behind ≡ answers ++ answer ∷ [] → length before ≡ length behind → length files ≡ length answers
  fewer files before answers behind file answer f a same =
      let m = ap length f ∙ last file files in
      let n = ap length a ∙ last answer answers in
      omega (arith, m, n, same)

  pub one_made : (files before : List FileDescriptorProto) (answers behind : List InterpretedFile) (file : FileDescriptorProto) (answer : InterpretedFile) (made after : List (List ℕ)) (entry : List ℕ)
      → before ≡ files ++ file ∷ [] → behind ≡ answers ++ answer ∷ [] → entry ≡ entry_of file answer → after ≡ made ++ entry ∷ []
      → AreMade before behind made → AreMade files answers after
  one_made files before answers behind file answer made after entry f a is e are =
      let same = fewer files before answers behind file answer f a are.same in
      let whole : entries_of all_files all_answers ≡ entries_of (files ++ file ∷ []) (answers ++ answer ∷ []) ++ reverse made =
      subst (λ (some : List InterpretedFile). entries_of all_files all_answers ≡ entries_of (files ++ file ∷ []) some ++ reverse made) a
      (subst (λ (fs : List FileDescriptorProto). entries_of all_files all_answers ≡ entries_of fs behind ++ reverse made) f are.behind) in
      record {
        same = same;
        behind = split files answers file answer made same whole
            ∙ ap (λ l. entries_of files answers ++ (l ∷ reverse made)) (sym is)
            ∙ ap (λ l. entries_of files answers ++ l) (sym (reverse-append made (entry ∷ [])) ∙ ap reverse (sym e));
      }

  -- An entry that is too large is one of these.
  pub large_one : (files before : List FileDescriptorProto) (answers behind : List InterpretedFile) (file : FileDescriptorProto) (answer : InterpretedFile) (made : List (List ℕ))
      → before ≡ files ++ file ∷ [] → behind ≡ answers ++ answer ∷ [] → AreMade before behind made → 2 ^ 31 ≤ length (entry_of file answer)
      → IsLargeEntry all_files all_answers
  large_one files before answers behind file answer made f a are large =
      let same = fewer files before answers behind file answer f a are.same in
      let whole : entries_of all_files all_answers ≡ entries_of (files ++ file ∷ []) (answers ++ answer ∷ []) ++ reverse made =
      subst (λ (some : List InterpretedFile). entries_of all_files all_answers ≡ entries_of (files ++ file ∷ []) some ++ reverse made) a
      (subst (λ (fs : List FileDescriptorProto). entries_of all_files all_answers ≡ entries_of fs behind ++ reverse made) f are.behind) in
      record {
        number = length (entries_of files answers);
        entry = entry_of file answer;
        is = ap (λ (l : List (List ℕ)). slice_get l (length (entries_of files answers))) (split files answers file answer made same whole) ∙ there (entries_of files answers) (entry_of file answer) (reverse made);
        large = large;
      }

  -- Where no file is left all entries are made.
  pub all_made : (files : List FileDescriptorProto) (answers : List InterpretedFile) (made : List (List ℕ)) → length answers ≡ 0 → AreMade files answers made
      → reverse made ≡ entries_of all_files all_answers
  all_made files answers made none are =
      sym (are.behind ∙ ap (λ (fs : List FileDescriptorProto). entries_of fs answers ++ reverse made) (nil_from_length files (are.same ∙ none)))

-- A list that isn't empty has something.
pub not_none : {X : Type 0} (xs : List X) (empty : Bool) → empty ≡ false → empty ≡ (length xs == 0) → xs ≡ [] → ⊥
not_none xs empty some is none =
    let no : false ≡ true = sym some ∙ (is ∙ ap (λ (n : ℕ). n == 0) (ap length none)) in cc

-- The number of the first file with a name, as files are added and as a map has it.
use Rattle.std.proofs.Common.{◌≡◌, ℕ, suc, ◌+◌, List, [], ◌∷◌, ◌++◌, length, Option, Some, None, Bool, true, false, cond, refl, sym, ◌∙◌, ap, bytes_eq, arith, zero-add, add-zero, ◌<◌, take, get_or, length-take}
use Rattle.std.specs.Prelude.{position}
use Rattle.std.specs.List.{position_from}
use Rattle.std.specs.Map.{update}
use Rattle.std.specs.Option.{option_map_or}
use Rattle.std.proofs.lemmas.Iterator.Adapters.{position_from-zero}
use Rattle.std.proofs.lemmas.Slice.Eq.{bytes_eq-Decides}
use Rattle.std.proofs.lemmas.List.{take_more}
use Rattle.protox_descriptor.specs.declared.descriptor.FileDescriptorProto.{FileDescriptorProto}
use Rattle.protox_imports.specs.Names.{is_named, number_of}
use Rattle.protox_imports.specs.inner.Numbers.{first_of}

-- names that are equal as tests go are equal
pub same_name : (xs ys : List ℕ) → bytes_eq xs ys ≡ true → xs ≡ ys
same_name xs ys h = (bytes_eq-Decides xs ys).0 h

-- a new number is taken where there was none
absent : (b : Bool) (o : Option ℕ) (n : ℕ) → (b ≡ true → o ≡ None) → cond b (Some n) o ≡ first_of o b n
absent true None n h = refl
absent true (Some g) n h = let e : Some g ≡ None = h refl in cc
absent false None n h = refl
absent false (Some g) n h = refl

pub put_absent : (f : List ℕ → Option ℕ) (name q : List ℕ) (n : ℕ) → f name ≡ None
    → update bytes_eq f name (Some n) q ≡ first_of (f q) (bytes_eq name q) n
put_absent f name q n none =
    absent (bytes_eq name q) (f q) n (λ h. ap f (sym (same_name name q h)) ∙ none)

pub first_of-no : (o : Option ℕ) (n : ℕ) → first_of o false n ≡ o
first_of-no None n = refl
first_of-no (Some g) n = refl

-- one test more in front
behind : (b c : Bool) (i n m : ℕ) (a o : Option ℕ) → a ≡ first_of o c n → n ≡ m
    → cond b (Some i) a ≡ first_of (cond b (Some i) o) c m
behind true c i n m a o h e = refl
behind false c i n m a o h e = h ∙ ap (first_of o c) e

position_from-push : {X : Type 0} (p : X → Bool) (i : ℕ) (xs : List X) (y : X)
    → position_from p i (xs ++ y ∷ []) ≡ first_of (position_from p i xs) (p y) (i + length xs)
position_from-push p i [] y = rw add-zero refl
position_from-push p i (x ∷ xs) y =
    behind (p x) (p y) i (i + 1 + length xs) (i + suc (length xs)) _ _
    (position_from-push p (i + 1) xs y) (omega arith)

-- a further element is found if none before it is
pub position-push : {X : Type 0} (p : X → Bool) (xs : List X) (y : X)
    → position p (xs ++ y ∷ []) ≡ first_of (position p xs) (p y) (length xs)
position-push p xs y =
    position_from-zero p (xs ++ y ∷ [])
    ∙ (position_from-push p 0 xs y
    ∙ (ap (λ n. first_of (position_from p 0 xs) (p y) n) (zero-add (length xs))
    ∙ ap (λ o. first_of o (p y) (length xs)) (sym (position_from-zero p xs))))

-- the first number of a name once one more file counts
pub number_of-more : (set : List FileDescriptorProto) (i : ℕ) (file : FileDescriptorProto)
    (q : List ℕ) → i < length set → file ≡ get_or set i file
    → number_of (take (i + 1) set) q ≡ first_of (number_of (take i set) q) (is_named q file) i
number_of-more set i file q h e =
    let more : take (i + 1) set ≡ take i set ++ file ∷ [] =
    take_more set i file h ∙ ap (λ f. take i set ++ f ∷ []) (sym e) in
    let count : length (take i set) ≡ i = grind (arith, length-take) in
    ap (λ files. number_of files q) more
    ∙ (position-push (is_named q) (take i set) file
    ∙ ap (first_of (number_of (take i set) q) (is_named q file)) count)

pub is_named-some : (file : FileDescriptorProto) (name q : List ℕ) → file.name ≡ Some name
    → is_named q file ≡ bytes_eq name q
is_named-some file name q e = ap (λ o. option_map_or (λ own. bytes_eq own q) o false) e

pub is_named-none : (file : FileDescriptorProto) (q : List ℕ) → file.name ≡ None
    → is_named q file ≡ false
is_named-none file q e = ap (λ o. option_map_or (λ own. bytes_eq own q) o false) e

-- A map of the first numbers is one of them still, with one file more noted.
pub noted : (old new : List ℕ → Option ℕ) (set : List FileDescriptorProto) (i : ℕ)
    (file : FileDescriptorProto) (name : List ℕ) → i < length set → file ≡ get_or set i file
    → file.name ≡ Some name → ((q : List ℕ) → old q ≡ number_of (take i set) q)
    → ((q : List ℕ) → new q ≡ first_of (old q) (bytes_eq name q) i)
    → (q : List ℕ) → new q ≡ number_of (take (i + 1) set) q
noted old new set i file name h e named was now q =
    now q
    ∙ (ap (λ o. first_of o (bytes_eq name q) i) (was q)
    ∙ (ap (λ b. first_of (number_of (take i set) q) b i) (sym (is_named-some file name q named))
    ∙ sym (number_of-more set i file q h e)))

-- So it is if the file has no name.
pub not_noted : (old : List ℕ → Option ℕ) (set : List FileDescriptorProto) (i : ℕ)
    (file : FileDescriptorProto) → i < length set → file ≡ get_or set i file
    → file.name ≡ None → ((q : List ℕ) → old q ≡ number_of (take i set) q)
    → (q : List ℕ) → old q ≡ number_of (take (i + 1) set) q
not_noted old set i file h e none was q =
    was q
    ∙ (sym (first_of-no (number_of (take i set) q) i)
    ∙ (ap (λ b. first_of (number_of (take i set) q) b i) (sym (is_named-none file q none))
    ∙ sym (number_of-more set i file q h e)))

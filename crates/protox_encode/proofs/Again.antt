-- What a part of a message was, found from its bytes.
use Rattle.std.proofs.Common.{◌≡◌, ℕ, zero, suc, ◌^◌, ◌<◌, ℤ, pos, negsuc, Bool, true, false, List, [], ◌∷◌, ◌++◌, Option, Some, None, refl, sym, ap, arith}
use Rattle.std.specs.Prelude.{nat_lt}
use Rattle.std.specs.Cmp.{first_so, second_so}
use Rattle.std.specs.Int.{w64, cast_unsigned}
use Rattle.std.specs.List.{flat_map, list_all}
use Rattle.std.proofs.lemmas.Bool.{false≢true}
use Rattle.std.proofs.lemmas.Bool.Decides.{nat_tests}
use Rattle.protox_descriptor.specs.declared.descriptor.uninterpreted_option.NamePart.{NamePart}
use Rattle.protox_encode.proofs.Apart.{numbers_are_apart_law}
use Rattle.protox_encode.proofs.OneKind.{one_message}
use Rattle.protox_encode.proofs.Readings.{number_some}
use Rattle.protox_encode.specs.Exact.{all, fits, is_none}
use Rattle.protox_encode.specs.Exact as exact
use Rattle.protox_encode.specs.Floats.{if_there}
use Rattle.protox_encode.specs.Messages.{name_part}
use Rattle.protox_encode.specs.Payloads.{text, texts, signed, signeds, unsigned, double, flag, packed, nested, each}
use Rattle.protox_encode.specs.Reading.{HasRoom, HaveRoom, fields_of, numbered, numbers, rise_from}
use Rattle.protox_encode.specs.Wire.{Payload, Parts, message, varint}

-- ---- tests and parts by their index

abbrev test_at : List Bool → ℕ → Bool
test_at [] k = true
test_at (test ∷ tests) zero = test
test_at (test ∷ tests) (suc k) = test_at tests k

pub all_at : (k : ℕ) (tests : List Bool) → all tests ≡ true → test_at tests k ≡ true
all_at k [] h = refl
all_at zero (test ∷ tests) h = first_so test (all tests) h
all_at (suc k) (test ∷ tests) h = all_at k tests (second_so test (all tests) h)

abbrev pub payloads : Parts → ℕ → List Payload
payloads [] k = []
payloads ((n, ps) ∷ parts) zero = ps
payloads ((n, ps) ∷ parts) (suc k) = payloads parts k

-- ---- room

abbrev pub Roomy : List Payload → Type 0
Roomy [] = Unit {0}
Roomy (p ∷ ps) = HasRoom p × Roomy ps

abbrev pub RoomyParts : Parts → Type 0
RoomyParts [] = Unit {0}
RoomyParts ((n, ps) ∷ parts) = Roomy ps × RoomyParts parts

have-room-onto : (n : ℕ) (ps : List Payload) (fs : List (ℕ × Payload)) → Roomy ps → HaveRoom fs → HaveRoom (numbered n ps ++ fs)
have-room-onto n [] fs r h = h
have-room-onto n (p ∷ ps) fs r h = (r.0, have-room-onto n ps fs r.1 h)

pub have-room : (parts : Parts) → RoomyParts parts → HaveRoom (fields_of parts)
have-room [] r = tt
have-room ((n, ps) ∷ parts) r = have-room-onto n ps (fields_of parts) r.0 (have-room parts r.1)

pub same-parts : (p q : Parts) → numbers p ≡ numbers q → rise_from 0 (numbers p) ≡ true → RoomyParts p → RoomyParts q → message p ≡ message q → p ≡ q
same-parts p q n r a b e = one_message p q n r (have-room p a) (have-room q b) e

pub room-text : (o : Option (List ℕ)) → Roomy (text o)
room-text None = tt
room-text (Some x) = (tt, tt)

pub room-texts : (xs : List (List ℕ)) → Roomy (texts xs)
room-texts [] = tt
room-texts (x ∷ xs) = (tt, room-texts xs)

pub room-signed : (o : Option ℤ) → Roomy (signed o)
room-signed None = tt
room-signed (Some x) = (tt, tt)

pub room-signeds : (xs : List ℤ) → Roomy (signeds xs)
room-signeds [] = tt
room-signeds (x ∷ xs) = (tt, room-signeds xs)

pub room-unsigned : (o : Option ℕ) → Roomy (unsigned o)
room-unsigned None = tt
room-unsigned (Some x) = (tt, tt)

pub room-flag : (o : Option Bool) → Roomy (flag o)
room-flag None = tt
room-flag (Some x) = (tt, tt)

pub room-packed : (xs : List ℤ) → Roomy (packed xs)
room-packed [] = tt
room-packed (x ∷ xs) = (tt, tt)

pub room-nested : {M : Type 0} (parts : M → Parts) (o : Option M) → Roomy (nested parts o)
room-nested parts None = tt
room-nested parts (Some x) = (tt, tt)

pub room-each : {M : Type 0} (parts : M → Parts) (xs : List M) → Roomy (each parts xs)
room-each parts [] = tt
room-each parts (x ∷ xs) = (tt, room-each parts xs)

pub room-none : (o : Option (List ℕ)) → is_none o ≡ true → Roomy (double o)
room-none None h = tt
room-none (Some x) h = absurd (false≢true h)

-- ---- what a part was

pub text-again : (a b : Option (List ℕ)) → text a ≡ text b → a ≡ b
text-again None None e = refl
text-again None (Some y) e = cc
text-again (Some x) None e = cc
text-again (Some x) (Some y) e = let h : x ≡ y = cc in ap Some h

pub texts-again : (xs ys : List (List ℕ)) → texts xs ≡ texts ys → xs ≡ ys
texts-again [] [] e = refl
texts-again [] (y ∷ ys) e = cc
texts-again (x ∷ xs) [] e = cc
texts-again (x ∷ xs) (y ∷ ys) e =
    let h : x ≡ y = cc in
    let r : texts xs ≡ texts ys = cc in
    let t : xs ≡ ys = texts-again xs ys r in
    λ i. h i ∷ t i

pub unsigned-again : (a b : Option ℕ) → unsigned a ≡ unsigned b → a ≡ b
unsigned-again None None e = refl
unsigned-again None (Some y) e = cc
unsigned-again (Some x) None e = cc
unsigned-again (Some x) (Some y) e = let h : x ≡ y = cc in ap Some h

pub flag-again : (a b : Option Bool) → flag a ≡ flag b → a ≡ b
flag-again None None e = refl
flag-again None (Some y) e = cc
flag-again (Some x) None e = cc
flag-again (Some true) (Some true) e = refl
flag-again (Some false) (Some false) e = refl
flag-again (Some true) (Some false) e = cc
flag-again (Some false) (Some true) e = cc

below : (n k : ℕ) → nat_lt n k ≡ true → n < k
below n k h = grind (arith, nat_tests)

number-again : (m n : ℤ) → fits m ≡ true → fits n ≡ true → cast_unsigned w64 m ≡ cast_unsigned w64 n → m ≡ n
number-again (pos m) (pos n) p q e = ap pos e
number-again (pos m) (negsuc n) p q e = absurd (omega (arith, below m (2 ^ 63) p, below n (2 ^ 63) q))
number-again (negsuc m) (pos n) p q e = absurd (omega (arith, below m (2 ^ 63) p, below n (2 ^ 63) q))
number-again (negsuc m) (negsuc n) p q e = let h : m ≡ n = omega (arith, below m (2 ^ 63) p, below n (2 ^ 63) q) in ap negsuc h

pub signed-again : (a b : Option ℤ) → if_there fits a ≡ true → if_there fits b ≡ true → signed a ≡ signed b → a ≡ b
signed-again None None p q e = refl
signed-again None (Some y) p q e = cc
signed-again (Some x) None p q e = cc
signed-again (Some x) (Some y) p q e = let h : cast_unsigned w64 x ≡ cast_unsigned w64 y = cc in ap Some (number-again x y p q h)

pub signeds-again : (xs ys : List ℤ) → list_all fits xs ≡ true → list_all fits ys ≡ true → signeds xs ≡ signeds ys → xs ≡ ys
signeds-again [] [] p q e = refl
signeds-again [] (y ∷ ys) p q e = cc
signeds-again (x ∷ xs) [] p q e = cc
signeds-again (x ∷ xs) (y ∷ ys) p q e =
    let h : cast_unsigned w64 x ≡ cast_unsigned w64 y = cc in
    let r : signeds xs ≡ signeds ys = cc in
    let s : x ≡ y = number-again x y (first_so (fits x) (list_all fits xs) p) (first_so (fits y) (list_all fits ys) q) h in
    let t : xs ≡ ys = signeds-again xs ys (second_so (fits x) (list_all fits xs) p) (second_so (fits y) (list_all fits ys) q) r in
    λ i. s i ∷ t i

abbrev groups : List ℤ → List ℕ
groups xs = flat_map (λ n. varint (cast_unsigned w64 n)) xs

groups-again : (xs ys : List ℤ) → list_all fits xs ≡ true → list_all fits ys ≡ true → groups xs ≡ groups ys → xs ≡ ys
groups-again [] [] p q e = refl
groups-again [] (y ∷ ys) p q e = absurd (number_some (cast_unsigned w64 y) (groups ys) e)
groups-again (x ∷ xs) [] p q e = absurd (number_some (cast_unsigned w64 x) (groups xs) (sym e))
groups-again (x ∷ xs) (y ∷ ys) p q e =
    let r = numbers_are_apart_law (cast_unsigned w64 x) (cast_unsigned w64 y) (groups xs) (groups ys) e in
    let s : x ≡ y = number-again x y (first_so (fits x) (list_all fits xs) p) (first_so (fits y) (list_all fits ys) q) r.0 in
    let t : xs ≡ ys = groups-again xs ys (second_so (fits x) (list_all fits xs) p) (second_so (fits y) (list_all fits ys) q) r.1 in
    λ i. s i ∷ t i

pub packed-again : (xs ys : List ℤ) → list_all fits xs ≡ true → list_all fits ys ≡ true → packed xs ≡ packed ys → xs ≡ ys
packed-again [] [] p q e = refl
packed-again [] (y ∷ ys) p q e = cc
packed-again (x ∷ xs) [] p q e = cc
packed-again (x ∷ xs) (y ∷ ys) p q e = let h : groups (x ∷ xs) ≡ groups (y ∷ ys) = cc in groups-again (x ∷ xs) (y ∷ ys) p q h

pub no-double : (a b : Option (List ℕ)) → is_none a ≡ true → is_none b ≡ true → a ≡ b
no-double None None p q = refl
no-double None (Some y) p q = absurd (false≢true q)
no-double (Some x) b p q = absurd (false≢true p)

pub names-again : (xs ys : List NamePart) → each name_part xs ≡ each name_part ys → xs ≡ ys
unfolding name_part
names-again [] [] e = refl
names-again [] (y ∷ ys) e = cc
names-again (x ∷ xs) [] e = cc
names-again (x ∷ xs) (y ∷ ys) e =
    let h : message (name_part x) ≡ message (name_part y) = cc in
    let r : each name_part xs ≡ each name_part ys = cc in
    let s : name_part x ≡ name_part y = same-parts (name_part x) (name_part y) refl refl ((tt, tt), ((tt, tt), tt)) ((tt, tt), ((tt, tt), tt)) h in
    let a : Some x.name_part ≡ Some y.name_part = text-again (Some x.name_part) (Some y.name_part) (ap (λ (parts : Parts). payloads parts 0) s) in
    let b : Some x.is_extension ≡ Some y.is_extension = flag-again (Some x.is_extension) (Some y.is_extension) (ap (λ (parts : Parts). payloads parts 1) s) in
    let a' : x.name_part ≡ y.name_part = cc in
    let b' : x.is_extension ≡ y.is_extension = cc in
    let t : xs ≡ ys = names-again xs ys r in
    λ i. record { name_part = a' i; is_extension = b' i } ∷ t i

-- No other message that passes its tests has the same bytes.
pub record Told {M : Type 0} (parts : M → Parts) (tests : M → List Bool) : Type 0 where
  pub told : (x y : M) → all (tests x) ≡ true → all (tests y) ≡ true → message (parts x) ≡ message (parts y) → x ≡ y

pub nested-again : {M : Type 0} {parts : M → Parts} {tests : M → List Bool} → Told parts tests → (a b : Option M) → exact.there tests a ≡ true → exact.there tests b ≡ true → nested parts a ≡ nested parts b → a ≡ b
nested-again {M} {parts} {tests} t None None p q e = refl
nested-again {M} {parts} {tests} t None (Some y) p q e = cc
nested-again {M} {parts} {tests} t (Some x) None p q e = cc
nested-again {M} {parts} {tests} t (Some x) (Some y) p q e = let h : message (parts x) ≡ message (parts y) = cc in ap Some (t.told x y p q h)

pub each-again : {M : Type 0} {parts : M → Parts} {tests : M → List Bool} → Told parts tests → (xs ys : List M) → exact.each tests xs ≡ true → exact.each tests ys ≡ true → each parts xs ≡ each parts ys → xs ≡ ys
each-again {M} {parts} {tests} t [] [] p q e = refl
each-again {M} {parts} {tests} t [] (y ∷ ys) p q e = cc
each-again {M} {parts} {tests} t (x ∷ xs) [] p q e = cc
each-again {M} {parts} {tests} t (x ∷ xs) (y ∷ ys) p q e =
    let h : message (parts x) ≡ message (parts y) = cc in
    let r : each parts xs ≡ each parts ys = cc in
    let s : x ≡ y = t.told x y (first_so (all (tests x)) (exact.each tests xs) p) (first_so (all (tests y)) (exact.each tests ys) q) h in
    let more : xs ≡ ys = each-again t xs ys (second_so (all (tests x)) (exact.each tests xs) p) (second_so (all (tests y)) (exact.each tests ys) q) r in
    λ i. s i ∷ more i

-- Lists, one element at a time.
use Rattle.std.proofs.Common.{◌≡◌, ℕ, ◌+◌, ◌<◌, Bool, List, [], ◌∷◌, ◌++◌, length, map, take, drop, get_or, refl, ap, sym, ◌∙◌, suc, arith, append_assoc, append-nil, length-append, add-one}
use Rattle.std.specs.Prelude.{if◌then◌else◌}
use Rattle.std.specs.List.{flat_map}
use Rattle.std.proofs.lemmas.List.{take_more}
use Rattle.std.proofs.Math.Seq.{drop-cons}
use Rattle.protox_describe.specs.Siblings.{count, each_after}

pub take_one_more : {A : Type 0} (xs : List A) (i : ℕ) (x : A) → i < length xs → x ≡ get_or xs i x → take (i + 1) xs ≡ take i xs ++ x ∷ []
take_one_more xs i x h e = take_more xs i x h ∙ ap (λ y. take i xs ++ y ∷ []) (sym e)

pub drop_more : {A : Type 0} (xs : List A) (i : ℕ) (x : A) → i < length xs → x ≡ get_or xs i x → drop i xs ≡ x ∷ drop (i + 1) xs
drop_more xs i x h e = rw (add-one) (drop-cons xs i x h ∙ ap (λ y. y ∷ drop (suc i) xs) (sym e))

map-snoc : {A B : Type 0} (f : A → B) (xs : List A) (y : A) → map f (xs ++ y ∷ []) ≡ map f xs ++ f y ∷ []
map-snoc f [] y = refl
map-snoc f (x ∷ xs) y = ap (λ l. f x ∷ l) (map-snoc f xs y)

pub map-take_more : {A B : Type 0} (f : A → B) (xs : List A) (i : ℕ) (x : A) → i < length xs → x ≡ get_or xs i x → map f (take (i + 1) xs) ≡ map f (take i xs) ++ f x ∷ []
map-take_more f xs i x h e = ap (map f) (take_one_more xs i x h e) ∙ map-snoc f (take i xs) x

pub map-twice : {A B C : Type 0} (f : B → C) (g : A → B) (xs : List A) → map f (map g xs) ≡ map (λ x. f (g x)) xs
map-twice f g [] = refl
map-twice f g (x ∷ xs) = ap (λ l. f (g x) ∷ l) (map-twice f g xs)

pub flat_map-snoc : {A B : Type 0} (f : A → List B) (xs : List A) (y : A) → flat_map f (xs ++ y ∷ []) ≡ flat_map f xs ++ f y
flat_map-snoc f [] y = append-nil (f y)
flat_map-snoc f (x ∷ xs) y = ap (λ l. f x ++ l) (flat_map-snoc f xs y) ∙ sym (append_assoc (f x) (flat_map f xs) (f y))

-- the results of each element, joined
pub flat-take_more : {A B C : Type 0} (f : B → List C) (g : A → B) (xs : List A) (i : ℕ) (x : A) → i < length xs → x ≡ get_or xs i x
    → flat_map f (map g (take (i + 1) xs)) ≡ flat_map f (map g (take i xs)) ++ f (g x)
flat-take_more f g xs i x h e = ap (flat_map f) (map-take_more g xs i x h e) ∙ flat_map-snoc f (map g (take i xs)) (g x)

-- the same behind earlier results
pub more-flat : {A B C : Type 0} (f : B → List C) (g : A → B) (xs : List A) (i : ℕ) (x : A) (start old new : List C) → i < length xs → x ≡ get_or xs i x
    → old ≡ start ++ flat_map f (map g (take i xs)) → new ≡ old ++ f (g x) → new ≡ start ++ flat_map f (map g (take (i + 1) xs))
more-flat f g xs i x start old new h e before now =
    now ∙ ap (λ l. l ++ f (g x)) before ∙ append_assoc start (flat_map f (map g (take i xs))) (f (g x)) ∙ ap (λ l. start ++ l) (sym (flat-take_more f g xs i x h e))

pub more-mapped : {A B C : Type 0} (f : B → C) (g : A → B) (xs : List A) (i : ℕ) (x : A) (start old new : List C) → i < length xs → x ≡ get_or xs i x
    → old ≡ start ++ map f (map g (take i xs)) → new ≡ old ++ f (g x) ∷ [] → new ≡ start ++ map f (map g (take (i + 1) xs))
more-mapped f g xs i x start old new h e before now =
    now ∙ ap (λ l. l ++ f (g x) ∷ []) before ∙ append_assoc start (map f (map g (take i xs))) (f (g x) ∷ [])
    ∙ ap (λ l. start ++ l) (sym (ap (map f) (map-take_more g xs i x h e) ∙ map-snoc f (map g (take i xs)) (g x)))

pub length-flat-take_more : {A B C : Type 0} (f : B → List C) (g : A → B) (xs : List A) (i : ℕ) (x : A) → i < length xs → x ≡ get_or xs i x
    → length (flat_map f (map g (take (i + 1) xs))) ≡ length (flat_map f (map g (take i xs))) + length (f (g x))
length-flat-take_more f g xs i x h e = ap length (flat-take_more f g xs i x h e) ∙ length-append (flat_map f (map g (take i xs))) (f (g x))

pub each_after-snoc : {A B : Type 0} (f : List A → A → List B) (before xs : List A) (y : A) → each_after f before (xs ++ y ∷ []) ≡ each_after f before xs ++ f (before ++ xs) y
each_after-snoc f before [] y = rw append-nil (rw append-nil refl)
each_after-snoc f before (x ∷ xs) y =
    ap (λ l. f before x ++ l) (each_after-snoc f (before ++ x ∷ []) xs y) ∙ simp append_assoc

-- ---- how many pass a test

count-snoc : {A : Type 0} (test : A → Bool) (xs : List A) (y : A) → count test (xs ++ y ∷ []) ≡ count test xs + (if test y then 1 else 0)
count-snoc test [] y = omega arith
count-snoc test (x ∷ xs) y = omega (arith, count-snoc test xs y)

pub count-take_more : {A B : Type 0} (test : B → Bool) (f : A → B) (xs : List A) (i : ℕ) (x : A) → i < length xs → x ≡ get_or xs i x
    → count test (map f (take (i + 1) xs)) ≡ count test (map f (take i xs)) + (if test (f x) then 1 else 0)
count-take_more test f xs i x h e = ap (count test) (map-take_more f xs i x h e) ∙ count-snoc test (map f (take i xs)) (f x)

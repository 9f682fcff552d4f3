-- Facts on lists of texts, and of references to them.
use Rattle.std.proofs.Common.{◌≡◌, ◌≢◌, ℕ, ◌+◌, ◌<◌, ◌==◌, ◌&&◌, Bool, true, false, not, cond, List, [], ◌∷◌, ◌++◌, length, take, drop, get_or, Bor, codes, bytes_eq, refl, sym, ap, subst, ◌∙◌, arith, take_all}
use Rattle.std.proofs.lemmas.List.{append_assoc, drop-map, get_or-map, get_or_append_left, length-append, length-map, length-take-le, take-append-drop, take_more, take_more_same}
use Rattle.std.proofs.lemmas.Bool.{true≢false}
use Rattle.std.proofs.lemmas.List.Folds.{list_all-map}
use Rattle.std.proofs.lemmas.Slice.Eq.{bytes_eq-Decides}
use Rattle.std.proofs.Math.Dec.{eqb-suc-zero}
use Rattle.std.specs.List.{join_with_byte, list_all}
use Rattle.protoparse_words.specs.Names.{is_name, texts}

abbrev text_of : Bor (List ℕ) → List ℕ
text_of lent = lent.now

-- what a read past the end of a list of texts would give
abbrev pub no_text : Bor (List ℕ)
no_text = record { ref_ptr = (0, 0); now = [] }

same_from_test : (b : Bool) → false ≡ not b → b ≡ true
same_from_test true h = refl
same_from_test false h = absurd (true≢false (sym h))

-- what a test for another text says
pub another_from_test : (x y : List ℕ) → true ≡ not (bytes_eq x y) → x ≡ y → ⊥
another_from_test x y test same = true≢false (test ∙ ap not ((bytes_eq-Decides x y).1 same))

pub equal_from_test : (x y : List ℕ) → false ≡ not (bytes_eq x y) → x ≡ y
equal_from_test x y test = (bytes_eq-Decides x y).0 (same_from_test (bytes_eq x y) test)

pub length_of_texts : (lent : List (Bor (List ℕ))) → length (texts lent) ≡ length lent
length_of_texts lent = length-map lent text_of

-- the test of each text, by what is lent
pub name_of_texts : (lent : List (Bor (List ℕ))) → is_name (texts lent) ≡ (not (length lent == 0) && list_all (λ (part : Bor (List ℕ)). not (bytes_eq part.now (codes ".."))) lent)
name_of_texts lent =
    ap (λ n. not (n == 0) && list_all (λ part. not (bytes_eq part (codes ".."))) (texts lent)) (length_of_texts lent)
    ∙ ap (λ b. not (length lent == 0) && b) (list_all-map (λ part. not (bytes_eq part (codes ".."))) text_of lent)

-- the text at an index is that of the reference there
pub text_at : (lent : List (Bor (List ℕ))) (i : ℕ) (d : Bor (List ℕ)) (e : List ℕ) → i < length lent → get_or (texts lent) i e ≡ (get_or lent i d).now
text_at lent i d e below = get_or-map text_of lent i d e below

-- too few parts don't begin with others
pub too_short : (parts above : List (Bor (List ℕ))) (rest : List (List ℕ)) → length parts < length above → texts parts ≡ texts above ++ rest → ⊥
too_short parts above rest short e = omega (arith, ap length e, length-append (texts above) rest, length_of_texts parts, length_of_texts above)

-- nor do parts with another one among them
pub another : (parts above : List (Bor (List ℕ))) (i : ℕ) (d e : Bor (List ℕ)) (rest : List (List ℕ)) → i < length parts → i < length above → ((get_or parts i d).now ≡ (get_or above i e).now → ⊥) → texts parts ≡ texts above ++ rest → ⊥
another parts above i d e rest in_parts in_above differ begins =
    let within : i < length (texts above) = omega (arith, length_of_texts above) in
    differ (sym (text_at parts i d [] in_parts) ∙ ap (λ l. get_or l i []) begins ∙ get_or_append_left (texts above) rest [] i within ∙ text_at above i e [] in_above)

-- one more part is the same
pub one_more : (parts above : List (Bor (List ℕ))) (i : ℕ) (d e : Bor (List ℕ)) → i < length parts → i < length above → (get_or parts i d).now ≡ (get_or above i e).now → take i (texts parts) ≡ take i (texts above) → take (i + 1) (texts parts) ≡ take (i + 1) (texts above)
one_more parts above i d e in_parts in_above same before =
    let p : i < length (texts parts) = omega (arith, length_of_texts parts) in
    let a : i < length (texts above) = omega (arith, length_of_texts above) in
    take_more_same (texts parts) (texts above) i [] p a before (text_at parts i d [] in_parts ∙ same ∙ sym (text_at above i e [] in_above))

-- parts that begin with others have a rest
pub rest_follows : (parts above : List (Bor (List ℕ))) (i : ℕ) → i ≡ length above → take i (texts parts) ≡ take i (texts above) → texts parts ≡ texts above ++ texts (drop (length above) parts)
rest_follows parts above i e same =
    let n = length above in
    let begins : take n (texts parts) ≡ take n (texts above) = subst (λ k. take k (texts parts) ≡ take k (texts above)) e same in
    let whole : take n (texts above) ≡ texts above = take_all n (texts above) (omega (arith, length_of_texts above)) in
    sym (take-append-drop n (texts parts)) ∙ ap (λ l. l ++ drop n (texts parts)) (begins ∙ whole) ∙ ap (λ l. texts above ++ l) (drop-map text_of n parts)

join_push : (xs : List (List ℕ)) (y : List ℕ) → 0 < length xs → join_with_byte 47 (xs ++ y ∷ []) ≡ join_with_byte 47 xs ++ 47 ∷ y
join_push [] y h = absurd (omega arith)
join_push (x ∷ []) y h = refl
join_push (x ∷ z ∷ xs) y h = ap (λ t. x ++ (47 ∷ t)) (join_push (z ∷ xs) y (omega arith)) ∙ sym (append_assoc x (47 ∷ join_with_byte 47 (z ∷ xs)) (47 ∷ y))

join_step : (xs : List (List ℕ)) (y : List ℕ) → cond (length xs == 0) (join_with_byte 47 xs) (join_with_byte 47 xs ++ codes "/") ++ y ≡ join_with_byte 47 (xs ++ y ∷ [])
join_step [] y = refl
join_step (x ∷ xs) y =
    ap (λ b. cond b (join_with_byte 47 (x ∷ xs)) (join_with_byte 47 (x ∷ xs) ++ codes "/") ++ y) (eqb-suc-zero (length xs))
    ∙ append_assoc (join_with_byte 47 (x ∷ xs)) (codes "/") y ∙ sym (join_push (x ∷ xs) y (omega arith))

-- a name with one more part, which is the first or stands behind a slash
pub joined_more : (parts : List (Bor (List ℕ))) (i : ℕ) (d : Bor (List ℕ)) (name : List ℕ) → i < length parts → name ≡ join_with_byte 47 (take i (texts parts)) → cond (i == 0) name (name ++ codes "/") ++ (get_or parts i d).now ≡ join_with_byte 47 (take (i + 1) (texts parts))
joined_more parts i d name below so_far =
    let within : i < length (texts parts) = omega (arith, length_of_texts parts) in
    let xs = take i (texts parts) in
    let x = get_or parts i d in
    let long : length xs ≡ i = length-take-le i (texts parts) (omega arith) in
    ap (λ n. cond (n == 0) name (name ++ codes "/") ++ x.now) (sym long)
    ∙ ap (λ m. cond (length xs == 0) m (m ++ codes "/") ++ x.now) so_far
    ∙ join_step xs x.now
    ∙ ap (λ z. join_with_byte 47 (xs ++ z ∷ [])) (sym (text_at parts i d [] below))
    ∙ ap (join_with_byte 47) (sym (take_more (texts parts) i [] within))

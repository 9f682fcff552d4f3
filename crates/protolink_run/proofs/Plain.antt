-- Plain words are names of files, and work on them has files.
use Rattle.std.proofs.Common.{◌≡◌, ◌≢◌, ℕ, List, [], ◌∷◌, All, ap, arith, length, map, refl, subst, sym}
use Rattle.std.proofs.lemmas.List.{get_or-map, length-map}
use Rattle.std.proofs.lemmas.List.Elements.{All-map}
use Rattle.std.specs.String.{string_bytes}
use Rattle.std.specs.declared.alloc.Global.{Global}
use Rattle.std.specs.declared.string.String.{String}
use Rattle.protolink_run.specs.Outcomes.{IsPlainWord}
use Rattle.protolink_words.specs.Asking.{IsName, IsNameWord, IsPlain}
use Rattle.protolink_words.specs.declared.Work.{Work}

All-of_mapped : {X Y : Type 0} (P : Y → Type 0) (f : X → Y) (xs : List X) → All P (map f xs) → All (λ x. P (f x)) xs
All-of_mapped P f xs each = λ k d below. subst P (get_or-map f xs k d (f d) below) (each k (f d) (omega (arith, length-map xs f)))

plain_names : (words : List (String Global)) → All IsPlainWord words → All IsNameWord words
plain_names words plain = λ k d below. record { some = (plain k d below).some; no_option = (plain k d below).no_option }

pub named : (words all : List (String Global)) → All IsPlainWord words → map string_bytes all ≡ map string_bytes words → All IsNameWord all
named words all plain same =
    All-of_mapped IsName string_bytes all (subst (λ (names : List (List ℕ)). All IsName names) (sym same) (All-map IsName string_bytes words (plain_names words plain)))

-- Where there are words, as many texts as they have are some.
some_of : {X : Type 0} (words : List (String Global)) (xs : List X) (f : X → List ℕ) → map f xs ≡ map string_bytes words → words ≢ [] → xs ≢ []
some_of [] xs f same some = λ none. some refl
some_of (word ∷ more) xs f same some = λ none. omega (arith, ap length same, length-map (word ∷ more) string_bytes, ap (λ ys. length (map f ys)) none)

pub some_words : (words all : List (String Global)) → map string_bytes all ≡ map string_bytes words → words ≢ [] → all ≢ []
some_words words all same some = some_of words all string_bytes same some

pub some_files : (words : List (String Global)) (work : Work) → IsPlain (map string_bytes words) work → words ≢ [] → work.files.items ≢ []
some_files words work plain some = some_of words work.files.items (λ name. name.now) plain.files some

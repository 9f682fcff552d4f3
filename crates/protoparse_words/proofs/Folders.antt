-- Folders that are tried one by one.
use Rattle.std.proofs.Common.{ℕ, ◌+◌, ◌<◌, ◌≤◌, List, [], All, length, take, get_or, Bor, sym, subst, arith, take_all}
use Rattle.std.proofs.lemmas.List.Elements.{All-more}
use Rattle.protoparse_words.specs.Names.{IsOutside, texts}
use Rattle.protoparse_words.proofs.Lists.{length_of_texts, text_at}

-- it has none in this one either
pub not_in_this : (path : List ℕ) (folders : List (Bor (List ℕ))) (i : ℕ) (d : Bor (List ℕ)) → i < length folders → All (IsOutside path) (take i (texts folders)) → IsOutside path (get_or folders i d).now → All (IsOutside path) (take (i + 1) (texts folders))
not_in_this path folders i d below before outside =
    let within : i < length (texts folders) = omega (arith, length_of_texts folders) in
    All-more (IsOutside path) (texts folders) i [] within before (subst (IsOutside path) (sym (text_at folders i d [] below)) outside)

pub in_none : (path : List ℕ) (folders : List (Bor (List ℕ))) (i : ℕ) → length folders ≤ i → All (IsOutside path) (take i (texts folders)) → All (IsOutside path) (texts folders)
in_none path folders i all before =
    let whole : length (texts folders) ≤ i = omega (arith, length_of_texts folders) in
    subst (All (IsOutside path)) (take_all i (texts folders) whole) before

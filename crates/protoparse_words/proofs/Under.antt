-- Names of what stands behind a folder's parts, and of what lies under a folder.
use Rattle.std.proofs.Common.{◌≡◌, ℕ, false, List, ◌++◌, Option, Some, None, Result, Ok, Err, IfOk, IfNone, String, sym, ap, ◌∙◌}
use Rattle.std.specs.declared.alloc.Global.{Global}
use Rattle.std.proofs.lemmas.Bool.{false≢true}
use Rattle.std.proofs.lemmas.List.{append_cancel_left}
use Rattle.protoparse_words.specs.Names.{IsNameBehind, IsOutside, is_name, parts_of}

-- where what stands behind is no name
pub unnamed_behind : (parts above rest : List (List ℕ)) (name : List ℕ) → parts ≡ above ++ rest → is_name rest ≡ false → IsNameBehind parts above name → ⊥
unnamed_behind parts above rest name follows no_name named =
    let same : rest ≡ named.rest = append_cancel_left above rest named.rest (sym follows ∙ named.follows) in
    false≢true (sym no_name ∙ ap is_name same ∙ named.names)

-- the same parts have the same name
same_name : (parts above parts' above' : List (List ℕ)) (name : List ℕ) → parts ≡ parts' → above ≡ above' → IsNameBehind parts above name → IsNameBehind parts' above' name
same_name parts above parts' above' name p a named = record {
  rest = named.rest;
  follows = sym p ∙ named.follows ∙ ap (λ l. l ++ named.rest) a;
  names = named.names;
  spelled = named.spelled;
}

pub unnamed_under : (path folder : List ℕ) (parts above : List (List ℕ)) → parts ≡ parts_of path → above ≡ parts_of folder → {E : Type 0} (r : Result (Option (String Global)) E) → IfOk r (λ answer. IfNone answer ((name : List ℕ) → IsNameBehind parts above name → ⊥)) → IfOk r (λ answer. IfNone answer (IsOutside path folder))
unnamed_under path folder parts above p a (Ok None) h = λ name under. h name (same_name (parts_of path) (parts_of folder) parts above name (sym p) (sym a) under.behind)
unnamed_under path folder parts above p a (Ok (Some name)) h = tt
unnamed_under path folder parts above p a (Err e) h = tt

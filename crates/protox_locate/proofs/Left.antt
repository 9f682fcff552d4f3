-- The options of a list without the first of each of two names, one at a time.
use Rattle.std.proofs.Common.{◌≡◌, ℕ, ◌+◌, ◌<◌, List, [], ◌∷◌, map, drop, length, get_or, refl, ap, ◌∙◌, subst, Bool, true, false, not, ◌&&◌}
use Rattle.std.specs.Prelude.{ℤ, codes, if◌then◌else◌}
use Rattle.protox_ast.specs.Options.{has_name, without_first}
use Rattle.protox_ast.specs.declared.ast.OptionBody.{OptionBody}
use Rattle.protox_locate.specs.LocationWords.{Part, nth}
use Rattle.protox_locate.specs.inner.Walk.{Emits, ToCome, left, left_of}
use Rattle.protox_locate.specs.declared.context.Context.{Context}
use Rattle.protox_locate.proofs.Numbered.{starts, ends, steps, one_sibling, drop_more}

-- the first of the name goes, and another stays
takes_one : (d : Bool) (name : List ℕ) (x : OptionBody) (r : List OptionBody) → not d && has_name name x ≡ true → left_of d name (x ∷ r) ≡ left_of true name r
takes_one true name x r e = absurd (cc)
takes_one false name x r e = ap (λ v. if v then r else x ∷ without_first name r) e

keeps_one : (d : Bool) (name : List ℕ) (x : OptionBody) (r : List OptionBody) → not d && has_name name x ≡ false → left_of d name (x ∷ r) ≡ x ∷ left_of d name r
keeps_one true name x r e = refl
keeps_one false name x r e = ap (λ v. if v then r else x ∷ without_first name r) e

abbrev default_name : List ℕ
default_name = codes "default"

abbrev json_text : List ℕ
json_text = codes "json_name"

module _ (old mid : Context) (tag : ℤ) (first n : ℕ) (all : List Part) (at : OptionBody → Part) (xs : List OptionBody) (i : ℕ) (x : OptionBody) (d j : Bool)
    (t : ToCome old mid tag first n all (map at (left d j (drop i xs)))) (is : x ≡ get_or xs i x) (lt : i < length xs) where
  met : ToCome old mid tag first n all (map at (left d j (x ∷ drop (i + 1) xs)))
  met = subst (λ l. ToCome old mid tag first n all (map at (left d j l))) (drop_more xs i x lt is) t

  pub default_taken : not d && has_name (codes "default") x ≡ true → ToCome old mid tag first n all (map at (left true j (drop (i + 1) xs)))
  default_taken e = subst (λ l. ToCome old mid tag first n all (map at (left_of j json_text l))) (takes_one d default_name x (drop (i + 1) xs) e) met

  pub json_name_taken : not d && has_name (codes "default") x ≡ false → not j && has_name (codes "json_name") x ≡ true → ToCome old mid tag first n all (map at (left d true (drop (i + 1) xs)))
  json_name_taken e f =
      subst (λ l. ToCome old mid tag first n all (map at l))
      (ap (left_of j json_text) (keeps_one d default_name x (drop (i + 1) xs) e) ∙ takes_one j json_text x (left_of d default_name (drop (i + 1) xs)) f) met

  pub other_located : (new : Context) → not d && has_name (codes "default") x ≡ false → not j && has_name (codes "json_name") x ≡ false → Emits mid new (at x (nth mid.path tag n))
      → ToCome old new tag first (n + 1) all (map at (left d j (drop (i + 1) xs)))
  other_located new e f k =
      steps old mid new tag first n (n + 1) all (at x ∷ []) (map at (left d j (drop (i + 1) xs)))
      (subst (λ l. ToCome old mid tag first n all (map at l))
      (ap (left_of j json_text) (keeps_one d default_name x (drop (i + 1) xs) e) ∙ keeps_one j json_text x (left_of d default_name (drop (i + 1) xs)) f) met)
      (one_sibling mid new tag n (at x) k)

pub ruleset walk = (starts, ends, default_taken, json_name_taken, other_located, drop_more)

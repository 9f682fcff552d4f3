-- How many of the items of a file have been taken.
use Rattle.std.proofs.Common.{◌≡◌, ℕ, List, [], ◌∷◌, ◌++◌, flat_map, sym, ◌∙◌, append_assoc, append-nil, length, ap, subst, arith}
use Rattle.std.proofs.lemmas.Grind.{flat_map-append}
use Rattle.protox_ast.specs.declared.ast.FileItem.{FileItem}
use Rattle.protox_ast.specs.declared.ast.Syntax.{Syntax}
use Rattle.protox_generate.specs.declared.draft.FileDraft.{FileDraft}
use Rattle.protox_generate.specs.inner.Taken.{IsTaken}

-- Those in front of the rest have been taken.
pub record Reached (source : List ℕ) (syntax : Syntax) (all rest : List FileItem) (draft : FileDraft) : Type 0 where
  pub done : List FileItem
  pub split : done ++ rest ≡ all
  pub is : IsTaken source syntax done draft

module _ (source : List ℕ) (syntax : Syntax) (all : List FileItem) where
  pub one_more : (item : FileItem) (rest left : List FileItem) (old new : FileDraft) → left ≡ item ∷ rest → Reached source syntax all left old
      → ((items : List FileItem) → IsTaken source syntax items old → IsTaken source syntax (items ++ item ∷ []) new) → Reached source syntax all rest new
  one_more item rest left old new e r more = record {
    done = r.done ++ item ∷ [];
    split = append_assoc r.done (item ∷ []) rest ∙ ap (λ l. r.done ++ l) (sym e) ∙ r.split;
    is = more r.done r.is;
  }

-- Where no item is left, all have been taken.
pub all_taken : (source : List ℕ) (syntax : Syntax) (all rest : List FileItem) (draft : FileDraft) → length rest ≡ 0 → Reached source syntax all rest draft → IsTaken source syntax all draft
all_taken source syntax all [] draft none r = subst (λ (l : List FileItem). IsTaken source syntax l draft) (sym (append-nil r.done) ∙ r.split) r.is
all_taken source syntax all (item ∷ rest) draft none r = absurd (omega (arith, none))

-- what items add to a list, and what one more adds
pub one_more_listed : {A B : Type 0} (kind : A → List B) (items : List A) (item : A) (old new : List B) → old ≡ flat_map kind items → new ≡ old ++ kind item → new ≡ flat_map kind (items ++ item ∷ [])
one_more_listed kind items item old new before now =
    now ∙ ap (λ l. l ++ kind item) before ∙ ap (λ l. flat_map kind items ++ l) (sym (append-nil (kind item))) ∙ sym (flat_map-append kind items (item ∷ []))

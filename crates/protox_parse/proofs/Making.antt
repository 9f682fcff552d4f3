-- What is made of the items of a source, one by one.
use Rattle.std.proofs.Common.{◌≡◌, ℕ, Bool, true, false, nat_eq, List, [], ◌∷◌, ◌++◌, length, map, refl, sym, ap, subst, ◌∙◌, append_assoc, append-nil, arith}
use Rattle.std.proofs.lemmas.Bool.{eqb-true, eqb-false}
use Rattle.std.proofs.lemmas.Fn.{FoldsTo-push, chained_keeps}
use Rattle.std.specs.List.{FoldsTo}
use Rattle.protox_ast.specs.declared.ast.File.{File}
use Rattle.protox_ast.specs.declared.ast.FileItem.{FileItem}
use Rattle.protox_ast.specs.declared.ast.Syntax.{Syntax}
use Rattle.protox_checks.proofs.Lemmas.{found-wrong, none-listed, none_of_none, one_more_item}
use Rattle.protox_checks.proofs.Lemmas.{with_the_rest}
use Rattle.protox_checks.specs.Checks.{AreListed, AreListedOfItem, AreListedOfItems}
use Rattle.protox_checks.specs.Faults.{EachIsWrong, IsFaultless, settled}
use Rattle.protox_descriptor.specs.declared.descriptor.FileDescriptorProto.{FileDescriptorProto}
use Rattle.protox_fault.specs.declared.error.ParseErrorKind.{ParseErrorKind}
use Rattle.protox_generate.proofs.Lemmas.{Reached}
use Rattle.protox_generate.specs.File.{file_descriptor}
use Rattle.protox_generate.specs.declared.draft.FileDraft.{FileDraft}
use Rattle.protox_generate.specs.inner.Taken.{IsTaken}
use Rattle.protox_parse.specs.declared.translate.Translation.{Translation}
use Rattle.protox_parse.specs.inner.Made.{AddsListed, AreInHand, IsRead, IsSoFar, TakesNext}
use Rattle.protox_syntax.specs.TakenItems.{IsTakenFrom}

parted : {A : Type 0} (xs ys : List A) → xs ++ ys ≡ [] → (xs ≡ []) × (ys ≡ [])
parted [] ys e = (refl, e)
parted (x ∷ xs) ys e = absurd cc

-- ---- an item

-- The draft takes the item. No item is kept.
pub hand_taken : (source : List ℕ) (syntax : Syntax) (items : List FileItem) (item : FileItem) (old new : FileDraft) (kept : List FileItem) → kept ≡ []
    → ((source : List ℕ) (items : List FileItem) → IsTaken source syntax items old → IsTaken source syntax (items ++ item ∷ []) new)
    → AreInHand source syntax items old kept → AreInHand source syntax (items ++ item ∷ []) new kept
hand_taken source syntax items item old new kept none takes hand = record {
  first = hand.first ++ item ∷ [];
  split = ap (λ l. (hand.first ++ item ∷ []) ++ l) none ∙ append-nil (hand.first ++ item ∷ []) ∙ ap (λ l. l ++ item ∷ []) (sym (append-nil hand.first) ∙ ap (λ l. hand.first ++ l) (sym none) ∙ hand.split);
  taken = takes source hand.first hand.taken;
}

-- The item is kept.
pub hand_kept : (source : List ℕ) (syntax : Syntax) (items : List FileItem) (item : FileItem) (draft : FileDraft) (old new : List FileItem) → new ≡ old ++ item ∷ []
    → AreInHand source syntax items draft old → AreInHand source syntax (items ++ item ∷ []) draft new
hand_kept source syntax items item draft old new more hand = record {
  first = hand.first;
  split = ap (λ l. hand.first ++ l) more ∙ sym (append_assoc hand.first old (item ∷ [])) ∙ ap (λ l. l ++ item ∷ []) hand.split;
  taken = hand.taken;
}

-- ---- items that are checked first, and are to be kept

-- the state in which these items are kept besides
abbrev pub keeping : Translation → List FileItem → Translation
keeping made kept = record made { kept = kept }

-- nothing is kept besides
pub keeps_none : (syntax : Syntax) (made : Translation) → FoldsTo (TakesNext syntax) made [] (keeping made (made.kept ++ []))
keeps_none syntax made = ap (keeping made) (sym (append-nil made.kept))

-- One more item is checked, and is to be kept.
module _ (syntax : Syntax) (item : FileItem) (old new : Translation) (adds : AddsListed (AreListedOfItem syntax item) old.faults.items new.faults.items) (same : new.draft ≡ old.draft) where
  next_kept : (kept more : List FileItem) → more ≡ kept ++ item ∷ [] → TakesNext syntax (keeping old kept) item (keeping new more)
  next_kept kept more e source items so_far = record {
    listed = subst (AreListedOfItems syntax (items ++ item ∷ [])) (sym adds.behind) (one_more_item syntax items item old.faults.items adds.own so_far.listed adds.listed);
    in_hand = λ none. subst (λ (draft : FileDraft). AreInHand source syntax (items ++ item ∷ []) draft more) (sym same) (hand_kept source syntax items item old.draft kept more e (so_far.in_hand (parted old.faults.items adds.own (sym adds.behind ∙ none)).0));
  }

  pub one_more_kept : (before : Translation) (kept done : List FileItem) → FoldsTo (TakesNext syntax) before done (keeping old (kept ++ done))
      → FoldsTo (TakesNext syntax) before (done ++ item ∷ []) (keeping new (kept ++ (done ++ item ∷ [])))
  one_more_kept before kept done folds =
      FoldsTo-push (TakesNext syntax) before done (keeping old (kept ++ done)) item (keeping new (kept ++ (done ++ item ∷ []))) folds
      (next_kept (kept ++ done) (kept ++ (done ++ item ∷ [])) (sym (append_assoc kept done (item ∷ []))))

-- ---- all items

pub none_so_far : (source : List ℕ) (syntax : Syntax) (made : Translation) → IsTaken source syntax [] made.draft → made.faults.items ≡ [] → made.kept ≡ [] → IsSoFar source syntax [] made
none_so_far source syntax made taken none empty = record {
  listed = subst (AreListedOfItems syntax []) (sym none) (none_of_none syntax);
  in_hand = λ e. record { first = []; split = empty; taken = taken };
}

pub all_so_far : (source : List ℕ) (syntax : Syntax) (items : List FileItem) (old new : Translation) → IsSoFar source syntax [] old → FoldsTo (TakesNext syntax) old items new → IsSoFar source syntax items new
all_so_far source syntax items old new none folds = chained_keeps (TakesNext syntax) (IsSoFar source syntax) (λ xs q x v j r. r source xs j) items old new none folds

pub read_of : (source : List ℕ) (head : File) (old new : Translation) → ((syntax : Syntax) → IsSoFar source syntax [] old) → IsTakenFrom TakesNext source head old new
    → (file : File) × IsRead source file head new
read_of source head old new none from = (
  from.file,
  record {
    of_source = from.of_source;
    head_is = from.head_is;
    all =
        subst (λ syntax. IsSoFar source syntax from.file.items new) (ap (λ (f : File). f.syntax) from.head_is)
        (all_so_far source head.syntax from.file.items old new (none head.syntax) from.taken);
  },
)

-- ---- those that are kept

pub reached_first : (source : List ℕ) (syntax : Syntax) (items rest kept : List FileItem) (draft : FileDraft) → rest ≡ kept → AreInHand source syntax items draft kept → Reached source syntax items rest draft
reached_first source syntax items rest kept draft e hand = record { done = hand.first; split = ap (λ l. hand.first ++ l) e ∙ hand.split; is = hand.taken }

-- ---- the whole file

module _ (source : List ℕ) (file head : File) (made : Translation) (read : IsRead source file head made) (found : List ParseErrorKind) (adds : AddsListed (AreListed head) made.faults.items found) where
  pub found_listed : AreListed file found
  found_listed = subst (AreListed file) (sym adds.behind) (with_the_rest file made.faults.items adds.own read.all.listed (subst (λ (f : File). AreListed f adds.own) read.head_is adds.listed))

  pub found_wrong : EachIsWrong file found
  found_wrong = found-wrong file found found_listed

  -- No fault is found.
  pub taken_of : (draft : FileDraft) → found ≡ [] → ((source : List ℕ) (items : List FileItem) → AreInHand source head.syntax items made.draft made.kept → IsTaken source head.syntax items draft)
      → IsFaultless file × IsTaken source head.syntax file.items draft
  taken_of draft none takes =
      let hand = read.all.in_hand (parted made.faults.items adds.own (sym adds.behind ∙ none)).0 in
      let syntax_is : head.syntax ≡ file.syntax = ap (λ (f : File). f.syntax) read.head_is in (
        none-listed file (sym found_listed ∙ ap (map settled) none),
        takes source file.items (subst (λ (s : Syntax). AreInHand source s file.items made.draft made.kept) (sym syntax_is) hand),
      )

-- What describes the head with the items of the file describes the file.
pub of_file : (name source : List ℕ) (file head : File) (made : Translation) (d : FileDescriptorProto) → IsRead source file head made → d ≡ file_descriptor name source (record head { items = file.items }) → d ≡ file_descriptor name source file
of_file name source file head made d read is = is ∙ ap (λ (h : File). file_descriptor name source (record h { items = file.items })) read.head_is

-- ---- whether a list is empty

pub empty_none : {A : Type 0} (xs : List A) (empty : Bool) → empty ≡ nat_eq (length xs) 0 → empty ≡ true → xs ≡ []
empty_none [] empty h e = refl
empty_none (x ∷ xs) empty h e = absurd (omega (arith, eqb-true (length (x ∷ xs)) 0 (sym h ∙ e)))

pub empty_some : {A : Type 0} (xs : List A) (empty : Bool) → empty ≡ nat_eq (length xs) 0 → empty ≡ false → xs ≡ [] → ⊥
empty_some xs empty h e none = eqb-false (length xs) 0 (sym h ∙ e) (ap length none)

-- What a teller tells at places one behind another.
use Rattle.std.proofs.Common.{◌≡◌, ◌≢◌, ◌∙◌, ℕ, ◌+◌, List, [], ◌∷◌, ◌++◌, ap, append-nil, append_assoc, drop, map, refl, subst, sym, unsigned_abs}
use Rattle.std.specs.List.{FoldsTo}
use Rattle.protox_file_options.proofs.Lemmas.{Apart, Each}
use Rattle.protox_file_options.specs.Interpreted.{Taken, faults_at, faults_of}
use Rattle.protox_file_options.specs.Outcomes.{IsOutcome, Outcome, Sets, Wrong, names_of}
use Rattle.protox_file_options.specs.Places.{Place, key_of}
use Rattle.protox_file_options.specs.declared.answer.OptionsFault.{OptionsFault}
use Rattle.protox_file_options.specs.declared.answer.PlaceFault.{PlaceFault}
use Rattle.protox_interpret.specs.declared.site.Interpreted.{Interpreted}
use Rattle.protox_name_tree.specs.Tree.{Names}
use Rattle.protox_option_records.proofs.Lists.{first_left, left_from, rest_left, some_left}
use Rattle.protox_option_records.proofs.Records.{record_at, told_of}
use Rattle.protox_option_records.specs.OptionRecords.{AreRecordsAt, FileAt, NoPlace, RightPlace, WrongPlace}
use Rattle.protox_option_records.specs.declared.teller.Teller.{Teller}
use Rattle.protox_option_records.specs.inner.Telling.{IsRecordOf, NothingLeft, OfAnother, Tells, ToldHere}

-- ---- faults of other places

abbrev pub place_of : Taken → Place
place_of t = t.place

module _ (names : Names) (place : Place) (found : OptionsFault) (same : found.path ≡ place.path) where
  same_found : (a b : OptionsFault) (xs ys : List OptionsFault) → a ∷ xs ≡ b ∷ ys → a ≡ b
  same_found a b xs ys e = cc

  not_at : (other : Place) (outcome : Outcome) (behind rest : List OptionsFault) → key_of place ≢ key_of other → (behind ≡ found ∷ rest → ⊥)
      → faults_at names other outcome ++ behind ≡ found ∷ rest → ⊥
  not_at other (Sets set) behind rest apart nothing e = nothing e
  not_at other (Wrong wrong) behind rest apart nothing e =
      apart (ap (λ (path : List _). map unsigned_abs path) (sym same ∙ ap (λ (f : OptionsFault). f.path) (sym (same_found _ found behind rest e))))

  -- The fault of a place is none of other places.
  pub not_elsewhere : (more : List Taken) (rest : List OptionsFault) → Each (λ (p : Place). key_of place ≢ key_of p) (map place_of more)
      → faults_of names more ≡ found ∷ rest → ⊥
  not_elsewhere [] rest apart e = absurd cc
  not_elsewhere (t ∷ more) rest apart e = not_at t.place t.outcome (faults_of names more) rest apart.0 (not_elsewhere more rest apart.1) e

-- ---- one place

-- The faults that a teller has to tell yet.
abbrev pub left : Teller → List OptionsFault
left a = drop a.told a.faults.now

-- What a teller tells at these places.
pub record AreTold (at : FileAt) (taken : List Taken) (a b : Teller) : Type 0 where
  pub bytes : List ℕ
  pub records : AreRecordsAt at taken bytes
  pub added : b.out.items ≡ a.out.items ++ bytes

module _ (at : FileAt) where
  abbrev names : Names
  names = names_of at.view

  -- what is told behind a place, from where a teller is there
  abbrev Behind : List Taken → Teller → Type 0
  Behind more b = (j : Teller) → j.subject.now ≡ at → left j ≡ faults_of names more → FoldsTo Tells j (map place_of more) b → AreTold at more j b

  past_right : (t : Taken) (more : List Taken) (a j b : Teller) (set : Interpreted) → t.outcome ≡ Sets set → j ≡ a
      → AreTold at more j b → AreTold at (t ∷ more) a b
  past_right t more a j b set is same told = record {
    bytes = told.bytes;
    records = RightPlace t more told.bytes set is told.records;
    added = told.added ∙ ap (λ (c : Teller). c.out.items ++ told.bytes) same;
  }

  at_right : (t : Taken) (more : List Taken) (a j b : Teller) (set : Interpreted) → t.outcome ≡ Sets set → a.subject.now ≡ at
      → Each (λ (p : Place). key_of t.place ≢ key_of p) (map place_of more) → left a ≡ faults_of names more → Tells a t.place j
      → FoldsTo Tells j (map place_of more) b → Behind more b → AreTold at (t ∷ more) a b
  at_right t more a j b set is here apart left_is (NothingLeft none same) rest behind =
      past_right t more a j b set is same
      (behind j (ap (λ (c : Teller). c.subject.now) same ∙ here) (ap left same ∙ left_is) rest)
  at_right t more a j b set is here apart left_is (OfAnother found next other same) rest behind =
      past_right t more a j b set is same
      (behind j (ap (λ (c : Teller). c.subject.now) same ∙ here) (ap left same ∙ left_is) rest)
  at_right t more a j b set is here apart left_is (ToldHere found bytes next path subject faults told out record_is) rest behind =
      absurd (not_elsewhere names t.place found path more (drop (a.told + 1) a.faults.now) apart (sym left_is ∙ left_from a.faults.now a.told found next))

  at_wrong : (t : Taken) (more : List Taken) (a j b : Teller) (wrong : PlaceFault) → t.outcome ≡ Wrong wrong → a.subject.now ≡ at
      → IsOutcome at.view at.files t.place (Wrong wrong)
      → left a ≡ told_of at t.place wrong ∷ faults_of names more → Tells a t.place j
      → FoldsTo Tells j (map place_of more) b → Behind more b → AreTold at (t ∷ more) a b
  at_wrong t more a j b wrong is here outcome left_is (NothingLeft none same) rest behind =
      absurd (some_left a.faults.now a.told (told_of at t.place wrong) (faults_of names more) left_is none)
  at_wrong t more a j b wrong is here outcome left_is (OfAnother found next other same) rest behind =
      absurd (other (ap (λ (f : OptionsFault). f.path) (first_left a.faults.now a.told found (told_of at t.place wrong) (faults_of names more) left_is next)))
  at_wrong t more a j b wrong is here outcome left_is (ToldHere found bytes next path subject faults told out record_is) rest behind =
      let this : found ≡ told_of at t.place wrong = first_left a.faults.now a.told found (told_of at t.place wrong) (faults_of names more) left_is next in
      let left_behind : left j ≡ faults_of names more =
      ap (λ n. drop n j.faults.now) told ∙ ap (λ fs. drop (a.told + 1) fs) (ap (λ f. f.now) faults) ∙ rest_left a.faults.now a.told found (told_of at t.place wrong) (faults_of names more) left_is next in
      let record_here : IsRecordOf at t.place.path t.place.statements (told_of at t.place wrong) bytes =
      subst (λ (f : OptionsFault). IsRecordOf at t.place.path t.place.statements f bytes) this
      (subst (λ (s : FileAt). IsRecordOf s t.place.path t.place.statements found bytes) here record_is) in
      let more_told = behind j (ap (λ s. s.now) subject ∙ here) left_behind rest in
      record {
        bytes = bytes ++ more_told.bytes;
        records = WrongPlace t more bytes more_told.bytes wrong is (record_at at t.place wrong bytes outcome record_here) more_told.records;
        added = more_told.added ∙ ap (λ (l : List ℕ). l ++ more_told.bytes) out ∙ append_assoc a.out.items bytes more_told.bytes;
      }

  -- ---- all places

  at_place : (t : Taken) (outcome : Outcome) (more : List Taken) (a j b : Teller) → t.outcome ≡ outcome → a.subject.now ≡ at
      → IsOutcome at.view at.files t.place outcome
      → Each (λ (p : Place). key_of t.place ≢ key_of p) (map place_of more)
      → left a ≡ faults_at names t.place outcome ++ faults_of names more → Tells a t.place j
      → FoldsTo Tells j (map place_of more) b → Behind more b → AreTold at (t ∷ more) a b
  at_place t (Sets set) more a j b is here outcome apart left_is step rest behind = at_right t more a j b set is here apart left_is step rest behind
  at_place t (Wrong wrong) more a j b is here outcome apart left_is step rest behind = at_wrong t more a j b wrong is here outcome left_is step rest behind

  pub all_told : (taken : List Taken) (a b : Teller) → Each (λ (t : Taken). IsOutcome at.view at.files t.place t.outcome) taken → Apart (map place_of taken)
      → a.subject.now ≡ at → left a ≡ faults_of names taken → FoldsTo Tells a (map place_of taken) b → AreTold at taken a b
  all_told [] a b outcomes apart here left_is same = record {
    bytes = [];
    records = NoPlace;
    added = ap (λ (c : Teller). c.out.items) (sym same) ∙ sym (append-nil a.out.items);
  }
  all_told (t ∷ more) a b outcomes apart here left_is folds =
      at_place t t.outcome more a folds.0 b refl here outcomes.0 apart.0 left_is folds.1 folds.2
      (λ j here left_is rest. all_told more j b outcomes.1 apart.1 here left_is rest)

-- Reserved names: what is wrong with them, and the list of their faults.
use Rattle.std.proofs.Common.{◌≡◌, ◌||◌, ◌<◌, inl, inr, ℕ, zero, suc, ◌+◌, Bool, true, false, cond, List, [], ◌∷◌, ◌++◌, map, take, Some, bytes_eq, refl, sym, ap, subst, ◌∙◌, arith, slice_get}
use Rattle.std.specs.Prelude.{ℤ, pos, All, Contains}
use Rattle.std.proofs.lemmas.Bool.{false≢true}
use Rattle.std.proofs.lemmas.List.{append_assoc, append-nil}
use Rattle.std.proofs.lemmas.List.Elements.{All-append, All-cons, All-nil}
use Rattle.std.proofs.lemmas.Option.{same_Some}
use Rattle.std.proofs.lemmas.Slice.Eq.{bytes_eq-Decides}
use Rattle.protox_ast.proofs.Lemmas.{Among, among-from, among-left, among-right, contains-from}
use Rattle.protox_link.proofs.Standing.{true_or_false}
use Rattle.protox_link_checks.specs.Reserved.{again_fault, again_faults, is_among, reserved_fault, reserved_faults}
use Rattle.protox_link_fault.specs.declared.LinkFault.{LinkFault}
use Rattle.protox_link_fault.specs.declared.LinkFaultKind.TheVariants as told
use Rattle.protox_descriptor.specs.declared.tag.message.TheConstants as message_tag
use Rattle.protox_walk.specs.Declarations.{Path}

-- ---- lists of names

or_right : (a : Bool) → (a || true) ≡ true
or_right true = refl
or_right false = refl

-- a name at an index is among those before a later one
among_taken : (names : List (List ℕ)) (earlier i : ℕ) (name : List ℕ) → slice_get names earlier ≡ Some name → earlier < i → is_among (take i names) name ≡ true
among_taken [] earlier i name is before = cc
among_taken (first ∷ more) earlier zero name is before = absurd (omega (arith, before))
among_taken (first ∷ more) zero (suc i) name is before =
    ap (λ b. b || is_among (take i more) name) ((bytes_eq-Decides name first).1 (sym (same_Some first name is)))
among_taken (first ∷ more) (suc earlier) (suc i) name is before =
    ap (λ b. bytes_eq name first || b) (among_taken more earlier i name is (omega (arith, before))) ∙ or_right (bytes_eq name first)

-- and what is among them has such an index
taken_among : (names : List (List ℕ)) (i : ℕ) (name : List ℕ) → is_among (take i names) name ≡ true → (earlier : ℕ) × (earlier < i) × (slice_get names earlier ≡ Some name)
taken_among [] zero name is = absurd (false≢true is)
taken_among [] (suc i) name is = absurd (false≢true is)
taken_among (first ∷ more) zero name is = absurd (false≢true is)
taken_among (first ∷ more) (suc i) name is = elim (true_or_false (bytes_eq name first)) [
  | inl same ↦ (0, omega arith, ap (λ x. Some x) (sym ((bytes_eq-Decides name first).0 same)))
  | inr other ↦
      let rest = taken_among more i name (sym (ap (λ b. b || is_among (take i more) name) other) ∙ is) in
      (suc rest.0, omega (arith, rest.1), rest.2)
]

has_name : (names : List (List ℕ)) (name : List ℕ) → Among names name → is_among names name ≡ true
has_name [] name there = absurd there
has_name (first ∷ more) name (inl same) =
    ap (λ b. b || is_among more name) ((bytes_eq-Decides name first).1 (sym same))
has_name (first ∷ more) name (inr there) =
    ap (λ b. bytes_eq name first || b) (has_name more name there) ∙ or_right (bytes_eq name first)

name_there : (names : List (List ℕ)) (name : List ℕ) → is_among names name ≡ true → Among names name
name_there [] name is = absurd (false≢true is)
name_there (first ∷ more) name is = elim (true_or_false (bytes_eq name first)) [
  | inl same ↦ inl (sym ((bytes_eq-Decides name first).0 same))
  | inr other ↦ inr (name_there more name (sym (ap (λ b. b || is_among more name) other) ∙ is))
]

-- ---- parts and their names

module _ {A : Type 0} (own : A → List ℕ) where
  name_at : (parts : List A) (i : ℕ) (part : A) → slice_get parts i ≡ Some part → slice_get (map own parts) i ≡ Some (own part)
  name_at [] i part is = cc
  name_at (first ∷ more) zero part is = ap (λ x. Some (own x)) (same_Some first part is)
  name_at (first ∷ more) (suc i) part is = name_at more i part is

  part_at : (parts : List A) (i : ℕ) (name : List ℕ) → slice_get (map own parts) i ≡ Some name → (part : A) × (slice_get parts i ≡ Some part) × (own part ≡ name)
  part_at [] i name is = cc
  part_at (first ∷ more) zero name is = (first, refl, same_Some (own first) name is)
  part_at (first ∷ more) (suc i) name is = part_at more i name is

-- ---- what is wrong is in the list

module _ (file : ℕ) (path : Path) where
  again_in : (earlier : List (List ℕ)) (n : ℕ) (names : List (List ℕ)) (k m : ℕ) (name : List ℕ) → m ≡ n + k → slice_get names k ≡ Some name → is_among (earlier ++ take k names) name ≡ true → Among (again_faults file path earlier n names) (again_fault file path m)
  again_in earlier n [] k m name same is there = cc
  again_in earlier n (first ∷ more) zero m name same is there =
      let told : is_among earlier first ≡ true = ap (is_among earlier) (same_Some first name is) ∙ ap (λ (names : List (List ℕ)). is_among names name) (sym (append-nil earlier)) ∙ there in
      among-left (cond (is_among earlier first) (again_fault file path n ∷ []) []) (again_faults file path (earlier ++ first ∷ []) (n + 1) more) _
      (subst (λ b. Among (cond b (again_fault file path n ∷ []) []) (again_fault file path m)) (sym told)
      (inl (ap (again_fault file path) (omega (arith, same)))))
  again_in earlier n (first ∷ more) (suc k) m name same is there =
      among-right (cond (is_among earlier first) (again_fault file path n ∷ []) []) (again_faults file path (earlier ++ first ∷ []) (n + 1) more) _
      (again_in (earlier ++ first ∷ []) (n + 1) more k m name (omega (arith, same)) is
      (ap (λ (names : List (List ℕ)). is_among names name) (append_assoc earlier (first ∷ []) (take k more)) ∙ there))

  pub again_listed : (names : List (List ℕ)) (i earlier : ℕ) (name : List ℕ) → slice_get names i ≡ Some name → earlier < i → slice_get names earlier ≡ Some name → Among (again_faults file path [] 0 names) (again_fault file path i)
  again_listed names i earlier name is before same = again_in [] 0 names i i name (omega arith) is (among_taken names earlier i name same before)

module _ (file : ℕ) (path : Path) (tag : ℤ) where
  own_in : (test : List ℕ → Bool) (n : ℕ) (names : List (List ℕ)) (k m : ℕ) (name : List ℕ) → m ≡ n + k → slice_get names k ≡ Some name → test name ≡ true → Among (reserved_faults file path tag test n names) (reserved_fault file path tag m)
  own_in test n [] k m name same is there = cc
  own_in test n (first ∷ more) zero m name same is there =
      among-left (cond (test first) (reserved_fault file path tag n ∷ []) []) (reserved_faults file path tag test (n + 1) more) _
      (subst (λ b. Among (cond b (reserved_fault file path tag n ∷ []) []) (reserved_fault file path tag m)) (sym (ap test (same_Some first name is) ∙ there))
      (inl (ap (reserved_fault file path tag) (omega (arith, same)))))
  own_in test n (first ∷ more) (suc k) m name same is there =
      among-right (cond (test first) (reserved_fault file path tag n ∷ []) []) (reserved_faults file path tag test (n + 1) more) _
      (own_in test (n + 1) more k m name (omega (arith, same)) is there)

  -- the path of a sibling's name
  below : (n : ℕ) → reserved_fault file path tag n ≡ record { file = file; path = path ++ (tag ∷ pos n ∷ message_tag.NAME ∷ []); kind = told.ReservedName }
  below n = ap (λ (p : Path). record { file = file; path = p; kind = told.ReservedName }) (append_assoc path (tag ∷ pos n ∷ []) (message_tag.NAME ∷ []))

  pub own_listed : {A : Type 0} (own : A → List ℕ) (reserved : List (List ℕ)) (parts : List A) (i : ℕ) (part : A) → slice_get parts i ≡ Some part → Contains reserved (own part) → Among (reserved_faults file path tag (is_among reserved) 0 (map own parts)) (record { file = file; path = path ++ (tag ∷ pos i ∷ message_tag.NAME ∷ []); kind = told.ReservedName })
  own_listed own reserved parts i part is has =
      subst (Among (reserved_faults file path tag (is_among reserved) 0 (map own parts))) (below i)
      (own_in (is_among reserved) 0 (map own parts) i i (own part) (omega arith) (name_at own parts i part is) (has_name reserved (own part) (among-from reserved (own part) has)))

-- ---- what the list has is wrong

module _ (P : LinkFault → Type 0) where
  if_told : (b : Bool) (fault : LinkFault) → (b ≡ true → P fault) → All P (cond b (fault ∷ []) [])
  if_told true fault is = All-cons P fault [] (is refl) (All-nil P)
  if_told false fault is = All-nil P

  module _ (file : ℕ) (path : Path) where
    again_from : (earlier : List (List ℕ)) (n : ℕ) (names : List (List ℕ)) → ((k m : ℕ) (name : List ℕ) → m ≡ n + k → slice_get names k ≡ Some name → is_among (earlier ++ take k names) name ≡ true → P (again_fault file path m)) → All P (again_faults file path earlier n names)
    again_from earlier n [] each = All-nil P
    again_from earlier n (first ∷ more) each =
        All-append P (cond (is_among earlier first) (again_fault file path n ∷ []) []) (again_faults file path (earlier ++ first ∷ []) (n + 1) more)
        (if_told (is_among earlier first) (again_fault file path n) (λ there. each 0 n first (omega arith) refl (ap (λ (names : List (List ℕ)). is_among names first) (append-nil earlier) ∙ there)))
        (again_from (earlier ++ first ∷ []) (n + 1) more
        (λ k m name same is there. each (suc k) m name (omega (arith, same)) is (ap (λ (names : List (List ℕ)). is_among names name) (sym (append_assoc earlier (first ∷ []) (take k more))) ∙ there)))

    pub again_wrong : (names : List (List ℕ)) → ((i earlier : ℕ) (name : List ℕ) → slice_get names i ≡ Some name → earlier < i → slice_get names earlier ≡ Some name → P (again_fault file path i)) → All P (again_faults file path [] 0 names)
    again_wrong names each = again_from [] 0 names
        (λ k m name same is there.
        let here : k ≡ m = omega (arith, same) in
        let before = taken_among names k name there in
        subst (λ j. P (again_fault file path j)) here (each k before.0 name is before.1 before.2))

  module _ (file : ℕ) (path : Path) (tag : ℤ) where
    own_from : (test : List ℕ → Bool) (n : ℕ) (names : List (List ℕ)) → ((k m : ℕ) (name : List ℕ) → m ≡ n + k → slice_get names k ≡ Some name → test name ≡ true → P (reserved_fault file path tag m)) → All P (reserved_faults file path tag test n names)
    own_from test n [] each = All-nil P
    own_from test n (first ∷ more) each =
        All-append P (cond (test first) (reserved_fault file path tag n ∷ []) []) (reserved_faults file path tag test (n + 1) more)
        (if_told (test first) (reserved_fault file path tag n) (each 0 n first (omega arith) refl))
        (own_from test (n + 1) more (λ k m name same is there. each (suc k) m name (omega (arith, same)) is there))

    pub own_wrong : {A : Type 0} (own : A → List ℕ) (reserved : List (List ℕ)) (parts : List A) → ((i : ℕ) (part : A) → slice_get parts i ≡ Some part → Contains reserved (own part) → P (record { file = file; path = path ++ (tag ∷ pos i ∷ message_tag.NAME ∷ []); kind = told.ReservedName })) → All P (reserved_faults file path tag (is_among reserved) 0 (map own parts))
    own_wrong own reserved parts each = own_from (is_among reserved) 0 (map own parts)
        (λ k m name same is there.
        let here : k ≡ m = omega (arith, same) in
        let part = part_at own parts k name is in
        let has : Contains reserved (own part.0) = contains-from reserved (own part.0) (name_there reserved (own part.0) (ap (is_among reserved) part.2 ∙ there)) in
        subst (λ j. P (reserved_fault file path tag j)) here (subst P (sym (below file path tag k)) (each k part.0 part.1 has)))

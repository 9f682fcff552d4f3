-- The fields that the name of a statement goes through.
use Rattle.std.proofs.Common.{◌≡◌, ℕ, ◌+◌, Bool, true, false, List, [], ◌∷◌, ◌++◌, Option, Some, None, Result, Ok, Err, refl, ap, subst, ◌∙◌}
use Rattle.std.specs.Prelude.{if◌then◌else◌, bytes_eq, codes}
use Rattle.protox_descriptor.specs.FieldDescriptorProto.{FieldDescriptorProto}
use Rattle.protox_descriptor.specs.declared.descriptor.FileDescriptorProto.{FileDescriptorProto}
use Rattle.protox_descriptor.specs.declared.descriptor.uninterpreted_option.NamePart.{NamePart}
use Rattle.protox_settings.specs.Fields.{field_numbered, is_of}
use Rattle.protox_settings.specs.Names.{field_from, field_if_any, field_of_part, fields_from, fields_of, followed, goes_on, inner_of, may_stand, number_of_part, step}
use Rattle.protox_settings.specs.declared.fault.NameFault.{NameFault}
use Rattle.protox_settings.specs.declared.fault.NameFaultKind.{NameFaultKind}
use Rattle.protox_settings.specs.declared.fault.NameFaultKind.TheVariants.{NoName, OfOtherMessage, Reserved, Unknown}
use Rattle.protox_symbols.specs.Symbols.{Table}

-- there is a declaration
abbrev pub IsThere : {A : Type 0} → Option A → Type 0
IsThere None = ⊥
IsThere (Some x) = Unit {0}

pub is_there : {A : Type 0} (found : Option A) → IsThere found → (x : A) × (found ≡ Some x)
is_there None there = absurd there
is_there (Some x) there = (x, refl)

-- a last number, which has a declaration
pub record EndsDeclared (declared : ℕ → Option FieldDescriptorProto) (fields : List ℕ) : Type 0 where
  pub outer : List ℕ
  pub last : ℕ
  pub ends : fields ≡ outer ++ last ∷ []
  pub field : FieldDescriptorProto
  pub there : declared last ≡ Some field

no_ok : {T E : Type 0} (e : E) (x : T) → Err e ≡ Ok x → ⊥
no_ok e x h = absurd cc

-- ---- what comes of results

if_checked : (stands own : Bool) (n m : ℕ) (none other : NameFaultKind) → (if stands then (if own then Ok n else Err other) else Err none) ≡ Ok m → n ≡ m
if_checked true true n m none other h = cc
if_checked true false n m none other h = absurd (no_ok other m h)
if_checked false own n m none other h = absurd (no_ok none m h)

if_allowed : (reserved : Bool) (fault : NameFault) (found : Result (List ℕ) NameFault) (fields : List ℕ) → (if reserved then Err fault else found) ≡ Ok fields → found ≡ Ok fields
if_allowed true fault found fields h = absurd (no_ok fault fields h)
if_allowed false fault found fields h = h

same_pair : (n m i j : ℕ) → ◌≡◌ {A = Result (ℕ × ℕ) NameFaultKind} (Ok (n, i)) (Ok (m, j)) → n ≡ m
same_pair n m i j h = let pairs : (n, i) ≡ (m, j) = cc in ap (λ (p : ℕ × ℕ). p.0) pairs

with_inner : (n m inner : ℕ) (inside : Result ℕ NameFaultKind) → goes_on {U = ℕ × ℕ} inside (λ i. Ok (n, i)) ≡ Ok (m, inner) → n ≡ m
with_inner n m inner (Err kind) h = absurd (no_ok kind (m, inner) h)
with_inner n m inner (Ok i) h = same_pair n m i inner h

if_last : (last : Bool) (message n m inner : ℕ) (inside : Result ℕ NameFaultKind)
    → (if last then Ok (n, message) else goes_on {U = ℕ × ℕ} inside (λ i. Ok (n, i))) ≡ Ok (m, inner) → n ≡ m
if_last true message n m inner inside h = same_pair n m message inner h
if_last false message n m inner inside h = with_inner n m inner inside h

stepped : (last : Bool) (message m inner : ℕ) (found : Result ℕ NameFaultKind) (inside : ℕ → Result ℕ NameFaultKind)
    → goes_on {U = ℕ × ℕ} found (λ n. if last then Ok (n, message) else goes_on {U = ℕ × ℕ} (inside n) (λ i. Ok (n, i))) ≡ Ok (m, inner) → found ≡ Ok m
stepped last message m inner (Err kind) inside h = absurd (no_ok kind (m, inner) h)
stepped last message m inner (Ok n) inside h = ap Ok (if_last last message n m inner (inside n) h)

-- a field, and those behind it
record Split (found : Result (ℕ × ℕ) NameFaultKind) (behind : ℕ → Result (List ℕ) NameFault) (fields : List ℕ) : Type 0 where
  n : ℕ
  inner : ℕ
  rest : List ℕ
  at : found ≡ Ok (n, inner)
  others : behind inner ≡ Ok rest
  are : fields ≡ n ∷ rest

split_behind : (n inner : ℕ) (behind : ℕ → Result (List ℕ) NameFault) (left : Result (List ℕ) NameFault) (fields : List ℕ) → behind inner ≡ left
    → goes_on {U = List ℕ} left (λ fs. Ok (n ∷ fs)) ≡ Ok fields → Split (Ok (n, inner)) behind fields
split_behind n inner behind (Err fault) fields is h = absurd (no_ok fault fields h)
split_behind n inner behind (Ok rest) fields is h = record { n = n; inner = inner; rest = rest; at = refl; others = is; are = cc }

split : (index : ℕ) (found : Result (ℕ × ℕ) NameFaultKind) (behind : ℕ → Result (List ℕ) NameFault) (fields : List ℕ) → followed index found behind ≡ Ok fields
    → Split found behind fields
split index (Err kind) behind fields h = absurd (no_ok (record { part = index; kind = kind }) fields h)
split index (Ok (n, inner)) behind fields h = split_behind n inner behind (behind inner) fields refl h

nothing_else : (rest : List ℕ) → ◌≡◌ {A = Result (List ℕ) NameFault} (Ok []) (Ok rest) → rest ≡ []
nothing_else rest h = cc

-- ---- names

module _ (files : List FileDescriptorProto) (table : Table) (sees packages : List Bool) (scope : List ℕ) where
  -- what a number leads to is declared
  from_declared : (message : ℕ) (in_parentheses : Bool) (n m : ℕ) (found : Option FieldDescriptorProto)
      → field_from table message in_parentheses n found ≡ Ok m → (n ≡ m) × IsThere found
  from_declared message in_parentheses n m None h = absurd (no_ok Unknown m h)
  from_declared message in_parentheses n m (Some field) h =
      (if_checked (may_stand in_parentheses field) (is_of table message n field) n m Unknown (OfOtherMessage message) h, tt)

  part_declared : (message : ℕ) (in_parentheses : Bool) (number : Option ℕ) (m : ℕ)
      → field_if_any files table sees packages scope message in_parentheses number ≡ Ok m → IsThere (field_numbered files table m)
  part_declared message in_parentheses None m h = absurd (no_ok Unknown m h)
  part_declared message in_parentheses (Some n) m h =
      let both = from_declared message in_parentheses n m (field_numbered files table n) h in
      subst (λ k. IsThere (field_numbered files table k)) both.0 both.1

  step_declared : (message : ℕ) (part : NamePart) (last : Bool) (m inner : ℕ) → step files table sees packages scope message part last ≡ Ok (m, inner)
      → IsThere (field_numbered files table m)
  step_declared message part last m inner h =
      part_declared message part.is_extension (number_of_part table sees packages scope message part) m
      (stepped last message m inner (field_of_part files table sees packages scope message part) (λ n. inner_of table (field_numbered files table n)) h)

  -- the last of the fields that some parts go through is declared
  from_ends : (index message : ℕ) (part : NamePart) (more : List NamePart) (fields : List ℕ)
      → fields_from files table sees packages scope index message (part ∷ more) ≡ Ok fields → EndsDeclared (field_numbered files table) fields
  from_ends index message part [] fields h =
      let first = split index (step files table sees packages scope message part true) (λ inner. fields_from files table sees packages scope (index + 1) inner []) fields h in
      let (field, at) = is_there (field_numbered files table first.n) (step_declared message part true first.n first.inner first.at) in
      record { outer = []; last = first.n; ends = first.are ∙ ap (λ l. first.n ∷ l) (nothing_else first.rest first.others); field = field; there = at }
  from_ends index message part (next ∷ more) fields h =
      let first = split index (step files table sees packages scope message part false) (λ inner. fields_from files table sees packages scope (index + 1) inner (next ∷ more)) fields h in
      let end = from_ends (index + 1) first.inner next more first.rest first.others in
      record { outer = first.n ∷ end.outer; last = end.last; ends = first.are ∙ ap (λ l. first.n ∷ l) end.ends; field = end.field; there = end.there }

  -- The last of the fields that a name goes through is declared.
  pub last_declared : (message : ℕ) (name : List NamePart) (fields : List ℕ) → fields_of files table sees packages scope message name ≡ Ok fields
      → EndsDeclared (field_numbered files table) fields
  last_declared message [] fields h = absurd (no_ok (record { part = 0; kind = NoName }) fields h)
  last_declared message (part ∷ more) fields h =
      from_ends 0 message part more fields
      (if_allowed (bytes_eq part.name_part (codes "uninterpreted_option")) (record { part = 0; kind = Reserved }) (fields_from files table sees packages scope 0 message (part ∷ more)) fields h)

-- Fields that are put in front of others. The header of the first run may still be missing.
use Rattle.std.proofs.Common.{◌≡◌, ℕ, suc, ◌+◌, ◌-◌, ◌<◌, ◌≤◌, Bool, true, false, not, ◌&&◌, List, [], ◌∷◌, ◌++◌, length, drop, get_or, refl, sym, ap, subst, ◌∙◌, append_assoc, append-nil, length-append, arith}
use Rattle.std.specs.Prelude.{if◌then◌else◌, ◌==◌}
use Rattle.std.specs.List.{flat_map}
use Rattle.std.proofs.Math.Seq.{drop-cons, drop-length}
use Rattle.protox_encode.specs.Wire.{header, varint}
use Rattle.protox_message_bytes.specs.Bytes.{Field, field_bytes, joined, joined_to}
use Rattle.protox_message_bytes.specs.inner.Runs.{begins, goes_on, start_of}

-- what stands there of joined fields
abbrev pub written : Bool → List Field → List ℕ
written missing [] = []
written missing (f ∷ more) = (if missing then f.bytes else field_bytes f) ++ flat_map field_bytes more

-- the bytes of the first run, as long as its header is missing
abbrev pub bare : Bool → List Field → List ℕ
bare missing [] = []
bare missing (f ∷ more) = if missing then f.bytes else []

pub record ArePut (missing : Bool) (fields : List Field) (given out : List ℕ) (behind : ℕ) : Type 0 where
  pub bytes_are : out ≡ written missing (joined fields) ++ given
  pub long : length out ≡ length (bare missing (joined fields)) + behind

-- the first of joined fields has the number of the first of the fields, and is packed like it
pub record Leads (f : Field) (fields : List Field) : Type 0 where
  pub first : Field
  pub more : List Field
  pub are : fields ≡ first ∷ more
  pub number_is : first.number ≡ f.number
  pub packed_is : first.packed ≡ f.packed

leads : (f : Field) (fields : List Field) → Leads f (joined_to f fields)
leads f [] = record { first = f; more = []; are = refl; number_is = refl; packed_is = refl }
leads f (g ∷ more) = go (f.packed && g.packed && f.number == g.number) where
  go : (b : Bool) → Leads f (if b then record f { bytes = f.bytes ++ g.bytes } ∷ more else f ∷ g ∷ more)
  go true = record { first = record f { bytes = f.bytes ++ g.bytes }; more = more; are = refl; number_is = refl; packed_is = refl }
  go false = record { first = f; more = g ∷ more; are = refl; number_is = refl; packed_is = refl }

-- the bytes of a field come in front of the first joined field
put_before : (f h : Field) (rest : List Field) (given : List ℕ) (b : Bool)
    → f.bytes ++ (written b (h ∷ rest) ++ given)
    ≡ written true (if b then record f { bytes = f.bytes ++ h.bytes } ∷ rest else f ∷ h ∷ rest) ++ given
put_before f h rest given true = simp append_assoc
put_before f h rest given false = sym (append_assoc f.bytes (field_bytes h ++ flat_map field_bytes rest) given)

long_before : (f h : Field) (rest : List Field) (behind : ℕ) (b : Bool)
    → length f.bytes + (length (bare b (h ∷ rest)) + behind)
    ≡ length (bare true (if b then record f { bytes = f.bytes ++ h.bytes } ∷ rest else f ∷ h ∷ rest)) + behind
long_before f h rest behind true = omega (arith, length-append f.bytes h.bytes)
long_before f h rest behind false = omega arith

module _ (f : Field) (given out : List ℕ) (behind : ℕ) where
  at_end : ArePut false [] given out behind → ArePut true (f ∷ []) given (f.bytes ++ out) behind
  at_end before = record {
    bytes_are = ap (λ o. f.bytes ++ o) before.bytes_are ∙ ap (λ o. o ++ given) (sym (append-nil f.bytes));
    long = omega (arith, length-append f.bytes out, before.long);
  }

  in_front : (g : Field) (more : List Field) → ArePut (goes_on (f ∷ g ∷ more)) (g ∷ more) given out behind → ArePut true (f ∷ g ∷ more) given (f.bytes ++ out) behind
  in_front g more before = record {
    bytes_are =
        ap (λ o. f.bytes ++ o) (before.bytes_are ∙ ap (λ js. written (goes_on (f ∷ g ∷ more)) js ++ given) lead.are ∙ ap (λ b. written b (lead.first ∷ lead.more) ++ given) same)
        ∙ put_before f lead.first lead.more given joins
        ∙ ap (λ js. written true (joined_to f js) ++ given) (sym lead.are);
    long =
        length-append f.bytes out
        ∙ ap (λ n. length f.bytes + n) (before.long ∙ ap (λ js. length (bare (goes_on (f ∷ g ∷ more)) js) + behind) lead.are ∙ ap (λ b. length (bare b (lead.first ∷ lead.more)) + behind) same)
        ∙ long_before f lead.first lead.more behind joins
        ∙ ap (λ js. length (bare true (joined_to f js)) + behind) (sym lead.are);
  } where
    lead : Leads g (joined (g ∷ more))
    lead = leads g (joined more)

    joins : Bool
    joins = f.packed && lead.first.packed && f.number == lead.first.number

    same : goes_on (f ∷ g ∷ more) ≡ joins
    same = ap (λ p. f.packed && p && f.number == g.number) (sym lead.packed_is) ∙ ap (λ n. f.packed && lead.first.packed && f.number == n) (sym lead.number_is)

  pub one_put : (fields : List Field) → ArePut (goes_on (f ∷ fields)) fields given out behind → ArePut true (f ∷ fields) given (f.bytes ++ out) behind
  one_put [] before = at_end before
  one_put (g ∷ more) before = in_front g more before

-- a run with its header is a joined field
whole : (f h : Field) (rest : List Field) (given : List ℕ) → h.number ≡ f.number → h.packed ≡ f.packed
    → start_of f (length h.bytes) ++ (written true (h ∷ rest) ++ given) ≡ written false (h ∷ rest) ++ given
whole f h rest given number packed =
    ap (λ n. (if f.packed then header n 2 ++ varint (length h.bytes) else []) ++ (written true (h ∷ rest) ++ given)) (sym number)
    ∙ ap (λ p. (if p then header h.number 2 ++ varint (length h.bytes) else []) ++ (written true (h ∷ rest) ++ given)) (sym packed)
    ∙ go h.packed
  where
    go : (p : Bool) → (if p then header h.number 2 ++ varint (length h.bytes) else []) ++ (written true (h ∷ rest) ++ given)
        ≡ ((if p then header h.number 2 ++ (varint (length h.bytes) ++ h.bytes) else h.bytes) ++ flat_map field_bytes rest) ++ given
    go true = simp append_assoc
    go false = refl

-- the header of the first run comes in front
pub headed : (f : Field) (fields : List Field) (given out : List ℕ) (behind : ℕ) → ArePut true (f ∷ fields) given out behind
    → ArePut false (f ∷ fields) given (start_of f (length out - behind) ++ out) (length (start_of f (length out - behind) ++ out))
headed f fields given out behind before = record {
  bytes_are =
      ap (λ n. start_of f n ++ out) count
      ∙ ap (λ o. start_of f (length lead.first.bytes) ++ o) (before.bytes_are ∙ ap (λ js. written true js ++ given) lead.are)
      ∙ whole f lead.first lead.more given lead.number_is lead.packed_is
      ∙ ap (λ js. written false js ++ given) (sym lead.are);
  long = omega (arith, ap (λ js. length (bare false js)) lead.are);
} where
  lead : Leads f (joined (f ∷ fields))
  lead = leads f (joined fields)

  count : length out - behind ≡ length lead.first.bytes
  count = omega (arith, before.long, ap (λ js. length (bare true js)) lead.are)

-- ---- the loop

-- The fields from the ith on are put in front. A header is missing if the ith goes on with a run.
pub record Progress (fields : List Field) (given : List ℕ) (i : ℕ) (out : List ℕ) (behind : ℕ) : Type 0 where
  pub within : i ≤ length fields
  pub put : ArePut (not (begins i fields)) (drop i fields) given out behind

pub none_yet : (fields : List Field) (given : List ℕ) → Progress fields given (length fields) given (length given)
none_yet fields given = record {
  within = omega arith;
  put = subst (λ left. ArePut (not (begins (length fields) fields)) left given given (length given)) (sym (drop-length fields)) (record { bytes_are = refl; long = omega arith });
}

not_not : (b : Bool) → not (not b) ≡ b
not_not true = refl
not_not false = refl

-- the field before those that are put, still without a header
next_put : (fields : List Field) (given : List ℕ) (i : ℕ) (out : List ℕ) (behind : ℕ) (f : Field) → i < length fields → f ≡ get_or fields i f
    → Progress fields given (suc i) out behind → ArePut true (drop i fields) given (f.bytes ++ out) behind
next_put fields given i out behind f below is before =
    subst (λ left. ArePut true left given (f.bytes ++ out) behind) (sym split)
    (one_put f given out behind (drop (suc i) fields)
    (subst (λ left. ArePut (goes_on left) (drop (suc i) fields) given out behind) split
    (subst (λ b. ArePut b (drop (suc i) fields) given out behind) (not_not (goes_on (drop i fields))) before.put)))
  where
    split : drop i fields ≡ f ∷ drop (suc i) fields
    split = drop-cons fields i f below ∙ ap (λ g. g ∷ drop (suc i) fields) (sym is)

module _ (fields : List Field) (given : List ℕ) (i : ℕ) (out : List ℕ) (behind : ℕ) (f : Field) (some : 0 < i) (is : f ≡ get_or fields (i - 1) f) (before : Progress fields given i out behind) (put : List ℕ) (put_is : put ≡ f.bytes ++ out) where
  below : i - 1 < length fields
  below = omega (arith, some, before.within)

  put_next : ArePut true (drop (i - 1) fields) given put behind
  put_next =
      subst (λ bytes. ArePut true (drop (i - 1) fields) given bytes behind) (sym put_is)
      (next_put fields given (i - 1) out behind f below is
      (subst (λ k. Progress fields given k out behind) (omega (arith, some)) before))

  -- the field goes on with a run
  pub goes_on_back : begins (i - 1) fields ≡ false → Progress fields given (i - 1) put behind
  goes_on_back e = record {
    within = omega (arith, below);
    put = subst (λ b. ArePut (not b) (drop (i - 1) fields) given put behind) (sym e) put_next;
  }

  -- it begins a run, whose header comes in front
  pub begins_back : begins (i - 1) fields ≡ true → (made : List ℕ) (long all : ℕ) → long ≡ length put - behind
      → made ≡ start_of f long ++ put → all ≡ length made → Progress fields given (i - 1) made all
  begins_back e made long all long_is made_is all_is = record {
    within = omega (arith, below);
    put =
        subst (λ b. ArePut (not b) (drop (i - 1) fields) given made all) (sym e)
        (subst (λ n. ArePut false (drop (i - 1) fields) given made n) (sym all_is)
        (subst (λ bytes. ArePut false (drop (i - 1) fields) given bytes (length bytes)) (sym (made_is ∙ ap (λ n. start_of f n ++ put) long_is))
        (subst (λ left. ArePut false left given (start_of f (length put - behind) ++ put) (length (start_of f (length put - behind) ++ put))) (sym split)
        (headed f (drop (suc (i - 1)) fields) given put behind (subst (λ left. ArePut true left given put behind) split put_next)))));
  } where
    split : drop (i - 1) fields ≡ f ∷ drop (suc (i - 1)) fields
    split = drop-cons fields (i - 1) f below ∙ ap (λ g. g ∷ drop (suc (i - 1)) fields) (sym is)

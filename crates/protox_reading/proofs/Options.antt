-- What statements say is read back from the bytes of options.
use Rattle.std.proofs.Common.{◌≡◌, ℕ, Bool, true, false, not, cond, List, [], ◌∷◌, ◌++◌, refl, sym, ap, subst, ◌∙◌, append-nil, map}
use Rattle.std.specs.Prelude.{◌==◌, if◌then◌else◌}
use Rattle.std.specs.List.{AllByRecursion, filter, flat_map}
use Rattle.std.proofs.lemmas.Bool.{eqb-true, false≢true}
use Rattle.std.proofs.lemmas.Grind.{flat_map-append}
use Rattle.std.proofs.lemmas.List.{map-append}
use Rattle.protox_descriptor.specs.declared.descriptor.options.UninterpretedOption.{UninterpretedOption}
use Rattle.protox_interpret.specs.Settings.{Setting, options_bytes}
use Rattle.protox_interpret.specs.Settings.{field_of as setting_field}
use Rattle.protox_interpret.specs.Statements.{AreSet}
use Rattle.protox_interpret.specs.declared.site.Site.{Site}
use Rattle.protox_message_bytes.specs.Bytes.{field_bytes, in_order}
use Rattle.protox_message_bytes.specs.Parts.{Parts}
use Rattle.protox_reading.proofs.Chains.{IsOne, Stands, one_bytes, said_by}
use Rattle.protox_reading.proofs.Joins.{finds-append, finds_nothing, one_message-append, payloads-append, read_append}
use Rattle.protox_reading.proofs.Messages.{AllSound, AreAlone, joined_alone, messages_at, messages_there, order_read, order_told, payloads_told, plain, read_all, read_in_order, sound_parts}
use Rattle.protox_reading.proofs.Order.{field_of}
use Rattle.protox_reading.proofs.Taken.{goes_through, said_taken, taken_append}
use Rattle.protox_reading.proofs.Written.{written}
use Rattle.protox_reading.specs.Fields.{AreRead, Payload}
use Rattle.protox_reading.specs.Finding.{Finds, one_message, payloads}
use Rattle.protox_reading.specs.Laws.{OptionsReadBack}
use Rattle.protox_reading.specs.Said.{GoesThrough, Told, Packed, Alone, all_told, said_at, shown, those}
use Rattle.protox_reading.specs.Statements.{AllGoThrough, AllLeadTo, AreSaid, IsUnmixed, Saying, Says, all_said_at, all_values_at, extensions_last, first_number}
use Rattle.protox_reading.specs.Values.{AreTaken, FindsValues, Kind, values_at}

-- ---- what all statements tell

abbrev tell : List Saying → List (ℕ × Told)
tell ss = flat_map (λ s. all_told s.parts) ss

-- what the fields with a number hold
abbrev held_at : ℕ → List Saying → List Payload
held_at n ss = map shown (those n (tell ss))

abbrev AllOne : List Saying → Type 0
AllOne ss = AllByRecursion (λ s. IsOne s.parts) ss

those-append : (n : ℕ) (xs ys : List (ℕ × Told)) → those n (xs ++ ys) ≡ those n xs ++ those n ys
those-append n [] ys = refl
those-append n (t ∷ xs) ys = ap (λ ts. if t.0 == n then t.1 ∷ ts else ts) (those-append n xs ys) ∙ go (t.0 == n)
  where
    go : (b : Bool) → (if b then t.1 ∷ (those n xs ++ those n ys) else (those n xs ++ those n ys)) ≡ (if b then t.1 ∷ those n xs else those n xs) ++ those n ys
    go true = refl
    go false = refl

shown-append : (n : ℕ) (xs ys : List (ℕ × Told)) → map shown (those n (xs ++ ys)) ≡ map shown (those n xs) ++ map shown (those n ys)
shown-append n xs ys = ap (λ ts. map shown ts) (those-append n xs ys) ∙ map-append shown (those n xs) (those n ys)

held-append : (n : ℕ) (xs ys : List Saying) → held_at n (xs ++ ys) ≡ held_at n xs ++ held_at n ys
held-append n xs ys = ap (λ ts. map shown (those n ts)) (flat_map-append (λ (s : Saying). all_told s.parts) xs ys) ∙ shown-append n (tell xs) (tell ys)

-- one field is told alone
one_alone : (n : ℕ) (parts : Parts) → IsOne parts → AreAlone (those n (all_told parts))
one_alone n parts one = subst (λ ts. AreAlone (those n ts)) (sym one.told) (go (first_number parts == n))
  where
    go : (b : Bool) → AreAlone (if b then Alone one.payload ∷ [] else [])
    go true = tt
    go false = tt

alone_append : (xs ys : List Told) → AreAlone xs → AreAlone ys → AreAlone (xs ++ ys)
alone_append [] ys a b = b
alone_append (Packed bytes ∷ xs) ys a b = absurd a
alone_append (Alone p ∷ xs) ys a b = alone_append xs ys a b

all_alone : (n : ℕ) (ss : List Saying) → AllOne ss → AreAlone (those n (tell ss))
all_alone n [] a = tt
all_alone n (s ∷ ss) a =
    subst AreAlone (sym (those-append n (all_told s.parts) (tell ss)))
    (alone_append (those n (all_told s.parts)) (those n (tell ss)) (one_alone n s.parts a.0) (all_alone n ss a.1))

sound_append : (xs ys : List (ℕ × Told)) → AllSound xs → AllSound ys → AllSound (xs ++ ys)
sound_append [] ys a b = b
sound_append (x ∷ xs) ys a b = (a.0, sound_append xs ys a.1 b)

all_sound : (ss : List Saying) → AllSound (tell ss)
all_sound [] = tt
all_sound (s ∷ ss) = sound_append (all_told s.parts) (tell ss) (sound_parts s.parts) (all_sound ss)

-- ---- paths

-- what ends at a number
ends : (n : ℕ) (ss : List Saying) → AllOne ss → held_at n ss ≡ all_said_at (n ∷ []) ss
ends n [] a = refl
ends n (s ∷ ss) a =
    shown-append n (all_told s.parts) (tell ss)
    ∙ ap (λ ps. map shown (those n (all_told s.parts)) ++ ps) (ends n ss a.1)
    ∙ ap (λ ts. map shown ts ++ all_said_at (n ∷ []) ss) (sym (joined_alone (those n (all_told s.parts)) (one_alone n s.parts a.0)))

-- what lies behind it
deep : (n next : ℕ) (path : List ℕ) (ss : List Saying) → AllGoThrough (n ∷ next ∷ path) ss
    → Finds (one_message (held_at n ss)) (next ∷ path) (all_said_at (n ∷ next ∷ path) ss)
deep n next path [] g = finds_nothing (next ∷ path)
deep n next path (s ∷ ss) g =
    subst (λ bs. Finds bs (next ∷ path) (said_at (n ∷ next ∷ path) s.parts ++ all_said_at (n ∷ next ∷ path) ss))
    (sym (ap one_message (shown-append n (all_told s.parts) (tell ss)) ∙ one_message-append (map shown (those n (all_told s.parts))) (held_at n ss)))
    (finds-append (next ∷ path) (messages_at n s.parts) (one_message (held_at n ss)) (said_at (n ∷ next ∷ path) s.parts) (all_said_at (n ∷ next ∷ path) ss)
    (messages_there s.parts n next path g.0) (deep n next path ss g.1))

-- where the fields with each number hold what the statements say of it
found_of : (bytes : List ℕ) (fields : List (ℕ × Payload)) → AreRead bytes fields → (ss : List Saying) → AllOne ss → (n : ℕ) (path : List ℕ)
    → payloads n fields ≡ held_at n ss → AllGoThrough (n ∷ path) ss → Finds bytes (n ∷ path) (all_said_at (n ∷ path) ss)
found_of bytes fields read ss ones n [] e g = (fields, read, sym (e ∙ ends n ss ones))
found_of bytes fields read ss ones n (next ∷ path) e g =
    (fields, read, subst (λ ps. Finds (one_message ps) (next ∷ path) (all_said_at (n ∷ next ∷ path) ss)) (sym e) (deep n next path ss g))

none_said : (ss : List Saying) → all_said_at [] ss ≡ []
none_said [] = refl
none_said (s ∷ ss) = none_said ss

-- ---- settings

abbrev AllStand : List Setting → List Saying → Type 0
AllStand [] [] = Unit {0}
AllStand [] (s ∷ ss) = ⊥
AllStand (a ∷ as') [] = ⊥
AllStand (a ∷ as') (s ∷ ss) = Stands a s × AllStand as' ss

all_one : (as' : List Setting) (ss : List Saying) → AllStand as' ss → AllOne ss
all_one [] [] a = tt
all_one [] (s ∷ ss) a = absurd a
all_one (x ∷ as') [] a = absurd a
all_one (x ∷ as') (s ∷ ss) a = (a.0.one, all_one as' ss a.1)

-- those of extensions, or the others
kept : (f : Bool → Bool) (as' : List Setting) (ss : List Saying) → AllStand as' ss → AllStand (filter (λ a. f a.standard) as') (filter (λ s. f s.standard) ss)
kept f [] [] a = tt
kept f [] (s ∷ ss) a = absurd a
kept f (x ∷ as') [] a = absurd a
kept f (x ∷ as') (s ∷ ss) a =
    subst (λ b. AllStand (cond (f x.standard) (x ∷ filter (λ a. f a.standard) as') (filter (λ a. f a.standard) as'))
    (cond (f b) (s ∷ filter (λ s. f s.standard) ss) (filter (λ s. f s.standard) ss)))
    a.0.standard (go (f x.standard) (kept f as' ss a.1))
  where
    go : (b : Bool) → AllStand (filter (λ a. f a.standard) as') (filter (λ s. f s.standard) ss)
        → AllStand (cond b (x ∷ filter (λ a. f a.standard) as') (filter (λ a. f a.standard) as')) (cond b (s ∷ filter (λ s. f s.standard) ss) (filter (λ s. f s.standard) ss))
    go true r = (a.0, r)
    go false r = r

-- a setting's field is the one that is told
tell_next : (s : Saying) (ss : List Saying) (one : IsOne s.parts) → tell (s ∷ ss) ≡ (first_number s.parts, Alone one.payload) ∷ tell ss
tell_next s ss one = ap (λ ts. ts ++ tell ss) one.told

setting_bytes_are : (a : Setting) (s : Saying) (stands : Stands a s) → a.bytes ≡ written (first_number s.parts, stands.one.payload)
setting_bytes_are a s stands = stands.bytes ∙ one_bytes s.parts stands.one

standard_fields : (as' : List Setting) (ss : List Saying) → AllStand as' ss → map setting_field as' ≡ map field_of (tell ss)
standard_fields [] [] a = refl
standard_fields [] (s ∷ ss) a = absurd a
standard_fields (x ∷ as') [] a = absurd a
standard_fields (x ∷ as') (s ∷ ss) a =
    let bytes = setting_bytes_are x s a.0 in
    let first = a.0.first in
    let same : setting_field x ≡ field_of (first_number s.parts, Alone a.0.one.payload) = λ i. record { number = first i; packed = false; bytes = bytes i } in
    ap (λ f. f ∷ map setting_field as') same
    ∙ ap (λ fs. field_of (first_number s.parts, Alone a.0.one.payload) ∷ fs) (standard_fields as' ss a.1)
    ∙ ap (λ ts. map field_of ts) (sym (tell_next s ss a.0.one))

custom_bytes : (as' : List Setting) (ss : List Saying) → AllStand as' ss → flat_map (λ a. a.bytes) as' ≡ flat_map field_bytes (map field_of (tell ss))
custom_bytes [] [] a = refl
custom_bytes [] (s ∷ ss) a = absurd a
custom_bytes (x ∷ as') [] a = absurd a
custom_bytes (x ∷ as') (s ∷ ss) a =
    ap (λ bs. bs ++ flat_map (λ a. a.bytes) as') (setting_bytes_are x s a.0)
    ∙ ap (λ bs. written (first_number s.parts, a.0.one.payload) ++ bs) (custom_bytes as' ss a.1)
    ∙ ap (λ ts. flat_map field_bytes (map field_of ts)) (sym (tell_next s ss a.0.one))

-- ---- all bytes

module _ (settings : List Setting) (sayings : List Saying) (stand : AllStand settings sayings) where
  abbrev standards : List Saying
  standards = filter (λ s. s.standard) sayings

  abbrev customs : List Saying
  customs = filter (λ s. not s.standard) sayings

  abbrev options_fields : List (ℕ × Payload)
  options_fields = read_in_order (tell standards) ++ map plain (tell customs)

  standards_stand : AllStand (filter (λ a. a.standard) settings) standards
  standards_stand = kept (λ b. b) settings sayings stand

  customs_stand : AllStand (filter (λ a. not a.standard) settings) customs
  customs_stand = kept not settings sayings stand

  options_read : AreRead (options_bytes settings) options_fields
  options_read =
      read_append
      (subst (λ fs. AreRead (in_order fs) (read_in_order (tell standards))) (sym (standard_fields (filter (λ a. a.standard) settings) standards standards_stand))
      (order_read (tell standards) (all_sound standards)))
      (subst (λ bs. AreRead bs (map plain (tell customs))) (sym (custom_bytes (filter (λ a. not a.standard) settings) customs customs_stand))
      (read_all (tell customs) (all_sound customs)))

  held_there : (n : ℕ) → payloads n options_fields ≡ held_at n (extensions_last sayings)
  held_there n =
      payloads-append n (read_in_order (tell standards)) (map plain (tell customs))
      ∙ ap (λ ps. ps ++ payloads n (map plain (tell customs)))
      (order_told n (tell standards)
      ∙ ap (λ ts. map shown ts) (joined_alone (those n (tell standards)) (all_alone n standards (all_one (filter (λ a. a.standard) settings) standards standards_stand))))
      ∙ ap (λ ps. held_at n standards ++ ps) (payloads_told n (tell customs))
      ∙ sym (held-append n standards customs)

-- ---- lists of sayings

module _ (Q : Saying → Type 0) where
  each_append : (xs ys : List Saying) → AllByRecursion Q xs → AllByRecursion Q ys → AllByRecursion Q (xs ++ ys)
  each_append [] ys a b = b
  each_append (x ∷ xs) ys a b = (a.0, each_append xs ys a.1 b)

  each_filter : (p : Saying → Bool) (xs : List Saying) → AllByRecursion Q xs → AllByRecursion Q (filter p xs)
  each_filter p [] a = tt
  each_filter p (x ∷ xs) a = go (p x) (each_filter p xs a.1)
    where
      go : (b : Bool) → AllByRecursion Q (filter p xs) → AllByRecursion Q (cond b (x ∷ filter p xs) (filter p xs))
      go true r = (a.0, r)
      go false r = r

  each_last : (xs : List Saying) → AllByRecursion Q xs → AllByRecursion Q (extensions_last xs)
  each_last xs a = each_append (filter (λ s. s.standard) xs) (filter (λ s. not s.standard) xs) (each_filter (λ s. s.standard) xs a) (each_filter (λ s. not s.standard) xs a)

-- ---- extensions and others

-- The fields with a number hold the same if one asks those statements alone whose names begin so.
held_next : (n : ℕ) (s : Saying) (ss : List Saying) (one : IsOne s.parts)
    → held_at n (s ∷ ss) ≡ (if first_number s.parts == n then one.payload ∷ held_at n ss else held_at n ss)
held_next n s ss one = ap (λ ts. map shown (those n ts)) (tell_next s ss one) ∙ go (first_number s.parts == n)
  where
    go : (b : Bool) → map shown (if b then Alone one.payload ∷ those n (tell ss) else those n (tell ss)) ≡ (if b then one.payload ∷ held_at n ss else held_at n ss)
    go true = refl
    go false = refl

module _ (f : Bool → Bool) (n : ℕ) (standard : Bool) where
  abbrev AllAlike : List Saying → Type 0
  AllAlike ss = AllByRecursion (λ s. first_number s.parts ≡ n → s.standard ≡ standard) ss

  -- none of them is left out
  all_held : f standard ≡ true → (ss : List Saying) → AllOne ss → AllAlike ss → held_at n (filter (λ s. f s.standard) ss) ≡ held_at n ss
  all_held yes' [] a k = refl
  all_held yes' (s ∷ ss) a k = go (f s.standard) refl (first_number s.parts == n) refl (all_held yes' ss a.1 k.1)
    where
      rest : List Saying
      rest = filter (λ s. f s.standard) ss

      go : (b : Bool) → f s.standard ≡ b → (c : Bool) → (first_number s.parts == n) ≡ c → held_at n (filter (λ s. f s.standard) ss) ≡ held_at n ss
          → held_at n (cond b (s ∷ filter (λ s. f s.standard) ss) (filter (λ s. f s.standard) ss)) ≡ held_at n (s ∷ ss)
      go true e c x ih =
          shown-append n (all_told s.parts) (tell (filter (λ s. f s.standard) ss)) ∙ ap (λ ps. map shown (those n (all_told s.parts)) ++ ps) ih
          ∙ sym (shown-append n (all_told s.parts) (tell ss))
      go false e true x ih = absurd (false≢true (sym e ∙ ap f (k.0 (eqb-true (first_number s.parts) n x)) ∙ yes'))
      go false e false x ih = ih ∙ sym (held_next n s ss a.0 ∙ ap (λ b. if b then a.0.payload ∷ held_at n ss else held_at n ss) x)

  -- all of them are left out
  none_held : f standard ≡ false → (ss : List Saying) → AllOne ss → AllAlike ss → held_at n (filter (λ s. f s.standard) ss) ≡ []
  none_held no' [] a k = refl
  none_held no' (s ∷ ss) a k = go (f s.standard) refl (first_number s.parts == n) refl (none_held no' ss a.1 k.1)
    where
      go : (b : Bool) → f s.standard ≡ b → (c : Bool) → (first_number s.parts == n) ≡ c → held_at n (filter (λ s. f s.standard) ss) ≡ []
          → held_at n (cond b (s ∷ filter (λ s. f s.standard) ss) (filter (λ s. f s.standard) ss)) ≡ []
      go true e true x ih = absurd (false≢true (sym no' ∙ sym (ap f (k.0 (eqb-true (first_number s.parts) n x))) ∙ e))
      go true e false x ih =
          held_next n s (filter (λ s. f s.standard) ss) a.0
          ∙ ap (λ b. if b then a.0.payload ∷ held_at n (filter (λ s. f s.standard) ss) else held_at n (filter (λ s. f s.standard) ss)) x ∙ ih
      go false e c x ih = ih

one_order : (n : ℕ) (standard : Bool) (ss : List Saying) → AllOne ss → AllByRecursion (λ s. first_number s.parts ≡ n → s.standard ≡ standard) ss
    → held_at n (extensions_last ss) ≡ held_at n ss
one_order n true ss a k =
    held-append n (filter (λ s. s.standard) ss) (filter (λ s. not s.standard) ss)
    ∙ ap (λ ps. ps ++ held_at n (filter (λ s. not s.standard) ss)) (all_held (λ b. b) n true refl ss a k)
    ∙ ap (λ ps. held_at n ss ++ ps) (none_held not n true refl ss a k) ∙ append-nil (held_at n ss)
one_order n false ss a k =
    held-append n (filter (λ s. s.standard) ss) (filter (λ s. not s.standard) ss)
    ∙ ap (λ ps. ps ++ held_at n (filter (λ s. not s.standard) ss)) (none_held (λ b. b) n false refl ss a k)
    ∙ all_held not n false refl ss a k

-- ---- the law

record AreAllSaid (here : Site) (statements : List UninterpretedOption) (settings : List Setting) : Type 0 where
  sayings : List Saying
  said : AreSaid here statements sayings
  stand : AllStand settings sayings

said_next : (here : Site) (statements : List UninterpretedOption) (ss : List Saying) (statement : UninterpretedOption) (s : Saying)
    → AreSaid here statements ss → Says here statement s → AreSaid here (statements ++ statement ∷ []) (ss ++ s ∷ [])
said_next here [] [] statement s a b = (b, tt)
said_next here [] (x ∷ ss) statement s a b = absurd a
said_next here (y ∷ statements) [] statement s a b = absurd a
said_next here (y ∷ statements) (x ∷ ss) statement s a b = (a.0, said_next here statements ss statement s a.1 b)

stand_next : (as' : List Setting) (ss : List Saying) (x : Setting) (s : Saying) → AllStand as' ss → Stands x s → AllStand (as' ++ x ∷ []) (ss ++ s ∷ [])
stand_next [] [] x s a b = (b, tt)
stand_next [] (y ∷ ss) x s a b = absurd a
stand_next (z ∷ as') [] x s a b = absurd a
stand_next (z ∷ as') (y ∷ ss) x s a b = (a.0, stand_next as' ss x s a.1 b)

all_said : {here : Site} {statements : List UninterpretedOption} {settings : List Setting} → AreSet here statements settings → AreAllSaid here statements settings
all_said AreSet.NoStatement = record { sayings = []; said = tt; stand = tt }
all_said {here = here} (AreSet.NextStatement statements statement settings setting before sets free) =
    let so_far = all_said before in
    let next = said_by here statement setting sets in
    record {
      sayings = so_far.sayings ++ next.saying ∷ [];
      said = said_next here statements so_far.sayings statement next.saying so_far.said next.says;
      stand = stand_next settings so_far.sayings setting next.saying so_far.stand next.stands;
    }

module _ (bytes : List ℕ) (settings : List Setting) (sayings : List Saying) (stand : AllStand settings sayings) (are : bytes ≡ options_bytes settings) where
  read_there : AreRead bytes (options_fields settings sayings stand)
  read_there = subst (λ bs. AreRead bs (options_fields settings sayings stand)) (sym are) (options_read settings sayings stand)

  ones : AllOne sayings
  ones = all_one settings sayings stand

  found_anyway : (path : List ℕ) → AllGoThrough path sayings → Finds bytes path (all_said_at path (extensions_last sayings))
  found_anyway [] g = none_said (extensions_last sayings)
  found_anyway (n ∷ path) g =
      found_of bytes (options_fields settings sayings stand) read_there (extensions_last sayings) (each_last (λ s. IsOne s.parts) sayings ones) n path
      (held_there settings sayings stand n) (each_last (λ s. GoesThrough (n ∷ path) s.parts) sayings g)

  found_in_order : (path : List ℕ) → AllGoThrough path sayings → IsUnmixed path sayings → Finds bytes path (all_said_at path sayings)
  found_in_order [] g k = none_said sayings
  found_in_order (n ∷ path) g k =
      found_of bytes (options_fields settings sayings stand) read_there sayings ones n path
      (held_there settings sayings stand n ∙ one_order n k.0 sayings ones k.1) g

  all_through : (kind : Kind) (path : List ℕ) (ss : List Saying) → AllLeadTo kind path ss → AllGoThrough path ss
  all_through kind path [] g = tt
  all_through kind path (s ∷ ss) g = (goes_through kind path s.parts g.0, all_through kind path ss g.1)

  all_taken : (kind : Kind) (path : List ℕ) (ss : List Saying) → AllLeadTo kind path ss → AreTaken kind (all_said_at path ss) (all_values_at path ss)
  all_taken kind path [] g = refl
  all_taken kind path (s ∷ ss) g =
      taken_append kind (said_at path s.parts) (all_said_at path ss) (values_at path s.parts) (all_values_at path ss)
      (said_taken kind path s.parts g.0) (all_taken kind path ss g.1)

  values_in_order : (kind : Kind) (path : List ℕ) → AllLeadTo kind path sayings → IsUnmixed path sayings → FindsValues kind bytes path (all_values_at path sayings)
  values_in_order kind path g k = (all_said_at path sayings, found_in_order path (all_through kind path sayings g) k, all_taken kind path sayings g)

pub options_read_back : OptionsReadBack
options_read_back here statements answer is =
    let said = all_said is.set in
    record {
      sayings = said.sayings;
      said = said.said;
      values = values_in_order answer.bytes.items is.settings said.sayings said.stand is.bytes;
      payloads = found_in_order answer.bytes.items is.settings said.sayings said.stand is.bytes;
      mixed = found_anyway answer.bytes.items is.settings said.sayings said.stand is.bytes;
    }

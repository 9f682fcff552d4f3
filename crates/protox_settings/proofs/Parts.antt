-- Fields that are found part by part.
use Rattle.std.proofs.Common.{rules, ◌≡◌, ◌≤◌, ◌==◌, ◌+◌, ◌-◌, ◌++◌, append_assoc, arith, drop, take, get_or, length, ℕ, Bool, List, [], ◌∷◌, Result, Ok, Err, refl, sym, ap, ◌∙◌}
use Rattle.std.proofs.lemmas.List.{take_all}
use Rattle.protox_descriptor.specs.declared.descriptor.FileDescriptorProto.{FileDescriptorProto}
use Rattle.protox_descriptor.specs.declared.descriptor.uninterpreted_option.NamePart.{NamePart}
use Rattle.protox_settings.specs.Names.{fields_from, followed, goes_on, is_last, step}
use Rattle.protox_settings.specs.declared.fault.NameFault.{NameFault}
use Rattle.protox_symbols.specs.Symbols.{Table}

-- the fields that were found, in front of those that are found behind them
abbrev pub in_front : {E : Type 0} → List ℕ → Result (List ℕ) E → Result (List ℕ) E
in_front found behind = goes_on behind (λ fields. Ok (found ++ fields))

pub none_in_front : {E : Type 0} (behind : Result (List ℕ) E) → in_front [] behind ≡ behind
none_in_front (Err fault) = refl
none_in_front (Ok fields) = refl

pub one_in_front : {E : Type 0} (found : List ℕ) (n : ℕ) (behind : Result (List ℕ) E) → in_front found (goes_on behind (λ fields. Ok (n ∷ fields))) ≡ in_front (found ++ n ∷ []) behind
one_in_front found n (Err fault) = refl
one_in_front found n (Ok fields) = ap Ok (sym (append_assoc found (n ∷ []) fields))

-- the first of some parts, and the others
pub first_of : {A : Type 0} (parts : List A) (part : A) → 1 ≤ length parts → part ≡ get_or parts 0 part → parts ≡ part ∷ take (length parts - 1) (drop 1 parts)
first_of [] part some is = absurd (omega (arith, some))
first_of (x ∷ more) part some is =
    let len : length more ≤ length (x ∷ more) - 1 = omega arith in
    ap (λ y. y ∷ more) (sym is) ∙ ap (λ left. part ∷ left) (sym (take_all (length (x ∷ more) - 1) more len))

pub last_when : {A : Type 0} (more : List A) → (length more == 0) ≡ is_last more
last_when [] = refl
last_when (x ∷ more) = search rules

-- one part more has led to a field
pub stepped : (files : List FileDescriptorProto) (table : Table) (sees packages : List Bool) (scope : List ℕ) (index message n inner : ℕ) (found more_found : List ℕ) (rest more : List NamePart) (part : NamePart) (all : Result (List ℕ) NameFault)
    → rest ≡ part ∷ more → step files table sees packages scope message part (is_last more) ≡ Ok (n, inner) → more_found ≡ found ++ n ∷ []
    → in_front found (fields_from files table sees packages scope index message rest) ≡ all
    → in_front more_found (fields_from files table sees packages scope (index + 1) inner more) ≡ all
stepped files table sees packages scope index message n inner found more_found rest more part all is led same before =
    let behind = fields_from files table sees packages scope (index + 1) inner more in
    ap (λ front. in_front front behind) same
    ∙ sym (one_in_front found n behind)
    ∙ sym (ap (λ answer. in_front found (followed index answer (λ i. fields_from files table sees packages scope (index + 1) i more))) led)
    ∙ sym (ap (λ parts. in_front found (fields_from files table sees packages scope index message parts)) is)
    ∙ before

-- The files that are told for each number of a table.
use Rattle.std.proofs.Common.{◌≡◌, ◌≢◌, ◌<◌, ◌≤◌, ◌==◌, ◌||◌, ◌&&◌, ◌+◌, ◌++◌, inl, inr, ℕ, zero, suc, Bool, true, false, List, [], ◌∷◌, length, get_or, set, Option, None, refl, sym, ap, ◌∙◌, arith}
use Rattle.std.proofs.lemmas.Bool.Decides.{eqb_tells, leb_tells}
use Rattle.protox_marks.specs.Few.{among}
use Rattle.protox_marks.specs.declared.few.FewMarks.{FewMarks}
use Rattle.protox_name_tree.specs.Tree.{Names}
use Rattle.protox_views.specs.FilesOf.{AreFilesOf, is_file_of, is_in_package}
use Rattle.protox_views.specs.Packages.{is_on_the_way}
use Rattle.protox_views.specs.declared.packages.PackageFiles.{PackageFiles}

or_false : (b : Bool) → (b || false) ≡ b
or_false true = refl
or_false false = refl

and_true : (b : Bool) → (b && true) ≡ b
and_true true = refl
and_true false = refl

and_false : (b : Bool) → (b && false) ≡ false
and_false true = refl
and_false false = refl

-- ---- one number

-- no files are told for one number more
pub told_pushed : (files : List FewMarks) (few : FewMarks) (n f : ℕ) → ((m : ℕ) → is_file_of files m f ≡ false) → among few f ≡ false → is_file_of (files ++ few ∷ []) n f ≡ false
told_pushed [] few zero f none is = is
told_pushed [] few (suc n) f none is = refl
told_pushed (first ∷ files) few zero f none is = none 0
told_pushed (first ∷ files) few (suc n) f none is = told_pushed files few n f (λ m. none (suc m)) is

told_at : (files : List FewMarks) (q f : ℕ) (few : FewMarks) → q < length files → get_or files q few ≡ few → is_file_of files q f ≡ among few f
told_at [] q f few below is = absurd (omega (arith, below))
told_at (first ∷ files) zero f few below is = ap (λ other. among other f) is
told_at (first ∷ files) (suc q) f few below is = told_at files q f few (omega (arith, below)) is

told_same : (files : List FewMarks) (q f : ℕ) (few : FewMarks) → q < length files → is_file_of (set files q few) q f ≡ among few f
told_same [] q f few below = absurd (omega (arith, below))
told_same (first ∷ files) zero f few below = refl
told_same (first ∷ files) (suc q) f few below = told_same files q f few (omega (arith, below))

told_other : (files : List FewMarks) (n q f : ℕ) (few : FewMarks) → n ≢ q → is_file_of (set files q few) n f ≡ is_file_of files n f
told_other [] n q f few other = refl
told_other (first ∷ files) zero zero f few other = absurd (other refl)
told_other (first ∷ files) zero (suc q) f few other = refl
told_other (first ∷ files) (suc n) zero f few other = refl
told_other (first ∷ files) (suc n) (suc q) f few other = told_other files n q f few (λ same. other (ap suc same))

-- One file more is told for one number.
pub one_noted : (files : List FewMarks) (old new : FewMarks) (file n q f : ℕ) → q < length files → get_or files q old ≡ old → ((g : ℕ) → among new g ≡ (among old g || (g == file)))
    → is_file_of (set files q new) n f ≡ (is_file_of files n f || ((f == file) && (n == q)))
one_noted files old new file n q f below is more = elim (eqb_tells n q) [
  | inl (equal, same) ↦
      ap (λ m. is_file_of (set files q new) m f) same ∙ told_same files q f new below ∙ more f
      ∙ ap (λ b. b || (f == file)) (sym (told_at files q f old below is) ∙ ap (λ m. is_file_of files m f) (sym same))
      ∙ ap (λ b. is_file_of files n f || b) (sym (and_true (f == file)) ∙ ap (λ e. (f == file) && e) (sym equal))
  | inr (unequal, other) ↦
      told_other files n q f new other
      ∙ sym (or_false (is_file_of files n f))
      ∙ ap (λ b. is_file_of files n f || b) (sym (ap (λ e. (f == file) && e) unequal ∙ and_false (f == file)))
]

-- ---- the way outwards

both_ways : (x b e w : Bool) → ((x || (b && e)) || (b && w)) ≡ (x || (b && (e || w)))
both_ways true b e w = refl
both_ways false true e w = refl
both_ways false false e w = refl

-- A file is told for one number, and the way goes on outwards.
pub noted_outwards : (x y b e w way all : Bool) → y ≡ (x || (b && e)) → way ≡ (e || w) → (x || (b && way)) ≡ all → (y || (b && w)) ≡ all
noted_outwards x y b e w way all one goes before = ap (λ z. z || (b && w)) one ∙ both_ways x b e w ∙ ap (λ z. x || (b && z)) (sym goes) ∙ before

pub nothing_left : (x b way all : Bool) → way ≡ false → (x || (b && way)) ≡ all → x ≡ all
nothing_left x b way all none before = sym (or_false x) ∙ ap (λ z. x || z) (sym (ap (λ w. b && w) none ∙ and_false b)) ∙ before

-- ---- file by file

way_of : (names : Names) (packages : List (Option ℕ)) (n file : ℕ) → is_in_package names packages n file ≡ is_on_the_way names n (get_or packages file None)
way_of names [] n file = refl
way_of names (whole ∷ packages) n zero = refl
way_of names (whole ∷ packages) n (suc file) = way_of names packages n file

in_none : (names : Names) (packages : List (Option ℕ)) (n file : ℕ) → length packages ≤ file → is_in_package names packages n file ≡ false
in_none names [] n file past = refl
in_none names (whole ∷ packages) n zero past = absurd (omega (arith, past))
in_none names (whole ∷ packages) n (suc file) past = in_none names packages n file (omega (arith, past))

-- The first files are told for their packages and for those around these, and no others yet.
pub record AreNoted (names : Names) (packages : List (Option ℕ)) (i : ℕ) (files : List FewMarks) : Type 0 where
  pub as_many : length files ≡ length names.full_names
  pub done : (n f : ℕ) → n < length names.full_names → f < i → is_file_of files n f ≡ is_in_package names packages n f
  pub left : (n f : ℕ) → n < length names.full_names → i ≤ f → is_file_of files n f ≡ false

pub file_noted : (names : Names) (packages : List (Option ℕ)) (i : ℕ) (files noted : List FewMarks) → length noted ≡ length files
    → ((n f : ℕ) → n < length files → is_file_of noted n f ≡ (is_file_of files n f || ((f == i) && is_on_the_way names n (get_or packages i None))))
    → AreNoted names packages i files → AreNoted names packages (i + 1) noted
file_noted names packages i files noted same each before = record {
  as_many = same ∙ before.as_many;
  done = λ n f here less. elim (eqb_tells f i) [
    | inl (equal, is) ↦
        each n f (omega (arith, here, before.as_many))
        ∙ ap (λ b. b || ((f == i) && is_on_the_way names n (get_or packages i None))) (before.left n f here (omega (arith, is)))
        ∙ ap (λ e. e && is_on_the_way names n (get_or packages i None)) equal
        ∙ sym (way_of names packages n i) ∙ ap (is_in_package names packages n) (sym is)
    | inr (unequal, apart) ↦ unchanged n f here unequal ∙ before.done n f here (omega (arith, less, apart))
  ];
  left = λ n f here past. elim (eqb_tells f i) [
    | inl (_, is) ↦ absurd (omega (arith, is, past))
    | inr (unequal, _) ↦ unchanged n f here unequal ∙ before.left n f here (omega (arith, past))
  ];
} where
  unchanged : (n f : ℕ) → n < length names.full_names → (f == i) ≡ false → is_file_of noted n f ≡ is_file_of files n f
  unchanged n f here unequal =
      each n f (omega (arith, here, before.as_many))
      ∙ ap (λ e. is_file_of files n f || (e && is_on_the_way names n (get_or packages i None))) unequal
      ∙ or_false (is_file_of files n f)

pub all_noted : (names : Names) (packages : List (Option ℕ)) (i : ℕ) (files : PackageFiles) → length packages ≤ i → AreNoted names packages i files.files.items → AreFilesOf names packages files
all_noted names packages i files past noted = record {
  as_many = noted.as_many;
  told = λ n f here. elim (leb_tells i f) [
    | inl (_, more) ↦ noted.left n f here more ∙ sym (in_none names packages n f (omega (arith, past, more)))
    | inr (_, below) ↦ noted.done n f here below
  ];
}

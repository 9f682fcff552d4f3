-- The bytes of one file more; and each file of a set counts.
use Rattle.std.proofs.Common.{◌≡◌, ◌≤◌, ◌<◌, ◌+◌, ◌^◌, ℕ, Bool, false, true, ◌&&◌, List, append-nil, [], ◌∷◌, ◌++◌, append_assoc, arith, drop, get_or, length, take, refl, ap, sym, subst, ◌∙◌}
use Rattle.std.proofs.lemmas.List.{drop_more, length-append, take_more, take-append-drop}
use Rattle.std.proofs.lemmas.List.Folds.{list_all-append}
use Rattle.std.specs.List.{list_all}
use Rattle.std.specs.Prelude.{Option, Some, None, slice_get}
use Rattle.protox_descriptor.specs.declared.descriptor.FileDescriptorProto.{FileDescriptorProto}
use Rattle.protox_encode.proofs.Lemmas.{sets_join}
use Rattle.protox_encode.specs.Floats.{has_floats}
use Rattle.protox_encode.specs.Messages.{file_set}
use Rattle.protox_link_bytes.specs.Spelled.{bytes_of, file_at, in_order}

pub none : bytes_of [] ≡ []
unfolding file_set
none = refl

at : (files : List FileDescriptorProto) (found : Option FileDescriptorProto) (n : ℕ) → slice_get files n ≡ found
    → file_at files n ≡ (elim found as (λ _. List FileDescriptorProto) [ None ↦ [] | Some file ↦ file ∷ [] ])
at files found n is = ap (λ (it : Option FileDescriptorProto). elim it as (λ _. List FileDescriptorProto) [ None ↦ [] | Some file ↦ file ∷ [] ]) is

-- Nothing is added where there is no file.
pub nothing_at : (files : List FileDescriptorProto) (n : ℕ) (old : List ℕ) → slice_get files n ≡ None → old ≡ old ++ bytes_of (file_at files n)
nothing_at files n old is = sym (ap (λ fs. old ++ bytes_of fs) (at files None n is) ∙ ap (λ bs. old ++ bs) none ∙ append-nil old)

-- What is said of one file is said of what has its number.
pub of_file : (files : List FileDescriptorProto) (n : ℕ) (file : FileDescriptorProto) (P : List FileDescriptorProto → Type 0) → slice_get files n ≡ Some file
    → P (file ∷ []) → P (file_at files n)
of_file files n file P is h = subst P (sym (at files (Some file) n is)) h

in_order-append : (files : List FileDescriptorProto) (these those : List ℕ) → in_order files (these ++ those) ≡ in_order files these ++ in_order files those
in_order-append files [] those = refl
in_order-append files (n ∷ these) those =
    ap (λ rest. file_at files n ++ rest) (in_order-append files these those) ∙ sym (append_assoc (file_at files n) (in_order files these) (in_order files those))

in_order-one : (files : List FileDescriptorProto) (n : ℕ) → in_order files (n ∷ []) ≡ file_at files n
in_order-one files n = append-nil (file_at files n)

pub next : (files : List FileDescriptorProto) (order : List ℕ) (i n : ℕ) (bytes after : List ℕ) → i < length order → n ≡ get_or order i 0
    → bytes ≡ bytes_of (in_order files (take i order)) → after ≡ bytes ++ bytes_of (file_at files n) → after ≡ bytes_of (in_order files (take (i + 1) order))
next files order i n bytes after lt is so_far e =
    let split : in_order files (take (i + 1) order) ≡ in_order files (take i order) ++ file_at files n =
    ap (in_order files) (take_more order i 0 lt) ∙ in_order-append files (take i order) (get_or order i 0 ∷ [])
    ∙ ap (λ m. in_order files (take i order) ++ in_order files (m ∷ [])) (sym is) ∙ ap (λ fs. in_order files (take i order) ++ fs) (in_order-one files n) in
    e ∙ ap (λ bs. bs ++ bytes_of (file_at files n)) so_far ∙ sym (sets_join (in_order files (take i order)) (file_at files n)) ∙ ap bytes_of (sym split)

-- The files of an order, with those of one number apart.
apart : (files : List FileDescriptorProto) (order : List ℕ) (i n : ℕ) → i < length order → n ≡ get_or order i 0
    → in_order files order ≡ in_order files (take i order) ++ (file_at files n ++ in_order files (drop (i + 1) order))
apart files order i n lt is =
    let whole : order ≡ take i order ++ (n ∷ drop (i + 1) order) =
    sym (take-append-drop i order) ∙ ap (λ rest. take i order ++ rest) (drop_more order i 0 lt ∙ ap (λ m. m ∷ drop (i + 1) order) (sym is)) in
    ap (in_order files) whole ∙ in_order-append files (take i order) (n ∷ drop (i + 1) order)

pub larger : (files : List FileDescriptorProto) (order : List ℕ) (i n : ℕ) → i < length order → n ≡ get_or order i 0
    → 2 ^ 31 ≤ length (bytes_of (file_at files n)) → 2 ^ 31 ≤ length (bytes_of (in_order files order))
larger files order i n lt is large =
    let front = in_order files (take i order) in let back = in_order files (drop (i + 1) order) in
    let whole : bytes_of (in_order files order) ≡ bytes_of front ++ (bytes_of (file_at files n) ++ bytes_of back) =
    ap bytes_of (apart files order i n lt is) ∙ sets_join front (file_at files n ++ back) ∙ ap (λ bs. bytes_of front ++ bs) (sets_join (file_at files n) back) in
    let size : length (bytes_of (in_order files order)) ≡ length (bytes_of front) + (length (bytes_of (file_at files n)) + length (bytes_of back)) =
    ap length whole ∙ length-append (bytes_of front) (bytes_of (file_at files n) ++ bytes_of back) ∙ ap (λ m. length (bytes_of front) + m) (length-append (bytes_of (file_at files n)) (bytes_of back)) in
    omega (arith, size, large)

false-within : (a b c : Bool) → b ≡ false → (a && (b && c)) ≡ false
false-within true b c e = rw e refl
false-within false b c e = refl

pub lacks : (files : List FileDescriptorProto) (order : List ℕ) (i n : ℕ) → i < length order → n ≡ get_or order i 0
    → list_all has_floats (file_at files n) ≡ false → list_all has_floats (in_order files order) ≡ false
lacks files order i n lt is none =
    let front = in_order files (take i order) in let back = in_order files (drop (i + 1) order) in
    ap (list_all has_floats) (apart files order i n lt is) ∙ list_all-append has_floats front (file_at files n ++ back)
    ∙ ap (λ b. list_all has_floats front && b) (list_all-append has_floats (file_at files n) back)
    ∙ false-within (list_all has_floats front) (list_all has_floats (file_at files n)) (list_all has_floats back) none

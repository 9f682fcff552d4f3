-- Sets of token classes. There are finitely many classes, so that sets are compared by
-- computing.
use Rattle.std.specs.Prelude.{ℕ, zero, suc, List, [], ◌∷◌, map, Bool, true, false, not, ◌&&◌, ◌||◌, ◌==◌, nat_lt}
use Rattle.protox_lexeme.specs.Shapes.{Shape}
pub use Rattle.protox_lexeme.specs.TokenClass.{keywords, marks, place, byte_place, word, mark, an_integer, a_float, a_string, no_token, class}

-- The number of classes.
abbrev pub classes : ℕ
classes = 60

-- A set of classes.
abbrev pub Set : Type 0
Set = ℕ → Bool

-- Whether each class below n is in the set.
abbrev pub each_below : ℕ → Set → Bool
each_below zero f = true
each_below (suc n) f = f n && each_below n f

-- Whether no class is in both sets.
abbrev pub apart : Set → Set → Bool
apart f g = each_below classes (λ k. not (f k && g k))

-- Whether each class of f is in g.
abbrev pub within : Set → Set → Bool
within f g = each_below classes (λ k. not (f k) || g k)

-- The empty set.
abbrev pub none : Set
none k = false

-- The set of all classes.
abbrev pub all : Set
all k = true

-- The set of one class.
abbrev pub only : ℕ → Set
only n k = k == n

-- All classes but one.
abbrev pub but : ℕ → Set
but n k = not (k == n)

-- The set of these classes.
abbrev pub among : List ℕ → Set
among [] k = false
among (n ∷ ns) k = k == n || among ns k

-- The class of one word.
abbrev pub just_word : List ℕ → Set
just_word w = only (word w)

-- The class of one mark.
abbrev pub just_mark : ℕ → Set
just_mark byte = only (mark byte)

-- All classes but that of one mark.
abbrev pub but_mark : ℕ → Set
but_mark byte = but (mark byte)

-- The classes of these words.
abbrev pub among_words : List (List ℕ) → Set
among_words ws = among (map word ws)

-- The classes of these marks.
abbrev pub among_marks : List ℕ → Set
among_marks bytes = among (map mark bytes)

-- The classes of either set.
abbrev pub union : Set → Set → Set
union f g k = f k || g k

-- The classes of words.
abbrev pub words : Set
words k = nat_lt k an_integer

-- Whether a token is in the set.
abbrev pub in_set : Set → Shape → Bool
in_set f s = f (class s)

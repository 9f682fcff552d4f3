-- Marks for few numbers: the words in which some bit is set.
use Rattle.std.specs.Prelude.{ℕ, ◌≡◌, ◌<◌, ◌/◌, ◌%◌, ◌==◌, ◌&&◌, Bool, List}
use Rattle.std.specs.Int.{bit_at}
use Rattle.std.specs.List.{list_any}
use Rattle.protox_marks.specs.declared.few.FewMarks.{FewMarks}
use Rattle.protox_marks.specs.declared.few.FewWord.{FewWord}

-- the word has the bit for a number, and it is set
abbrev pub has : FewWord → ℕ → Bool
has word number = (word.index == number / 64) && (bit_at word.bits (number % 64) == 1)

-- one of the words does
abbrev pub holds : List FewWord → ℕ → Bool
holds words number = list_any (λ word. has word number) words

-- the number is among these marks
abbrev pub among : FewMarks → ℕ → Bool
among few = holds few.words.items

-- some bit is set in both of two words
abbrev pub ShareBit : ℕ → ℕ → Type 0
ShareBit word other = (i : ℕ) × (i < 64) × (bit_at word i ≡ 1) × (bit_at other i ≡ 1)

-- Values of one token, with a minus sign in front or without.
use Rattle.std.specs.Prelude.{ℕ, Bool, List, [], ◌∷◌, Option, Some, None, Result, Err, option_and_then, if◌then◌else◌}
use Rattle.protox_lexeme.specs.Shapes.{Shape, Ident, Int}
use Rattle.protox_text_values.specs.Scalars.{is_minus, truth_of_number, truth_of_word}
use Rattle.protox_values.specs.declared.fault.ValueFault.{ValueFault}
use Rattle.protox_values.specs.declared.fault.ValueFault.TheVariants.{NotIdentifier}

-- the only token
abbrev pub single : List Shape → Option Shape
single (shape ∷ []) = Some shape
single _ = None

-- the only token behind `-`
abbrev pub negated : List Shape → Option Shape
negated (sign ∷ shape ∷ []) = if is_minus sign then Some shape else None
negated _ = None

-- the number of an integer
abbrev pub natural_of : Shape → Option ℕ
natural_of (Int n) = Some n
natural_of _ = None

-- an integer behind `-`, without that
abbrev pub negated_in : List Shape → Option ℕ
negated_in v = option_and_then natural_of (negated v)

-- the bytes of a word
abbrev pub word_of : Shape → Option (List ℕ)
word_of (Ident word) = Some word
word_of _ = None

abbrev pub word_in : List Shape → Option (List ℕ)
word_in v = option_and_then word_of (single v)

-- the truth value of a token
abbrev pub truth_of : Shape → Result Bool ValueFault
truth_of (Ident word) = truth_of_word word
truth_of (Int n) = truth_of_number n
truth_of _ = Err NotIdentifier

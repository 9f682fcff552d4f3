-- Lines of the text format of Protocol Buffers.
use Rattle.std.specs.Prelude.{ℕ, zero, suc, ◌+◌, min, ℤ, Bool, true, false, List, [], ◌++◌, codes, flat_map, Option, Some, None}
use Rattle.std.specs.Fmt.{decimal, signed_decimal}
use Rattle.protox_descriptor.specs.Literal.{printed_byte}

-- two blanks for each level
abbrev pub indent : ℕ → List ℕ
indent zero = []
indent (suc depth) = codes "  " ++ indent depth

-- One level more. A level is a number of 32 bits.
abbrev pub deeper : ℕ → ℕ
deeper depth = min (depth + 1) 4294967295

-- what stands at a level under a name
abbrev pub At : Type 0
At = ℕ → List ℕ → List ℕ

-- ---- a line: a name and a value

abbrev pub value_line : List ℕ → At
value_line value depth name = indent depth ++ (name ++ (codes ": " ++ (value ++ codes "\n")))

-- Bytes stand in quotes, escaped as in string literals.
abbrev pub quoted : List ℕ → List ℕ
quoted bytes = codes "\"" ++ (flat_map printed_byte bytes ++ codes "\"")

abbrev pub bytes_line : List ℕ → At
bytes_line bytes = value_line (quoted bytes)

abbrev pub number_line : ℤ → At
number_line number = value_line (signed_decimal number)

abbrev pub count_line : ℕ → At
count_line number = value_line (decimal number)

abbrev pub flag_line : Bool → At
flag_line true = value_line (codes "true")
flag_line false = value_line (codes "false")

-- ---- a message: a name with `{`, what is inside, and `}`

abbrev pub opened : At
opened depth name = indent depth ++ (name ++ codes " {\n")

abbrev pub closed : ℕ → List ℕ
closed depth = indent depth ++ codes "}\n"

-- What is inside stands a level deeper.
abbrev pub within : (ℕ → List ℕ) → At
within inside depth name = opened depth name ++ (inside (deeper depth) ++ closed depth)

-- ---- what may be absent, and what is there several times

abbrev pub if_any : {A : Type 0} → (A → At) → Option A → At
if_any text None depth name = []
if_any text (Some part) depth name = text part depth name

abbrev pub each : {A : Type 0} → (A → At) → List A → At
each text parts depth name = flat_map (λ part. text part depth name) parts

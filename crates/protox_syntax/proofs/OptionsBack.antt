-- The text of an option is cut into the tokens of the option.
use Rattle.std.proofs.Common.{◌≡◌, inl, inr, ℕ, zero, suc, ◌^◌, ◌≤◌, true, false, leb, List, [], ◌∷◌, ◌++◌, map, flat_map, get_or, Option, Some, None, refl, sym, ap, ◌∙◌, subst, append_assoc, append-nil, arith}
use Rattle.std.proofs.lemmas.Bool.{le-leb, and_parts}
use Rattle.std.proofs.lemmas.Fmt.{decimal_digit}
use Rattle.std.specs.Prelude.{nat_lt}
use Rattle.std.specs.Fmt.{decimal}
use Rattle.std.specs.List.{list_all}
use Rattle.protox_descriptor.specs.Literal.{printed_byte}
use Rattle.protox_descriptor.specs.Printed.{Written, part_text, assigned_text, value_of, option_text}
use Rattle.protox_lexeme.specs.Lexemes.{cut}
use Rattle.protox_lexeme.specs.Lexicon.{is_word}
use Rattle.protox_lexeme.specs.Printed as lexed
use Rattle.protox_lexeme.specs.Shapes.{Shape, Ident, Int, Float, Str, Mark, LineComment, BlockComment, Newline, Invalid, Rows}
use Rattle.protox_lex.specs.LexesBack.{AreBytes, IsPrintable, ArePrintable}
use Rattle.protox_lex.proofs.Lemmas.{AtEnd, float_lexes, ident_lexes, int_lexes, mark_lexes}
use Rattle.protox_lex.proofs.Lemmas.{printed_spells, spelled_lexes}
use Rattle.protox_ast.specs.AstParts as ast
use Rattle.protox_ast.specs.Options.{name_part, uninterpreted}
use Rattle.protox_ast.specs.Places.{Place}
use Rattle.protox_ast.specs.Spelling as spell
use Rattle.protox_ast.specs.Spells.{shapes}
use Rattle.protox_ast.specs.Tree as t
use Rattle.protox_ast.specs.declared.ast.OptionNamePart.{OptionNamePart}
use Rattle.protox_syntax.specs.OptionsBack.{value_shapes, option_shapes, HasValue}
use Rattle.protox_syntax.proofs.Aggregates.{behind-print, front-print}
use Rattle.protox_syntax.proofs.OptionNames.{Lexes, Begins, end, front, blank, mark_front, joined, part_lex, parts_rows, parts_text, parts_stop, parts_lex}
use Rattle.protox_syntax.proofs.ValuesBack.{value_spells}

-- ---- aggregates

-- A printed token ends at the end of the text, or before a space.
shape_begins : (x : Shape) (rest : List ℕ) → IsPrintable x → AtEnd rest → Begins x (lexed.printed x) rest
shape_begins (Ident s) rest h e = record { lexes = λ at. ident_lexes at s rest h e }
shape_begins (Int n) rest h e = record { lexes = λ at. int_lexes at n rest h e }
shape_begins (Float s) rest h e = record { lexes = λ at. float_lexes at s rest h.0 h.1 h.2 e }
shape_begins (Str s) rest h e = record { lexes = λ at. spelled_lexes lexed.printed_byte printed_spells at s rest h }
shape_begins (Mark b) rest h e = record { lexes = λ at. mark_lexes at b rest h e }
shape_begins (LineComment s) rest h e = absurd h
shape_begins (BlockComment s) rest h e = absurd h
shape_begins Newline rest h e = absurd h
shape_begins Invalid rest h e = absurd h

spaced_end : (rows : Rows Place) (rest : List ℕ) → AtEnd (ast.spaced rows ++ (32 ∷ rest))
spaced_end [] rest = inr (rest, refl)
spaced_end (r ∷ rows) rest = inr ((lexed.printed r.shape ++ ast.spaced rows) ++ (32 ∷ rest), refl)

spaced_lex : (rows : Rows Place) (ys : List Shape) (rest : List ℕ) → ArePrintable (shapes rows) → Lexes ys rest → Lexes (shapes rows ++ ys) (ast.spaced rows ++ (32 ∷ rest))
spaced_lex [] ys rest h more = blank ys rest more
spaced_lex (r ∷ rows) ys rest h more =
    let text = lexed.printed r.shape in
    let behind = ast.spaced rows ++ (32 ∷ rest) in
    let one = front r.shape (shapes rows ++ ys) text behind (shape_begins r.shape behind h.0 (spaced_end rows rest)) (spaced_lex rows ys rest h.1 more) in
    let P : List ℕ → Type 0 = λ u. Lexes (r.shape ∷ (shapes rows ++ ys)) u in
    blank (r.shape ∷ (shapes rows ++ ys)) ((text ++ ast.spaced rows) ++ (32 ∷ rest)) (subst P (sym (append_assoc text (ast.spaced rows) (32 ∷ rest))) one)

-- a space, the tokens and another space
inside_lex : (rows : Rows Place) (ys : List Shape) (rest : List ℕ) → ArePrintable (shapes rows) → Lexes ys rest → Lexes (shapes rows ++ ys) (32 ∷ (ast.aggregate_text rows ++ (32 ∷ rest)))
inside_lex [] ys rest h more = blank ys (32 ∷ rest) (blank ys rest more)
inside_lex (r ∷ rows) ys rest h more = spaced_lex (r ∷ rows) ys rest h more

-- ---- values

-- One lexeme at the end of the text.
last : (x : Shape) (text : List ℕ) → Begins x text [] → Lexes (x ∷ []) text
last x text b = let P : List ℕ → Type 0 = λ u. Lexes (x ∷ []) u in subst P (append-nil text) (front x [] text [] b end)

last_shape : (x : Shape) → IsPrintable x → Lexes (x ∷ []) (lexed.printed x)
last_shape x h = last x (lexed.printed x) (shape_begins x [] h (inl refl))

-- A minus sign, and one lexeme.
minus_last : (x : Shape) (text : List ℕ) → Lexes (x ∷ []) text → Lexes (Mark 45 ∷ (x ∷ [])) (45 ∷ text)
minus_last x text more = mark_front 45 (x ∷ []) text refl (λ e. omega arith) (λ e. omega arith) more

-- ` = ` and a value
assigned_lex : (xs : List Shape) (text : List ℕ) → Lexes xs text → Lexes (Mark 61 ∷ xs) (32 ∷ (61 ∷ (32 ∷ text)))
assigned_lex xs text more = blank (Mark 61 ∷ xs) (61 ∷ (32 ∷ text)) (mark_front 61 xs (32 ∷ text) refl (λ e. omega arith) (λ e. omega arith) (blank xs text more))

bytes_more : (xs ys : List ℕ) → AreBytes xs → AreBytes ys → AreBytes (xs ++ ys)
bytes_more [] ys h k = k
bytes_more (b ∷ xs) ys h k = let (here, more) = and_parts (nat_lt b 256) (list_all (λ x. nat_lt x 256) xs) h in rw (here, bytes_more xs ys more k) refl

values_bytes : (xs : List (t.Text Place)) → ArePrintable (shapes (spell.many spell.string xs)) → AreBytes (ast.values xs)
values_bytes [] h = refl
values_bytes (x ∷ xs) h = bytes_more x.0 (ast.values xs) h.0 (values_bytes xs h.1)

-- The text behind the name.
abbrev text_of : List OptionNamePart → t.Value Place → List ℕ
text_of name v = assigned_text (value_of (uninterpreted (record { name = name; value = ast.value v })))

-- A negative integer prints with its sign.
negative_is : (name : List OptionNamePart) (minus place : Place) (n : ℕ) → n ≤ 2 ^ 63
    → text_of name (t.constant (Some minus) (t.integer (n, place))) ≡ 32 ∷ (61 ∷ (32 ∷ (45 ∷ decimal n)))
negative_is name minus place zero h = ap (λ ds. 32 ∷ (61 ∷ (32 ∷ (45 ∷ ds)))) (sym (decimal_digit 0 (omega arith)))
negative_is name minus place (suc n) h = let low : leb n 9223372036854775807 ≡ true = le-leb n 9223372036854775807 (omega arith) in rw low refl

value_lex : (name : List OptionNamePart) (v : t.Value Place) → ArePrintable (shapes (spell.value v)) → HasValue v → Lexes (Mark 61 ∷ value_shapes v) (text_of name v)
value_lex name (t.constant None (t.ident x)) h has = assigned_lex (Ident x.0 ∷ []) x.0 (last_shape (Ident x.0) h.0)
value_lex name (t.constant None (t.integer x)) h has = assigned_lex (Int x.0 ∷ []) (decimal x.0) (last_shape (Int x.0) h.0)
value_lex name (t.constant None (t.float x)) h has = assigned_lex (Float x.0 ∷ []) x.0 (last_shape (Float x.0) h.0)
value_lex name (t.constant (Some minus) (t.ident x)) h has = absurd has
value_lex name (t.constant (Some minus) (t.integer x)) h has =
    let P : List ℕ → Type 0 = λ u. Lexes (Mark 61 ∷ (Mark 45 ∷ (Int x.0 ∷ []))) u in
    subst P (sym (negative_is name minus x.1 x.0 has)) (assigned_lex (Mark 45 ∷ (Int x.0 ∷ [])) (45 ∷ decimal x.0) (minus_last (Int x.0) (decimal x.0) (last_shape (Int x.0) h.1.0)))
value_lex name (t.constant (Some minus) (t.float x)) h has = assigned_lex (Mark 45 ∷ (Float x.0 ∷ [])) (45 ∷ x.0) (minus_last (Float x.0) x.0 (last_shape (Float x.0) h.1.0))
value_lex name (t.strings x) h has =
    let s = ast.strings_value x in
    let bytes = bytes_more x.first.0 (ast.values x.others) h.0 (values_bytes x.others h.1) in
    let text = 34 ∷ flat_map printed_byte s ++ 34 ∷ [] in
    assigned_lex (Str s ∷ []) text (last (Str s) text (record { lexes = λ at. spelled_lexes printed_byte value_spells at s [] bytes }))
value_lex name (t.aggregate open_at inside close_at) h has =
    let close = spell.sign spell.close_brace close_at in
    let brace = mark_front 125 [] [] refl (λ e. omega arith) (λ e. omega arith) end in
    let behind = inside_lex inside (Mark 125 ∷ []) (125 ∷ []) (front-print inside close h.1) brace in
    let text = ast.aggregate_text inside ++ (32 ∷ (125 ∷ [])) in
    let all = mark_front 123 (shapes inside ++ (Mark 125 ∷ [])) (32 ∷ text) refl (λ e. omega arith) (λ e. omega arith) behind in
    let P : List Shape → Type 0 = λ ss. Lexes (Mark 61 ∷ (Mark 123 ∷ ss)) (text_of name (t.aggregate open_at inside close_at)) in
    subst P (sym (joined inside close []) ∙ append-nil (shapes (inside ++ close))) (assigned_lex (Mark 123 ∷ (shapes inside ++ (Mark 125 ∷ []))) (123 ∷ (32 ∷ text)) all)

-- ---- options

-- What follows the name begins with no byte of a word.
assigned_stop : (v : Option Written) → is_word (get_or (assigned_text v) 0 0) ≡ false
assigned_stop None = refl
assigned_stop (Some v) = refl

option_lex : (b : t.Body Place) → ArePrintable (shapes (spell.body b)) → HasValue b.value → Lexes (option_shapes b) (option_text (uninterpreted (ast.body b)))
option_lex b h has =
    let first = spell.part b.first in
    let others = parts_rows b.others in
    let equals = spell.sign spell.equals b.equals_sign in
    let behind = equals ++ spell.value b.value in
    let more = behind-print first (others ++ behind) h in
    let name = (ast.body b).name in
    let text = text_of name b.value in
    let stop = assigned_stop (value_of (uninterpreted (ast.body b))) in
    let value = value_lex name b.value (behind-print others behind more).1 has in
    let xs = Mark 61 ∷ value_shapes b.value in
    let later = parts_lex b.others xs text (front-print others behind more) stop value in
    let all = part_lex b.first (shapes others ++ xs) (parts_text b.others ++ text) (front-print first (others ++ behind) h) (parts_stop b.others text stop) later in
    let tokens : option_shapes b ≡ shapes first ++ (shapes others ++ xs) =
    joined first (others ++ equals) (value_shapes b.value) ∙ ap (λ ss. shapes first ++ ss) (joined others equals (value_shapes b.value)) in
    let front_text = part_text (name_part (ast.part b.first)) in
    let P : List ℕ → Type 0 = λ u. Lexes (shapes first ++ (shapes others ++ xs)) u in
    let Q : List Shape → Type 0 = λ ss. Lexes ss (option_text (uninterpreted (ast.body b))) in
    subst Q (sym tokens) (subst P (sym (append_assoc front_text (parts_text b.others) text)) all)

pub options_back : (b : t.Body Place) → ArePrintable (shapes (spell.body b)) → HasValue b.value
    → (map (λ l. l.shape) (cut 0 (option_text (uninterpreted (ast.body b)))) ≡ option_shapes b) × (flat_map (λ l. l.faults) (cut 0 (option_text (uninterpreted (ast.body b)))) ≡ [])
options_back b h has = (option_lex b h has).gives 0

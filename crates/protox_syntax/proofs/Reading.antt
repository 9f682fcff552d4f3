-- The code reads and notes exactly what the reader of the grammar reads and notes.
use Rattle.std.proofs.Common.{◌≡◌, ◌≤◌, ℕ, suc, true, [], ◌∷◌, ◌++◌, length, Option, Some, None, Result, Ok, Err, refl, sym, ap, subst, ◌∙◌, arith}
use Rattle.std.proofs.lemmas.List.{length-append}
use Rattle.protox_lexeme.specs.Shapes.{Rows}
use Rattle.protox_ast.proofs.Lemmas.{Stand}
use Rattle.protox_ast.specs.Ast as ast
use Rattle.protox_ast.specs.Places.{Place}
use Rattle.protox_ast.specs.Spelling.{spell}
use Rattle.protox_ast.specs.Tree as tree
use Rattle.protox_grammar.specs.Bodies as bodies
use Rattle.protox_grammar.specs.Class.{all, only, in_set}
use Rattle.protox_grammar.specs.Noted.{steps, trace}
use Rattle.protox_grammar.specs.Reader.{Refusal, Unexpected, Deep, ◌>>=◌}
use Rattle.protox_grammar.specs.Reads.{read}
use Rattle.protox_grammar.specs.Rule as rule
use Rattle.protox_grammar.specs.Rules as r
use Rattle.protox_grammar.specs.Steps.{ANode, APackage, AKeyword, ADeepBody, ADeeperBody, AnOpenBrace, ACloseBrace, Token, Note, Steps, has_deep, star_trace, then_steps, tokens}
use Rattle.protox_grammar.specs.Told.{behind, node_notes, first_behind, keyword_behind, past, told, then_notes, IsFaultless}
use Rattle.protox_grammar.specs.Token as token
use Rattle.protox_grammar.proofs.Lemmas.{AllLie, IsShallow, Shows, all-lie, all-says, bind_ok}
use Rattle.protox_grammar.proofs.Lemmas.{both-lie, err-ok, faultless-last, file-marks, left-shows}
use Rattle.protox_grammar.proofs.Lemmas.{map_err, notes, notes-append, ok_is, seq-shows}
use Rattle.protox_grammar.proofs.Lemmas.{shallow-front, then-lie, then-seen, told-append}
use Rattle.protox_grammar.proofs.Lemmas as grammar
use Rattle.protox_declarations.specs.inner.Options.{here}
use Rattle.protox_syntax.specs.inner.ParsedTable.{built_file}
use Rattle.protox_syntax.specs.inner.Statements.{levels, statement, statement_rule, statements-shows, syntax_if_any, notes_behind}
use Rattle.protox_syntax.specs.inner.Whole.{Whole, whole, all_notes, file_seen}

-- ---- reading

abbrev file_rule : rule.Rule Place (tree.File Place)
file_rule = bodies.file (bodies.mbody_at levels)

pub whole-shows : Shows file_seen file_rule.read whole
unfolding bodies.file whole
whole-shows = left-shows _ file_seen (λ x. refl) (seq-shows syntax_if_any.shows statements-shows)

-- the code reads a file
pub whole-read : (xs : Rows Place) (v : Whole) (rest : Rows Place) → whole xs ≡ Ok (v, rest) → (f : tree.File Place) × (read levels xs ≡ Ok f) × (file_seen f ≡ v)
unfolding read
whole-read xs v rest e =
    let p = bind_ok (file_rule.read xs) (λ y. Ok (file_seen y.0, y.1)) (v, rest) (sym (whole-shows.same xs) ∙ e) in
    (p.0.0, ap (λ w. w >>= λ x. Ok x.0) p.1, ap (λ (w : Whole × Rows Place). w.0) (ok_is (file_seen p.0.0, p.0.1) (v, rest) p.2))

pub err-read : (xs : Rows Place) (e : Refusal) → whole xs ≡ Err e → file_rule.read xs ≡ Err e
err-read xs e h = map_err file_seen (file_rule.read xs) e (sym (whole-shows.same xs) ∙ h)

pub none-read : (xs : Rows Place) (e : Refusal) → whole xs ≡ Err e → (f : tree.File Place) → read levels xs ≡ Ok f → ⊥
unfolding read
none-read xs e h f g = absurd (err-ok f e (sym (ap (λ w. w >>= λ x. Ok x.0) (err-read xs e h)) ∙ g))

-- the file of what was read
pub built_file-is : (size : ℕ) (f : tree.File Place) → built_file size (spell f) (file_seen f) ≡ ast.file size f
built_file-is size f = at f.syntax
  where
    at : (o : Option (tree.Syntax Place)) → built_file size (spell (record { syntax = o; statements = f.statements })) (file_seen (record { syntax = o; statements = f.statements })) ≡ ast.file size (record { syntax = o; statements = f.statements })
    at None = refl
    at (Some x) = refl

-- rows that are read as a file spell it
pub built_file-of : (size : ℕ) (xs : Rows Place) (f : tree.File Place) → read levels xs ≡ Ok f → built_file size xs (file_seen f) ≡ ast.file size f
built_file-of size xs f e = ap (λ v. built_file size v (file_seen f)) ((grammar.accepts_iff here levels xs f).0 e).0.0 ∙ built_file-is size f

-- ---- notes

-- before any row
pub file-told : (xs : Rows Place) → told None here (trace levels xs) xs ≡ all_notes xs
unfolding bodies.file all_notes
file-told xs =
    let a = rule.optional (only token.syntax) r.syntax in
    let u : Rows Place → Steps Place = λ ys. star_trace (in_set all) statement_rule.read statement_rule.trace (suc (length ys)) ys in
    told-append None here (a.trace xs) (then_steps (a.read xs) (λ x. u x.1)) xs
    ∙ ap (λ n. n ++ told (first_behind None (a.trace xs)) (keyword_behind here (a.trace xs)) (then_steps (a.read xs) (λ x. u x.1)) (past (a.trace xs) xs)) (syntax_if_any.tells.says None here xs)
    ∙ ap (λ n. syntax_if_any.notes xs ++ n) (rest (a.read xs) refl ∙ then-seen _ a.read syntax_if_any.code syntax_if_any.shows (notes_behind None) xs)
  where
    rest : (q : Result (Option (tree.Syntax Place) × Rows Place) Refusal) → (rule.optional (only token.syntax) r.syntax).read xs ≡ q
        → told (first_behind None ((rule.optional (only token.syntax) r.syntax).trace xs)) (keyword_behind here ((rule.optional (only token.syntax) r.syntax).trace xs))
        (then_steps q (λ x. star_trace (in_set all) statement_rule.read statement_rule.trace (suc (length x.1)) x.1)) (past ((rule.optional (only token.syntax) r.syntax).trace xs) xs)
        ≡ then_notes (notes_behind None) q
    rest (Ok x) e =
        (λ i. told (grammar.syntax-first here None xs x e i) (keyword_behind here ((rule.optional (only token.syntax) r.syntax).trace xs)) (star_trace (in_set all) statement_rule.read statement_rule.trace (suc (length x.1)) x.1) (syntax_if_any.tells.left xs x e i))
        ∙ all-says (in_set all) statement None (keyword_behind here ((rule.optional (only token.syntax) r.syntax).trace xs)) x.1
    rest (Err d) e = refl

-- notes of rows lie in the source in which the rows stand
pub notes-lie : (low high : ℕ) (xs : Rows Place) → Stand low high xs → AllLie high (all_notes xs)
unfolding all_notes
notes-lie low high xs h =
    let a = rule.optional (only token.syntax) r.syntax in
    both-lie high (syntax_if_any.notes xs) (then_notes (notes_behind None) (syntax_if_any.code xs)) (syntax_if_any.tells.lies low high xs h)
    (subst (AllLie high) (then-seen _ a.read syntax_if_any.code syntax_if_any.shows (notes_behind None) xs)
    (then-lie _ a.read a.trace _ syntax_if_any.tells (notes_behind None) high (λ m ys k. all-lie (in_set all) statement None m high ys tt k) low xs h))

-- ---- where reading stops

pub left-within : (xs : Rows Place) (left : ℕ) → whole xs ≡ Err (Unexpected left) → left ≤ length xs
left-within xs left e =
    let v = (grammar.laws here levels).traced.halts xs (Unexpected left) (err-read xs (Unexpected left) e) in
    omega (arith, v.left_is, ap length v.parts, length-append (tokens (trace levels xs)) v.rest)

-- a body that is too deep is noted
deep-told : (p : Option (tree.Package Place)) (w : Place) (l : Steps Place) (xs : Rows Place) → IsShallow (notes l) → has_deep l ≡ true → IsFaultless (told p w l xs) → ⊥
deep-told p w [] xs s h f = absurd cc
deep-told p w (Token r ∷ l) xs s h f = deep-told p w l (behind xs) s h f
deep-told p w (Note (ANode x) ∷ l) xs s h f = deep-told p w l xs s h (faultless-last (node_notes x xs) (told p w l xs) f)
deep-told None w (Note (APackage x) ∷ l) xs s h f = deep-told (Some x) w l xs s h f
deep-told (Some y) w (Note (APackage x) ∷ l) xs s h f = f.0
deep-told p w (Note (AKeyword m) ∷ l) xs s h f = deep-told p m l xs s h f
deep-told p w (Note (ADeepBody m) ∷ l) xs s h f = f.0
deep-told p w (Note (ADeeperBody m) ∷ l) xs s h f = s
deep-told p w (Note (AnOpenBrace m) ∷ l) xs s h f = deep-told p w l xs s h f.1
deep-told p w (Note (ACloseBrace m) ∷ l) xs s h f = deep-told p w l xs s h f.1

file-shallow : (f : tree.File Place) → file_rule.may f → IsShallow (notes (steps levels f))
unfolding bodies.file
file-shallow f h = (file-marks f h).1 tt

-- where reading stops at a body that is too deep, there is a fault
pub deep-noted : (xs : Rows Place) (left : ℕ) → whole xs ≡ Err (Deep left) → IsFaultless (all_notes xs) → ⊥
deep-noted xs left e f =
    let v = (grammar.laws here levels).traced.halts xs (Deep left) (err-read xs (Deep left) e) in
    let whole_shallow = subst IsShallow (ap notes v.goes_on ∙ notes-append (trace levels xs) v.later) (file-shallow v.tree v.tree_may) in
    let shallow = shallow-front (notes (trace levels xs)) (notes v.later) whole_shallow in
    deep-told None here (trace levels xs) xs shallow (v.deep left refl) (subst IsFaultless (sym (file-told xs)) f)

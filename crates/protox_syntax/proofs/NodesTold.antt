-- The notes of each checked node among steps. The rows behind the node are known by its last token.
use Rattle.std.proofs.Common.{◌≡◌, ◌≤◌, ℕ, zero, suc, ◌+◌, Bool, true, false, cond, [], ◌∷◌, ◌++◌, drop, length, Option, Some, None, refl, sym, ap, subst, arith, inl, inr}
use Rattle.std.specs.Prelude.{option_map}
use Rattle.protox_fault.specs.declared.error.ParseErrorKind.{ParseErrorKind}
use Rattle.protox_lexeme.specs.Shapes.{Row, Rows}
use Rattle.protox_ast.specs.AstParts.{strings_span, strings_value, text_of}
use Rattle.protox_ast.specs.CheckedNodes.{CheckedNode, ASyntax, AnImport, AReservedName, AGroupName, APackageAgain, ATooDeep, node_end}
use Rattle.protox_ast.specs.Checks.{WrongCheckedNode, is_group_name, is_ident, is_import_path, is_known_syntax, is_text}
use Rattle.protox_ast.specs.Places.{Place}
use Rattle.protox_ast.specs.Tree as t
use Rattle.protox_ast.specs.Truth.{is_run}
use Rattle.protox_grammar.specs.TagLaws.{map_node, map_package, map_steps}
use Rattle.protox_grammar.specs.Noted.{noted_nodes}
use Rattle.protox_grammar.specs.Reader.{head_in}
use Rattle.protox_grammar.specs.Steps.{Event, ANode, APackage, AKeyword, ADeepBody, ADeeperBody, AnOpenBrace, ACloseBrace, Token, Note, Steps, tokens}
use Rattle.protox_grammar.specs.Told.{Notes, at_once, behind, brace_notes, is_invalid, node_notes, noted, path_faults, ident_faults, text_faults, told, unless_so}
use Rattle.protox_grammar.specs.declared.note.Note as note_type
use Rattle.protox_grammar.specs.declared.note.Noted.TheVariants.{Fault}
use Rattle.protox_grammar.proofs.Lemmas.{ArePlaced, Holds, IsPlaced, event_end, holds-left}
use Rattle.protox_grammar.proofs.Lemmas.{holds-right}

-- the note of this fault
abbrev pub IsOfFault : ParseErrorKind → note_type.Note → Type 0
IsOfFault wrong note = note.noted ≡ Fault wrong

-- ---- a fault of a node is noted of it

test-has : (so : Bool) (f wrong : ParseErrorKind) (xs : Rows Place) → head_in is_invalid xs ≡ false → so ≡ false → wrong ≡ f → Holds (IsOfFault wrong) (noted (unless_so so f) xs)
test-has true f wrong xs v k e = absurd cc
test-has false f wrong xs v k e = subst (λ b. Holds (IsOfFault wrong) (cond b [] (record { left = length xs; noted = Fault f } ∷ []) ++ [])) (sym v) (inl (ap Fault (sym e)))

once-has : (so : Bool) (f wrong : ParseErrorKind) (xs : Rows Place) → so ≡ false → wrong ≡ f → Holds (IsOfFault wrong) (at_once (unless_so so f) xs)
once-has true f wrong xs k e = absurd cc
once-has false f wrong xs k e = inl (ap Fault (sym e))

-- a run of strings, if no invalid character follows it
pub node-has : (x : CheckedNode Place) (wrong : ParseErrorKind) (xs : Rows Place) → (is_run x ≡ true → head_in is_invalid xs ≡ false) → WrongCheckedNode (λ place. place.span) x wrong → Holds (IsOfFault wrong) (node_notes x xs)
node-has (ASyntax x) wrong xs v h = test-has (is_known_syntax (strings_value x)) _ wrong xs (v refl) h.0 h.1
node-has (AnImport x) wrong xs v (inl h) = holds-left (IsOfFault wrong) (noted (text_faults (strings_value x) (strings_span x)) xs) _ (test-has (is_text (strings_value x)) _ wrong xs (v refl) h.0 h.1)
node-has (AnImport x) wrong xs v (inr h) =
    holds-right (IsOfFault wrong) (noted (text_faults (strings_value x) (strings_span x)) xs) (noted (path_faults (text_of (strings_value x)) (strings_span x)) xs)
    (test-has (is_import_path (text_of (strings_value x))) _ wrong xs (v refl) h.0 h.1)
node-has (AReservedName x) wrong xs v (inl h) = holds-left (IsOfFault wrong) (noted (text_faults (strings_value x) (strings_span x)) xs) _ (test-has (is_text (strings_value x)) _ wrong xs (v refl) h.0 h.1)
node-has (AReservedName x) wrong xs v (inr h) =
    holds-right (IsOfFault wrong) (noted (text_faults (strings_value x) (strings_span x)) xs) (noted (ident_faults (text_of (strings_value x)) (strings_span x)) xs)
    (test-has (is_ident (text_of (strings_value x))) _ wrong xs (v refl) h.0 h.1)
node-has (AGroupName x) wrong xs v h = once-has (is_group_name x.0) _ wrong xs h.0 h.1
node-has (APackageAgain first again) wrong xs v h = inl (ap Fault (sym h))
node-has (ATooDeep keyword open_at) wrong xs v h = inl (ap Fault (sym h))

-- ---- steps whose rows are marked with their numbers

-- each of the rows is marked with its number, from this one on
abbrev pub AreNumbered : ℕ → Rows ℕ → Type 0
AreNumbered c [] = Unit {0}
AreNumbered c (r ∷ rs) = (r.at ≡ c) × AreNumbered (suc c) rs

-- the row before that, if there is one, has the number before
abbrev IsLast : ℕ → Option (Row ℕ) → Type 0
IsLast c None = Unit {0}
IsLast c (Some r) = suc r.at ≡ c

-- A noted node ends with the row before those that come next.
event-ends : (c : ℕ) (last : Option (Row ℕ)) (e : Event ℕ) (rest : Rows ℕ) → IsLast c last → IsPlaced last e rest → suc (event_end e) ≡ c
event-ends c None e rest h p = absurd p
event-ends c (Some r) e rest h p = omega (arith, h, p.0)

drop-none : (xs : Rows Place) → drop 0 xs ≡ xs
drop-none [] = refl
drop-none (x ∷ xs) = refl

drop-behind : (k : ℕ) (xs : Rows Place) → drop (suc k) xs ≡ drop k (behind xs)
drop-behind zero [] = refl
drop-behind (suc k) [] = refl
drop-behind k (x ∷ xs) = refl

module _ (place : ℕ → Place) (wrong : ParseErrorKind) where
  -- The node ends `n` rows behind, among the rows taken. If its fault is noted there, it is among
  -- these notes.
  pub record IsToldOf (x : CheckedNode ℕ) (c count : ℕ) (ns : Notes) (xs : Rows Place) : Type 0 where
    pub past : ℕ
    pub at : past + c ≡ suc (node_end x)
    pub within : past ≤ count
    pub has : Holds (IsOfFault wrong) (node_notes (map_node place x) (drop past xs)) → Holds (IsOfFault wrong) ns

  -- right here
  told-here : (x y : CheckedNode ℕ) (c count : ℕ) (ns : Notes) (xs : Rows Place) → y ≡ x → suc (node_end y) ≡ c → IsToldOf x c count (node_notes (map_node place y) xs ++ ns) xs
  told-here x y c count ns xs same ends = record {
    past = 0;
    at = omega (arith, ends, ap node_end same);
    within = omega arith;
    has = λ h.
        holds-left (IsOfFault wrong) (node_notes (map_node place y) xs) ns
        (subst (λ u. Holds (IsOfFault wrong) (node_notes (map_node place u) xs)) (sym same) (subst (λ u. Holds (IsOfFault wrong) (node_notes (map_node place x) u)) (drop-none xs) h));
  }

  -- behind other notes
  told-later : (x : CheckedNode ℕ) (c count : ℕ) (ms ns : Notes) (xs : Rows Place) → IsToldOf x c count ns xs → IsToldOf x c count (ms ++ ns) xs
  told-later x c count ms ns xs v = record { past = v.past; at = v.at; within = v.within; has = λ h. holds-right (IsOfFault wrong) ms ns (v.has h) }

  -- behind a row
  told-behind : (x : CheckedNode ℕ) (c count : ℕ) (ns : Notes) (xs : Rows Place) → IsToldOf x (suc c) count ns (behind xs) → IsToldOf x c (suc count) ns xs
  told-behind x c count ns xs v = record {
    past = suc v.past;
    at = omega (arith, v.at);
    within = omega (arith, v.within);
    has = λ h. v.has (subst (λ u. Holds (IsOfFault wrong) (node_notes (map_node place x) u)) (drop-behind v.past xs) h);
  }

  abbrev tale : Option (t.Package ℕ) → ℕ → Steps ℕ → Rows Place → Notes
  tale first w l xs = told (option_map (map_package place) first) (place w) (map_steps place l) xs

  pub told-of : (c : ℕ) (last : Option (Row ℕ)) (l : Steps ℕ) (z : Rows ℕ) → ArePlaced last l z → IsLast c last → AreNumbered c (tokens l) → (first : Option (t.Package ℕ)) (w : ℕ) (xs : Rows Place) (x : CheckedNode ℕ)
      → Holds (λ u. u ≡ x) (noted_nodes first w l) → IsToldOf x c (length (tokens l)) (tale first w l xs) xs
  told-of c last [] z p h a first w xs x g = absurd g
  told-of c last (Token r ∷ l) z p h a first w xs x g = told-behind x c (length (tokens l)) (tale first w l (behind xs)) xs (told-of (suc c) (Some r) l z p (ap suc a.0) a.1 first w (behind xs) x g)
  told-of c last (Note (ANode y) ∷ l) z p h a first w xs x (inl g) = told-here x y c (length (tokens l)) (tale first w l xs) xs g (event-ends c last (ANode y) (tokens l ++ z) h p.0)
  told-of c last (Note (ANode y) ∷ l) z p h a first w xs x (inr g) = told-later x c (length (tokens l)) (node_notes (map_node place y) xs) (tale first w l xs) xs (told-of c last l z p.1 h a first w xs x g)
  told-of c last (Note (APackage y) ∷ l) z p h a None w xs x g = told-of c last l z p.1 h a (Some y) w xs x g
  told-of c last (Note (APackage y) ∷ l) z p h a (Some f) w xs x (inl g) = told-here x (APackageAgain f y) c (length (tokens l)) (tale (Some f) w l xs) xs g (event-ends c last (APackage y) (tokens l ++ z) h p.0)
  told-of c last (Note (APackage y) ∷ l) z p h a (Some f) w xs x (inr g) =
      told-later x c (length (tokens l)) (node_notes (map_node place (APackageAgain f y)) xs) (tale (Some f) w l xs) xs (told-of c last l z p.1 h a (Some f) w xs x g)
  told-of c last (Note (AKeyword m) ∷ l) z p h a first w xs x g = told-of c last l z p.1 h a first m xs x g
  told-of c last (Note (ADeepBody m) ∷ l) z p h a first w xs x (inl g) = told-here x (ATooDeep w m) c (length (tokens l)) (tale first w l xs) xs g (event-ends c last (ADeepBody m) (tokens l ++ z) h p.0)
  told-of c last (Note (ADeepBody m) ∷ l) z p h a first w xs x (inr g) = told-later x c (length (tokens l)) (node_notes (map_node place (ATooDeep w m)) xs) (tale first w l xs) xs (told-of c last l z p.1 h a first w xs x g)
  told-of c last (Note (ADeeperBody m) ∷ l) z p h a first w xs x g = told-of c last l z p.1 h a first w xs x g
  told-of c last (Note (AnOpenBrace m) ∷ l) z p h a first w xs x g = told-later x c (length (tokens l)) (brace_notes true xs) (tale first w l xs) xs (told-of c last l z p.1 h a first w xs x g)
  told-of c last (Note (ACloseBrace m) ∷ l) z p h a first w xs x g = told-later x c (length (tokens l)) (brace_notes false xs) (tale first w l xs) xs (told-of c last l z p.1 h a first w xs x g)

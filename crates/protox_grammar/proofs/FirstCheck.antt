-- The first fault that is noted among steps: its note, the node that has it, and how many rows are
-- left there.
use Rattle.std.proofs.Common.{◌≡◌, ℕ, suc, Bool, true, false, cond, [], ◌∷◌, ◌++◌, length, Option, Some, None, refl, sym, ap, subst, ◌∙◌, append_assoc, append-nil, inl, inr, ◌⊎◌}
use Rattle.protox_fault.specs.declared.error.ParseErrorKind.{ParseErrorKind}
use Rattle.protox_fault.specs.declared.error.ParseErrorKind.TheVariants as fault
use Rattle.protox_lexeme.specs.Shapes.{Rows}
use Rattle.protox_ast.specs.AstParts.{text_of, strings_span, strings_value}
use Rattle.protox_ast.specs.CheckedNodes.{CheckedNode, ASyntax, AnImport, AReservedName, AGroupName, APackageAgain, ATooDeep}
use Rattle.protox_ast.specs.Checks.{WrongCheckedNode, is_group_name, is_ident, is_known_syntax, is_text, is_import_path, package_span}
use Rattle.protox_ast.specs.Places.{Place}
use Rattle.protox_ast.specs.Tree as t
use Rattle.protox_grammar.specs.Noted.{noted_nodes}
use Rattle.protox_grammar.specs.Reader.{head_in}
use Rattle.protox_grammar.specs.Steps.{Event, ANode, APackage, AKeyword, ADeepBody, ADeeperBody, AnOpenBrace, ACloseBrace, Token, Note, Steps}
use Rattle.protox_grammar.specs.Told.{Notes, at_once, behind, first_with, is_invalid, keyword_with, node_notes, noted, run_note, past, span_of, told, unless_so, IsFaultless}
use Rattle.protox_grammar.specs.declared.note.Note as note_type
use Rattle.protox_grammar.specs.declared.note.Noted.TheVariants.{Fault}
use Rattle.protox_grammar.proofs.FineNotes.{faultless-both}
use Rattle.protox_grammar.proofs.Holding.{Holds}
use Rattle.protox_grammar.proofs.Telling.{told-append}

-- ---- one fault

-- This fault, noted while this many rows are left.
abbrev pub fault_note : ℕ → ParseErrorKind → note_type.Note
fault_note left f = record { left = left; noted = Fault f }

-- A fault is noted with the rows after the last one taken, or with that row as well.
abbrev pub IsLeftThere : ℕ → Rows Place → Type 0
IsLeftThere left xs = (left ≡ length xs) ⊎ (left ≡ suc (length xs))

abbrev IsNotedOf : Notes → Bool → ℕ → ParseErrorKind → Rows Place → Type 0
IsNotedOf ns so left f xs = (so ≡ false) × IsLeftThere left xs × (ns ≡ fault_note left f ∷ [])

one-by : (c : Bool) (f : ParseErrorKind) (xs : Rows Place) → head_in is_invalid xs ≡ c → (run_note f xs ≡ []) ⊎ (IsLeftThere (length xs) xs × (run_note f xs ≡ fault_note (length xs) f ∷ []))
one-by true f xs e = inl (ap (λ b. cond b [] (fault_note (length xs) f ∷ [])) e)
one-by false f xs e = inr (inl refl, ap (λ b. cond b [] (fault_note (length xs) f ∷ [])) e)

test-by : (so : Bool) (f : ParseErrorKind) (xs : Rows Place) → (noted (unless_so so f) xs ≡ []) ⊎ IsNotedOf (noted (unless_so so f) xs) so (length xs) f xs
test-by true f xs = inl refl
test-by false f xs = elim (one-by (head_in is_invalid xs) f xs refl) [
  | inl e ↦ inl (append-nil (run_note f xs) ∙ e)
  | inr e ↦ inr (refl, e.0, append-nil (run_note f xs) ∙ e.1)
]

once-by : (so : Bool) (f : ParseErrorKind) (xs : Rows Place) → (at_once (unless_so so f) xs ≡ []) ⊎ IsNotedOf (at_once (unless_so so f) xs) so (suc (length xs)) f xs
once-by true f xs = inl refl
once-by false f xs = inr (refl, inr refl, refl)

-- ---- of a node

-- The notes of the node begin with a fault of the node.
pub record IsNodeFault (x : CheckedNode Place) (xs : Rows Place) : Type 0 where
  pub fault : ParseErrorKind
  pub left : ℕ
  pub more : Notes
  pub is : node_notes x xs ≡ fault_note left fault ∷ more
  pub left_is : IsLeftThere left xs
  pub is_wrong : WrongCheckedNode (λ place. place.span) x fault

-- Two tests, one after the other.
either-by : {W : ParseErrorKind → Type 0} (a b : Bool) (f g : ParseErrorKind) (xs : Rows Place) → (a ≡ false → W f) → (b ≡ false → W g)
    → (noted (unless_so a f) xs ++ noted (unless_so b g) xs ≡ []) ⊎ ((wrong : ParseErrorKind) × (left : ℕ) × (more : Notes) × (noted (unless_so a f) xs ++ noted (unless_so b g) xs ≡ fault_note left wrong ∷ more) × IsLeftThere left xs × W wrong)
either-by a b f g xs h k = elim (test-by a f xs) [
  | inl e ↦ elim (test-by b g xs) [
    | inl d ↦ inl (λ i. e i ++ d i)
    | inr d ↦ inr (g, length xs, [], (λ i. e i ++ d.2 i), d.1, k d.0)
  ]
  | inr e ↦ inr (f, length xs, noted (unless_so b g) xs, ap (λ u. u ++ noted (unless_so b g) xs) e.2, e.1, h e.0)
]

pub node-by : (x : CheckedNode Place) (xs : Rows Place) → (node_notes x xs ≡ []) ⊎ IsNodeFault x xs
node-by (ASyntax x) xs = elim (test-by (is_known_syntax (strings_value x)) (fault.UnknownSyntax (strings_span x) (text_of (strings_value x))) xs) [
  | inl e ↦ inl e
  | inr e ↦ inr (record { fault = fault.UnknownSyntax (strings_span x) (text_of (strings_value x)); left = length xs; more = []; is = e.2; left_is = e.1; is_wrong = (e.0, refl) })
]
node-by (AnImport x) xs =
    elim (either-by {W = WrongCheckedNode (λ (p : Place). p.span) (AnImport x)} (is_text (strings_value x)) (is_import_path (text_of (strings_value x))) (fault.InvalidUtf8String (strings_span x)) (fault.InvalidImport (strings_span x)) xs
    (λ e. inl (e, refl)) (λ e. inr (e, refl))) [
      | inl e ↦ inl e
      | inr e ↦ inr (record { fault = e.0; left = e.1; more = e.2; is = e.3; left_is = e.4; is_wrong = e.5 })
    ]
node-by (AReservedName x) xs =
    elim (either-by {W = WrongCheckedNode (λ (p : Place). p.span) (AReservedName x)} (is_text (strings_value x)) (is_ident (text_of (strings_value x))) (fault.InvalidUtf8String (strings_span x)) (fault.InvalidIdentifier (strings_span x)) xs
    (λ e. inl (e, refl)) (λ e. inr (e, refl))) [
      | inl e ↦ inl e
      | inr e ↦ inr (record { fault = e.0; left = e.1; more = e.2; is = e.3; left_is = e.4; is_wrong = e.5 })
    ]
node-by (AGroupName x) xs = elim (once-by (is_group_name x.0) (fault.InvalidGroupName x.1.span) xs) [
  | inl e ↦ inl e
  | inr e ↦ inr (record { fault = fault.InvalidGroupName x.1.span; left = suc (length xs); more = []; is = e.2; left_is = e.1; is_wrong = (e.0, refl) })
]
node-by (APackageAgain first again) xs =
    inr (record { fault = fault.DuplicatePackage (package_span span_of first) (package_span span_of again); left = length xs; more = []; is = refl; left_is = inl refl; is_wrong = refl })
node-by (ATooDeep keyword open_at) xs = inr (record { fault = fault.MessageNestingTooDeep keyword.span; left = length xs; more = []; is = refl; left_is = inl refl; is_wrong = refl })

-- ---- of a note

-- It is no brace of an aggregate.
abbrev pub IsNoBrace : {M : Type 0} → Event M → Type 0
IsNoBrace (AnOpenBrace m) = ⊥
IsNoBrace (ACloseBrace m) = ⊥
IsNoBrace e = Unit {0}

-- What is noted of an event begins with a fault of a node that it notes.
pub record IsEventFault (first : Option (t.Package Place)) (w : Place) (e : Event Place) (xs : Rows Place) : Type 0 where
  pub node : CheckedNode Place
  pub no_brace : IsNoBrace e
  pub its : IsNodeFault node xs
  pub told_is : told first w (Note e ∷ []) xs ≡ node_notes node xs
  pub noted : noted_nodes first w (Note e ∷ []) ≡ node ∷ []

none-so : (ns : Notes) → ns ≡ [] → IsFaultless ns
none-so ns e = subst IsFaultless (sym e) tt

of-node : (first : Option (t.Package Place)) (w : Place) (e : Event Place) (x : CheckedNode Place) (xs : Rows Place) → IsNoBrace e → told first w (Note e ∷ []) xs ≡ node_notes x xs ++ [] → noted_nodes first w (Note e ∷ []) ≡ x ∷ []
    → IsFaultless (told first w (Note e ∷ []) xs) ⊎ IsEventFault first w e xs
of-node first w e x xs b q n = elim (node-by x xs) [
  | inl h ↦ inl (none-so (told first w (Note e ∷ []) xs) (q ∙ append-nil (node_notes x xs) ∙ h))
  | inr h ↦ inr (record { node = x; no_brace = b; its = h; told_is = q ∙ append-nil (node_notes x xs); noted = n })
]

event-by : (first : Option (t.Package Place)) (w : Place) (e : Event Place) (xs : Rows Place) → IsFaultless (told first w (Note e ∷ []) xs) ⊎ IsEventFault first w e xs
event-by first w (ANode x) xs = of-node first w (ANode x) x xs tt refl refl
event-by None w (APackage x) xs = inl tt
event-by (Some f) w (APackage x) xs = of-node (Some f) w (APackage x) (APackageAgain f x) xs tt refl refl
event-by first w (AKeyword m) xs = inl tt
event-by first w (ADeepBody m) xs = of-node first w (ADeepBody m) (ATooDeep w m) xs tt refl refl
event-by first w (ADeeperBody m) xs = inl tt
event-by first w (AnOpenBrace m) xs = inl (tt, tt)
event-by first w (ACloseBrace m) xs = inl (tt, tt)

-- ---- of steps

-- No fault is noted among the first of these steps. The note after them begins with this fault, of
-- this node.
pub record FirstCheck (first : Option (t.Package Place)) (w : Place) (l : Steps Place) (xs : Rows Place) : Type 0 where
  pub before : Steps Place
  pub event : Event Place
  pub no_brace : IsNoBrace event
  pub later : Steps Place
  pub parts : l ≡ before ++ (Note event ∷ later)
  pub faultless : IsFaultless (told first w before xs)
  pub fault : ParseErrorKind
  pub left : ℕ
  pub more : Notes
  pub told_is : told first w l xs ≡ told first w before xs ++ (fault_note left fault ∷ more)
  pub left_is : IsLeftThere left (past before xs)
  pub node : CheckedNode Place
  pub is_wrong : WrongCheckedNode (λ place. place.span) node fault
  pub noted : Holds (λ u. u ≡ node) (noted_nodes first w (before ++ (Note event ∷ [])))

-- The node is noted after another note, too.
noted-later : (first : Option (t.Package Place)) (w : Place) (e : Event Place) (l : Steps Place) (P : CheckedNode Place → Type 0) → Holds P (noted_nodes (first_with first e) (keyword_with w e) l) → Holds P (noted_nodes first w (Note e ∷ l))
noted-later first w (ANode x) l P h = inr h
noted-later None w (APackage x) l P h = h
noted-later (Some f) w (APackage x) l P h = inr h
noted-later first w (AKeyword m) l P h = h
noted-later first w (ADeepBody m) l P h = inr h
noted-later first w (ADeeperBody m) l P h = h
noted-later first w (AnOpenBrace m) l P h = h
noted-later first w (ACloseBrace m) l P h = h

module _ (first : Option (t.Package Place)) (w : Place) (e : Event Place) (l : Steps Place) (xs : Rows Place) where
  abbrev own : Notes
  own = told first w (Note e ∷ []) xs

  abbrev next : Steps Place → Notes
  next k = told (first_with first e) (keyword_with w e) k xs

  split : (k : Steps Place) → told first w (Note e ∷ k) xs ≡ own ++ next k
  split k = told-append first w (Note e ∷ []) k xs

  none-later : IsFaultless own → IsFaultless (next l) → IsFaultless (told first w (Note e ∷ l) xs)
  none-later h k = subst IsFaultless (sym (split l)) (faultless-both own (next l) h k)

  later-on : IsFaultless own → FirstCheck (first_with first e) (keyword_with w e) l xs → FirstCheck first w (Note e ∷ l) xs
  later-on h v = record {
    before = Note e ∷ v.before;
    event = v.event;
    no_brace = v.no_brace;
    later = v.later;
    parts = ap (λ u. Note e ∷ u) v.parts;
    faultless = subst IsFaultless (sym (split v.before)) (faultless-both own (next v.before) h v.faultless);
    fault = v.fault;
    left = v.left;
    more = v.more;
    told_is = split l ∙ ap (λ u. own ++ u) v.told_is ∙ sym (append_assoc own (next v.before) (fault_note v.left v.fault ∷ v.more)) ∙ ap (λ u. u ++ (fault_note v.left v.fault ∷ v.more)) (sym (split v.before));
    left_is = v.left_is;
    node = v.node;
    is_wrong = v.is_wrong;
    noted = noted-later first w e (v.before ++ (Note v.event ∷ [])) (λ u. u ≡ v.node) v.noted;
  }

  right-here : IsEventFault first w e xs → FirstCheck first w (Note e ∷ l) xs
  right-here v = record {
    before = [];
    event = e;
    no_brace = v.no_brace;
    later = l;
    parts = refl;
    faultless = tt;
    fault = v.its.fault;
    left = v.its.left;
    more = v.its.more ++ next l;
    told_is = split l ∙ ap (λ u. u ++ next l) (v.told_is ∙ v.its.is);
    left_is = v.its.left_is;
    node = v.node;
    is_wrong = v.its.is_wrong;
    noted = subst (Holds (λ u. u ≡ v.node)) (sym v.noted) (inl refl);
  }

-- No fault is noted, or there is a first one.
pub first-check : (first : Option (t.Package Place)) (w : Place) (l : Steps Place) (xs : Rows Place) → IsFaultless (told first w l xs) ⊎ FirstCheck first w l xs
first-check first w [] xs = inl tt
first-check first w (Token r ∷ l) xs = elim (first-check first w l (behind xs)) [
  | inl h ↦ inl h
  | inr v ↦ inr (record {
    before = Token r ∷ v.before;
    event = v.event;
    no_brace = v.no_brace;
    later = v.later;
    parts = ap (λ u. Token r ∷ u) v.parts;
    faultless = v.faultless;
    fault = v.fault;
    left = v.left;
    more = v.more;
    told_is = v.told_is;
    left_is = v.left_is;
    node = v.node;
    is_wrong = v.is_wrong;
    noted = v.noted;
  })
]
first-check first w (Note e ∷ l) xs = elim (event-by first w e xs) [
  | inl h ↦ elim (first-check (first_with first e) (keyword_with w e) l xs) [
    | inl k ↦ inl (none-later first w e l xs h k)
    | inr v ↦ inr (later-on first w e l xs h v)
  ]
  | inr v ↦ inr (right-here first w e l xs v)
]

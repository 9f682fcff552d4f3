-- Statements that are read of a part behind which others come.
use Rattle.std.proofs.Common.{◌≡◌, ◌≤◌, ◌-◌, ℕ, nat_eq, Bool, true, false, List, [], ◌∷◌, ◌++◌, drop, length, map, Option, Some, None, option_map, Ok, refl, sym, ap, subst, ◌∙◌, append-nil, append_assoc, inl, inr, true≢false, arith}
use Rattle.std.proofs.lemmas.Bool.{eqb-true}
use Rattle.std.proofs.lemmas.List.{map-append}
use Rattle.std.specs.List.{list_all}
use Rattle.protox_fault.specs.Faults.{Span}
use Rattle.protox_lexeme.specs.Shapes.{Row, Rows}
use Rattle.protox_ast.specs.Places.{Place}
use Rattle.protox_ast.specs.Spelling as s
use Rattle.protox_ast.specs.Tree as tree
use Rattle.protox_ast.specs.declared.ast.Comments.{Comments}
use Rattle.protox_ast.specs.declared.ast.File.{File}
use Rattle.protox_ast.specs.declared.ast.FileItem.{FileItem}
use Rattle.protox_ast.specs.declared.ast.Syntax.{Syntax}
use Rattle.protox_grammar.specs.Told.{AreValidTokens, IsFaultless, Notes}
use Rattle.protox_grammar.specs.declared.note.Note.{Note}
use Rattle.protox_syntax.proofs.Further.{further}
use Rattle.protox_syntax.proofs.Growing.{place-all, right-last, with-last}
use Rattle.protox_syntax.proofs.OneMore.{many-more}
use Rattle.protox_syntax.proofs.ReadRight.{drop-all, none_faulty, statement-next, syntax-next}
use Rattle.protox_syntax.proofs.RightFiles.{right-begun}
use Rattle.protox_syntax.specs.NextStatement.{IsRight, is_no_fault}
use Rattle.protox_syntax.specs.declared.parts.Part.{Part}
use Rattle.protox_syntax.specs.declared.statement_types.Statement.{Statement}
use Rattle.protox_syntax.specs.inner.Parts.{IsHeld, IsInPart, IsLast, IsReached, place_in, with_statement, with_statements, with_syntax}
use Rattle.protox_syntax.specs.inner.SoFar.{IsRightSoFar, begun}
use Rattle.protox_syntax.specs.inner.SomeRead.{AreRead, IsOneRead, IsSyntaxRead}
use Rattle.protox_syntax.specs.inner.Statements.{no_statements, statement, statement_seen, syntax_if_any, syntax_seen}

-- what is noted behind the notes before is no fault
noted-right : (before more new : Notes) → new ≡ before ++ more → list_all (λ (n : Note). is_no_fault n.noted) (drop (length before) new) ≡ true → IsFaultless more
noted-right before more new added right = none_faulty more (ap (list_all (λ (n : Note). is_no_fault n.noted)) (sym (ap (drop (length before)) added ∙ drop-all before more)) ∙ right)

pub one-read : (rows ahead : Rows Place) (head now : File) (x : Statement) (before new : Notes) → AreValidTokens rows → statement.code rows ≡ Ok (x, ahead) → new ≡ before ++ statement.notes (place_in head) rows
    → list_all (λ (n : Note). is_no_fault n.noted) (drop (length before) new) ≡ true → now ≡ with_statement head x → (ahead ≡ [] → ⊥) → IsOneRead rows ahead head now
one-read rows ahead head now x before new valid read added right is some = record {
  found = x;
  next = statement-next (place_in head) rows ahead x valid read (noted-right before (statement.notes (place_in head) rows) new added right);
  now_is = is;
  some = some;
}

pub none-read : (rows : Rows Place) (head : File) → AreRead rows rows head head
none-read rows head = record { them = []; rows = refl; right = tt; now_is = refl; some = λ none. absurd (none refl) }

pub read-more : (old mid new : Rows Place) (head h now : File) → AreRead old mid head h → IsOneRead mid new h now → AreRead old new head now
read-more old mid new head h now a n =
    let place : place_in h ≡ _ = ap place_in a.now_is ∙ place-all head a.them in
    record {
      them = a.them ++ n.next.it ∷ [];
      rows = a.rows ∙ ap (λ l. s.many s.statement a.them ++ l) n.next.rows ∙ sym (append_assoc (s.many s.statement a.them) (s.statement n.next.it) new) ∙ ap (λ l. l ++ new) (sym (many-more s.statement a.them n.next.it));
      right = right-last (place_in head) a.them n.next.it a.right (subst (λ q. IsRight q n.next.it) place n.next.right);
      now_is = n.now_is ∙ (λ i. with_statement (a.now_is i) (n.next.seen i)) ∙ sym (with-last head (map statement_seen a.them) (statement_seen n.next.it)) ∙ ap (with_statements head) (sym (map-append statement_seen a.them (n.next.it ∷ [])));
      some = λ none. n.some;
    }

pub syntax-read : (rows ahead : Rows Place) (head now : File) (found : Option (Syntax × (Span × Comments))) (start new : Notes) → AreValidTokens rows → start ≡ [] → syntax_if_any.code rows ≡ Ok (found, ahead) → new ≡ start ++ syntax_if_any.notes rows
    → list_all (λ (n : Note). is_no_fault n.noted) new ≡ true → now ≡ with_syntax head found → (ahead ≡ [] → ⊥) → IsSyntaxRead rows ahead head now
syntax-read rows ahead head now found start new valid none read added right is some = record {
  found = found;
  next = syntax-next rows ahead found valid read (none_faulty (syntax_if_any.notes rows) (ap (list_all (λ (n : Note). is_no_fault n.noted)) (sym (added ∙ ap (λ l. l ++ syntax_if_any.notes rows) none)) ∙ right));
  now_is = is;
  some = some;
}

-- ---- the syntax statement of the first part

module _ (source : List ℕ) (part : Part) (left ahead : Rows Place) (gone : List FileItem) (head now : File) (i : IsInPart source part left gone head) (at_start : i.first ≡ true) (q : IsSyntaxRead left ahead head now) where
  none-yet : i.f ≡ begun None
  none-yet = by i.last
    where
      by : IsLast part.begins i.first i.read i.f → i.f ≡ begun None
      by (inl n) = n.3
      by (inr n) = absurd (true≢false (sym at_start ∙ n.0))

  held-with : (x : tree.Syntax Place) → IsReached (begun None) gone head → IsHeld (syntax_seen x).0 no_statements gone (with_syntax head (Some (syntax_seen x)))
  held-with x reached = let held = reached.held in record { syntax_is = refl; package_is = held.package_is; imports = held.imports; options = held.options; items = held.items }

  opened-some : (x : tree.Syntax Place) → left ≡ s.syntax x ++ ahead → IsRightSoFar None (begun (Some x)) → IsInPart source part ahead gone (with_syntax head (Some (syntax_seen x)))
  opened-some x rows right =
      let some : (r : Row Place) × (rs : Rows Place) × (s.syntax x ≡ r ∷ rs) = (_, _, refl) in
      further source part left ahead gone head i some.0 some.1 (rows ∙ ap (λ l. l ++ ahead) some.2) q.some (begun (Some x)) (with_syntax head (Some (syntax_seen x)))
      (append-nil (s.syntax x) ∙ some.2 ∙ ap (λ (f : tree.File Place). s.spell f ++ (some.0 ∷ some.1)) (sym none-yet))
      (record { right = right; syntax_span = refl; held = held-with x (subst (λ (f : tree.File Place). IsReached f gone head) none-yet i.reached) })

  pub opened : IsInPart source part ahead gone now
  opened = subst (λ (h : File). IsInPart source part ahead gone h) (sym q.now_is) (by q.next.it q.next.rows q.next.seen (right-begun left ahead q.found q.next))
    where
      by : (it : Option (tree.Syntax Place)) → left ≡ s.maybe s.syntax it ++ ahead → q.found ≡ option_map syntax_seen it → IsRightSoFar None (begun it) → IsInPart source part ahead gone (with_syntax head q.found)
      by None rows seen right = subst (λ o. IsInPart source part ahead gone (with_syntax head o)) (sym seen) (subst (λ l. IsInPart source part l gone head) rows i)
      by (Some x) rows seen right = subst (λ o. IsInPart source part ahead gone (with_syntax head o)) (sym seen) (opened-some x rows right)

-- Some row is left.
pub some-left : (left : Rows Place) (none : Bool) → none ≡ nat_eq (length left) 0 → none ≡ false → left ≡ [] → ⊥
some-left left none is h e = true≢false (sym (ap (λ l. nat_eq (length l) 0) e) ∙ sym is ∙ h)

-- Nothing is there, or something is.
empty-none : {A : Type 0} (xs : List A) (none : Bool) → none ≡ nat_eq (length xs) 0 → none ≡ true → xs ≡ []
empty-none [] none is h = refl
empty-none (x ∷ xs) none is h = absurd (omega (arith, eqb-true (length (x ∷ xs)) 0 (sym is ∙ h)))

pub vec-empty : {A : Type 0} (xs : List A) (n : ℕ) (none : Bool) → n ≡ length xs → none ≡ nat_eq n 0 → none ≡ true → xs ≡ []
vec-empty xs n none long is h = empty-none xs none (is ∙ ap (λ k. nat_eq k 0) long) h

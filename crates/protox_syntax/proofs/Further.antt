-- More is read of a part.
use Rattle.std.proofs.Common.{◌≡◌, ℕ, inl, inr, false, List, [], ◌∷◌, ◌++◌, map, refl, sym, ap, subst, ◌∙◌, append_assoc}
use Rattle.protox_lexeme.specs.Shapes.{Row, Rows}
use Rattle.protox_lexeme.specs.Table.{table_of}
use Rattle.protox_ast.proofs.Lemmas.{each-back}
use Rattle.protox_ast.specs.Basics.{Each}
use Rattle.protox_ast.specs.Places.{Place}
use Rattle.protox_ast.specs.Spelling as s
use Rattle.protox_ast.specs.Tree as tree
use Rattle.protox_ast.specs.declared.ast.File.{File}
use Rattle.protox_ast.specs.declared.ast.FileItem.{FileItem}
use Rattle.protox_grammar.specs.Told.{AreValidTokens}
use Rattle.protox_syntax.proofs.Flawless.{tokens-of}
use Rattle.protox_syntax.proofs.Growing.{and_statements, reached-all, spell-all}
use Rattle.protox_syntax.proofs.Rows.{IsRead, read-rows, whole-is}
use Rattle.protox_syntax.specs.declared.parts.Part.{Part}
use Rattle.protox_syntax.specs.inner.Parts.{IsFlawless, IsInPart, IsReached, places, rows, with_statements}
use Rattle.protox_syntax.specs.inner.SomeRead.{AreRead}
use Rattle.protox_syntax.specs.inner.Statements.{statement_seen}

-- ---- lists in parts

module _ {A : Type 0} (a b : List A) (x : A) (c : List A) where
  one-back : (a ++ (b ++ x ∷ [])) ++ c ≡ a ++ (b ++ x ∷ c)
  one-back = append_assoc a (b ++ x ∷ []) c ∙ ap (λ l. a ++ l) (append_assoc b (x ∷ []) c)

  one-front : (d : List A) → (a ++ (b ++ x ∷ [])) ++ (c ++ d) ≡ a ++ ((b ++ x ∷ c) ++ d)
  one-front d = append_assoc a (b ++ x ∷ []) (c ++ d) ∙ ap (λ l. a ++ l) (append_assoc b (x ∷ []) (c ++ d) ∙ sym (append_assoc b (x ∷ c) d))

-- each statement has a row
spelled-some : (x : tree.Statement Place) → (r : Row Place) × (rs : Rows Place) × (s.statement x ≡ r ∷ rs)
spelled-some (tree.an_empty place) = (_, _, refl)
spelled-some (tree.an_import x) = (_, _, refl)
spelled-some (tree.a_package x) = (_, _, refl)
spelled-some (tree.an_option x) = (_, _, refl)
spelled-some (tree.an_extend (tree.extend_of keyword extendee open_at es close_at)) = (_, _, refl)
spelled-some (tree.a_message (tree.message_of keyword name b)) = (_, _, refl)
spelled-some (tree.an_enum x) = (_, _, refl)
spelled-some (tree.a_service x) = (_, _, refl)

-- ---- a part, where more of it is read

module _ (source : List ℕ) (part : Part) (left ahead : Rows Place) (gone : List FileItem) (head : File) (i : IsInPart source part left gone head) where
  module _ (r : Row Place) (rs : Rows Place) (took : left ≡ (r ∷ rs) ++ ahead) (ends : ahead ≡ [] → ⊥) where
    abbrev m : IsRead i.first [] i.left i.behind (r ∷ rs) ahead
    m = read-rows i.behind i.first i.left r rs ahead (inl ends) (sym i.rows_are ∙ took)

    -- with another file so far, whose rows these are too
    pub further : (g : tree.File Place) (now : File) → s.spell g ≡ s.spell i.f ++ (r ∷ rs) → IsReached g gone now → IsInPart source part ahead gone now
    further g now spelled reached = record {
      f = g;
      first = false;
      outside = i.outside;
      read = i.read ++ (m.front ++ m.last ∷ []);
      left = m.back;
      behind = i.behind;
      all = i.all ∙ ap (λ l. i.outside ++ (i.read ++ (l ++ i.behind))) m.split ∙ ap (λ l. i.outside ++ l) (sym (one-front i.read m.front m.last m.back i.behind));
      table_is = i.table_is ∙ ap table_of (ap (λ l. i.read ++ l) m.split ∙ sym (one-back i.read m.front m.last m.back));
      begun_here = i.begun_here;
      flawless_before = i.flawless_before;
      flawless = subst (Each IsFlawless) (ap (λ l. i.read ++ l) m.split ∙ sym (one-back i.read m.front m.last m.back)) i.flawless;
      rows_are = m.left_is;
      whole = i.whole ∙ ap (λ l. s.spell i.f ++ l) (whole-is i.first i.left i.behind (r ∷ rs) ahead m)
          ∙ sym (append_assoc (s.spell i.f) (r ∷ rs) (places false (m.back ++ i.behind))) ∙ ap (λ l. l ++ places false (m.back ++ i.behind)) (sym spelled);
      reached = reached;
      last = inr (refl, i.read ++ m.front, m.last, sym (append_assoc i.read m.front (m.last ∷ [])), m.row);
    }

  -- some statements are read
  pub all-further : (now : File) → AreRead left ahead head now → IsInPart source part ahead gone now
  all-further now a = by a.them a.rows a.some (subst (λ (h : File). IsReached (and_statements i.f a.them) gone h) (sym a.now_is) (reached-all i.f a.them gone head i.reached a.right)) a.now_is
    where
      by : (them : List (tree.Statement Place)) → left ≡ s.many s.statement them ++ ahead → ((them ≡ [] → ⊥) → ahead ≡ [] → ⊥) → IsReached (and_statements i.f them) gone now → now ≡ with_statements head (map statement_seen them) → IsInPart source part ahead gone now
      by [] rows some reached is = subst (λ (h : File). IsInPart source part ahead gone h) (sym is) (subst (λ l. IsInPart source part l gone head) rows i)
      by (x ∷ them) rows some reached is =
          let first = spelled-some x in
          let more = s.many s.statement them in
          further first.0 (first.1 ++ more) (rows ∙ ap (λ l. (l ++ more) ++ ahead) first.2) (some (λ e. absurd cc)) (and_statements i.f (x ∷ them)) now
          (spell-all i.f (x ∷ them) ∙ ap (λ l. s.spell i.f ++ (l ++ more)) first.2) reached

-- The rows that are left in a part are valid tokens.
pub tokens-left : (source : List ℕ) (part : Part) (left : Rows Place) (gone : List FileItem) (head : File) (i : IsInPart source part left gone head) → AreValidTokens left
tokens-left source part left gone head i = subst AreValidTokens (sym i.rows_are) (tokens-of i.first i.left (each-back IsFlawless i.read i.left i.flawless))

-- The rows behind some others are valid tokens if all are.
pub valid-behind : (xs ys : Rows Place) → AreValidTokens (xs ++ ys) → AreValidTokens ys
valid-behind [] ys valid = valid
valid-behind (x ∷ xs) ys valid = valid-behind xs ys valid.1

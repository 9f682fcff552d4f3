-- The laws of a file.
use Rattle.std.proofs.Common.{codes, ◌≡◌, ◌≤◌, ℕ, suc, true, List, [], ◌∷◌, ◌++◌, length, Ok, Err, refl, sym, ap, subst, ◌∙◌, append_assoc, arith, inl, inr}
use Rattle.std.proofs.lemmas.List.{append-nil}
use Rattle.std.proofs.lemmas.Bool.{cases_lt}
use Rattle.protox_lexeme.specs.Shapes.{Rows}
use Rattle.protox_grammar.specs.Class.{Set, all, among, word, mark}
use Rattle.protox_grammar.specs.Rule.{Rule, Stops, Ends}
use Rattle.protox_grammar.specs.Reader.{Refusal, Unexpected, Deep}
use Rattle.protox_ast.specs.Tree as t
use Rattle.protox_ast.specs.Spelling as s
use Rattle.protox_ast.specs.KeywordWalk as k
use Rattle.protox_ast.specs.DepthWalk as d
use Rattle.protox_ast.specs.Spells.{Spells}
use Rattle.protox_ast.proofs.Lemmas.{nodes-deep, nodes-keep}
use Rattle.protox_grammar.specs.Bodies as rule
use Rattle.protox_grammar.specs.Reads.{read}
use Rattle.protox_grammar.specs.Grammar.{OneTree, AcceptsIff}
use Rattle.protox_grammar.proofs.Stops.{BeginsWith, UnexpectedRow, TooDeepRow, EndedRows}
use Rattle.protox_grammar.proofs.Takes.{bind_ok, ok_is}
use Rattle.protox_grammar.proofs.Reading.{Begins, bind_err, ok-err}
use Rattle.protox_grammar.proofs.Tracing.{opens-of}
use Rattle.protox_grammar.proofs.Forms.{Lawful}
use Rattle.protox_grammar.proofs.Messages.{file-laws}
use Rattle.protox_grammar.proofs.Levels.{statements-into, statements-keeps, statements-deep}
use Rattle.protox_grammar.proofs.Depths.{body-laws}

ends-stop : {M A : Type 0} (spell : A → Rows M) (ends : A → Rows M → Type 0) (P : Set) (xs : List A) (z : Rows M) → Ends spell ends P xs z → Stops P z
ends-stop spell ends P [] z h = h
ends-stop spell ends P (x ∷ xs) z h = ends-stop spell ends P xs z h.1

no-more : {M : Type 0} (z : Rows M) → Stops all z → z ≡ []
no-more [] h = refl
no-more (z ∷ zs) h = absurd cc

module _ {M : Type 0} (m : M) where
  abbrev pub file_at : ℕ → Rule M (t.File M)
  file_at n = rule.file (rule.mbody_at n)

  pub laws : (n : ℕ) → Lawful (file_at n) true (among (word (codes "syntax") ∷ mark s.semicolon ∷ word (codes "import") ∷ word (codes "package") ∷ word (codes "option") ∷ word (codes "extend") ∷ word (codes "message") ∷ word (codes "enum") ∷ word (codes "service") ∷ [])) all
  laws n = file-laws m k.KeepsMbody (rule.FitsMbody n) (rule.unsealed n).read (rule.unsealed n).steps (rule.unsealed n).trace (body-laws m n)

  pub may-of : (n : ℕ) (f : t.File M) → k.KeepsKeywords f → (file_at n).may f
  unfolding rule.file
  may-of n f h = statements-into k.KeepsMbody (d.statements_depth f.statements) (λ y g w. g) f.statements ((nodes-keep f).0 h) (omega arith)

  pub of-may : (n : ℕ) (f : t.File M) → (file_at n).may f → k.KeepsKeywords f
  unfolding rule.file
  of-may n f h = (nodes-keep f).1 (statements-keeps k.KeepsMbody (λ y g. g) f.statements h)

  fits-of : (n : ℕ) (f : t.File M) → k.KeepsKeywords f → d.depth f ≤ n → (file_at n).fits f
  unfolding rule.file
  fits-of n f h w = statements-into (rule.FitsMbody n) n (λ y g w. (g, w)) f.statements ((nodes-keep f).0 h) (subst (λ u. u ≤ n) (nodes-deep f) w)

  pub of-fits : (n : ℕ) (f : t.File M) → (file_at n).fits f → k.KeepsKeywords f × (d.depth f ≤ n)
  unfolding rule.file
  of-fits n f h = (
    (nodes-keep f).1 (statements-keeps (rule.FitsMbody n) (λ y g. g.0) f.statements h),
    subst (λ u. u ≤ n) (sym (nodes-deep f)) (statements-deep (rule.FitsMbody n) n (λ y g. g.1) f.statements h),
  )

  pub spelling : (n : ℕ) (f : t.File M) → (file_at n).spell f ≡ s.spell f
  unfolding rule.file
  spelling n f = refl

  pub ends-of : (n : ℕ) (f : t.File M) → k.KeepsKeywords f → (file_at n).ends f []
  ends-of n f h = (laws n).spelled.follow f [] (may-of n f h) tt

  pub nothing-left : (n : ℕ) (f : t.File M) (z : Rows M) → (file_at n).ends f z → z ≡ []
  unfolding rule.file
  nothing-left n f z h = no-more z (ends-stop (rule.statement (rule.mbody_at n)).spell (rule.statement (rule.mbody_at n)).ends all f.statements z h.1)

  pub one_tree : OneTree M
  unfolding rule.file
  one_tree rows f g a b = ((laws 0).spelled.once f g [] [] (ends-of 0 f a.1) (ends-of 0 g b.1) (ap (λ u. u ++ []) (sym a.0 ∙ b.0))).0

  to-tree : (n : ℕ) (rows : Rows M) (f : t.File M) → read n rows ≡ Ok f → Spells rows f × (d.depth f ≤ n)
  unfolding read
  to-tree n rows f e =
      let p = bind_ok ((file_at n).read rows) (λ x. Ok x.0) f e in
      let k = (laws n).read.takes rows p.0 p.1 in
      let same : p.0.0 ≡ f = ok_is p.0.0 f p.2 in
      let w = of-fits n p.0.0 k.fits in
      let is : rows ≡ s.spell p.0.0 = k.parts ∙ ap (λ z. (file_at n).spell p.0.0 ++ z) (nothing-left n p.0.0 p.0.1 k.ends) ∙ append-nil ((file_at n).spell p.0.0) ∙ spelling n p.0.0 in
      subst (λ v. Spells rows v × (d.depth v ≤ n)) same ((is, w.0), w.1)

  to-read : (n : ℕ) (rows : Rows M) (f : t.File M) → Spells rows f × (d.depth f ≤ n) → read n rows ≡ Ok f
  unfolding read
  to-read n rows f h =
      let a = (laws n).read.again f [] (fits-of n f h.0.1 h.1) (ends-of n f h.0.1) in
      let is : (file_at n).spell f ++ [] ≡ rows = append-nil ((file_at n).spell f) ∙ spelling n f ∙ sym h.0.0 in
      let b : (file_at n).read rows ≡ Ok (f, []) = subst (λ v. (file_at n).read v ≡ Ok (f, [])) is a in
      rw b refl

  pub accepts_iff : AcceptsIff M
  accepts_iff n rows f = (to-tree n rows f, to-read n rows f)

  pub failed-so : (n : ℕ) (rows : Rows M) (e : Refusal) → read n rows ≡ Err e → (file_at n).read rows ≡ Err e
  unfolding read
  failed-so n rows e h = elim (bind_err ((file_at n).read rows) (λ x. Ok x.0) e h) [
    | inl q ↦ q
    | inr q ↦ absurd (ok-err _ e q.2)
  ]

  begins : (n : ℕ) (xs : Rows M) (left : ℕ) (v : Begins (file_at n) xs left) → BeginsWith v.front
  begins n xs left v = (v.tree, v.more, (sym v.goes_on ∙ spelling n v.tree, of-may n v.tree v.tree_may))

  unexpected-at : (n left : ℕ) (rows : Rows M) → (file_at n).read rows ≡ Err (Unexpected (suc left)) → (v : Begins (file_at n) rows (suc left)) → (rest : Rows M) → v.rest ≡ rest → UnexpectedRow rows (suc left)
  unexpected-at n left rows h v [] e = absurd (omega (arith, v.left_is, ap length e))
  unexpected-at n left rows h v (x ∷ rest) e =
      let parts : rows ≡ v.front ++ (x ∷ rest) = v.parts ∙ ap (λ u. v.front ++ u) e in
      let len : suc left ≡ suc (length rest) = v.left_is ∙ ap length e in
      let h' : (file_at n).read (v.front ++ (x ∷ rest)) ≡ Err (Unexpected (suc (length rest))) = ap (file_at n).read (sym parts) ∙ h ∙ ap (λ u. Err (Unexpected u)) len in
      record {
        front = v.front;
        here = x;
        rest = rest;
        parts = parts;
        left_is = len;
        before = begins n rows (suc left) v;
        with_it = λ b. (laws n).read.tight (Unexpected (suc (length rest))) v.front x rest refl h' b.0 [] b.1 tt (ends-of n b.0 b.2.1)
            (append-nil ((file_at n).spell b.0) ∙ spelling n b.0 ∙ sym b.2.0 ∙ append_assoc v.front (x ∷ []) b.1);
      }

  pub unexpected_row : (n left : ℕ) (rows : Rows M) → read n rows ≡ Err (Unexpected (suc left)) → UnexpectedRow rows (suc left)
  unexpected_row n left rows h = let e = failed-so n rows _ h in let v = (laws n).read.viable rows _ e in unexpected-at n left rows e v v.rest refl

  pub deep : (n left : ℕ) (rows : Rows M) → read n rows ≡ Err (Deep (suc left)) → TooDeepRow n rows (suc left)
  deep n left rows h =
      let v = opens-of (file_at n) (laws n).traced (suc left) rows (failed-so n rows _ h) in
      let h' : (file_at n).read (v.front ++ (v.here ∷ v.rest)) ≡ Err (Deep (suc left)) = ap (file_at n).read (sym v.parts) ∙ failed-so n rows _ h in
      record {
        front = v.front;
        here = v.here;
        rest = v.rest;
        parts = v.parts;
        left_is = v.left_is;
        begins = (v.tree, v.more, (append_assoc v.front (v.here ∷ []) v.more ∙ sym v.goes_on ∙ spelling n v.tree, of-may n v.tree v.tree_may));
        deeper = λ f more b. elim (cases_lt n (d.depth f)) [
          | inl lt ↦ lt
          | inr le ↦ absurd ((laws n).read.tight (Deep (suc left)) v.front v.here v.rest v.left_is h' f [] more (fits-of n f b.1 le) (ends-of n f b.1)
              (append-nil ((file_at n).spell f) ∙ spelling n f ∙ sym b.0))
        ];
      }

  all-front : (n : ℕ) (rows : Rows M) (v : Begins (file_at n) rows 0) (rest : Rows M) → v.rest ≡ rest → rows ≡ v.front
  all-front n rows v [] e = v.parts ∙ ap (λ u. v.front ++ u) e ∙ append-nil v.front
  all-front n rows v (x ∷ rest) e = absurd (omega (arith, v.left_is, ap length e))

  pub ended : (n : ℕ) (rows : Rows M) → read n rows ≡ Err (Unexpected 0) → EndedRows rows
  ended n rows h =
      let e = failed-so n rows _ h in
      let v = (laws n).read.viable rows _ e in
      record {
        begins = subst BeginsWith (sym (all-front n rows v v.rest refl)) (begins n rows 0 v);
        no_file = λ f g. (laws n).read.short rows e f [] (ends-of n f g.1) (append-nil ((file_at n).spell f) ∙ spelling n f ∙ sym g.0);
      }

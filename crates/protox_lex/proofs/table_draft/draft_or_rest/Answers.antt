use Rattle.std.proofs.Common.{◌++◌, [], ap, ◌∙◌, inl, inr, append-nil, arith, Result, Ok, Err}
use Rattle.std.specs.Prelude.{IfOk}
use Rattle.protox_lexeme.specs.Table.{table_of}
use Rattle.protox_lex.proofs.Stretches.{reach_of, ends_joined, reach_joined}
use Rattle.protox_lex.proofs.table_draft.draft_or_rest.Goals as goal

ok_map : {T E : Type 0} (r : Result T E) (P Q R S : T → Type 0) → ((x : T) → P x → Q x → R x → S x) → IfOk r P → IfOk r Q → IfOk r R → IfOk r S
ok_map (Ok x) P Q R S f p q h = f x p q h
ok_map (Err e) P Q R S f p q h = tt

pub returns-then-beyond-long-clause-table : goal.returns-then-beyond-long-clause-table
returns-then-beyond-long-clause-table c =
    let t = c.in_ok-part.ensures.table in
    (t.0, t.1 [] ∙ c.in_ok-begun.ensures (t.0 ++ []) ∙ ap table_of (append-nil t.0), t.2.ends)

pub returns-then-beyond-long-clause-reach : goal.returns-then-beyond-long-clause-reach
returns-then-beyond-long-clause-reach c =
    let t = c.in_ok-part.ensures.table in
    inl (reach_of c.args.source.now c.args.from c.args.until c.in_ok-part.end t.0 t.2, omega arith)

pub returns-then-beyond-long-clause-near : goal.returns-then-beyond-long-clause-near
returns-then-beyond-long-clause-near c near =
    let t = c.in_ok-part.ensures.table in
    reach_of c.args.source.now c.args.from c.args.until c.in_ok-part.end t.0 t.2

pub returns-clause-table : goal.returns-clause-table
returns-clause-table c =
    let source = c.args.source.now in
    let t = c.in_ok-part.ensures.table in
    let mid = c.in_ok-part.end in
    ok_map c.draft-2.result _ _ _ _
    (λ x h _ _. (t.0 ++ h.0, h.1 [] ∙ t.1 (h.0 ++ []) ∙ c.in_ok-begun.ensures (t.0 ++ (h.0 ++ [])) ∙ ap (λ zs. table_of (t.0 ++ zs)) (append-nil h.0), ends_joined source c.args.from mid x.1 t.0 h.0 t.2.ends h.2.ends))
    c.draft-2.ensures.table c.draft-2.ensures.past c.draft-2.ensures.boundary

pub returns-clause-reach : goal.returns-clause-reach
returns-clause-reach c =
    let source = c.args.source.now in
    let t = c.in_ok-part.ensures.table in
    let mid = c.in_ok-part.end in
    let first = reach_of source c.args.from c.args.until mid t.0 t.2 in
    ok_map c.draft-2.result _ _ _ _
    (λ x h past within.
    inr (mid, first, omega arith, reach_joined source c.args.from c.args.until mid x.1 t.0 h.0 c.requires.fits (omega (arith, past, within.0)) t.2 h.2, past))
    c.draft-2.ensures.table c.draft-2.ensures.past c.draft-2.ensures.boundary

pub returns-clause-near : goal.returns-clause-near
returns-clause-near c near =
    absurd (omega (arith, near, c.in_ok-part.ensures.boundary.0))

use Rattle.std.proofs.Common.{◌≡◌, false, true, refl, ap, subst, ◌∙◌}
use Rattle.std.specs.Prelude.{IfSome}
use Rattle.protox_ast.specs.Places.{placed}
use Rattle.protox_syntax.proofs.Noting.{between-of}
use Rattle.protox_syntax.proofs.Opening.{is-some}
use Rattle.protox_syntax.proofs.PartRead.{all-valid, begun-open, begun-valid, read-in}
use Rattle.protox_syntax.specs.inner.SomeRead.{IsBehindFirst, IsSyntaxRead}
use Rattle.protox_syntax.proofs.some_part.read_some.Goals as goal

pub returns-clause-between : goal.returns-clause-between
returns-clause-between c gone b =
    let source = c.args.source.now in
    let part = c.args.part.now in
    let progress = c.args.progress.now in
    let head = c.args.head.now in
    let now = c.first_rows.new.head in
    let rows = c.in-Some.rows in
    let none = c.if-not-is_faultless.ensures.0 refl in
    let valid = all-valid source part progress c.requires.part c.requires.begins none in
    let first : part.begins ≡ true → IsSyntaxRead (placed part.table) rows head now = λ is. subst (λ o. IfSome o (λ rows. IsSyntaxRead (placed part.table) rows head now)) c.in-Some.is (c.in_ok-rows.ensures.first is valid) in
    let later : part.begins ≡ false → IsBehindFirst (placed part.table) rows = λ is. subst (λ o. IfSome o (λ rows. IsBehindFirst (placed part.table) rows)) c.in-Some.is (c.in_ok-rows.ensures.later is) in
    let same = c.in_ok-rows.ensures.same in
    let left = c.read_statements.new.rows in
    let end = c.read_statements.new.head in
    let a = c.in_ok-going.ensures.some c.requires.more (begun-valid source part progress c.requires.part c.requires.begins none gone head b rows now first later same) in
    let i = read-in source part progress c.requires.part c.requires.begins none gone head b rows now first later same left end a in
    between-of source part left gone end i c.note_progress.new.progress (c.note_progress.ensures.noted source gone end i (begun-open source part progress c.requires.part c.requires.begins none gone head b rows now first later same))

pub returns-clause-syntax : goal.returns-clause-syntax
returns-clause-syntax c some = c.in_ok-going.ensures.syntax ∙ ap (λ h. h.syntax) (c.in_ok-rows.ensures.same (c.requires.begins ∙ is-some c.args.progress.now.last some))

use Rattle.std.proofs.Common.{false, refl, sym, subst, ◌∙◌}
use Rattle.protox_ast.specs.Spelling as s
use Rattle.protox_ast.specs.declared.ast.File.{File}
use Rattle.protox_grammar.specs.Told.{AreValidTokens}
use Rattle.protox_rows.proofs.Lemmas.{all_read}
use Rattle.protox_syntax.proofs.Further.{valid-behind}
use Rattle.protox_syntax.proofs.SomeRead.{none-read, read-more}
use Rattle.protox_syntax.specs.inner.SomeRead.{AreRead}
use Rattle.protox_syntax.proofs.statement_loop.read_statements.Goals as goal

pub statements-init : goal.statements-init
statements-init c = record { some = λ more valid. none-read c.args.rows.now c.args.head.now; on = λ ends gone w. w; syntax = refl }

pub statements-smaller : goal.statements-smaller
statements-smaller c = c.in_ok-read_one.ensures.fewer c.in-On.is

pub statements-preserved : goal.statements-preserved
statements-preserved c =
    let i = c.statements.invariant in
    let rows = c.statements.rows in
    let head = c.statements.head in
    record {
      some = λ more valid.
          let a = i.some more valid in
          read-more c.args.rows.now rows c.read_one.new.rows c.args.head.now head c.read_one.new.head a
          (c.in_ok-read_one.ensures.one more (valid-behind (s.many s.statement a.them) rows (subst AreValidTokens a.rows valid)) c.in-On.is);
      on = λ ends gone w. c.in_ok-read_one.ensures.on ends gone (i.on ends gone w);
      syntax = c.in_ok-read_one.ensures.syntax ∙ i.syntax;
    }

pub returns-in-Cut-clause-some : goal.returns-in-Cut-clause-some
returns-in-Cut-clause-some c more valid =
    let stays = c.in_ok-read_one.ensures.stays more (λ e. let clash = sym c.in-Cut.is ∙ e in absurd cc) in
    subst (λ l. AreRead c.args.rows.now l c.args.head.now c.read_one.new.head) (sym stays.0) (subst (λ (h : File). AreRead c.args.rows.now c.statements.rows c.args.head.now h) (sym stays.1) (c.statements.invariant.some more valid))

pub returns-in-Odd-clause-some : goal.returns-in-Odd-clause-some
returns-in-Odd-clause-some c more valid =
    let stays = c.in_ok-read_one.ensures.stays more (λ e. let clash = sym c.in-Odd.is ∙ e in absurd cc) in
    subst (λ l. AreRead c.args.rows.now l c.args.head.now c.read_one.new.head) (sym stays.0) (subst (λ (h : File). AreRead c.args.rows.now c.statements.rows c.args.head.now h) (sym stays.1) (c.statements.invariant.some more valid))

pub returns-in-Cut-clause-on : goal.returns-in-Cut-clause-on
returns-in-Cut-clause-on c ends gone w = (_, c.in_ok-read_one.ensures.on ends gone (c.statements.invariant.on ends gone w))

pub returns-in-Odd-clause-on : goal.returns-in-Odd-clause-on
returns-in-Odd-clause-on c ends gone w = (_, c.in_ok-read_one.ensures.on ends gone (c.statements.invariant.on ends gone w))

pub returns-in-Cut-clause-all : goal.returns-in-Cut-clause-all
returns-in-Cut-clause-all c ends = let clash = sym c.in-Cut.is ∙ c.in_ok-read_one.ensures.goes ends in absurd cc

pub returns-in-Odd-clause-all : goal.returns-in-Odd-clause-all
returns-in-Odd-clause-all c ends = let clash = sym c.in-Odd.is ∙ c.in_ok-read_one.ensures.goes ends in absurd cc

pub returns-clause-on : goal.returns-clause-on
returns-clause-on c ends gone w = (_, c.statements.invariant.on ends gone w)

pub returns-clause-all : goal.returns-clause-all
returns-clause-all c ends = all_read c.statements.rows (sym c.is_empty.ensures ∙ c.statements-test.false)

pub returns-in-Cut-clause-syntax : goal.returns-in-Cut-clause-syntax
returns-in-Cut-clause-syntax c = c.in_ok-read_one.ensures.syntax ∙ c.statements.invariant.syntax

pub returns-in-Odd-clause-syntax : goal.returns-in-Odd-clause-syntax
returns-in-Odd-clause-syntax c = c.in_ok-read_one.ensures.syntax ∙ c.statements.invariant.syntax

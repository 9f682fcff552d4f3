-- The list of a small source, by the law that no check is lost.
use Rattle.std.proofs.Common.{◌≡◌, ◌<◌, ℕ, suc, List, [], ◌∷◌, ◌++◌, Any, codes, refl, sym, subst, arith, true≢false, inl}
use Rattle.std.specs.Prelude.{Contains}
use Rattle.protox_fault.specs.Faults.{span_from}
use Rattle.protox_fault.specs.declared.error.ParseErrorKind.{ParseErrorKind}
use Rattle.protox_fault.specs.declared.error.ParseErrorKind.TheVariants as fault
use Rattle.protox_lexeme.specs.Lexemes.{Lexeme}
use Rattle.protox_lexeme.specs.Shapes.{Invalid}
use Rattle.protox_ast.proofs.Lemmas.{any-from}
use Rattle.protox_ast.specs.Basics.{Each}
use Rattle.protox_ast.specs.CheckedNodes.{CheckedNode, APackageAgain, checked_nodes, node_end}
use Rattle.protox_ast.specs.Tree as t
use Rattle.protox_grammar.specs.Bodies as rule
use Rattle.protox_grammar.specs.Reader as reader
use Rattle.protox_grammar.specs.Reads.{read}
use Rattle.protox_grammar.specs.Rules as r
use Rattle.protox_grammar.proofs.Lemmas as x
use Rattle.protox_grammar.proofs.Lemmas.{IsMade, goes-on, joined, made}
use Rattle.protox_syntax.specs.LostChecks.{EndsReading, IsCheckedBefore, NoneIsLost}

-- package a; package b; $
abbrev packages : List Lexeme
packages = x.packages ++ (x.at Invalid 22 23 ∷ [])

-- the file of the two
abbrev file : t.File ℕ
file = made (joined packages 6 [])

abbrev package_at : List ℕ → ℕ → t.Package ℕ
package_at name n = record { keyword = n; name = record { first = (name, suc n); others = [] }; end = suc (suc n) }

abbrev again : CheckedNode ℕ
again = APackageAgain (package_at (codes "a") 0) (package_at (codes "b") 3)

record IsFile : Type 0 where
  is_read : IsMade (joined packages 6 [])
  nodes : checked_nodes file ≡ again ∷ []

is-file : IsFile
unfolding read r.syntax r.fullident r.«package» rule.statement rule.file reader.fixed reader.leaf reader.star_at reader.star
is-file = record { is_read = refl; nodes = refl }

-- The second package is in the list, though an invalid character follows it.
second-package : (errors : List ParseErrorKind) → NoneIsLost packages errors → Contains errors (fault.DuplicatePackage (span_from 0 10) (span_from 11 21))
second-package errors none =
    let wrong = fault.DuplicatePackage (span_from 0 10) (span_from 11 21) in
    let reached : Each (λ other. EndsReading other → node_end other < 6 → other ≡ again) (checked_nodes file) =
    subst (Each (λ other. EndsReading other → node_end other < 6 → other ≡ again)) (sym is-file.nodes) ((λ e l. absurd e), tt)
    in
    let checked : IsCheckedBefore packages file 6 wrong again = ((refl, (λ e. absurd (true≢false (sym e))), refl), reached, (λ e. absurd (true≢false (sym e)))) in
    none 6 file wrong (goes-on packages 6 [] (omega arith) is-file.is_read)
    (subst (Any (IsCheckedBefore packages file 6 wrong)) (sym is-file.nodes) (any-from (IsCheckedBefore packages file 6 wrong) (again ∷ []) (inl checked)))

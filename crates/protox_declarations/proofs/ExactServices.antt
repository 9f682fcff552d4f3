-- Services and their methods are read exactly.
use Rattle.std.proofs.Common.{[], ◌∷◌, refl, arith}
use Rattle.std.specs.Prelude.{codes}
use Rattle.protox_ast.specs.Places.{Place}
use Rattle.protox_ast.specs.Spelling as s
use Rattle.protox_lexeme.specs.Shapes.{Mark}
use Rattle.protox_grammar.specs.Class.{Set, among, none, only, union, words}
use Rattle.protox_grammar.specs.Reader.{fixed}
use Rattle.protox_grammar.specs.Token as token
use Rattle.protox_rows.specs.inner.Words.{always}
use Rattle.protox_rows.specs.declared.expected.Expected.{Expected}
use Rattle.protox_rows.specs.declared.expected.Expected.TheVariants as expected
use Rattle.protox_rows.proofs.Lemmas.{Exact, begun_with, choice-exact, ident-exact, mapped-exact}
use Rattle.protox_rows.proofs.Lemmas.{mark-exact, or-none, seq-exact, typename-exact, word-exact}
use Rattle.protox_declarations.proofs.ExactOptions.{option-exact-of}
use Rattle.protox_declarations.specs.inner.Services as rule
use Rattle.protox_declarations.specs.inner.BlockWords as said
use Rattle.protox_declarations.proofs.ExactEnums.{elements-exact, open_brace-exact, semicolon-exact}

-- The word `stream`.
abbrev pub streams : Set
streams = among (token.stream ∷ [])

pub rpc_type-exact : Exact (rule.rpc_type).code said.rpc_type expected.StreamOrType (union streams (union (only token.dot) words)) (λ x. only token.dot)
unfolding rule.rpc_type said.rpc_type
rpc_type-exact = choice-exact (begun_with streams (λ k. or-none (only token.stream k)) (mapped-exact (λ x. only token.dot) _ (λ x. refl)
    (seq-exact (word-exact (codes "stream") token.stream refl (omega arith) expected.StreamOrType) (λ m. typename-exact expected.TypeName) (λ m. refl) (λ m. refl))))
    (mapped-exact (λ x. only token.dot) _ (λ x. refl) (typename-exact expected.StreamOrType)) (λ x. refl)

pub rpc_element-exact : Exact (rule.rpc_element).code said.rpc_element expected.RpcBody (union (only token.semicolon) (only token.option)) (λ x. none)
unfolding rule.rpc_element said.rpc_element
rpc_element-exact = choice-exact (mapped-exact (λ x. none) _ (λ x. refl) (semicolon-exact expected.Semicolon)) (mapped-exact (λ x. none) _ (λ x. refl) (option-exact-of expected.RpcBody)) (λ x. refl)

pub rpc_end-exact : Exact (rule.rpc_end).code said.rpc_end expected.SemicolonOrBrace (union (only token.semicolon) (only token.open_brace)) (λ x. none)
unfolding rule.rpc_end rule.rpc_elements said.rpc_end said.rpc_elements
rpc_end-exact = choice-exact (mapped-exact (λ x. none) _ (λ x. refl) (semicolon-exact expected.Semicolon))
    (mapped-exact (λ x. none) _ (λ x. refl) (seq-exact (open_brace-exact expected.SemicolonOrBrace) (λ m. elements-exact rule.add_option [] rpc_element-exact refl refl refl) (λ m. refl) (λ m. refl))) (λ x. refl)

-- "(" and ")"
open_paren-exact : Exact (fixed (Mark s.open_paren)) (always expected.LeftParen) expected.LeftParen (only token.open_paren) (λ (x : Place). none)
open_paren-exact = mark-exact s.open_paren token.open_paren refl (omega arith) expected.LeftParen

close_paren-exact : Exact (fixed (Mark s.close_paren)) (always expected.DotOrRightParen) expected.DotOrRightParen (only token.close_paren) (λ (x : Place). none)
close_paren-exact = mark-exact s.close_paren token.close_paren refl (omega arith) expected.DotOrRightParen

pub output-exact : Exact (rule.output).code said.output expected.Returns (only token.returns) (λ x. none)
unfolding rule.output said.output
output-exact = mapped-exact (λ x. none) _ (λ x. refl)
    (seq-exact (word-exact (codes "returns") token.returns refl (omega arith) expected.Returns)
    (λ m. seq-exact open_paren-exact
    (λ m. seq-exact rpc_type-exact (λ x. seq-exact close_paren-exact (λ m. rpc_end-exact) (λ m. refl) (λ m. refl)) (λ x. refl) (λ x. refl)) (λ m. refl) (λ m. refl)) (λ m. refl) (λ m. refl))

pub rpc-exact : Exact (rule.rpc).code said.rpc expected.ServiceBody (only token.rpc) (λ x. none)
unfolding rule.rpc said.rpc
rpc-exact = mapped-exact (λ x. none) _ (λ x. refl)
    (seq-exact (word-exact (codes "rpc") token.rpc refl (omega arith) expected.ServiceBody)
    (λ m. seq-exact (ident-exact expected.Ident)
    (λ name. seq-exact open_paren-exact
    (λ m. seq-exact rpc_type-exact (λ x. seq-exact close_paren-exact (λ m. output-exact) (λ m. refl) (λ m. refl)) (λ x. refl) (λ x. refl)) (λ m. refl) (λ m. refl)) (λ x. refl) (λ x. refl)) (λ m. refl) (λ m. refl))

pub service_element-exact : Exact (rule.service_element).code said.service_element expected.ServiceBody (union (only token.semicolon) (union (only token.option) (only token.rpc))) (λ x. none)
unfolding rule.service_element said.service_element
service_element-exact = choice-exact (mapped-exact (λ x. none) _ (λ x. refl) (semicolon-exact expected.Semicolon))
    (choice-exact (mapped-exact (λ x. none) _ (λ x. refl) (option-exact-of expected.ServiceBody)) (mapped-exact (λ x. none) _ (λ x. refl) rpc-exact) (λ x. refl)) (λ x. refl)

pub service-exact : (e : Expected) → Exact (rule.service).code (said.service e) e (only token.service) (λ x. none)
unfolding rule.service rule.service_elements said.service said.service_elements
service-exact e = mapped-exact (λ x. none) _ (λ x. refl)
    (seq-exact (word-exact (codes "service") token.service refl (omega arith) e)
    (λ m. seq-exact (ident-exact expected.Ident)
    (λ name. seq-exact (open_brace-exact expected.LeftBrace) (λ m. elements-exact rule.add (rule.parts_of [] []) service_element-exact refl refl refl) (λ m. refl) (λ m. refl)) (λ x. refl) (λ x. refl)) (λ m. refl) (λ m. refl))

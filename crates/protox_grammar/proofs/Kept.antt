-- Reading a statement that is no package statement keeps the first package statement.
use Rattle.std.proofs.Common.{codes, ◌≡◌, Bool, true, false, cond, List, [], ◌∷◌, Option, Ok, refl, ap, ◌∙◌, inl, inr}
use Rattle.protox_lexeme.specs.Shapes.{Rows}
use Rattle.protox_ast.specs.inner.AggregateWalk as a
use Rattle.protox_ast.specs.inner.CheckWalk as c
use Rattle.protox_ast.specs.CheckedNodes.{CheckedNode, AnImport}
use Rattle.protox_ast.specs.KeywordWalk as k
use Rattle.protox_ast.specs.Places.{Place}
use Rattle.protox_ast.specs.Tree as t
use Rattle.protox_grammar.specs.Bodies as rule
use Rattle.protox_grammar.specs.Class.{Set, in_set, just_word, none, only}
use Rattle.protox_grammar.specs.Reader as reader
use Rattle.protox_grammar.specs.Reader.{Reader, head_in, mapped}
use Rattle.protox_grammar.specs.Rule.{Rule, optional}
use Rattle.protox_grammar.specs.Rules as r
use Rattle.protox_grammar.specs.Steps.{Steps, plain_trace, plainly, rows_before}
use Rattle.protox_grammar.specs.Told.{first_behind}
use Rattle.protox_grammar.specs.Token as token
use Rattle.protox_grammar.proofs.Braced as braced
use Rattle.protox_grammar.proofs.Depths.{body-laws}
use Rattle.protox_grammar.proofs.Enums as enums
use Rattle.protox_grammar.proofs.Forms.{Lawful, optional-laws}
use Rattle.protox_grammar.proofs.Messages as messages
use Rattle.protox_grammar.proofs.Options as options
use Rattle.protox_grammar.proofs.Parts as parts
use Rattle.protox_grammar.proofs.Services as services
use Rattle.protox_grammar.proofs.Stated.{KeepsFirst, kept-of}
use Rattle.protox_grammar.proofs.Takes.{bind_ok}
use Rattle.protox_grammar.proofs.Telling.{choice_trace}
use Rattle.protox_grammar.proofs.Told.{Says, tells-braced, syntax-tells, import-tells, enum-tells, extend-tells, message-tells, body-tells}
use Rattle.protox_grammar.proofs.Tracing.{IsTraced}

first-plainly : (p : Option (t.Package Place)) (rs : Rows Place) → first_behind p (plainly rs) ≡ p
first-plainly p [] = refl
first-plainly p (r ∷ rs) = first-plainly p rs

pub plain-first : {A : Type 0} (read : Reader Place A) → KeepsFirst read (plain_trace read)
plain-first read p xs x e = first-plainly p (rows_before xs (read xs))

-- one of two
pub choice-first : {A B : Type 0} (P : Set) (a : Reader Place A) (b : Reader Place B) (s u : Rows Place → Steps Place) → KeepsFirst a s → KeepsFirst b u
    → KeepsFirst (reader.either (in_set P) (mapped inl a) (mapped inr b)) (choice_trace (in_set P) s u)
choice-first {A = A} {B = B} P a b s u h g p xs x e = at (head_in (in_set P) xs) e
  where
    at : (c : Bool) → cond c (mapped inl a xs) (mapped inr b xs) ≡ Ok x → first_behind p (cond c (s xs) (u xs)) ≡ p
    at true f = let q = bind_ok (a xs) (λ y. Ok (inl y.0, y.1)) x f in h p xs q.0 q.1
    at false f = let q = bind_ok (b xs) (λ y. Ok (inr y.0, y.1)) x f in g p xs q.0 q.1

module _ (some : Place) where
  some_package : t.Package Place
  some_package = record { keyword = some; name = record { first = ([], some); others = [] }; end = some }

  -- a rule whose trees note no package statement
  first-of : {A : Type 0} (rule : Rule Place A) → IsTraced rule → (ns : (x : A) → List (CheckedNode Place)) → ((xs : Rows Place) (x : A × Rows Place) → rule.read xs ≡ Ok x → Says (rule.steps x.0) (ns x.0)) → KeepsFirst rule.read rule.trace
  first-of rule traced ns says p xs x e = ap (first_behind p) (traced.ok xs x e) ∙ kept-of some_package (rule.steps x.0) (ns x.0) (says xs x e) p some

  pub syntax-first : KeepsFirst (optional (only token.syntax) r.syntax).read (optional (only token.syntax) r.syntax).trace
  syntax-first = first-of (optional (only token.syntax) r.syntax) (optional-laws (only token.syntax) (parts.syntax-laws some) refl).traced (λ o. c.syntax_nodes o) (λ xs x e. (syntax-tells (Unit {0}) x.0).0)

  pub import-first : KeepsFirst (r.«import»).read (r.«import»).trace
  import-first = first-of r.«import» (parts.import-laws some).traced (λ x. AnImport x.value ∷ []) (λ xs x e. (import-tells (Unit {0}) x.0).0)

  pub package-first : KeepsFirst (r.«package»).read (r.«package»).trace
  package-first = first-of r.«package» (parts.package-laws some).traced (λ x. []) (λ xs x e. (tells-braced (Unit {0}) ((r.«package»).steps x.0) [] (braced.package-braced x.0)).0)

  pub option-first : KeepsFirst (r.option).read (r.option).trace
  option-first = first-of r.option (options.option-laws some).traced (λ x. []) (λ xs x e. (tells-braced (Unit {0}) ((r.option).steps x.0) (a.of_option x.0) (braced.option-braced x.0)).0)

  pub enum-first : KeepsFirst (r.enum).read (r.enum).trace
  enum-first = first-of r.enum (enums.enum-laws some).traced c.enum_nodes (λ xs x e. (enum-tells (Unit {0}) x.0).0)

  pub service-first : KeepsFirst (r.service).read (r.service).trace
  service-first = first-of r.service (services.service-laws some).traced (λ x. []) (λ xs x e. (tells-braced (Unit {0}) ((r.service).steps x.0) (a.of_service x.0) (braced.service-braced x.0)).0)

  -- bodies of at most 31 levels
  abbrev bodies : Rule Place (t.Mbody Place)
  bodies = rule.mbody_at 31

  abbrev pub message_rules : Lawful (rule.message bodies) false (just_word (codes "message")) none
  message_rules = messages.message-laws some k.KeepsMbody (rule.FitsMbody 31) (rule.unsealed 31).read (rule.unsealed 31).steps (rule.unsealed 31).trace (body-laws some 31)

  abbrev pub extend_rules : Lawful (rule.extend bodies) false (just_word (codes "extend")) none
  extend_rules = messages.extend-laws some k.KeepsMbody (rule.FitsMbody 31) (rule.unsealed 31).read (rule.unsealed 31).steps (rule.unsealed 31).trace (body-laws some 31)

  message-may : (x : t.Message Place) → (rule.message bodies).may x → rule.MessageHas k.KeepsMbody x
  unfolding rule.message
  message-may x h = h

  extend-may : (x : t.Extend Place) → (rule.extend bodies).may x → rule.ExtendHas k.KeepsMbody x
  unfolding rule.extend
  extend-may x h = h

  pub message-first : KeepsFirst (rule.message bodies).read (rule.message bodies).trace
  message-first = first-of (rule.message bodies) message_rules.traced (c.message_nodes 1)
      (λ xs x e. (message-tells (Unit {0}) bodies k.KeepsMbody 1 (body-tells (Unit {0}) 31 1 refl) x.0 (message-may x.0 (message_rules.read.within x.0 (message_rules.read.takes xs x e).fits))).0)

  pub extend-first : KeepsFirst (rule.extend bodies).read (rule.extend bodies).trace
  extend-first = first-of (rule.extend bodies) extend_rules.traced (c.extend_nodes 1)
      (λ xs x e. (extend-tells (Unit {0}) bodies k.KeepsMbody 1 (body-tells (Unit {0}) 31 1 refl) x.0 (extend-may x.0 (extend_rules.read.within x.0 (extend_rules.read.takes xs x e).fits))).0)

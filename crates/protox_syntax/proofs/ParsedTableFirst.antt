-- From the judgement of a source's table to its first fault.
use Rattle.std.proofs.Common.{◌≡◌, ℕ, List, length, Option, Some, None, Result, Ok, Err, IfErr, refl}
use Rattle.std.specs.Prelude.{IfSome}
use Rattle.protox_fault.specs.declared.error.ParseErrorKind.{ParseErrorKind}
use Rattle.protox_fault.specs.declared.error.SyntaxFailure.{SyntaxFailure}
use Rattle.protox_fault.specs.declared.error.SyntaxFailure.TheVariants.{Faults, OutOfMemory}
use Rattle.protox_lexeme.proofs.Lemmas.{first-in-mode, kinds-of}
use Rattle.protox_lexeme.specs.Lexemes.{cut}
use Rattle.protox_lexeme.specs.Table.{table_of}
use Rattle.protox_ast.specs.Basics.{first_of}
use Rattle.protox_ast.specs.FirstFault.{IsFirstFault}
use Rattle.protox_ast.specs.declared.ast.File.{File}
use Rattle.protox_syntax.specs.FirstFaults.{BeginsWithFirst}
use Rattle.protox_syntax.specs.FoundFaults.{AreAllFound}
use Rattle.protox_syntax.specs.inner.ParsedTable.{ParsesTable, RefusesTable}
use Rattle.protox_syntax.proofs.FirstFaults.{first-is}

if-some : {A : Type 0} (P : A → Type 0) (o : Option A) → ((x : A) → o ≡ Some x → P x) → IfSome o P
if-some P None h = tt
if-some P (Some x) h = h x refl

its-first : (source : List ℕ) (e : SyntaxFailure) → RefusesTable (table_of (cut 0 source)) (length source) e → BeginsWithFirst source e
its-first source OutOfMemory j = tt
its-first source (Faults v) j =
    let first : (f : ParseErrorKind) → first_of v.items ≡ Some f → IsFirstFault (cut 0 source) f = first-is (cut 0 source) (first-in-mode source) (kinds-of source) v.items j.0 j.3 in
    if-some (IsFirstFault (cut 0 source)) (first_of v.items) first

pub parsed-first : (source : List ℕ) (r : Result File SyntaxFailure) → ParsesTable (table_of (cut 0 source)) (length source) r → IfErr r (BeginsWithFirst source)
parsed-first source (Ok file) j = tt
parsed-first source (Err e) j = its-first source e j

found-by : (source : List ℕ) (e : SyntaxFailure) → RefusesTable (table_of (cut 0 source)) (length source) e → AreAllFound source e
found-by source OutOfMemory j = tt
found-by source (Faults v) j = j.4

pub parsed-found-all : (source : List ℕ) (r : Result File SyntaxFailure) → ParsesTable (table_of (cut 0 source)) (length source) r → IfErr r (AreAllFound source)
parsed-found-all source (Ok file) j = tt
parsed-found-all source (Err e) j = found-by source e j

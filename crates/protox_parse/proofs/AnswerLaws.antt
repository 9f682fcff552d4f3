-- The laws of what is answered.
use Rattle.std.proofs.Common.{◌≡◌, ℕ, List, length, inl, inr, sym, ap, ◌∙◌}
use Rattle.protox_ast.specs.Ast as ast
use Rattle.protox_ast.specs.Places.{Place}
use Rattle.protox_ast.specs.Tree as t
use Rattle.protox_ast.specs.declared.ast.File.{File}
use Rattle.protox_checks.proofs.Lemmas.{found-all, found-wrong}
use Rattle.protox_descriptor.specs.declared.descriptor.FileDescriptorProto.{FileDescriptorProto}
use Rattle.protox_fault.specs.declared.error.ParseErrorKind.{ParseErrorKind}
use Rattle.protox_generate.specs.File.{file_descriptor}
use Rattle.protox_parse.specs.Failures.{AreWrongOf}
use Rattle.protox_parse.specs.FaultLists.{AreListedOf, HasAllOf}
use Rattle.protox_parse.specs.Files.{IsTranslation}
use Rattle.protox_parse.specs.FirstFault.{IsFirstOfSource}
use Rattle.protox_parse.specs.Truth.{IsTrueOfSource}
use Rattle.protox_parse.specs.declared.failure.ParseFailure.{ParseFailure}
use Rattle.protox_parse.specs.declared.failure.ParseFailure.TheVariants.{Refused, OutOfMemory}
use Rattle.protox_syntax.proofs.Lemmas.{one-accepted}
use Rattle.protox_syntax.proofs.Lemmas as syntax

pub one_translation : (name source : List ℕ) (d e : FileDescriptorProto) → IsTranslation name source d → IsTranslation name source e → d ≡ e
one_translation name source d e a b =
    let same : a.0 ≡ b.0 = one-accepted source a.0 b.0 a.1 b.1 in
    a.3 ∙ ap (λ (f : t.File Place). file_descriptor name source (ast.file (length source) f)) same ∙ sym b.3

pub first_faults_are_true : (source : List ℕ) (wrong : ParseErrorKind) → IsFirstOfSource source wrong → IsTrueOfSource source wrong
first_faults_are_true source wrong (inl size) = inl size
first_faults_are_true source wrong (inr (inl first)) = inr (inl (syntax.first_faults_are_true source wrong first))
first_faults_are_true source wrong (inr (inr tree)) = inr (inr tree)

pub each_is_wrong : (file : File) (failure : ParseFailure) → AreListedOf file failure → AreWrongOf file failure
each_is_wrong file OutOfMemory h = tt
each_is_wrong file (Refused e) h = found-wrong file e.errors h

pub all_are_listed : (file : File) (failure : ParseFailure) → AreListedOf file failure → HasAllOf file failure
all_are_listed file OutOfMemory h = tt
all_are_listed file (Refused e) h = found-all file e.errors h

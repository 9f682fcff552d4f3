-- What `parse` promises of a refusal is said with the records of its faults.
use Rattle.std.proofs.Common.{ℕ, ◌≡◌, List, length, refl, subst}
use Rattle.protox_ast.specs.Accepted.{IsAccepted}
use Rattle.protox_ast.specs.Ast as ast_of
use Rattle.protox_ast.specs.Places.{Place}
use Rattle.protox_ast.specs.Tree as tree
use Rattle.protox_descriptor.specs.declared.descriptor.FileDescriptorProto.{FileDescriptorProto}
use Rattle.protox_parse.specs.Failures.{IsOutOfMemory, IsRefusalOf}
use Rattle.protox_parse.specs.FaultLists.{AreAllFound, AreLexicalAlone, AreListedOf, AreStanding, ExpectsTruly, NoCheckIsLost}
use Rattle.protox_parse.specs.Files.{IsFile, IsTranslation}
use Rattle.protox_parse.specs.FirstFault.{BeginsWithFirst}
use Rattle.protox_parse.specs.Refusal.{Refusal}
use Rattle.protox_parse.specs.declared.failure.ParseFailure.{ParseFailure}
use Rattle.protox_parse.specs.declared.failure.ParseFailure.TheVariants.{Refused, OutOfMemory}
use Rattle.protox_records.specs.Records.{records}
use Rattle.protox_bytes.specs.Failures.{IsWithout}
use Rattle.protox_bytes.specs.declared.BytesFailure.{BytesFailure}
use Rattle.protox_bytes.specs.declared.BytesFailure.TheVariants.{NotParsed, NotEncoded}
use Rattle.protox_encode.specs.declared.fault.EncodeError.TheVariants as error
use Rattle.protox_ffi.specs.Outcomes.{HasNoDescriptor, IsReport, reason}

pub reported : (name source : List ℕ) (failure : ParseFailure) (refusal : Refusal) → failure ≡ Refused refusal
    → IsRefusalOf name source failure → (IsFile source → IsOutOfMemory failure) → BeginsWithFirst source failure
    → ((f : tree.File Place) → IsAccepted source f → AreListedOf (ast_of.file (length source) f) failure)
    → AreStanding source failure → AreLexicalAlone source failure → AreAllFound source failure → NoCheckIsLost source failure → ExpectsTruly source failure
    → (bytes : List ℕ) → bytes ≡ records refusal.source refusal.errors → IsReport name source bytes
reported name source failure refusal is of_source only first checked stands lexical all_found no_check_lost words bytes spelled =
    record {
      refusal = refusal;
      spelled = spelled;
      wrong = λ right. subst IsOutOfMemory is (only right);
      of_source = subst (λ (f : ParseFailure). IsRefusalOf name source f) is of_source;
      first = subst (λ (f : ParseFailure). BeginsWithFirst source f) is first;
      checked = λ f accepted. subst (λ (e : ParseFailure). AreListedOf (ast_of.file (length source) f) e) is (checked f accepted);
      stands = subst (λ (f : ParseFailure). AreStanding source f) is stands;
      lexical = subst (λ (f : ParseFailure). AreLexicalAlone source f) is lexical;
      all_found = subst (λ (f : ParseFailure). AreAllFound source f) is all_found;
      no_check_lost = subst (λ (f : ParseFailure). NoCheckIsLost source f) is no_check_lost;
      words = subst (λ (f : ParseFailure). ExpectsTruly source f) is words;
    }

-- A source with a translation is a file, and a file has a translation under each name.
pub is_file : (name source : List ℕ) (d : FileDescriptorProto) → IsTranslation name source d → IsFile source
is_file name source d is = (is.0, is.1, is.2)

pub none_is_no_file : (name source : List ℕ) → ((d : FileDescriptorProto) → IsTranslation name source d → ⊥) → IsFile source → ⊥
none_is_no_file name source none is = none _ (is.0, is.1, is.2, refl)

-- A failure is a reason why there is no descriptor.
pub reason-is : (failure : BytesFailure) (name source : List ℕ) → ((d : FileDescriptorProto) → IsTranslation name source d → IsWithout d failure) → HasNoDescriptor name source (reason failure)
reason-is (NotParsed (Refused e)) name source without = none_is_no_file name source without
reason-is (NotParsed OutOfMemory) name source without = tt
reason-is (NotEncoded error.TooLarge) name source without = without
reason-is (NotEncoded error.NotAFloat) name source without = without
reason-is (NotEncoded error.OutOfMemory) name source without = tt

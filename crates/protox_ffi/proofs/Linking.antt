-- What is said of lent bytes is said of what linking finds. And one file more, as a text.
use Rattle.std.proofs.Common.{ℕ, ◌≡◌, ◌<◌, ◌+◌, List, [], ◌∷◌, ◌++◌, arith, get_or, length, sym, subst, ◌∙◌}
use Rattle.std.proofs.lemmas.List.{get_or-map, length-map}
use Rattle.std.proofs.lemmas.List.Elements.{All-get_or}
use Rattle.std.specs.Str.{IsUtf8}
use Rattle.protox_ffi.specs.Linked as linked
use Rattle.protox_ffi.specs.Linked.{AreNotAllTexts, HasNoAnswer, HasNoTexts, IsNoText, given_input}
use Rattle.protox_ffi.specs.LinkedOptions.{HasNoOptionAnswer}
use Rattle.protox_ffi.specs.declared.linked.Input.{Input}
use Rattle.protox_link_bytes.specs.Given.{GivenFile}
use Rattle.protox_link_bytes.specs.Given as text
use Rattle.protox_ffi.specs.Answers.{Answered, AnsweredBy, IsNotRefused, given, short, status_of, without, written, too_short}
use Rattle.protox_ffi.specs.declared.outcome.Reason.{Reason}
use Rattle.protox_ffi.specs.declared.outcome.Reason.TheVariants.{Accepted, Refused, OutOfMemory, NotUtf8, TooLarge, NotAFloat}

pub answered_by : (Found : ℕ → List ℕ → Type 0) (Missing : Reason → Type 0) (done : ℕ) (old new : List ℕ) (len status : ℕ) (bytes lent : List ℕ) → Found done bytes
    → lent ≡ bytes → Answered (λ written. written ≡ lent) (λ reason. ⊥) done old new len status → AnsweredBy Found Missing old new len status
answered_by Found Missing done old new len status bytes lent found is (given b e fits l n s) =
    written b (subst (λ kind. Found kind b) (sym s) (subst (Found done) (sym (e ∙ is)) found)) fits l n
answered_by Found Missing done old new len status bytes lent found is (short b e fits l n s) = too_short done b (subst (Found done) (sym (e ∙ is)) found) fits l n s
answered_by Found Missing done old new len status bytes lent found is (without reason none l n s) = absurd none

-- What is written with a status that is no refusal's is no refusal.
pub not_refused : (Found : List ℕ → Type 0) (done : ℕ) (old new : List ℕ) (len status : ℕ) → IsNotRefused done → Answered Found (λ reason. ⊥) done old new len status → IsNotRefused status
not_refused Found done old new len status other (given b e fits l n s) is = other (sym s ∙ is)
not_refused Found done old new len status other (short b e fits l n s) is = let three = sym s ∙ is in absurd cc
not_refused Found done old new len status other (without reason none l n s) is = absurd none

pub done_not_refused : IsNotRefused 0
done_not_refused is = absurd cc

-- Why there is no answer is no refusal.
pub missing_not_refused : (files : List GivenFile) (reason : Reason) → HasNoAnswer files reason → IsNotRefused (status_of reason)
missing_not_refused files Accepted none is = absurd none
missing_not_refused files Refused none is = absurd none
missing_not_refused files OutOfMemory none is = absurd cc
missing_not_refused files NotUtf8 none is = absurd cc
missing_not_refused files TooLarge none is = absurd cc
missing_not_refused files NotAFloat none is = absurd cc

pub no_options_not_refused : (files : List GivenFile) (reason : Reason) → HasNoOptionAnswer files reason → IsNotRefused (status_of reason)
no_options_not_refused files Accepted none is = absurd none
no_options_not_refused files Refused none is = absurd none
no_options_not_refused files OutOfMemory none is = absurd cc
no_options_not_refused files NotUtf8 none is = absurd cc
no_options_not_refused files TooLarge none is = absurd cc
no_options_not_refused files NotAFloat none is = absurd none

pub not_all_texts : (files : List Input) (i : ℕ) (other : Input) → i < length files → IsNoText (given_input (get_or files i other)) → AreNotAllTexts (linked.given files)
not_all_texts files i other lt none all =
    let within : i < length (linked.given files) = omega (arith, lt, length-map {B = GivenFile} files) in
    none (subst (λ (it : GivenFile). IsUtf8 it.name × IsUtf8 it.source) (get_or-map given_input files i other (given_input (get_or files i other)) lt)
    (All-get_or (λ (it : GivenFile). IsUtf8 it.name × IsUtf8 it.source) (linked.given files) i (given_input (get_or files i other)) within all))

-- Files that aren't taken have no answer.
pub no_texts : (files : List GivenFile) (reason : Reason) → HasNoTexts files reason → HasNoAnswer files reason
no_texts files Accepted none = none
no_texts files Refused none = none
no_texts files OutOfMemory none = none
no_texts files NotUtf8 none = none
no_texts files TooLarge none = absurd none
no_texts files NotAFloat none = absurd none

pub no_texts_with_options : (files : List GivenFile) (reason : Reason) → HasNoTexts files reason → HasNoOptionAnswer files reason
no_texts_with_options files Accepted none = none
no_texts_with_options files Refused none = none
no_texts_with_options files OutOfMemory none = none
no_texts_with_options files NotUtf8 none = none
no_texts_with_options files TooLarge none = absurd none
no_texts_with_options files NotAFloat none = absurd none

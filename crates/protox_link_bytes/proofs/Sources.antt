-- One file more is parsed.
use Rattle.std.proofs.Common.{◌≡◌, ◌≢◌, ◌<◌, ◌+◌, ◌⊎◌, inl, inr, ℕ, List, [], ◌∷◌, ◌++◌, get_or, length, take, refl, ap, sym, subst, ◌∙◌}
use Rattle.std.proofs.lemmas.List.{map-append, take_more}
use Rattle.std.specs.Prelude.{All, MatchOption, ⊤, Option, Some, None}
use Rattle.std.proofs.lemmas.Option.{slice_get_within}
use Rattle.std.proofs.lemmas.List.Elements.{All-append, All-cons, All-head, All-nil, All-tail}
use Rattle.protox_ast.specs.Accepted.{IsAccepted}
use Rattle.protox_ast.specs.Ast as ast_of
use Rattle.protox_ast.specs.Places.{Place}
use Rattle.protox_ast.specs.Tree as tree
use Rattle.protox_descriptor.specs.declared.descriptor.FileDescriptorProto.{FileDescriptorProto}
use Rattle.protox_descriptor.specs.declared.descriptor.SourceCodeInfo.{SourceCodeInfo}
use Rattle.protox_fault.specs.declared.error.ParseErrorKind.{ParseErrorKind}
use Rattle.protox_fault.specs.declared.error.ParseErrorKind.TheVariants.{FileTooLarge}
use Rattle.protox_generate.specs.File.{AreSorted}
use Rattle.protox_link.specs.Stands.{Stands}
use Rattle.protox_link_fault.specs.declared.LinkFault.{LinkFault}
use Rattle.protox_link.proofs.Lemmas.{none_of_second}
use Rattle.protox_link_records.proofs.Lemmas.{more_than_none, some_bytes, some_of_some}
use Rattle.protox_link_records.specs.LinkPlaces.{IsSorted}
use Rattle.protox_link_records.specs.LinkRecords as records
use Rattle.protox_link_records.specs.declared.source.SourceFile.{SourceFile}
use Rattle.protox_places.specs.Order.{AreByPath}
use Rattle.protox_records.specs.Records.{number, record_of}
use Rattle.protox_link_bytes.specs.Given.{GivenFile, given, given_file, texts}
use Rattle.protox_link_bytes.specs.Parsed.{AreFiles, AreParsed, AreSyntaxRecords, AreTranslations, HaveSyntaxFaults, IsRefusal, NoFile, RightFile, WrongFile}
use Rattle.protox_link_records.specs.LinkRecords.{syntax_record, syntax_records}
use Rattle.protox_parse.proofs.Lemmas.{one_translation}
use Rattle.protox_parse.specs.Failures.{IsOfSource, IsOutOfMemory, IsRefusalOf}
use Rattle.protox_parse.specs.FaultLists.{AreAllFound, AreLexicalAlone, AreListedOf, AreStanding, ExpectsTruly, NoCheckIsLost}
use Rattle.protox_parse.specs.Files.{IsFile, IsTranslation}
use Rattle.protox_parse.specs.FirstFault.{BeginsWithFirst}
use Rattle.protox_parse.specs.Refusal.{Refusal}
use Rattle.protox_parse.specs.declared.failure.ParseFailure.{ParseFailure}
use Rattle.protox_parse.specs.declared.failure.ParseFailure.TheVariants.{Refused}

-- ---- lists

pub all_front : {X : Type 0} (P : X → Type 0) (xs ys : List X) → All P (xs ++ ys) → All P xs
all_front P [] ys h = All-nil P
all_front P (x ∷ xs) ys h = All-cons P x xs (All-head P x (xs ++ ys) h) (all_front P xs ys (All-tail P x (xs ++ ys) h))

pub all_last : {X : Type 0} (P : X → Type 0) (xs : List X) (y : X) → All P (xs ++ y ∷ []) → P y
all_last P [] y h = All-head P y [] h
all_last P (x ∷ xs) y h = all_last P xs y (All-tail P x (xs ++ y ∷ []) h)

-- ---- translations

translations-more : (sources : List GivenFile) (files : List FileDescriptorProto) (source : GivenFile) (file : FileDescriptorProto) → AreTranslations sources files
    → IsTranslation source.name source.source file → AreTranslations (sources ++ source ∷ []) (files ++ file ∷ [])
translations-more [] [] source file h is = (is, tt)
translations-more [] (d ∷ files) source file h is = absurd h
translations-more (s ∷ sources) [] source file h is = absurd h
translations-more (s ∷ sources) (d ∷ files) source file h is = (h.0, translations-more sources files source file h.1 is)

-- Sources have one list of translations.
pub one_list : (sources : List GivenFile) (files others : List FileDescriptorProto) → AreTranslations sources files → AreTranslations sources others → files ≡ others
one_list [] [] [] h k = refl
one_list [] (d ∷ files) others h k = absurd h
one_list [] [] (e ∷ others) h k = absurd k
one_list (s ∷ sources) [] others h k = absurd h
one_list (s ∷ sources) (d ∷ files) [] h k = absurd k
one_list (s ∷ sources) (d ∷ files) (e ∷ others) h k =
    ap (λ f. f ∷ files) (one_translation s.name s.source d e h.0 k.0) ∙ ap (λ fs. e ∷ fs) (one_list sources files others h.1 k.1)

is_file : (name source : List ℕ) (d : FileDescriptorProto) → IsTranslation name source d → IsFile source
is_file name source d is = (is.0, is.1, is.2)

pub are_files : (sources : List GivenFile) (files : List FileDescriptorProto) → AreTranslations sources files → AreFiles sources
are_files [] [] h = All-nil (λ (file : GivenFile). IsFile file.source)
are_files [] (d ∷ files) h = absurd h
are_files (s ∷ sources) [] h = absurd h
are_files (s ∷ sources) (d ∷ files) h = All-cons (λ (file : GivenFile). IsFile file.source) s sources (is_file s.name s.source d h.0) (are_files sources files h.1)

-- ---- records of a refusal

too_large_is_one : (errors : List ParseErrorKind) → errors ≡ FileTooLarge ∷ [] → errors ≢ []
too_large_is_one errors is = λ none. cc

-- A refusal has a fault.
some_errors : (source : List ℕ) (r : Refusal) → IsOfSource source r → r.errors ≢ []
some_errors source r (inl fits) = fits.2
some_errors source r (inr large) = too_large_is_one r.errors large.2

-- The record of a fault begins with the number of its file.
some_record : (file : ℕ) (source : List ℕ) (fault : ParseErrorKind) → syntax_record file source fault ≢ []
some_record file source fault = more_than_none (number file) (record_of source fault) (some_bytes file)

-- So a refusal has a record.
some_syntax : (file : ℕ) (name source : List ℕ) (r : Refusal) → IsRefusal name source r → syntax_records file r.source r.errors ≢ []
some_syntax file name source r is =
    some_of_some (syntax_record file r.source) (some_record file r.source) r.errors (some_errors source r is.of_source.1)

-- ---- one source more

pub parsed-right : (before : List GivenFile) (files : List FileDescriptorProto) (source : GivenFile) (file : FileDescriptorProto) → AreParsed before files
    → IsTranslation source.name source.source file → AreSorted file → AreParsed (before ++ source ∷ []) (files ++ file ∷ [])
parsed-right before files source file h is sorted =
    record {
      translated = translations-more before files source file h.translated is;
      sorted = All-append AreSorted files (file ∷ []) h.sorted (All-cons AreSorted file [] sorted (All-nil AreSorted));
      told = RightFile before [] source h.told (is_file source.name source.source file is);
    }

pub faults-right : (before : List GivenFile) (bytes : List ℕ) (source : GivenFile) (file : FileDescriptorProto) → HaveSyntaxFaults before bytes
    → IsTranslation source.name source.source file → HaveSyntaxFaults (before ++ source ∷ []) bytes
faults-right before bytes source file h is =
    record {
      wrong = λ all. h.wrong (all_front (λ (it : GivenFile). IsFile it.source) before (source ∷ []) all);
      told = RightFile before bytes source h.told (is_file source.name source.source file is);
      some = h.some;
    }

refused-more : (before : List GivenFile) (bytes : List ℕ) (source : GivenFile) (refusal : Refusal) → AreSyntaxRecords before bytes
    → IsRefusal source.name source.source refusal → HaveSyntaxFaults (before ++ source ∷ []) (bytes ++ syntax_records (length before) refusal.source refusal.errors)
refused-more before bytes source refusal told is =
    record {
      wrong = λ all. is.wrong (all_last (λ (it : GivenFile). IsFile it.source) before source all);
      told = WrongFile before bytes source refusal told is;
      some = λ none. some_syntax (length before) source.name source.source refusal is
          (none_of_second bytes (syntax_records (length before) refusal.source refusal.errors) none);
    }

pub refused : (before : List GivenFile) (bytes after : List ℕ) (number : ℕ) (source : GivenFile) (refusal : Refusal) → length before ≡ number
    → AreSyntaxRecords before bytes → IsRefusal source.name source.source refusal → after ≡ bytes ++ syntax_records number refusal.source refusal.errors
    → HaveSyntaxFaults (before ++ source ∷ []) after
refused before bytes after number source refusal count told is e =
    subst (λ bs. HaveSyntaxFaults (before ++ source ∷ []) bs) (sym (e ∙ ap (λ n. bytes ++ syntax_records n refusal.source refusal.errors) (sym count)))
    (refused-more before bytes source refusal told is)

-- What `parse` promises of a refusal.
pub refusal : (name source : List ℕ) (failure : ParseFailure) (r : Refusal) → failure ≡ Refused r
    → IsRefusalOf name source failure → (IsFile source → IsOutOfMemory failure) → BeginsWithFirst source failure
    → ((f : tree.File Place) → IsAccepted source f → AreListedOf (ast_of.file (length source) f) failure)
    → AreStanding source failure → AreLexicalAlone source failure → AreAllFound source failure → NoCheckIsLost source failure → ExpectsTruly source failure
    → IsRefusal name source r
refusal name source failure r is of_source only first checked stands lexical all_found no_check_lost words =
    record {
      wrong = λ right. subst IsOutOfMemory is (only right);
      of_source = subst (λ (f : ParseFailure). IsRefusalOf name source f) is of_source;
      first = subst (λ (f : ParseFailure). BeginsWithFirst source f) is first;
      checked = λ f accepted. subst (λ (e : ParseFailure). AreListedOf (ast_of.file (length source) f) e) is (checked f accepted);
      stands = subst (λ (f : ParseFailure). AreStanding source f) is stands;
      lexical = subst (λ (f : ParseFailure). AreLexicalAlone source f) is lexical;
      all_found = subst (λ (f : ParseFailure). AreAllFound source f) is all_found;
      no_check_lost = subst (λ (f : ParseFailure). NoCheckIsLost source f) is no_check_lost;
      words = subst (λ (f : ParseFailure). ExpectsTruly source f) is words;
    }

-- ---- what records need

sorted_if : (info : Option SourceCodeInfo) → (elim info as (λ _. Type 0) [ None ↦ ⊥ | Some it ↦ AreByPath it.location ]) → MatchOption info ⊤ (λ it. AreByPath it.location)
sorted_if None h = absurd h
sorted_if (Some info) h = h

pub sorted : (files : List FileDescriptorProto) → All AreSorted files → All IsSorted files
sorted [] h = All-nil IsSorted
sorted (file ∷ files) h = All-cons IsSorted file files (sorted_if file.source_code_info (All-head AreSorted file files h)) (sorted files (All-tail AreSorted file files h))

pub stand : (files : List FileDescriptorProto) (faults : List LinkFault) → All (Stands files) faults → All (λ fault. fault.file < length files) faults
stand files [] h = All-nil (λ (fault : LinkFault). fault.file < length files)
stand files (fault ∷ faults) h =
    let first = All-head (Stands files) fault faults h in
    All-cons (λ (it : LinkFault). it.file < length files) fault faults (slice_get_within files fault.file first.file first.is_there) (stand files faults (All-tail (Stands files) fault faults h))

-- The texts that records speak of are those of the files.
pub same_texts : (files : List SourceFile) → records.texts files ≡ texts (given files)
same_texts [] = refl
same_texts (file ∷ files) = ap (λ rest. file.source.now ∷ rest) (same_texts files)

pub parsed-none : AreParsed [] []
parsed-none = record { translated = tt; sorted = All-nil AreSorted; told = NoFile }

pub given_more : (files : List SourceFile) (i : ℕ) (d : SourceFile) → i < length files → given (take i files) ++ given_file (get_or files i d) ∷ [] ≡ given (take (i + 1) files)
given_more files i d lt = sym (map-append given_file (take i files) (get_or files i d ∷ [])) ∙ ap given (sym (take_more files i d lt))

-- One setting more among those that are kept.
use Rattle.std.proofs.Common.{◌≡◌, ◌<◌, ◌+◌, ℕ, Bool, true, false, not, List, [], ◌∷◌, ◌++◌, length, take, get_or, map, Some, refl, sym, ap, subst, ◌∙◌, append-nil}
use Rattle.std.specs.Prelude.{◌||◌, if◌then◌else◌}
use Rattle.std.specs.List.{filter, flat_map}
use Rattle.std.proofs.lemmas.Grind.{flat_map-append}
use Rattle.std.proofs.lemmas.List.{map-append, take_more}
use Rattle.std.proofs.lemmas.List.Elements.{filter-append}
use Rattle.std.proofs.lemmas.List.Folds.{list_any-append}
use Rattle.std.proofs.lemmas.Option.{slice_get-get_or}
use Rattle.protox_descriptor.specs.declared.descriptor.options.UninterpretedOption.{UninterpretedOption}
use Rattle.protox_interpret.specs.Answers.{path_set}
use Rattle.protox_interpret.specs.Settings.{Setting, field_of, paths_of}
use Rattle.protox_interpret.specs.Statements.{AreSet, Again, IsFirstFault, IsWrong, NextStatement, NoName, NoStatement, Nothing}
use Rattle.protox_interpret.specs.declared.fault.StatementFaultKind.{StatementFaultKind}
use Rattle.protox_interpret.specs.declared.site.Site.{Site}
use Rattle.protox_interpret.specs.declared.work.Work.{Work}
use Rattle.protox_interpret.specs.inner.Given.{IsSetBy}
use Rattle.protox_interpret.specs.inner.Kept.{AreKept, IsAdded}
use Rattle.protox_set_paths.specs.Paths.{begins_with, is_set}

-- These statements are taken: what they set is kept.
pub record AreTaken (here : Site) (statements : List UninterpretedOption) (work : Work) : Type 0 where
  pub settings : List Setting
  pub set : AreSet here statements settings
  pub kept : AreKept work settings

one_more : (settings : List Setting) (setting : Setting) (q : List ℕ)
    → (is_set (paths_of setting) q || is_set (flat_map paths_of settings) q) ≡ is_set (flat_map paths_of (settings ++ setting ∷ [])) q
one_more settings setting q =
    ap (λ b. b || is_set (flat_map paths_of settings) q) (ap (λ ps. is_set ps q) (sym (append-nil (paths_of setting))))
    ∙ turned (is_set (paths_of setting ++ []) q) (is_set (flat_map paths_of settings) q)
    ∙ sym (list_any-append (begins_with q) (flat_map paths_of settings) (paths_of setting ++ []))
    ∙ sym (ap (λ ps. is_set ps q) (flat_map-append paths_of settings (setting ∷ [])))
  where
    turned : (one others : Bool) → (one || others) ≡ (others || one)
    turned true true = refl
    turned true false = refl
    turned false true = refl
    turned false false = refl

kept_more : (settings : List Setting) (setting : Setting) (work new : Work) → AreKept work settings → IsAdded work setting new → AreKept new (settings ++ setting ∷ [])
kept_more settings setting work new kept added = record {
  set = λ q. added.set q ∙ ap (λ b. is_set (paths_of setting) q || b) (kept.set q) ∙ one_more settings setting q;
  standard =
      added.standard
      ∙ ap (λ fields. fields ++ (if setting.standard then field_of setting ∷ [] else [])) kept.standard
      ∙ ap (λ fields. map field_of (filter (λ s. s.standard) settings) ++ fields) (fields setting.standard)
      ∙ sym (map-append field_of (filter (λ s. s.standard) settings) (filter (λ s. s.standard) (setting ∷ [])))
      ∙ sym (ap (map field_of) (filter-append (λ (s : Setting). s.standard) settings (setting ∷ [])));
  custom =
      added.custom
      ∙ ap (λ bytes. bytes ++ (if setting.standard then [] else setting.bytes)) kept.custom
      ∙ ap (λ bytes. flat_map (λ s. s.bytes) (filter (λ s. not s.standard) settings) ++ bytes) (others setting.standard)
      ∙ sym (flat_map-append (λ (s : Setting). s.bytes) (filter (λ s. not s.standard) settings) (filter (λ s. not s.standard) (setting ∷ [])))
      ∙ sym (ap (flat_map (λ s. s.bytes)) (filter-append (λ (s : Setting). not s.standard) settings (setting ∷ [])));
  paths =
      added.paths
      ∙ ap (λ paths. paths ++ path_set setting ∷ []) kept.paths
      ∙ sym (map-append path_set settings (setting ∷ []));
} where
  fields : (b : Bool) → (if b then field_of setting ∷ [] else []) ≡ map field_of (if b then setting ∷ [] else [])
  fields true = refl
  fields false = refl

  others : (b : Bool) → (if b then [] else setting.bytes) ≡ flat_map (λ (s : Setting). s.bytes) (if not b then setting ∷ [] else [])
  others true = refl
  others false = sym (append-nil setting.bytes)

module _ (here : Site) (statements : List UninterpretedOption) where
  pub none_taken : (work : Work) → AreKept work [] → AreTaken here (take 0 statements) work
  none_taken work kept = record { settings = []; set = NoStatement; kept = kept }

  -- one statement more
  pub taken_more : (i : ℕ) (statement : UninterpretedOption) (setting : Setting) (work new : Work) → i < length statements
      → statement ≡ get_or statements i statement → IsSetBy here (is_set work.set) statement setting → IsAdded work setting new
      → AreTaken here (take i statements) work → AreTaken here (take (i + 1) statements) new
  taken_more i statement setting work new below is by added taken = record {
    settings = taken.settings ++ setting ∷ [];
    set =
        subst (λ ss. AreSet here ss (taken.settings ++ setting ∷ [])) (sym (take_more statements i statement below ∙ ap (λ s. take i statements ++ s ∷ []) (sym is)))
        (NextStatement (take i statements) statement taken.settings setting taken.set by.0
        (ap (λ b. setting.repeated || not b) (sym (taken.kept.set setting.path)) ∙ by.1));
    kept = kept_more taken.settings setting work new taken.kept added;
  }

  -- what is wrong stays so where the same is set
  still_wrong : (statement : UninterpretedOption) (f g : List ℕ → Bool) (kind : StatementFaultKind) → ((q : List ℕ) → f q ≡ g q)
      → IsWrong here f statement kind → IsWrong here g statement kind
  still_wrong statement f g kind same (NoName fault named) = NoName fault named
  still_wrong statement f g kind same (Again outer last field named declared single already) = Again outer last field named declared single (sym (same _) ∙ already)
  still_wrong statement f g kind same (Nothing outer last field wrong named declared nothing) = Nothing outer last field wrong named declared nothing

  -- the first statement that is wrong
  pub first_wrong : (i : ℕ) (statement : UninterpretedOption) (kind : StatementFaultKind) (work : Work) → i < length statements
      → statement ≡ get_or statements i statement → IsWrong here (is_set work.set) statement kind
      → AreTaken here (take i statements) work → IsFirstFault here statements (record { index = i; kind = kind })
  first_wrong i statement kind work below is wrong taken = record {
    before = taken.settings;
    right = taken.set;
    statement = statement;
    there = slice_get-get_or statements i statement below ∙ ap (λ s. Some s) (sym is);
    wrong = still_wrong statement (is_set work.set) (is_set (flat_map paths_of taken.settings)) kind taken.kept.set wrong;
  }

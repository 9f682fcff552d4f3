-- Statements either all set something, or one of them is the first that is wrong.
use Rattle.std.proofs.Common.{◌≡◌, inl, inr, ℕ, Bool, true, false, not, List, [], ◌∷◌, ◌++◌, map, take, Some, Option, Result, Ok, Err, refl, sym, ◌∙◌, ap, subst, arith}
use Rattle.std.specs.Prelude.{◌||◌, All, slice_get}
use Rattle.std.specs.List.{flat_map}
use Rattle.std.proofs.Math.Seq.{take-append_seam}
use Rattle.std.proofs.lemmas.Grind.{flat_map-append}
use Rattle.std.proofs.lemmas.List.{take-append-le}
use Rattle.std.proofs.lemmas.List.Elements.{All-head, All-tail}
use Rattle.std.proofs.lemmas.Option.{slice_get_within}
use Rattle.protox_aggregate.proofs.Lemmas.{entries_alike}
use Rattle.protox_descriptor.specs.FieldDescriptorProto.{FieldDescriptorProto}
use Rattle.protox_descriptor.specs.declared.descriptor.FileDescriptorProto.{FileDescriptorProto}
use Rattle.protox_descriptor.specs.declared.descriptor.options.UninterpretedOption.{UninterpretedOption}
use Rattle.protox_fault.specs.Faults.{Span}
use Rattle.protox_interpret.specs.Answers.{IsAnswer, NeverBoth}
use Rattle.protox_interpret.specs.Braces.{IsCut, IsMessage, IsNoMessage}
use Rattle.protox_interpret.specs.Braces.IsNoMessage.{NoText, NoToken, SaysNothing}
use Rattle.protox_interpret.specs.Settings.{Setting, is_free, paths_from, paths_of}
use Rattle.protox_interpret.specs.Sites.{named, table}
use Rattle.protox_interpret.specs.Statements.{AreSet, Gives, GivesNothing, IsFirstFault, IsWrong, Sets, numbers_of, steps_of}
use Rattle.protox_interpret.specs.Statements.AreSet.{NextStatement, NoStatement}
use Rattle.protox_interpret.specs.Statements.Gives.{AMessage, AValue}
use Rattle.protox_interpret.specs.Statements.GivesNothing.{NoMessage, NoValue}
use Rattle.protox_interpret.specs.Statements.IsWrong.{Again, NoName, Nothing}
use Rattle.protox_interpret.specs.declared.fault.StatementFault.{StatementFault}
use Rattle.protox_interpret.specs.declared.fault.StatementFaultKind.{StatementFaultKind}
use Rattle.protox_interpret.specs.declared.site.Interpreted.{Interpreted}
use Rattle.protox_interpret.specs.declared.site.Site.{Site}
use Rattle.protox_lexeme.specs.Lexemes.{Lexeme, cut}
use Rattle.protox_lexeme.specs.Shapes.{Row, Shape}
use Rattle.protox_lexeme.specs.Tokens.{shape_of}
use Rattle.protox_message_bytes.specs.Parts.{Parts}
use Rattle.protox_message_bytes.specs.Parts.{steps as told}
use Rattle.protox_message_bytes.specs.declared.entry.Entry.{Entry}
use Rattle.protox_name_tree.proofs.Lemmas.{slice_get-push}
use Rattle.protox_set_paths.proofs.Lemmas.{same_ends}
use Rattle.protox_set_paths.specs.Paths.{is_set}
use Rattle.protox_setting_bytes.specs.declared.step.Step.{Step}
use Rattle.protox_settings.specs.Fields.{field_numbered, is_repeated}
use Rattle.protox_settings.specs.declared.setting.Said.{Said}
use Rattle.protox_settings.specs.declared.setting.Said.TheVariants as said
use Rattle.protox_symbols.specs.Symbols.{Table}
use Rattle.protox_text_format.proofs.Lemmas.{spelled_alike, spelled_or_first}
use Rattle.protox_text_format.specs.Alike.{shapes}
use Rattle.protox_text_format.specs.Pieces.{IsFaultless, row_of}
use Rattle.protox_text_format.specs.declared.item.Piece.{Piece}
use Rattle.protox_values.specs.declared.setting.SettingValue.{SettingValue}
use Rattle.protox_walk.specs.Declarations.{text_of}

-- ---- results

ok_same : {A E : Type 0} (r : Result A E) (x y : A) → r ≡ Ok x → r ≡ Ok y → x ≡ y
ok_same r x y a b = cc

ok_or_err : {A E : Type 0} (r : Result A E) (x : A) (e : E) → r ≡ Ok x → r ≡ Err e → ⊥
ok_or_err r x e a b = cc

some_same : {A : Type 0} (o : Option A) (x y : A) → o ≡ Some x → o ≡ Some y → x ≡ y
some_same o x y a b = cc

one_kind : {E : Type 0} (r : Result Said E) (value : SettingValue) (message : ℕ) → r ≡ Ok (said.Value value) → r ≡ Ok (said.Aggregate message) → ⊥
one_kind r value message a b = cc

one_type : {E : Type 0} (r : Result Said E) (m n : ℕ) → r ≡ Ok (said.Aggregate m) → r ≡ Ok (said.Aggregate n) → m ≡ n
one_type r m n a b = cc

-- ---- texts in braces

row_shapes : (pieces : List Piece) → map (λ (row : Row Span). row.shape) (map row_of pieces) ≡ shapes pieces
row_shapes [] = refl
row_shapes (piece ∷ more) = ap (λ (rest : List Shape). shape_of piece.token ∷ rest) (row_shapes more)

cut_alike : (text : List ℕ) (ps qs : List Piece) → IsCut text ps → IsCut text qs → shapes ps ≡ shapes qs
cut_alike text ps qs a b =
    sym (row_shapes ps) ∙ (ap (λ (rows : List (Row Span)). map (λ (row : Row Span). row.shape) rows) (a.all ∙ sym b.all) ∙ row_shapes qs)

wrong_among : (before behind : List Lexeme) (wrong : Lexeme) → All IsFaultless (before ++ wrong ∷ behind) → IsFaultless wrong
wrong_among [] others wrong all = All-head IsFaultless wrong others all
wrong_among (x ∷ before) others wrong all =
    wrong_among before others wrong (All-tail IsFaultless x (before ++ wrong ∷ others) all)

module _ (here : Site) (message : ℕ) (text : List ℕ) where
  message_same : (parts others : Parts) → IsMessage here message text parts → IsMessage here message text others → told parts ≡ told others
  message_same parts others a b =
      let same = entries_alike here.files.now (table here) here.view.now.sees.now here.view.now.packages message a.read b.read
      (spelled_alike a.pieces b.pieces a.read b.read (cut_alike text a.pieces b.pieces a.cut b.cut) a.spelled b.spelled) in
      ok_same _ (told parts) (told others) (sym same ∙ a.said) b.said

  no_message : (parts : Parts) (kind : StatementFaultKind) → IsMessage here message text parts → IsNoMessage here message text kind → ⊥
  no_message parts kind a (NoToken span first) =
      first.is_wrong (wrong_among first.before first.behind first.wrong
      (subst (λ (x : List Lexeme). All IsFaultless x) first.cut a.cut.faultless))
  no_message parts kind a (NoText pieces fault is_cut first) =
      spelled_or_first a.pieces pieces a.read fault (cut_alike text a.pieces pieces a.cut is_cut) a.spelled first
  no_message parts kind a (SaysNothing pieces read fault is_cut spelled nothing) =
      let same = entries_alike here.files.now (table here) here.view.now.sees.now here.view.now.packages message a.read read
      (spelled_alike a.pieces pieces a.read read (cut_alike text a.pieces pieces a.cut is_cut) a.spelled spelled) in
      ok_or_err _ (told parts) fault a.said (same ∙ nothing)

module _ (here : Site) (statement : UninterpretedOption) where
  -- ---- what one statement sets

  gives_same : (outer outer' : List Step) (field : FieldDescriptorProto) (inside inside' : List Entry) (bytes bytes' : List ℕ)
      → Gives here outer field statement inside bytes → Gives here outer' field statement inside' bytes' → inside ≡ inside'
  gives_same outer outer' field inside inside' bytes bytes' (AValue value e) (AValue value' e') = refl
  gives_same outer outer' field inside inside' bytes bytes' (AValue value e) (AMessage message parts e' is) =
      absurd (one_kind _ value message e e')
  gives_same outer outer' field inside inside' bytes bytes' (AMessage message parts e is) (AValue value e') =
      absurd (one_kind _ value message e' e)
  gives_same outer outer' field inside inside' bytes bytes' (AMessage message parts e is) (AMessage message' parts' e' is') =
      message_same here message (text_of statement.aggregate_value) parts parts' is
      (subst (λ (m : ℕ). IsMessage here m (text_of statement.aggregate_value) parts') (sym (one_type _ message message' e e')) is')

  gives_or_not : (outer : List Step) (field : FieldDescriptorProto) (inside : List Entry) (bytes : List ℕ) (kind : StatementFaultKind)
      → Gives here outer field statement inside bytes → GivesNothing here field statement kind → ⊥
  gives_or_not outer field inside bytes kind (AValue value e) (NoValue fault wrong) = ok_or_err _ (said.Value value) fault e wrong
  gives_or_not outer field inside bytes kind (AValue value e) (NoMessage message wrong e' nothing) = one_kind _ value message e e'
  gives_or_not outer field inside bytes kind (AMessage message parts e is) (NoValue fault wrong) = ok_or_err _ (said.Aggregate message) fault e wrong
  gives_or_not outer field inside bytes kind (AMessage message parts e is) (NoMessage message' wrong e' nothing) =
      no_message here message (text_of statement.aggregate_value) parts kind is
      (subst (λ (m : ℕ). IsNoMessage here m (text_of statement.aggregate_value) kind) (sym (one_type _ message message' e e')) nothing)

  -- the same last field
  field_same : (outer outer' : List ℕ) (last last' : ℕ) (field field' : FieldDescriptorProto)
      → named here statement.name ≡ Ok (outer ++ last ∷ []) → named here statement.name ≡ Ok (outer' ++ last' ∷ [])
      → field_numbered here.files.now (table here) last ≡ Some field → field_numbered here.files.now (table here) last' ≡ Some field'
      → field ≡ field'
  field_same outer outer' last last' field field' a b there there' =
      let ends = same_ends outer outer' last last' (ok_same _ (outer ++ last ∷ []) (outer' ++ last' ∷ []) a b) in
      some_same _ field field' there (ap (field_numbered here.files.now (table here)) ends.1 ∙ there')

  path_same : (fields fields' path path' : List ℕ) → named here statement.name ≡ Ok fields → named here statement.name ≡ Ok fields'
      → path ≡ numbers_of (steps_of here fields) → path' ≡ numbers_of (steps_of here fields') → path ≡ path'
  path_same fields fields' path path' a b is is' =
      is ∙ (ap (λ (f : List ℕ). numbers_of (steps_of here f)) (ok_same _ fields fields' a b) ∙ sym is')

  sets_same : (one other : Setting) → Sets here statement one → Sets here statement other → paths_of one ≡ paths_of other
  sets_same one other a b =
      let field = field_same a.outer b.outer a.last b.last a.field b.field a.named b.named a.declared b.declared in
      let inside = gives_same (steps_of here a.outer) (steps_of here b.outer) a.field one.inside other.inside one.bytes other.bytes a.gives
      (subst (λ (f : FieldDescriptorProto). Gives here (steps_of here b.outer) f statement other.inside other.bytes) (sym field) b.gives) in
      let path = path_same (a.outer ++ a.last ∷ []) (b.outer ++ b.last ∷ []) one.path other.path a.named b.named a.path b.path in
      ap (λ (p : List ℕ). p ∷ paths_from (p ∷ []) one.inside) path ∙ ap (λ (i : List Entry). other.path ∷ paths_from (other.path ∷ []) i) inside

  free_or_set : (is_set_before : List ℕ → Bool) (setting : Setting) (path : List ℕ) → setting.repeated ≡ false → setting.path ≡ path
      → is_free is_set_before setting ≡ true → is_set_before path ≡ true → ⊥
  free_or_set is_set_before setting path once e free again =
      let not_again : not (is_set_before setting.path) ≡ true = ap (λ (b : Bool). b || not (is_set_before setting.path)) (sym once) ∙ free in
      let again' : is_set_before setting.path ≡ true = ap is_set_before e ∙ again in
      let no : not true ≡ true = ap not (sym again') ∙ not_again in cc

  sets_or_wrong : (is_set_before : List ℕ → Bool) (setting : Setting) (kind : StatementFaultKind) → Sets here statement setting
      → is_free is_set_before setting ≡ true → IsWrong here is_set_before statement kind → ⊥
  sets_or_wrong is_set_before setting kind s free (NoName fault wrong) = ok_or_err _ (s.outer ++ s.last ∷ []) fault s.named wrong
  sets_or_wrong is_set_before setting kind s free (Again outer last field leads there once again) =
      let same = field_same s.outer outer s.last last s.field field s.named leads s.declared there in
      free_or_set is_set_before setting (numbers_of (steps_of here (outer ++ last ∷ [])))
      (s.repeated ∙ (ap is_repeated same ∙ once))
      (path_same (s.outer ++ s.last ∷ []) (outer ++ last ∷ []) setting.path (numbers_of (steps_of here (outer ++ last ∷ []))) s.named leads s.path refl)
      free again
  sets_or_wrong is_set_before setting kind s free (Nothing outer last field wrong leads there nothing) =
      let same = field_same s.outer outer s.last last s.field field s.named leads s.declared there in
      gives_or_not (steps_of here s.outer) field setting.inside setting.bytes kind
      (subst (λ (f : FieldDescriptorProto). Gives here (steps_of here s.outer) f statement setting.inside setting.bytes) same s.gives) nothing

-- ---- statements one behind the other

no_last : {A : Type 0} (xs : List A) (x : A) → [] ≡ xs ++ x ∷ [] → ⊥
no_last [] x e = cc
no_last (y ∷ xs) x e = cc

paths_last : (settings : List Setting) (setting : Setting) → flat_map paths_of (settings ++ setting ∷ []) ≡ flat_map paths_of settings ++ (paths_of setting ++ [])
paths_last settings setting = flat_map-append paths_of settings (setting ∷ [])

module _ (here : Site) where
  set_same : (statements others : List UninterpretedOption) (settings settings' : List Setting) → statements ≡ others
      → AreSet here statements settings → AreSet here others settings' → flat_map paths_of settings ≡ flat_map paths_of settings'
  set_same statements others settings settings' e NoStatement NoStatement = refl
  set_same statements others settings settings' e NoStatement (NextStatement before last sets set are is free) = absurd (no_last before last e)
  set_same statements others settings settings' e (NextStatement before last sets set are is free) NoStatement = absurd (no_last before last (sym e))
  set_same statements others settings settings' e (NextStatement before last sets set are is free) (NextStatement before' last' sets' set' are' is' free') =
      let ends = same_ends before before' last last' e in
      let front = set_same before before' sets sets' ends.0 are are' in
      let back = sets_same here last set set' is (subst (λ (s : UninterpretedOption). Sets here s set') (sym ends.1) is') in
      paths_last sets set
      ∙ (ap (λ (p : List (List ℕ)). p ++ (paths_of set ++ [])) front
      ∙ (ap (λ (p : List (List ℕ)). flat_map paths_of sets' ++ (p ++ [])) back ∙ sym (paths_last sets' set')))

  -- What the statement with this index sets, and what those before it set.
  record SetAt (statements : List UninterpretedOption) (index : ℕ) (statement : UninterpretedOption) : Type 0 where
    before : List Setting
    setting : Setting
    are : AreSet here (take index statements) before
    sets : Sets here statement setting
    free : is_free (is_set (flat_map paths_of before)) setting ≡ true

  nothing_there : (index : ℕ) (statement : UninterpretedOption) → slice_get {X = UninterpretedOption} [] index ≡ Some statement → ⊥
  nothing_there index statement there = let no = slice_get_within [] index statement there in omega (arith, no)

  set_at : (statements : List UninterpretedOption) (settings : List Setting) (index : ℕ) (statement : UninterpretedOption)
      → AreSet here statements settings → slice_get statements index ≡ Some statement → SetAt statements index statement
  set_at statements settings index statement NoStatement there = absurd (nothing_there index statement there)
  set_at statements settings index statement (NextStatement before last sets set are is free) there =
      elim (slice_get-push before last index statement there) [
        | inl inner ↦
            let s = set_at before sets index statement are inner in
            let within = slice_get_within before index statement inner in
            record {
              before = s.before;
              setting = s.setting;
              are = subst (λ (x : List UninterpretedOption). AreSet here x s.before) (sym (take-append-le index before (last ∷ []) (omega (arith, within)))) s.are;
              sets = s.sets;
              free = s.free;
            }
        | inr end ↦ record {
          before = sets;
          setting = set;
          are = subst (λ (x : List UninterpretedOption). AreSet here x sets)
              (sym (ap (λ (n : ℕ). take n (before ++ last ∷ [])) end.0 ∙ take-append_seam before (last ∷ []))) are;
          sets = subst (λ (s : UninterpretedOption). Sets here s set) end.1 is;
          free = free;
        }
      ]

  pub never_both : (statements : List UninterpretedOption) → NeverBoth here statements
  never_both statements = λ answer fault a first.
      let s = set_at statements a.settings fault.index first.statement a.set first.there in
      let same = set_same (take fault.index statements) (take fault.index statements) first.before s.before refl first.right s.are in
      sets_or_wrong here first.statement (is_set (flat_map paths_of s.before)) s.setting fault.kind s.sets s.free
      (subst (λ (paths : List (List ℕ)). IsWrong here (is_set paths) first.statement fault.kind) same first.wrong)

-- ---- the same site, by other references

-- the site with the references of another, which lead to these
abbrev site_with : Site → Table → List Bool → List Bool → List FileDescriptorProto → Option ℕ → ℕ → Site
site_with other table sees packages files scope message = record {
  view = record other.view {
    now = record other.view.now {
      symbols = record other.view.now.symbols { now = table };
      sees = record other.view.now.sees { now = sees };
      packages = packages;
    };
  };
  files = record other.files { now = files };
  scope = scope;
  message = message;
}

module _ (here other : Site) where
  abbrev there : Site
  there = site_with other (table here) here.view.now.sees.now here.view.now.packages here.files.now here.scope here.message

  gives_there : (outer : List Step) (field : FieldDescriptorProto) (statement : UninterpretedOption) (inside : List Entry) (bytes : List ℕ)
      → Gives here outer field statement inside bytes → Gives there outer field statement inside bytes
  gives_there outer field statement inside bytes (AValue value e) = AValue value e
  gives_there outer field statement inside bytes (AMessage message parts e is) = AMessage message parts e
      (record { pieces = is.pieces; read = is.read; cut = is.cut; spelled = is.spelled; said = is.said })

  sets_there : (statement : UninterpretedOption) (setting : Setting) → Sets here statement setting → Sets there statement setting
  sets_there statement setting s = record {
    outer = s.outer;
    last = s.last;
    field = s.field;
    named = s.named;
    declared = s.declared;
    gives = gives_there (steps_of here s.outer) s.field statement setting.inside setting.bytes s.gives;
    path = s.path;
    standard = s.standard;
    repeated = s.repeated;
  }

  set_there : (statements : List UninterpretedOption) (settings : List Setting) → AreSet here statements settings → AreSet there statements settings
  set_there statements settings NoStatement = NoStatement
  set_there statements settings (NextStatement before last sets set are is free) =
      NextStatement before last sets set (set_there before sets are) (sets_there last set is) free

  answer_there : (statements : List UninterpretedOption) (answer : Interpreted) → IsAnswer here statements answer → IsAnswer there statements answer
  answer_there statements answer a =
      record { settings = a.settings; set = set_there statements a.settings a.set; bytes = a.bytes; paths = a.paths }

-- Both sites see the same.
pub record SeeTheSame (here there : Site) : Type 0 where
  pub symbols : table here ≡ table there
  pub sees : here.view.now.sees.now ≡ there.view.now.sees.now
  pub packages : here.view.now.packages ≡ there.view.now.packages
  pub files : here.files.now ≡ there.files.now
  pub scope : here.scope ≡ there.scope
  pub message : here.message ≡ there.message

same_site : (here other : Site) → SeeTheSame here other → there here other ≡ other
same_site here other same =
    ap (λ (x : Table). site_with other x here.view.now.sees.now here.view.now.packages here.files.now here.scope here.message) same.symbols
    ∙ (ap (λ (x : List Bool). site_with other (table other) x here.view.now.packages here.files.now here.scope here.message) same.sees
    ∙ (ap (λ (x : List Bool). site_with other (table other) other.view.now.sees.now x here.files.now here.scope here.message) same.packages
    ∙ (ap (λ (x : List FileDescriptorProto). site_with other (table other) other.view.now.sees.now other.view.now.packages x here.scope here.message) same.files
    ∙ (ap (λ (x : Option ℕ). site_with other (table other) other.view.now.sees.now other.view.now.packages other.files.now x here.message) same.scope
    ∙ ap (λ (x : ℕ). site_with other (table other) other.view.now.sees.now other.view.now.packages other.files.now other.scope x) same.message))))

-- Statements that all set something have none that is wrong at a site that sees the same.
pub never_both_there : (here other : Site) (statements : List UninterpretedOption) (answer : Interpreted) (fault : StatementFault)
    → SeeTheSame here other → IsAnswer here statements answer → IsFirstFault other statements fault → ⊥
never_both_there here other statements answer fault same a first =
    never_both other statements answer fault
    (subst (λ (x : Site). IsAnswer x statements answer) (same_site here other same) (answer_there here other statements answer a)) first

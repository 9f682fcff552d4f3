-- The options of a field that are left after those that the parser reads.
use Rattle.std.proofs.Common.{◌≡◌, ℕ, Bool, true, false, List, [], ◌∷◌, ◌++◌, map, refl, ap, sym, ◌∙◌, append_assoc}
use Rattle.std.specs.Prelude.{codes, if◌then◌else◌, ◌⊎◌}
use Rattle.std.proofs.Common.{inl, inr}
use Rattle.protox_ast.specs.declared.ast.OptionBody.{OptionBody}
use Rattle.protox_ast.specs.Options.{has_name, uninterpreted, without_first}
use Rattle.protox_descriptor.specs.declared.descriptor.options.UninterpretedOption.{UninterpretedOption}

abbrev pub without : Bool → List ℕ → List OptionBody → List OptionBody
without read name bodies = if read then bodies else without_first name bodies

-- whether a `default` or a `json_name` comes before these
abbrev pub left : Bool → Bool → List OptionBody → List OptionBody
left default_read json_name_read bodies = without json_name_read (codes "json_name") (without default_read (codes "default") bodies)

passed : (name : List ℕ) (read : Bool) (x : OptionBody) (xs : List OptionBody) → (has_name name x ≡ false) ⊎ (read ≡ true) → without read name (x ∷ xs) ≡ x ∷ without read name xs
passed name true x xs h = refl
passed name false x xs (inl h) = ap (λ b. if b then xs else x ∷ without_first name xs) h
passed name false x xs (inr h) = cc

taken : (name : List ℕ) (x : OptionBody) (xs : List OptionBody) → has_name name x ≡ true → without false name (x ∷ xs) ≡ xs
taken name x xs h = ap (λ b. if b then xs else x ∷ without_first name xs) h

pub left-default : (json_name_read : Bool) (x : OptionBody) (xs : List OptionBody) → has_name (codes "default") x ≡ true → left false json_name_read (x ∷ xs) ≡ left true json_name_read xs
left-default json_name_read x xs h = ap (without json_name_read (codes "json_name")) (taken (codes "default") x xs h)

pub left-json_name : (default_read : Bool) (x : OptionBody) (xs : List OptionBody) → (has_name (codes "default") x ≡ false) ⊎ (default_read ≡ true) → has_name (codes "json_name") x ≡ true
    → left default_read false (x ∷ xs) ≡ left default_read true xs
left-json_name default_read x xs d h =
    ap (without false (codes "json_name")) (passed (codes "default") default_read x xs d) ∙ taken (codes "json_name") x (without default_read (codes "default") xs) h

pub left-other : (default_read json_name_read : Bool) (x : OptionBody) (xs : List OptionBody) → (has_name (codes "default") x ≡ false) ⊎ (default_read ≡ true)
    → (has_name (codes "json_name") x ≡ false) ⊎ (json_name_read ≡ true) → left default_read json_name_read (x ∷ xs) ≡ x ∷ left default_read json_name_read xs
left-other default_read json_name_read x xs d j =
    ap (without json_name_read (codes "json_name")) (passed (codes "default") default_read x xs d) ∙ passed (codes "json_name") json_name_read x (without default_read (codes "default") xs) j

pub dropped : (options : List UninterpretedOption) (d j d' j' : Bool) (all rest : List OptionBody) (x : OptionBody) (whole : List UninterpretedOption)
    → all ≡ x ∷ rest → left d j (x ∷ rest) ≡ left d' j' rest → options ++ map uninterpreted (left d j all) ≡ whole → options ++ map uninterpreted (left d' j' rest) ≡ whole
dropped options d j d' j' all rest x whole e f h = ap (λ l. options ++ map uninterpreted l) (sym f ∙ ap (left d j) (sym e)) ∙ h

pub kept : (old new : List UninterpretedOption) (d j : Bool) (all rest : List OptionBody) (x : OptionBody) (whole : List UninterpretedOption)
    → all ≡ x ∷ rest → left d j (x ∷ rest) ≡ x ∷ left d j rest → new ≡ old ++ uninterpreted x ∷ [] → old ++ map uninterpreted (left d j all) ≡ whole → new ++ map uninterpreted (left d j rest) ≡ whole
kept old new d j all rest x whole e f n h =
    ap (λ l. l ++ map uninterpreted (left d j rest)) n ∙ append_assoc old (uninterpreted x ∷ []) (map uninterpreted (left d j rest))
    ∙ ap (λ l. old ++ map uninterpreted l) (sym f ∙ ap (left d j) (sym e)) ∙ h

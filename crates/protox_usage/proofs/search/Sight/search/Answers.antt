use Rattle.std.proofs.Common.{◌≡◌, ◌∙◌, ℕ, Bool, Bor, List, Option, None, ap, cond, drop, subst, sym, lit<}
use Rattle.std.proofs.lemmas.Str.Pattern.{strip_prefix_char}
use Rattle.protox_names.specs.Names.{scopes}
use Rattle.protox_scopes.proofs.Lemmas.{relative}
use Rattle.protox_scopes.specs.Scopes.{step}
use Rattle.protox_usage.proofs.Outwards.{around, ended}
use Rattle.protox_usage.specs.Met.{if_found, met_in, met_outwards}
use Rattle.protox_usage.specs.Searched.{kind_in, noted, seen_in, with_number}
use Rattle.protox_usage.proofs.search.Sight.search.Goals as goal

pub returns-then-search_scope : goal.returns-then-search_scope
returns-then-search_scope c =
    let self = c.args.self.now in
    let name = c.args.name.now in
    let scope = c.in-Some-place.scope.now in
    let used = c.loop-place.used in
    let no_dot = relative name (strip_prefix_char 46 name None c.in_default.ensures.cases (lit< tt)) in
    let outwards : List (List ℕ) → List ℕ = met_outwards (kind_in self) (seen_in self) c.args.wanted name in
    sym (ended (with_number self) used c.search_scope.new.used (met_in (kind_in self) (seen_in self) name scope) (outwards (scopes scope))
    (step (kind_in self) (seen_in self) c.args.wanted name scope) (sym c.search_scope.ensures.ends ∙ c.if-search_scope.true) c.search_scope.ensures.met)
    ∙ subst (λ (place : Option (Bor (List ℕ))). noted self used (outwards (around place)) ≡ noted self c.args.used.now (outwards (scopes c.args.user.now))) c.in-Some-place.is c.loop-place.invariant
    ∙ ap (λ (b : Bool). noted self c.args.used.now (cond b (if_found (seen_in self (drop 1 name))) (outwards (scopes c.args.user.now)))) (sym no_dot)

pub returns : goal.returns
returns c =
    let self = c.args.self.now in
    let name = c.args.name.now in
    let used = c.loop-place.used in
    let no_dot = relative name (strip_prefix_char 46 name None c.in_default.ensures.cases (lit< tt)) in
    let outwards : List (List ℕ) → List ℕ = met_outwards (kind_in self) (seen_in self) c.args.wanted name in
    c.mark-2.ensures
    ∙ ap (λ (o : Option ℕ). noted self used (if_found o)) c.find_within-2.ensures
    ∙ subst (λ (place : Option (Bor (List ℕ))). noted self used (outwards (around place)) ≡ noted self c.args.used.now (outwards (scopes c.args.user.now))) c.in_default-place.is c.loop-place.invariant
    ∙ ap (λ (b : Bool). noted self c.args.used.now (cond b (if_found (seen_in self (drop 1 name))) (outwards (scopes c.args.user.now)))) (sym no_dot)

use Rattle.std.proofs.Common.{◌≡◌, ◌||◌, ◌∙◌, ℕ, Bool, false, List, [], ap, replicate, sym}
use Rattle.std.specs.List.{flat_map, list_any}
use Rattle.std.proofs.lemmas.List.Folds.{list_any-append}
use Rattle.protox_descriptor.specs.declared.descriptor.options.UninterpretedOption.{UninterpretedOption}
use Rattle.protox_names.specs.Names.{within}
use Rattle.protox_usage.proofs.Adding.{all_visited, then_all}
use Rattle.protox_usage.specs.Lookups.{lookups_of_declared, lookups_of_options, may_use_more, user_of_file}
use Rattle.protox_usage.specs.Options.{options_of_declared, options_of_file}
use Rattle.protox_usage.specs.Searched.{met_by, noted, with_number}
use Rattle.protox_usage.specs.declared.search.Sight.{Sight}
use Rattle.protox_usage.specs.declared.searcher.Searcher.{Searcher}
use Rattle.protox_walk.specs.Declarations.{file_declarations, text_of}
use Rattle.protox_walk.specs.Parts.{Declared}
use Rattle.protox_usage.proofs.unused.search_file.Goals as goal

pub returns-clause-used : goal.returns-clause-used
returns-clause-used c =
    let file = c.args.file.now in
    let sight = c.args.sight.now in
    let none = replicate c.args.count false in
    let user_is : c.as_str.result.now ≡ user_of_file file =
    c.as_str.ensures.value ∙ c.in_ok-user.ensures ∙ ap (λ (p : List ℕ). within p []) (c.text_of-package.ensures ∙ ap text_of c.as_ref.ensures.value) in
    then_all (with_number sight) (met_by sight) lookups_of_declared (lookups_of_options (user_of_file file) (options_of_file file)) (file_declarations file) none c.search_options.new.found.used c.walk.new.visitor.found.used
    (c.search_options.ensures.used
    ∙ ap (λ (marks : List Bool). noted sight marks (flat_map (met_by sight) (lookups_of_options c.as_str.result.now c.options_of_file.result.now))) c.in_ok-new.ensures
    ∙ ap (λ (u : List ℕ). noted sight none (flat_map (met_by sight) (lookups_of_options u c.options_of_file.result.now))) user_is
    ∙ ap (λ (os : List UninterpretedOption). noted sight none (flat_map (met_by sight) (lookups_of_options (user_of_file file) os))) c.options_of_file.ensures)
    (all_visited (λ (s : Searcher). s.sight.now) (λ (s : Searcher). s.found.used) (λ (s : Searcher). s.found.guesses) with_number
    (λ (s : Sight) (d : Declared). flat_map (met_by s) (lookups_of_declared d)) options_of_declared may_use_more _ _ c.walk.new.visitor c.in_ok-walk.ensures).1

pub returns-clause-guesses : goal.returns-clause-guesses
returns-clause-guesses c =
    let file = c.args.file.now in
    let declared = flat_map options_of_declared (file_declarations file) in
    (all_visited (λ (s : Searcher). s.sight.now) (λ (s : Searcher). s.found.used) (λ (s : Searcher). s.found.guesses) with_number
    (λ (s : Sight) (d : Declared). flat_map (met_by s) (lookups_of_declared d)) options_of_declared may_use_more _ _ c.walk.new.visitor c.in_ok-walk.ensures).2
    ∙ ap (λ (b : Bool). b || list_any may_use_more declared) (c.search_options.ensures.guesses ∙ ap (list_any may_use_more) c.options_of_file.ensures)
    ∙ sym (list_any-append may_use_more (options_of_file file) declared)

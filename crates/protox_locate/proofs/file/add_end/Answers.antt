use Rattle.std.proofs.Common.{List, ◌++◌, flat_map, subst}
use Rattle.protox_ast.specs.Options.{OptionStatement}
use Rattle.protox_ast.specs.declared.ast.Import.{Import}
use Rattle.protox_descriptor.specs.declared.tag.file.TheConstants as tag
use Rattle.protox_places.specs.Lines.{numbers_at}
use Rattle.protox_locate.specs.LocationWords.{Path, part, siblings_at, option_statements}
use Rattle.protox_locate.specs.Locations.{public_words, weak_words, syntax_locations}
use Rattle.protox_locate.specs.inner.Walk.{Emits}
use Rattle.protox_locate.proofs.Numbered.{first_then_ok}
use Rattle.protox_locate.proofs.file.add_end.Goals as goal

pub returns : goal.returns
returns c =
    let n = numbers_at c.args.lines.now in
    let file = c.args.ast.now in
    let f2 = λ (p : Path). option_statements n (part p tag.OPTIONS) file.options in
    let h2 : Emits c.args.context.now c.locate_options.new.context (f2 c.args.context.now.path) = subst (λ (xs : List OptionStatement). Emits c.args.context.now c.locate_options.new.context (option_statements n (part c.args.context.now.path tag.OPTIONS) xs)) c.as_slice.ensures c.in_ok-locate_options.ensures in
    let f3 = λ (p : Path). siblings_at p tag.PUBLIC_DEPENDENCY (flat_map (λ (x : Import). public_words n x.kind) file.imports) in
    let h3 : Emits (c.locate_options.new.context) c.locate_public_words.new.context (f3 c.locate_options.new.context.path) = subst (λ (xs : List Import). Emits c.locate_options.new.context c.locate_public_words.new.context (siblings_at c.locate_options.new.context.path tag.PUBLIC_DEPENDENCY (flat_map (λ (x : Import). public_words n x.kind) xs))) c.as_slice-imports.ensures c.in_ok-locate_public_words.ensures in
    let f4 = λ (p : Path). siblings_at p tag.WEAK_DEPENDENCY (flat_map (λ (x : Import). weak_words n x.kind) file.imports) in
    let h4 : Emits (c.locate_public_words.new.context) c.locate_weak_words.new.context (f4 c.locate_public_words.new.context.path) = subst (λ (xs : List Import). Emits c.locate_public_words.new.context c.locate_weak_words.new.context (siblings_at c.locate_public_words.new.context.path tag.WEAK_DEPENDENCY (flat_map (λ (x : Import). weak_words n x.kind) xs))) c.as_slice-imports.ensures c.in_ok-locate_weak_words.ensures in
    let f5 = λ (p : Path). syntax_locations n p file.syntax_span in
    let g4 = λ (p : Path). f4 p ++ f5 p in
    let g3 = λ (p : Path). f3 p ++ g4 p in
    first_then_ok c.locate_syntax.result c.args.context.now c.locate_options.new.context c.locate_syntax.new.context f2 g3 h2
    (first_then_ok c.locate_syntax.result c.locate_options.new.context c.locate_public_words.new.context c.locate_syntax.new.context f3 g4 h3
    (first_then_ok c.locate_syntax.result c.locate_public_words.new.context c.locate_weak_words.new.context c.locate_syntax.new.context f4 f5 h4
    c.locate_syntax.ensures))

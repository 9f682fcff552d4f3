use Rattle.std.proofs.Common.{List, [], ◌∷◌, ◌++◌, map, subst, append-nil}
use Rattle.std.specs.Prelude.{OnOk}
use Rattle.protox_ast.specs.declared.ast.Import.{Import}
use Rattle.protox_descriptor.specs.declared.tag.file.TheConstants as tag
use Rattle.protox_places.specs.Lines.{numbers_at}
use Rattle.protox_locate.specs.LocationWords.{Path, siblings_at, bare}
use Rattle.protox_locate.specs.Locations.{import_locations, package_locations}
use Rattle.protox_locate.specs.inner.Walk.{Emits}
use Rattle.protox_locate.proofs.Numbered.{first_then_ok}
use Rattle.protox_locate.proofs.file.add_front.Goals as goal

pub returns : goal.returns
returns c =
    let n = numbers_at c.args.lines.now in
    let file = c.args.ast.now in
    let f0 = λ (p : Path). bare n p file.span ∷ [] in
    let f1 = λ (p : Path). package_locations n p file.«package» in
    let f2 = λ (p : Path). siblings_at p tag.DEPENDENCY (map (import_locations n) file.imports) in
    let h2 : OnOk c.locate_imports.result (Emits c.locate_package.new.context c.locate_imports.new.context (f2 c.locate_package.new.context.path)) =
    subst (λ (xs : List Import). OnOk c.locate_imports.result (Emits c.locate_package.new.context c.locate_imports.new.context (siblings_at c.locate_package.new.context.path tag.DEPENDENCY (map (import_locations n) xs)))) c.as_slice.ensures c.locate_imports.ensures in
    first_then_ok c.locate_imports.result c.args.context.now c.add.new.self c.locate_imports.new.context f0 (λ (p : Path). f1 p ++ f2 p)
    (subst (λ (p : Path). Emits c.args.context.now c.add.new.self (bare n p file.span ∷ [])) (append-nil c.args.context.now.path) c.in_ok-add.ensures)
    (first_then_ok c.locate_imports.result c.add.new.self c.locate_package.new.context c.locate_imports.new.context f1 f2 c.in_ok-locate_package.ensures h2)

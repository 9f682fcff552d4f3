use Rattle.std.proofs.Common.{◌≡◌, [], length, arith, refl}
use Rattle.protox_locate.specs.Locations.{package_locations}
use Rattle.protox_locate.proofs.Draft.{front_counted}
use Rattle.protox_locate.proofs.file.front_len.Goals as goal

pub returns-in-Some : goal.returns-in-Some
returns-in-Some c = λ numbers fits.
    let own : length (package_locations numbers [] c.args.head.now.«package») ≡ 1 = rw c.in-Some.is refl in
    let front = front_counted numbers c.args.head.now 1 own in
    omega (arith, c.saturating_add.ensures, c.len-imports.ensures, fits, front)

pub returns-in-None : goal.returns-in-None
returns-in-None c = λ numbers fits.
    let own : length (package_locations numbers [] c.args.head.now.«package») ≡ 0 = rw c.in-None.is refl in
    let front = front_counted numbers c.args.head.now 0 own in
    omega (arith, c.saturating_add-in-None.ensures, c.len-imports.ensures, fits, front)

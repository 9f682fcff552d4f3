-- The locations of a walk, kept in a list or in a pool.
use Rattle.std.specs.Prelude.{List}
use Rattle.protox_descriptor.specs.Location.{Location}
use Rattle.protox_locate.specs.declared.location_list.Kept.{Kept}
use Rattle.protox_locate.specs.declared.location_list.Kept.TheVariants.{Listed, Pooled}

-- the locations, in whichever of the two they are
abbrev pub locations_of : Kept → List Location
locations_of (Listed locations) = locations
locations_of (Pooled locations) = locations

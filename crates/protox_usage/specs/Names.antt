-- What names stand for in the files.
use Rattle.protox_link.specs.declared.known.Known.{Known}
use Rattle.protox_usage.specs.declared.names.Names.{Names}
use Rattle.protox_usage.specs.declared.names.Names.TheVariants.{Lent, Own}

abbrev pub known_by : Names → Known
known_by (Own known) = known
known_by (Lent known) = known.now

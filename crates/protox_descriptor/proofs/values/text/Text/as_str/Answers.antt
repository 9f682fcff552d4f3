use Rattle.std.proofs.lemmas.Str.{IsUtf8-had}
use Rattle.protox_descriptor.proofs.values.text.Text.as_str.Goals as goal

pub as_text-requires : goal.as_text-requires
as_text-requires c = IsUtf8-had _ (rw c.in-InPlace.is at c.self.invariant).1.1

use Rattle.std.proofs.Common.{◌≡◌, length}
use denote.Text.{Utf8}
use denote.Shadow.{shadow}
use Rattle.protox_names.specs.Names.{parts}
use Rattle.protox_names.specs.Tree.{walk}
use Rattle.protox_name_tree.specs.Tree.{IsKnown, name_in, number_of}
use Rattle.protox_name_tree.proofs.Walked.{child}
use Rattle.protox_name_tree.proofs.tree.NameTree.find.Given as goal

-- the rest of the name, looked for in the place so far, is the name in the first place
abbrev pub invariant-loop-part : goal.invariant-loop-part
invariant-loop-part l = record {
  text : shadow (Utf8 l.rest);
  known : IsKnown l.self.full_names l.place;
  walked : walk (child l.self.full_names) l.place (parts l.rest) ≡ number_of l.self (name_in l.self l.fn.place l.name);
}

abbrev pub decreases-loop-part : goal.decreases-loop-part
decreases-loop-part l = length l.rest

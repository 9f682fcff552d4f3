use Rattle.std.proofs.Common.{rules}
use Rattle.protox_link_options.proofs.Entries.{as_many_answers}
use Rattle.protox_link_options.proofs.linking.spelled.Goals as goal

pub set_bytes-requires : goal.set_bytes-requires
set_bytes-requires c = as_many_answers c.args.set.files.items 0 c.args.set.files.items c.args.answers.items c.requires.interpreted

pub returns-in-Err-TooLarge-clause-without : goal.returns-in-Err-TooLarge-clause-without
returns-in-Err-TooLarge-clause-without c sources linking = record {
  set = c.args.set;
  answers = c.args.answers.items;
  linking = record { linking = linking; right = c.requires };
  large = search rules;
}

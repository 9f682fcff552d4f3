use Rattle.std.proofs.Common.{◌∙◌, ap, length, subst}
use Rattle.std.proofs.lemmas.List.{length-map}
use Rattle.protox_imports.specs.Names.{number_of}
use Rattle.protox_imports.specs.Rows.{row_by}
use Rattle.protox_imports.specs.Seen.{AreSeen}
use Rattle.protox_marks.specs.Few.{among}
use Rattle.protox_marks.specs.Marks.{any_marked}
use Rattle.protox_views.proofs.Lemmas.{packages_seen}
use Rattle.protox_link.specs.Seen.{packages_of}
use Rattle.protox_symbols.specs.Things.{table_of}
use Rattle.protox_link.proofs.known.Known.names.Goals as goal

pub returns-clause-of_file : goal.returns-clause-of_file
returns-clause-of_file c files known = record {
  table = known.table;
  seen = record {
    as_many = c.in_ok-sees.ensures.len ∙ ap length known.rows ∙ length-map files (row_by (number_of files));
    of_files = subst (λ rows. AreSeen rows c.args.number c.in_ok-sees.sees) known.rows c.in_ok-sees.ensures.value;
    of_packages = λ n here. packages_seen (table_of files).names (packages_of (table_of files) files) c.args.self.now.packages c.in_ok-sees.sees n known.packages here;
  };
  as_many = length-map c.args.self.now.packages.files.items (λ few. any_marked c.in_ok-sees.sees (among few)) ∙ known.packages.as_many;
}

use Rattle.std.proofs.Common.{◌≤◌, ◌∙◌, ap, arith, length, subst, sym}
use Rattle.std.proofs.lemmas.List.{length-map}
use Rattle.protox_descriptor.specs.declared.descriptor.FileDescriptorProto.{FileDescriptorProto}
use Rattle.protox_imports.specs.Names.{number_of}
use Rattle.protox_imports.specs.Rows.{row_by}
use Rattle.protox_link.proofs.LinkingRight.{all_linked, next_in_table, one_linked}
use Rattle.protox_link.specs.Files.{IsInTable, IsLinkedAt}
use Rattle.protox_symbols.specs.Symbols.{Table}
use Rattle.protox_link.proofs.files.link_files.Goals as goal

pub link_numbered-requires-clause-within : goal.link_numbered-requires-clause-within
link_numbered-requires-clause-within c =
    omega (arith, ap length c.requires.known.rows ∙ length-map c.args.files.now (row_by (number_of c.args.files.now)), c.loop-number.invariant.as_many)

pub link_numbered-requires-clause-in_table : goal.link_numbered-requires-clause-in_table
link_numbered-requires-clause-in_table c =
    subst (IsInTable c.args.known.now.symbols) c.index-files-number.is
    (subst (λ (t : Table). IsInTable t c.index-files-number.result) (sym c.requires.known.table)
    (next_in_table c.args.files.now c.loop-number.number c.loop-number.files c.index-files-number.result (omega arith) c.index-files-number.is c.loop-number.invariant))

pub loop-number-preserved : goal.loop-number-preserved
loop-number-preserved c =
    let file = c.index-files-number.result in
    one_linked c.args.files.now c.loop-number.number c.loop-number.files file (omega arith) c.index-files-number.is c.loop-number.invariant c.link_numbered.new.file
    (subst (λ (read : FileDescriptorProto). IsLinkedAt c.args.files.now c.loop-number.number read c.link_numbered.new.file) (sym c.index-files-number.is)
    (c.in_ok-link_numbered.ensures c.args.files.now c.requires.known))

pub returns : goal.returns
returns c =
    let end : length c.loop-number.files ≤ c.loop-number.number = omega arith in
    all_linked c.args.files.now c.loop-number.number c.loop-number.files end c.loop-number.invariant

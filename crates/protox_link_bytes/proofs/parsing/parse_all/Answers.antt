use Rattle.std.proofs.Common.{List, [], arith, length-take, sym, subst, take}
use Rattle.std.proofs.lemmas.List.{length-map}
use Rattle.protox_descriptor.specs.declared.descriptor.FileDescriptorProto.{FileDescriptorProto}
use Rattle.protox_link_bytes.proofs.Sources.{given_more, parsed-none}
use Rattle.protox_link_bytes.specs.Given.{GivenFile, given}
use Rattle.protox_link_bytes.specs.Parsed.{AreParsed, IsParsedOf}
use Rattle.protox_link_bytes.proofs.parsing.parse_all.Goals as goal

pub loop-number-init : goal.loop-number-init
loop-number-init c = subst (λ (files : List FileDescriptorProto). AreParsed [] files) (sym c.new.ensures.items) parsed-none

pub loop-number-preserved : goal.loop-number-preserved
loop-number-preserved c =
    let before = take c.loop-number.number c.args.sources.now in
    subst (λ (files : List GivenFile). IsParsedOf files c.in_ok-parsed.parsed)
    (given_more c.args.sources.now c.loop-number.number _ (omega arith))
    (c.in_ok-parsed.ensures (given before) (omega (arith, length-map {B = GivenFile} before, length-take c.loop-number.number c.args.sources.now)) c.loop-number.invariant)

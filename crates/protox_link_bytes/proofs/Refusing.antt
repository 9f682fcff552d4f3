-- Files that can be linked are not refused.
use Rattle.std.proofs.Common.{ℕ, List, [], Result, Ok, Err, IfErr, inl, inr, subst}
use Rattle.protox_imports.proofs.Lemmas.{ordered_has_no_cycle}
use Rattle.protox_link.proofs.Lemmas.{one_list}
use Rattle.protox_link.specs.Link.{AreOfFiles}
use Rattle.protox_link_bytes.proofs.Sources as sources_of
use Rattle.protox_link_bytes.specs.Given.{GivenFile}
use Rattle.protox_link_bytes.specs.Outcomes.{AreLinkable, AreRefused, HasNoLinking, IsWant}
use Rattle.protox_link_bytes.specs.declared.failure.LinkSourcesFailure.{LinkSourcesFailure}
use Rattle.protox_link_bytes.specs.declared.failure.LinkSourcesFailure.TheVariants as set
use Rattle.protox_link_fault.specs.declared.LinkFault.{LinkFault}

nothing_wrong : (sources : List GivenFile) (can : AreLinkable sources) (faults : List LinkFault) → AreOfFiles can.files faults → ⊥
nothing_wrong sources can faults (inl circle) = ordered_has_no_cycle can.files can.order circle.2.circle can.ordered circle.2.is
nothing_wrong sources can faults (inr wrong) = wrong.0 (one_list can.files can.files 0 faults [] wrong.1 can.right)

pub not_refused : (sources : List GivenFile) (bytes : List ℕ) → AreLinkable sources → AreRefused sources bytes → ⊥
not_refused sources bytes can (inl syntax) = syntax.wrong (sources_of.are_files sources can.files can.translated)
not_refused sources bytes can (inr linking) =
    nothing_wrong sources can linking.faults
    (subst (λ files. AreOfFiles files linking.faults) (sources_of.one_list sources linking.files can.files linking.translated can.translated) linking.wrong)

wanting : (sources : List GivenFile) (failure : LinkSourcesFailure) → AreLinkable sources → HasNoLinking sources failure → IsWant failure
wanting sources (set.Refused bytes) can h = not_refused sources bytes.items can h
wanting sources set.OutOfMemory can h = tt

pub not_refused_if : {V : Type 0} (sources : List GivenFile) (r : Result V LinkSourcesFailure) → AreLinkable sources → IfErr r (HasNoLinking sources) → IfErr r IsWant
not_refused_if {V} sources (Ok v) can h = tt
not_refused_if {V} sources (Err failure) can h = wanting sources failure can h

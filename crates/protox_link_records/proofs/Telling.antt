-- One fault more is told.
use Rattle.std.proofs.Common.{◌≡◌, ◌<◌, ◌+◌, ℕ, Bool, List, [], ◌∷◌, ◌++◌, append_assoc, get_or, length, take, ap, sym, subst, ◌∙◌}
use Rattle.std.proofs.lemmas.List.{take_more}
use Rattle.protox_descriptor.specs.declared.descriptor.FileDescriptorProto.{FileDescriptorProto}
use Rattle.protox_link.specs.Seen.{IsSeenBy}
use Rattle.protox_link_fault.specs.declared.LinkFault.{LinkFault}
use Rattle.protox_link_records.specs.LinkRecords.{AreTold, OneMore, fault_records}

pub take_next : {X : Type 0} (xs : List X) (i : ℕ) (x : X) → i < length xs → x ≡ get_or xs i x → take i xs ++ x ∷ [] ≡ take (i + 1) xs
take_next xs i x lt is = sym (take_more xs i x lt ∙ ap (λ y. take i xs ++ y ∷ []) (sym is))

pub told_next : (sources : List (List ℕ)) (files : List FileDescriptorProto) (before faults : List LinkFault) (i : ℕ) (fault : LinkFault) (bytes after : List ℕ)
    (sees packages : List Bool) → i < length faults → fault ≡ get_or faults i fault → IsSeenBy files fault.file sees packages
    → after ≡ bytes ++ fault_records sources files sees packages fault
    → AreTold sources files (before ++ take i faults) bytes → AreTold sources files (before ++ take (i + 1) faults) after
told_next sources files before faults i fault bytes after sees packages lt is seen e so_far =
    let next : AreTold sources files ((before ++ take i faults) ++ fault ∷ []) (bytes ++ fault_records sources files sees packages fault) =
    OneMore (before ++ take i faults) bytes fault sees packages so_far seen in
    let all : (before ++ take i faults) ++ fault ∷ [] ≡ before ++ take (i + 1) faults =
    append_assoc before (take i faults) (fault ∷ []) ∙ ap (λ t. before ++ t) (take_next faults i fault lt is) in
    subst (λ bs. AreTold sources files (before ++ take (i + 1) faults) bs) (sym e)
    (subst (λ fs. AreTold sources files fs (bytes ++ fault_records sources files sees packages fault)) all next)

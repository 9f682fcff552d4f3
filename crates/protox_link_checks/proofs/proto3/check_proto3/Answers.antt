use Rattle.std.proofs.Common.{◌≡◌, ◌++◌, [], Bool, OnOk, cond, subst}
use Rattle.std.specs.List.{flat_map}
use Rattle.protox_link_checks.proofs.InProto3.{file_checked}
use Rattle.protox_link_checks.specs.Proto3.{faults_of_proto3}
use Rattle.protox_walk.specs.Declarations.{file_declarations, text_of}
use Rattle.protox_link_checks.proofs.proto3.check_proto3.Goals as goal

pub returns : goal.returns
returns c =
    let file = c.args.of.now in
    let package1 = text_of file.«package» in
    let before = c.args.faults.now.items in
    let after = c.check_siblings-2.new.faults.items in
    subst (λ (b : Bool). OnOk c.check_siblings-2.result (after ≡ before ++ cond b (flat_map (faults_of_proto3 c.args.number) (file_declarations file)) [])) c.if-not-is_proto3.ensures
    (file_checked c.args.number c.check_siblings-2.result file before c.check_siblings.new.faults.items after (c.in_ok-check_siblings.ensures package1) (c.check_siblings-2.ensures package1))

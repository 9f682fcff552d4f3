use Rattle.std.proofs.Common.{ℕ, List, ◌++◌, drop, length, ap, refl, arith}
use Rattle.protox_ffi.specs.Answers.{given, short}
use Rattle.protox_ffi.proofs.outcome.deliver.Goals as goal

pub returns-then-out-bytes : goal.returns-then-out-bytes
returns-then-out-bytes c = short c.args.bytes.now refl (omega (arith, c.if-out-bytes.true)) refl refl refl

pub returns : goal.returns
returns c =
    let written = ap (λ (front : List ℕ). front ++ drop (length c.args.bytes.now) c.args.out.now) c.copy_from_slice.ensures.after in
    given c.args.bytes.now refl (omega (arith, c.if-out-bytes.false)) refl written refl

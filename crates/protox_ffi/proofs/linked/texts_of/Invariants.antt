use Rattle.std.proofs.Common.{◌≡◌, take}
use Rattle.protox_ffi.specs.Linked.{given}
use Rattle.protox_link_bytes.specs.Given as text
use Rattle.protox_ffi.proofs.linked.texts_of.Given as goal

abbrev pub invariant-loop-file : goal.invariant-loop-file
invariant-loop-file l = text.given l.texts.items ≡ given (take l.file-index l.files)

use Rattle.std.proofs.Common.{◌≡◌, [], All, None, map, take, string_bytes}
use Rattle.protolink_words.specs.Asking.{IsNameWord, IsPlain}
use Rattle.protolink_words.proofs.take_all.Given as goal

-- Where each word is a name, no option waits, and the words before are the files.
abbrev pub invariant-loop-word : goal.invariant-loop-word
invariant-loop-word l = record {
  waits : All IsNameWord l.words → l.waits ≡ None;
  plain : All IsNameWord l.words → IsPlain [] l.initial.work → IsPlain (map string_bytes (take l.word-index l.words)) l.work;
}

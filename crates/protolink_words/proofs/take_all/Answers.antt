use Rattle.std.proofs.Common.{◌≡◌, ◌+◌, ◌++◌, ◌∷◌, [], ℕ, List, All, map, string_bytes, take, sym, ap, subst, ◌∙◌}
use Rattle.std.proofs.lemmas.List.{map_more}
use Rattle.protolink_words.specs.Asking.{IsName, IsNameWord, IsPlain}
use Rattle.protolink_words.proofs.take_all.Goals as goal

pub loop-word-preserved : goal.loop-word-preserved
loop-word-preserved c =
    let words = c.args.words.now in
    let i = c.loop-word.word-index in
    let item = c.word-item.result in
    let before = c.loop-word.invariant in
    let text_is = ap string_bytes (sym c.word-item.is) ∙ sym c.as_str.ensures.value in
    let named = λ (names : All IsNameWord words). subst IsName text_is (names i item c.loop-word-test.true) in
    let more : map string_bytes (take i words) ++ c.as_str.result.now ∷ [] ≡ map string_bytes (take (i + 1) words) =
    ap (λ (text : List ℕ). map string_bytes (take i words) ++ text ∷ []) (sym text_is) ∙ sym (map_more string_bytes words i item c.loop-word-test.true) in
    record {
      waits = λ names. c.in_ok-taken.ensures.waits (named names) (before.waits names);
      plain = λ names none.
          subst (λ (texts : List (List ℕ)). IsPlain texts c.take_next.new.work) more
          (c.in_ok-taken.ensures.plain (map string_bytes (take i words)) (named names) (before.waits names) (before.plain names none));
    }

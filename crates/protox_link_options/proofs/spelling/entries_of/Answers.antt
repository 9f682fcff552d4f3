use Rattle.std.proofs.Common.{◌≡◌, ◌∙◌, [], ◌∷◌, ap, arith, length, map}
use Rattle.std.proofs.lemmas.Grind.{common_steps}
use Rattle.std.proofs.lemmas.List.{map-append}
use Rattle.protox_encode.specs.declared.fault.EncodeError.TheVariants.{TooLarge}
use Rattle.protox_link_bytes.proofs.Lemmas.{same_error}
use Rattle.protox_link_options.proofs.Entries.{all_made, large_one, one_made, reverse-map}
use Rattle.protox_link_options.proofs.spelling.entries_of.Goals as goal

pub returns-in-Err-clause-too_large : goal.returns-in-Err-clause-too_large
returns-in-Err-clause-too_large c is =
    large_one c.args.files.items c.args.answers.items c.pop-in-Some.new.self.items c.loop-answer.files.items c.pop.new.self.items c.loop-answer.answers.items
    c.in-Some-pop.file c.in-Some.answer (map (λ entry. entry.items) c.loop-answer.made.items) c.in-Some-pop.ensures.items c.in-Some.ensures.items c.loop-answer.invariant
    (c.in-Err.ensures.too_large (same_error c.in-Err.error TooLarge is))

pub loop-answer-preserved : goal.loop-answer-preserved
loop-answer-preserved c =
    one_made c.args.files.items c.args.answers.items c.pop-in-Some.new.self.items c.loop-answer.files.items c.pop.new.self.items c.loop-answer.answers.items
    c.in-Some-pop.file c.in-Some.answer (map (λ entry. entry.items) c.loop-answer.made.items) (map (λ entry. entry.items) c.push.new.self.items) c.in-Ok.entry.items
    c.in-Some-pop.ensures.items c.in-Some.ensures.items c.in-Ok.ensures.exact
    (ap (map (λ entry. entry.items)) c.in-Ok-push.ensures.items ∙ map-append (λ entry. entry.items) c.loop-answer.made.items (c.in-Ok.entry ∷ []))
    c.loop-answer.invariant

pub returns-clause-exact : goal.returns-clause-exact
returns-clause-exact c =
    let none : length c.loop-answer.answers.items ≡ 0 = grind (arith, common_steps) in
    ap (map (λ entry. entry.items)) c.reverse.ensures.items ∙ reverse-map (λ entry. entry.items) c.loop-answer.made.items
    ∙ all_made c.args.files.items c.args.answers.items c.loop-answer.files.items c.loop-answer.answers.items (map (λ entry. entry.items) c.loop-answer.made.items) none c.loop-answer.invariant

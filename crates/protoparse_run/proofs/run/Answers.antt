use Rattle.std.proofs.Common.{ℕ, List, All, map, subst, arith}
use Rattle.std.proofs.lemmas.List.{get_or-map, length-map}
use Rattle.std.proofs.lemmas.List.Elements.{All-map}
use Rattle.std.specs.String.{string_bytes}
use Rattle.protox_parse.specs.Files.{IsFile}
use Rattle.protoparse_words.specs.Asking.{path_of}
use Rattle.protoparse_run.proofs.run.Goals as goal

-- What holds of what each element is turned into is a fact of each element.
All-of_mapped : {X Y : Type 0} (P : Y → Type 0) (f : X → Y) (xs : List X) → All P (map f xs) → All (λ x. P (f x)) xs
All-of_mapped P f xs each = λ k d below. subst P (get_or-map f xs k d (f d) below) (each k (f d) (omega (arith, length-map xs f)))

pub returns-in-Ok-Work-clause-accepted : goal.returns-in-Ok-Work-clause-accepted
returns-in-Ok-Work-clause-accepted g c = λ names zero.
    let P : List ℕ → Type 0 = λ name. (source : List ℕ) × g.H.Host.holds c.args.host.now name source × IsFile source in
    let Each : List (List ℕ) → Type 0 = λ all. All P all in
    let asked = rw c.in-Ok-Work.field-0-is at (c.in-Ok-Work.ensures.names names) in
    let named = All-map P path_of c.in-Ok-Work.work.tasks.items (c.worked.ensures.accepted zero) in
    All-of_mapped P string_bytes c.args.words.now (subst Each asked.0 named)

use Rattle.std.proofs.Common.{◌≡◌, ◌+◌, ◌<◌, ◌++◌, ◌∷◌, [], true, false, length, map, drop, arith, rules, inl, inr, ap, ◌∙◌}
use Rattle.std.specs.Prelude.{codes, ◌⊎◌}
use Rattle.protox_ast.specs.Options.{has_name, uninterpreted}
use Rattle.protox_describe.proofs.Left.{left, left-default, left-json_name, left-other, dropped, kept}
use Rattle.protox_describe.proofs.Lists.{drop_more}
use Rattle.protox_describe.proofs.options.left.Goals.{then-not-default_read+then-has_name, else-not-default_read+then-not-json_name_read+then-has_name-2, else-not-default_read-via-then-not-default_read+else-has_name, else-not-default_read-via-else-not-default_read, else-not-default_read+else-not-json_name_read+in_ok-uninterpreted+in_ok-push, else-not-json_name_read-via-then-not-json_name_read+else-has_name-2, else-not-json_name_read-via-else-not-json_name_read}
use Rattle.protox_describe.proofs.options.left.Goals as goal

pub loop-body-preserved : goal.loop-body-preserved
loop-body-preserved c =
    let xs = c.args.bodies.now in
    let i = c.loop-body.body-index in
    let x = c.body-item.result in
    let d = c.loop-body.default_read in
    let j = c.loop-body.json_name_read in
    let lt : i < length xs = omega arith in
    let more = drop_more xs i x lt c.body-item.is in
    let inv = c.loop-body.invariant in
    let joined = c.if-not-default_read in
    let rest = drop (i + 1) xs in
    let whole = map uninterpreted (left false false xs) in
    elim c.if-not-default_read.branch [
      | then-not-default_read+then-has_name w ↦
          let first : d ≡ false = search rules in
          let named : has_name (codes "default") x ≡ true = cc in
          let step : left d j (x ∷ rest) ≡ left joined.default_read joined.json_name_read rest = rw (w.default_read-is, w.json_name_read-is, first) (left-default j x rest named) in
          let before : joined.options ++ map uninterpreted (left d j (drop i xs)) ≡ whole = rw w.options-is inv in
          dropped joined.options d j joined.default_read joined.json_name_read (drop i xs) rest x whole more step before
      | else-not-default_read+then-not-json_name_read+then-has_name-2 w ↦
          let first : j ≡ false = search rules in
          let named : has_name (codes "json_name") x ≡ true = cc in
          let passed : (has_name (codes "default") x ≡ false) ⊎ (d ≡ true) = elim w.else-not-default_read.branch [
            | else-not-default_read-via-then-not-default_read+else-has_name w' ↦ inl (cc)
            | else-not-default_read-via-else-not-default_read w' ↦ inr (search rules)
          ] in
          let step : left d j (x ∷ rest) ≡ left joined.default_read joined.json_name_read rest = rw (w.default_read-is, w.json_name_read-is, first) (left-json_name d x rest passed named) in
          let before : joined.options ++ map uninterpreted (left d j (drop i xs)) ≡ whole = rw w.options-is inv in
          dropped joined.options d j joined.default_read joined.json_name_read (drop i xs) rest x whole more step before
      | else-not-default_read+else-not-json_name_read+in_ok-uninterpreted+in_ok-push w ↦
          let passed : (has_name (codes "default") x ≡ false) ⊎ (d ≡ true) = elim w.else-not-default_read.branch [
            | else-not-default_read-via-then-not-default_read+else-has_name w' ↦ inl (cc)
            | else-not-default_read-via-else-not-default_read w' ↦ inr (search rules)
          ] in
          let passed_too : (has_name (codes "json_name") x ≡ false) ⊎ (j ≡ true) = elim w.else-not-json_name_read.branch [
            | else-not-json_name_read-via-then-not-json_name_read+else-has_name-2 w' ↦ inl (cc)
            | else-not-json_name_read-via-else-not-json_name_read w' ↦ inr (search rules)
          ] in
          let step : left joined.default_read joined.json_name_read (x ∷ rest) ≡ x ∷ left joined.default_read joined.json_name_read rest = rw (w.default_read-is, w.json_name_read-is) (left-other d j x rest passed passed_too) in
          let before : c.loop-body.options ++ map uninterpreted (left joined.default_read joined.json_name_read (drop i xs)) ≡ whole = rw (w.default_read-is, w.json_name_read-is) inv in
          let pushed : joined.options ≡ c.loop-body.options ++ uninterpreted x ∷ [] =
          w.options-is ∙ w.in_ok-push.ensures.ok ∙ ap (λ option. c.loop-body.options ++ option ∷ []) w.in_ok-uninterpreted.ensures in
          kept c.loop-body.options joined.options joined.default_read joined.json_name_read (drop i xs) rest x whole more step pushed before
    ]

use Rattle.std.proofs.Common.{◌≡◌, ◌≤◌, ◌++◌, ◌^◌, ◌&&◌, true, false, length, refl, sym, ap, ◌∙◌}
use Rattle.std.proofs.lemmas.Bool.{ltb-false, ltb-true}
use Rattle.std.proofs.lemmas.Option.{slice_get_past, slice_get_read}
use Rattle.std.proofs.lemmas.Result.{on_ok_weaker}
use Rattle.std.specs.List.{list_all}
use Rattle.protox_encode.specs.Floats.{has_floats}
use Rattle.protox_encode.specs.declared.fault.EncodeError.TheVariants.{NotAFloat, TooLarge}
use Rattle.protox_link_bytes.proofs.Errors.{same_error}
use Rattle.protox_link_bytes.specs.Spelled.{bytes_of}
use Rattle.protox_link_bytes.proofs.Sets.{nothing_at, of_file}
use Rattle.protox_link_bytes.proofs.spelling.push_file.Goals as goal

pub returns-in_default-clause-exact : goal.returns-in_default-clause-exact
returns-in_default-clause-exact c = nothing_at c.args.files.now c.args.number c.args.bytes.now.items (slice_get_past c.args.files.now c.args.number (ltb-false c.args.number (length c.args.files.now) (sym c.in_default.ensures.lookup.0)))

pub returns-in-Ok-clause-exact : goal.returns-in-Ok-clause-exact
returns-in-Ok-clause-exact c =
    on_ok_weaker c.add.result
    (λ e. e ∙ ap (λ bs. c.args.bytes.now.items ++ bs)
    (c.as_slice.ensures.value ∙ of_file c.args.files.now c.args.number c.in-Some.file.now (λ files. c.in-Ok.entry.items ≡ bytes_of files) (slice_get_read c.args.files.now (length c.args.files.now) c.args.number c.in-Some.file.now refl (ltb-true c.args.number (length c.args.files.now) (sym c.in-Some.ensures.lookup.0)) c.in-Some.ensures.lookup.1) c.in-Ok.ensures.exact))
    c.add.ensures.exact

pub returns-in-Err-clause-too_large : goal.returns-in-Err-clause-too_large
returns-in-Err-clause-too_large c = λ is. of_file c.args.files.now c.args.number c.in-Some.file.now (λ files. 2 ^ 31 ≤ length (bytes_of files)) (slice_get_read c.args.files.now (length c.args.files.now) c.args.number c.in-Some.file.now refl (ltb-true c.args.number (length c.args.files.now) (sym c.in-Some.ensures.lookup.0)) c.in-Some.ensures.lookup.1) (c.in-Err.ensures.too_large (same_error c.in-Err.error TooLarge is))

pub returns-in-Err-clause-not_a_float : goal.returns-in-Err-clause-not_a_float
returns-in-Err-clause-not_a_float c = λ is. of_file c.args.files.now c.args.number c.in-Some.file.now (λ files. list_all has_floats files ≡ false) (slice_get_read c.args.files.now (length c.args.files.now) c.args.number c.in-Some.file.now refl (ltb-true c.args.number (length c.args.files.now) (sym c.in-Some.ensures.lookup.0)) c.in-Some.ensures.lookup.1) (ap (λ b. b && true) (c.in-Err.ensures.not_a_float (same_error c.in-Err.error NotAFloat is)))

use Rattle.protox_file_options.proofs.Adding.{adds_all}
use Rattle.protox_file_options.proofs.Bytes.{all_interpreted}
use Rattle.protox_file_options.specs.Places.{places_of}
use Rattle.protox_file_options.proofs.file.interpret_file.Goals as goal

pub returns-in-Ok : goal.returns-in-Ok
returns-in-Ok c = record {
  interpreted = all_interpreted c.args.view.now c.args.files.now c.args.file.now _ c.in-Ok.interpreter.answer c.new-3.ensures.items c.new-2.ensures.items c.new.ensures
      (adds_all _ c.in-Ok.interpreter (places_of c.args.file.now) c.in-Ok.ensures).added;
}

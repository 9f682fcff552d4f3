-- What comes of the statements at a place.
use Rattle.std.specs.Prelude.{◌≡◌, List, Some, None}
use Rattle.protox_descriptor.specs.declared.descriptor.FileDescriptorProto.{FileDescriptorProto}
use Rattle.protox_file_options.specs.Places.{Place}
use Rattle.protox_file_options.specs.declared.answer.PlaceFault.{PlaceFault}
use Rattle.protox_file_options.specs.declared.answer.PlaceFault.TheVariants as fault
use Rattle.protox_interpret.specs.Answers.{IsAnswer}
use Rattle.protox_interpret.specs.Statements.{IsFirstFault}
use Rattle.protox_interpret.specs.declared.fault.StatementFault.{StatementFault}
use Rattle.protox_interpret.specs.declared.site.Interpreted.{Interpreted}
use Rattle.protox_interpret.specs.declared.site.Site.{Site}
use Rattle.protox_name_tree.specs.Tree.{Names, number_of}
use Rattle.protox_views.specs.declared.view.View.{View}

-- They set this, or something is wrong with them.
pub data Outcome : Type 0 where
  Sets : Interpreted → Outcome
  Wrong : PlaceFault → Outcome

-- the full names of the table
abbrev pub names_of : View → Names
names_of view = view.symbols.now.names

-- The place as `interpret` sees it: the scope and the type of the options by their numbers.
pub record IsSite (seen : View) (linked : List FileDescriptorProto) (place : Place) (here : Site) : Type 0 where
  pub view : here.view.now ≡ seen
  pub files : here.files.now ≡ linked
  pub scope : here.scope ≡ number_of (names_of seen) place.scope
  pub message : Some here.message ≡ number_of (names_of seen) place.options

-- The statements at the place have this outcome: no file declares the type of the options; or all
-- statements are right, and this is what they set; or this is the first that is wrong.
pub data IsOutcome (view : View) (files : List FileDescriptorProto) (place : Place) : Outcome → Type 0 where
  HasNoType : number_of (names_of view) place.options ≡ None → IsOutcome view files place (Wrong fault.NoType)
  AllSet : (here : Site) (answer : Interpreted) → IsSite view files place here
      → IsAnswer here place.statements answer → IsOutcome view files place (Sets answer)
  OneWrong : (here : Site) (wrong : StatementFault) → IsSite view files place here
      → IsFirstFault here place.statements wrong → IsOutcome view files place (Wrong (fault.Statement wrong))

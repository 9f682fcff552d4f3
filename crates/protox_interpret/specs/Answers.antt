-- What is answered of the statements of an options message.
use Rattle.std.specs.Prelude.{◌≡◌, ℕ, Bool, List, map}
use Rattle.protox_descriptor.specs.declared.descriptor.options.UninterpretedOption.{UninterpretedOption}
use Rattle.protox_interpret.specs.Settings.{Setting, options_bytes}
use Rattle.protox_interpret.specs.Statements.{AreSet, IsFirstFault}
use Rattle.protox_interpret.specs.declared.fault.StatementFault.{StatementFault}
use Rattle.protox_interpret.specs.declared.site.Interpreted.{Interpreted}
use Rattle.protox_interpret.specs.declared.site.SetPath.{SetPath}
use Rattle.protox_interpret.specs.declared.site.Site.{Site}

-- the field that a statement sets, and whether it is repeated
abbrev pub path_set : Setting → List ℕ × Bool
path_set setting = (setting.path, setting.repeated)

abbrev pub path_seen : SetPath → List ℕ × Bool
path_seen set = (set.path.items, set.repeated)

-- The statements set what their names and values say, none of them what was set before it; the bytes
-- are those of all that, and the paths those of the fields that they set.
pub record IsAnswer (here : Site) (statements : List UninterpretedOption) (answer : Interpreted) : Type 0 where
  pub settings : List Setting
  pub set : AreSet here statements settings
  pub bytes : answer.bytes.items ≡ options_bytes settings
  pub paths : map path_seen answer.paths.items ≡ map path_set settings

-- Statements that all set something have none that is wrong.
abbrev pub NeverBoth : Site → List UninterpretedOption → Type 0
NeverBoth here statements = (answer : Interpreted) (fault : StatementFault) → IsAnswer here statements answer → IsFirstFault here statements fault → ⊥

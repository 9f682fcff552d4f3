-- What other crates need of these proofs.
pub use Rattle.protox_ast.proofs.FilesStand.{source-stands}
pub use Rattle.protox_ast.proofs.Keeps.{Keeps, Pairs, extend_has, message_has}
pub use Rattle.protox_ast.proofs.Levels.{body-gives, extend-gives, field-gives, item-enum}
pub use Rattle.protox_ast.proofs.Levels.{item-extend, item-field, item-message, item-oneof}
pub use Rattle.protox_ast.proofs.Levels.{kind-group, kind-map, kind-normal, message-gives}
pub use Rattle.protox_ast.proofs.Levels.{oneof-gives}
pub use Rattle.protox_ast.proofs.LevelsStand.{declarations-stand}
pub use Rattle.protox_ast.proofs.Membership.{Among, Somewhere, among-cases, among-flat, among-from}
pub use Rattle.protox_ast.proofs.Membership.{among-left, among-right, any-from, contains-from}
pub use Rattle.protox_ast.proofs.Membership.{somewhere-at, somewhere-flat, somewhere-from}
pub use Rattle.protox_ast.proofs.NodesBraced.{nodes-braced}
pub use Rattle.protox_ast.proofs.NodesChecked.{nodes-checked}
pub use Rattle.protox_ast.proofs.NodesDeep.{nodes-deep}
pub use Rattle.protox_ast.proofs.NodesKeep.{nodes-keep}
pub use Rattle.protox_ast.proofs.Nothing.{fine-faultless, nothing-wrong}
pub use Rattle.protox_ast.proofs.Siblings.{StartsRise, each-lies, starts-rise}
pub use Rattle.protox_ast.proofs.SpansStand.{each-append, each-back, each-front, each-so}
pub use Rattle.protox_ast.proofs.SpansStand.{spans-order}
pub use Rattle.protox_ast.proofs.Standing.{Stand, as-many, bare, bare-placed, count-fits, in-order}
pub use Rattle.protox_ast.proofs.Standing.{stand-after, stand-front}
pub use Rattle.protox_ast.proofs.Texts.{text-same}
pub use Rattle.protox_ast.proofs.ValidTexts.{text-ok}

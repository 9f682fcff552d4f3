-- When a checked node has no fault, said for each case.
use Rattle.std.specs.Prelude.{◌≡◌, true}
use Rattle.protox_ast.specs.AstParts.{strings_value, text_of}
use Rattle.protox_ast.specs.CheckedNodes.{CheckedNode, ASyntax, AnImport, AReservedName, AGroupName, APackageAgain, ATooDeep}
use Rattle.protox_ast.specs.Checks.{is_group_name, is_ident, is_known_syntax, is_text, is_import_path}

-- Nothing is wrong with the node. A second package statement and a body that is too deep are always
-- wrong.
abbrev pub IsFine : {M : Type 0} → CheckedNode M → Type 0
IsFine (ASyntax x) = is_known_syntax (strings_value x) ≡ true
IsFine (AnImport x) = (is_text (strings_value x) ≡ true) × (is_import_path (text_of (strings_value x)) ≡ true)
IsFine (AReservedName x) = (is_text (strings_value x) ≡ true) × (is_ident (text_of (strings_value x)) ≡ true)
IsFine (AGroupName x) = is_group_name x.0 ≡ true
IsFine (APackageAgain first again) = ⊥
IsFine (ATooDeep keyword open_at) = ⊥

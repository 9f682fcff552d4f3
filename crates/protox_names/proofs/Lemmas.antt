-- What other crates need of these proofs.
pub use Rattle.protox_names.proofs.Joining.{front_of_one_part, full_names_differ}
pub use Rattle.protox_names.proofs.Joining.{identifiers_are_one_part, no_dots, parts_of_joined}
pub use Rattle.protox_names.proofs.Joining.{parts_within, scopes_are_shorter, scopes_at_dot}
pub use Rattle.protox_names.proofs.Joining.{scopes_of_one_part, scopes_within, within_nests}
pub use Rattle.protox_names.proofs.Found.{one_part}
pub use Rattle.protox_names.proofs.Walking.{parts_find_full_names}

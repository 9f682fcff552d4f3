-- What other crates need of these proofs.
pub use Rattle.protox_views.proofs.Seen.{packages_seen}
pub use Rattle.protox_views.proofs.Ways.{is_below, no_way, past_name, shorter_outwards, way_step}

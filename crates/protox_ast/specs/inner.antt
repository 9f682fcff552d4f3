pub mod HeldComments
pub mod CheckWalk
pub mod Fine
pub mod AggregateWalk

pub mod Free
pub mod LastSignals
pub mod Reactions
pub mod Unchanged
pub mod NextNumber

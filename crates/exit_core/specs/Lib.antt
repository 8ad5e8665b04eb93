pub mod Messages
pub mod Reaction
pub mod Waiting

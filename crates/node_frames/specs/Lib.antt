pub mod Frames
pub mod Sendable
pub mod Beginnings
pub mod Kinds

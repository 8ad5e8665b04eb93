pub mod Drained
pub mod Heard
pub mod Kept
pub mod Runs
pub mod Maps
pub mod Towards

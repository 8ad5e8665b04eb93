pub mod ThreadSafe
pub mod Merged
pub mod Asked

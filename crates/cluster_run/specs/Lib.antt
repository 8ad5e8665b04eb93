pub mod Starting
pub mod Finishing

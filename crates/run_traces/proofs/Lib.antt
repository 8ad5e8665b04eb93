pub mod Walked
pub mod Noted
pub mod Spelled
pub mod Effects

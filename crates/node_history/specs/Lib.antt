pub mod Tails
pub mod Said
pub mod Entering
pub mod Kinds
pub mod Acts
pub mod Spares
pub mod Telling

pub mod Moves
pub mod Replays
pub mod Texts
pub mod Printed
pub mod Drawn
pub mod Common

pub mod OneLine
pub mod Walked
pub mod Frames
pub mod InFlight

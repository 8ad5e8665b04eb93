pub mod Side
pub mod Arrivals
pub mod FaultNumbers
pub mod Happenings
pub mod Meeting

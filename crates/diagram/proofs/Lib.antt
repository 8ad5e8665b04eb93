pub mod LineSteps
pub mod QueueTable
pub mod Sends
pub mod Downward
pub mod Overlaps

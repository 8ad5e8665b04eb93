pub mod Processes
pub mod Rates

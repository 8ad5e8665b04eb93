pub mod Traces
pub mod Breaks

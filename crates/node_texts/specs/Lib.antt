pub mod Shown
pub mod Monitors
pub mod Trunks
pub mod Whole
pub mod Forms

pub mod Reading
pub mod Asking
pub mod Standing
pub mod Merged
pub mod Scripts
pub mod Looking

pub mod Queues
pub mod Arrows
pub mod Lines
pub mod Lists
pub mod Layout
pub mod Claims

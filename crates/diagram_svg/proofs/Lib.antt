pub mod Written
pub mod Plain
pub mod Content
pub mod Appended
pub mod Shown

pub mod Lists
pub mod Events
pub mod Names
pub mod Coming
pub mod Stands
pub mod Ran
pub mod Quiet

pub mod Texts
pub mod Events
pub mod Fields
pub mod Reports

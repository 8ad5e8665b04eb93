pub mod Texts
pub mod Sendable
pub mod Statuses
pub mod Beginnings
pub mod Told
pub mod Payloads

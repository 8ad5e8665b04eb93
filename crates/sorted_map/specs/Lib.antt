pub mod Entries
pub mod Indexed
pub mod Maps
pub mod First
pub mod Facts
pub mod Sides
pub mod Parts
pub mod Mapped

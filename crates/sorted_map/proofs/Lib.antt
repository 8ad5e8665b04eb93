pub mod Orderings
pub mod Slices
pub mod Places
pub mod Parted
pub mod Mapped
pub mod Exchanged
pub mod Walked

pub mod Maps
pub mod Held
pub mod Departures
mod Lists
mod Filling
mod Members
mod Ranks
mod Among
mod Present
mod Left
pub mod Walks
pub mod Copied

pub mod Name
pub mod Draw
pub mod Minted
pub mod Ids
pub mod Order

pub mod Fronts
pub mod Whole
pub mod Taken
pub mod Cut
pub mod Taking

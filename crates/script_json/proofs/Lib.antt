pub mod Floats
pub mod OneText
pub mod Told

pub mod Lines
pub mod Named
pub mod EndTold
mod ScriptGiven
pub mod Asked
pub mod Commands

pub mod Numbers
pub mod Recording
pub mod Folding
pub mod Scope

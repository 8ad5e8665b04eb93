pub mod Commands
pub mod Words
pub mod Naming
pub mod Said
pub mod Connections
pub mod Lines
pub mod Breaks
pub mod Replies

pub mod Logs
pub mod Runs
pub mod Sorting
pub mod Unsorted
pub mod Acting
pub mod Books
pub mod Merged
pub mod Growing

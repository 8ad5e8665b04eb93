pub mod Table
pub mod News
pub mod Ends
pub mod Records
pub mod Pair
pub mod Claims
pub mod Schedules

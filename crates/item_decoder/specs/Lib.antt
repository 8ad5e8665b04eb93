pub mod All
pub mod Answers
pub mod Lines
pub mod Objects
pub mod Outcomes
pub mod Stages
pub mod Told
pub mod Words

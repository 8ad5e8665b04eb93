pub mod Places
pub mod SameTerms
pub mod WrittenDown
pub mod ReadByBytes
pub mod Fronts
pub mod ThereBefore
pub mod AnsweredTwice

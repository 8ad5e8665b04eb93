pub mod Bytes
pub mod Bodies
pub mod Decided
pub mod Dues
pub mod FlagBits

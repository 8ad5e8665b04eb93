pub mod OneArrival
pub mod Within
pub mod DialerKept
pub mod AcceptorKept

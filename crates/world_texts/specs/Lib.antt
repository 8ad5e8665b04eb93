pub mod Travelling
pub mod Shown

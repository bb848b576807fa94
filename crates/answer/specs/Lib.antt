pub mod Promise
pub mod Refused

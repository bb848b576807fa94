pub mod Pins
pub mod Clock

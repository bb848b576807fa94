pub mod Events
pub mod Twice
pub mod Same
pub mod Served

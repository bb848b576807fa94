pub mod Busy
pub mod Served

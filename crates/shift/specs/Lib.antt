pub mod Shift
pub mod Kept
pub mod Refused

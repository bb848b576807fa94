pub mod Joined
pub mod Runs

pub mod Settled
pub mod Waved
pub mod Joined
pub mod Bench

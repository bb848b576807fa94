pub mod Seen
pub mod Follows

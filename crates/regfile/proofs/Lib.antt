pub mod Synced
pub mod Written
pub mod Unmoved

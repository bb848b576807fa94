pub mod Counting
pub mod Synced
pub mod Considered
pub mod Nearest
pub mod Kept
pub mod Agrees
pub mod Figures
